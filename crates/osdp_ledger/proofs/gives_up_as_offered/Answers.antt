use Rattle.osdp_ledger.proofs.Offering.{gives_up_as_offered}
use Rattle.osdp_ledger.proofs.gives_up_as_offered.Goals as goal

pub returns : goal.returns
returns c = gives_up_as_offered
