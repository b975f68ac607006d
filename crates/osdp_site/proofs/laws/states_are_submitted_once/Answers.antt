use Rattle.osdp_site.proofs.Submitting.{submitted_once}
use Rattle.osdp_site.proofs.laws.states_are_submitted_once.Goals as goal

pub returns : goal.returns
returns c = submitted_once
