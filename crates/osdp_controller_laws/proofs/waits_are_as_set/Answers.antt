use Rattle.osdp_controller_laws.proofs.Waits.{waits_as_set}
use Rattle.osdp_controller_laws.proofs.waits_are_as_set.Goals as goal

pub returns : goal.returns
returns c = waits_as_set
