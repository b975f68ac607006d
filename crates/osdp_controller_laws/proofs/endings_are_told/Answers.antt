use Rattle.osdp_controller_laws.proofs.Endings.{tells_ends}
use Rattle.osdp_controller_laws.proofs.endings_are_told.Goals as goal

pub returns : goal.returns
returns c = tells_ends
