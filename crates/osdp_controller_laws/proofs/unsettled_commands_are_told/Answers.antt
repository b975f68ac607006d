use Rattle.osdp_controller_laws.proofs.Ticks.{tells_lost}
use Rattle.osdp_controller_laws.proofs.unsettled_commands_are_told.Goals as goal

pub returns : goal.returns
returns c = tells_lost
