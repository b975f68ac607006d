use Rattle.osdp_controller_laws.proofs.InOrder.{commands_by_place}
use Rattle.osdp_controller_laws.proofs.commands_are_told_once.Goals as goal

pub returns : goal.returns
returns c = commands_by_place
