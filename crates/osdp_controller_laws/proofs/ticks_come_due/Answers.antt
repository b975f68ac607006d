use Rattle.osdp_controller_laws.proofs.InRange.{comes_due}
use Rattle.osdp_controller_laws.proofs.ticks_come_due.Goals as goal

pub returns : goal.returns
returns c = comes_due
