use Rattle.osdp_controller_laws.proofs.Ticks.{keeps_time}
use Rattle.osdp_controller_laws.proofs.moments_never_go_back.Goals as goal

pub returns : goal.returns
returns c = keeps_time
