use Rattle.osdp_controller_laws.proofs.Stepwise.{ticks_in_steps}
use Rattle.osdp_controller_laws.proofs.ticks_go_by_the_state.Goals as goal

pub returns : goal.returns
returns c = ticks_in_steps
