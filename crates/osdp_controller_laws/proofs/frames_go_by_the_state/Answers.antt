use Rattle.osdp_controller_laws.proofs.Stepwise.{frames_in_steps}
use Rattle.osdp_controller_laws.proofs.frames_go_by_the_state.Goals as goal

pub returns : goal.returns
returns c = frames_in_steps
