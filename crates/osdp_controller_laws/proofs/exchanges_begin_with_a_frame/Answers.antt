use Rattle.osdp_controller_laws.proofs.OneCall.{begins_with_frame}
use Rattle.osdp_controller_laws.proofs.exchanges_begin_with_a_frame.Goals as goal

pub returns : goal.returns
returns c = begins_with_frame
