use Rattle.osdp_controller_laws.proofs.Causes.{tells_why}
use Rattle.osdp_controller_laws.proofs.frames_tell_why.Goals as goal

pub returns : goal.returns
returns c = tells_why
