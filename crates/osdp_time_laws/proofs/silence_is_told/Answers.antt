use Rattle.osdp_time_laws.proofs.Silence.{silence_told}
use Rattle.osdp_time_laws.proofs.silence_is_told.Goals as goal

pub returns : goal.returns
returns c = silence_told
