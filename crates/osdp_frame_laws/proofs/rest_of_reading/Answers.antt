use Rattle.osdp_frame_laws.proofs.Readings.{reading_after}
use Rattle.osdp_frame_laws.proofs.rest_of_reading.Goals as goal

pub returns : goal.returns
returns c = λ run front back r. reading_after run front back r
