use Rattle.osdp_frame_laws.proofs.Readings.{sizes_reading}
use Rattle.osdp_frame_laws.proofs.sizes_of_reading.Goals as goal

pub returns : goal.returns
returns c = λ run parts r. sizes_reading run parts r
