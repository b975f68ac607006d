use Rattle.osdp_frame_laws.proofs.Readings.{one_reading, is_reading}
use Rattle.osdp_frame_laws.proofs.one_reading.Goals as goal

pub returns-clause-one : goal.returns-clause-one
returns-clause-one c = λ run xs ys r s. one_reading run xs ys r s

pub returns-clause-some : goal.returns-clause-some
returns-clause-some c = λ run fits. is_reading run fits
