use Rattle.osdp_time_laws.proofs.Beginnings.{openings_end}
use Rattle.osdp_time_laws.proofs.openings_end.Goals as goal

pub returns : goal.returns
returns c = openings_end
