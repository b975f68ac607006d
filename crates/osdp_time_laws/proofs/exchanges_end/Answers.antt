use Rattle.osdp_time_laws.proofs.Beginnings.{exchanges_end}
use Rattle.osdp_time_laws.proofs.exchanges_end.Goals as goal

pub returns : goal.returns
returns c = exchanges_end
