use Rattle.osdp_bus_time_laws.proofs.InTime.{lines_add_up}
use Rattle.osdp_bus_time_laws.proofs.lines_add_up.Goals as goal

pub returns : goal.returns
returns c = lines_add_up
