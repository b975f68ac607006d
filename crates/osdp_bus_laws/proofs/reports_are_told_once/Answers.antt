use Rattle.osdp_bus_laws.proofs.Reports.{tells_each_once}
use Rattle.osdp_bus_laws.proofs.reports_are_told_once.Goals as goal

pub returns : goal.returns
returns c = tells_each_once
