use Rattle.osdp_bus_laws.proofs.Common.{new_bus, after_calls}
use Rattle.osdp_bus_laws.proofs.Calling.{always}
use Rattle.osdp_bus_laws.proofs.Reserving.{keeps_reports}
use Rattle.osdp_bus_laws.proofs.reports_wait.Goals as goal

pub returns : goal.returns
returns c = λ config calls is. keeps_reports (after_calls calls (new_bus config)) (always config calls is)
