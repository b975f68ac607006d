use Rattle.osdp_bus_time_laws.proofs.Common.{new_bus, after_calls}
use Rattle.osdp_bus_time_laws.proofs.Devices.{always_well}
use Rattle.osdp_bus_time_laws.proofs.Told.{reports_are_taken}
use Rattle.osdp_bus_time_laws.proofs.reports_are_taken.Goals as goal

pub returns : goal.returns
returns c = λ config calls is. reports_are_taken (after_calls calls (new_bus config)) (always_well config calls is)
