use Rattle.osdp_bus_time_laws.proofs.Common.{new_bus, after_calls}
use Rattle.osdp_bus_time_laws.proofs.Devices.{always_well}
use Rattle.osdp_bus_time_laws.proofs.Told.{open_are_asked}
use Rattle.osdp_bus_time_laws.proofs.open_entries_are_asked.Goals as goal

pub returns : goal.returns
returns c = λ config calls is. open_are_asked (after_calls calls (new_bus config)) (always_well config calls is)
