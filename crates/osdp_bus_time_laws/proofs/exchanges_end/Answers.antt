use Rattle.osdp_bus_time_laws.proofs.Common.{new_bus, after_calls}
use Rattle.osdp_bus_time_laws.proofs.Devices.{always_well}
use Rattle.osdp_bus_time_laws.proofs.Outstanding.{exchanges_end}
use Rattle.osdp_bus_time_laws.proofs.exchanges_end.Goals as goal

pub returns : goal.returns
returns c = λ config calls is. exchanges_end (after_calls calls (new_bus config)) (always_well config calls is)
