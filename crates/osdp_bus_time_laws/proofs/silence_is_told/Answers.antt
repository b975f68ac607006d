use Rattle.osdp_bus_time_laws.proofs.Common.{new_bus, after_calls}
use Rattle.osdp_bus_time_laws.proofs.Devices.{always_well}
use Rattle.osdp_bus_time_laws.proofs.Silent.{silence_in_time, silence_is_told}
use Rattle.osdp_bus_time_laws.proofs.silence_is_told.Goals as goal

pub returns : goal.returns
returns c = record {
  turns = λ config calls is. silence_is_told (after_calls calls (new_bus config)) (always_well config calls is);
  whatever = λ config calls is. silence_in_time (after_calls calls (new_bus config)) (always_well config calls is);
}
