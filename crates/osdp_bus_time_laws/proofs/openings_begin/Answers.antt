use Rattle.osdp_bus_time_laws.proofs.Common.{new_bus, after_calls}
use Rattle.osdp_bus_time_laws.proofs.Devices.{always_well}
use Rattle.osdp_bus_time_laws.proofs.InTime.{openings_in_time}
use Rattle.osdp_bus_time_laws.proofs.Opened.{openings_begin}
use Rattle.osdp_bus_time_laws.proofs.openings_begin.Goals as goal

pub returns : goal.returns
returns c = record {
  turns = λ config calls is. openings_begin (after_calls calls (new_bus config)) (always_well config calls is);
  whatever = λ config calls is. openings_in_time (after_calls calls (new_bus config)) (always_well config calls is);
}
