use Rattle.osdp_bus_time_laws.proofs.Common.{new_bus, after_calls}
use Rattle.osdp_bus_time_laws.proofs.Asking.{takes_the_front}
use Rattle.osdp_bus_time_laws.proofs.Devices.{always_well}
use Rattle.osdp_bus_time_laws.proofs.InTime.{orders_in_time}
use Rattle.osdp_bus_time_laws.proofs.Ordered.{orders_go_out}
use Rattle.osdp_bus_time_laws.proofs.orders_go_out.Goals as goal

pub returns : goal.returns
returns c = record {
  turns = λ config calls is. orders_go_out (after_calls calls (new_bus config)) (always_well config calls is);
  front = takes_the_front;
  whatever = λ config calls is. orders_in_time (after_calls calls (new_bus config)) (always_well config calls is);
}
