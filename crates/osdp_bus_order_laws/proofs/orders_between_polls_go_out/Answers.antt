use Rattle.osdp_bus_order_laws.proofs.Common.{new_bus, after_calls, always_well}
use Rattle.osdp_bus_order_laws.proofs.InTime.{leave_in_time, leave_in_turns}
use Rattle.osdp_bus_order_laws.proofs.orders_between_polls_go_out.Goals as goal

pub returns : goal.returns
returns c = record {
  turns = λ config calls is. leave_in_turns (after_calls calls (new_bus config)) (always_well config calls is);
  whatever = λ config calls is. leave_in_time (after_calls calls (new_bus config)) (always_well config calls is);
}
