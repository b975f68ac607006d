use Rattle.osdp_bus_time_laws.proofs.Common.{new_bus, after_calls}
use Rattle.osdp_bus_time_laws.proofs.Asking.{polls_else}
use Rattle.osdp_bus_time_laws.proofs.Devices.{always_well}
use Rattle.osdp_bus_time_laws.proofs.Ordered.{polls_go_out}
use Rattle.osdp_bus_time_laws.proofs.exchanges_come_round.Goals as goal

pub returns : goal.returns
returns c = record {
  turns = λ config calls is. polls_go_out (after_calls calls (new_bus config)) (always_well config calls is);
  poll = polls_else;
}
