use Rattle.osdp_bus_order_laws.proofs.Common.{new_bus, after_calls, always_well}
use Rattle.osdp_bus_order_laws.proofs.Along.{polls_stand}
use Rattle.osdp_bus_order_laws.proofs.polls_stand_between_orders.Goals as goal

pub returns : goal.returns
returns c = λ config calls is. polls_stand (after_calls calls (new_bus config)) (always_well config calls is)
