use Rattle.osdp_bus_order_laws.proofs.Common.{new_bus, after_calls, always_well}
use Rattle.osdp_bus_order_laws.proofs.Exactly.{polls_go_exactly}
use Rattle.osdp_bus_order_laws.proofs.polls_go_before_orders_exactly.Goals as goal

pub returns : goal.returns
returns c = λ config calls is. polls_go_exactly (after_calls calls (new_bus config)) (always_well config calls is)
