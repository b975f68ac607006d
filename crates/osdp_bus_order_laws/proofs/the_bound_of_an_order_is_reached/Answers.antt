use Rattle.osdp_bus_order_laws.proofs.SlowOrder.{order_is_reached}
use Rattle.osdp_bus_order_laws.proofs.the_bound_of_an_order_is_reached.Goals as goal

pub returns : goal.returns
returns c = order_is_reached
