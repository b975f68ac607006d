use Rattle.osdp_time_laws.proofs.Orders.{orders_go_out}
use Rattle.osdp_time_laws.proofs.orders_go_out.Goals as goal

pub returns : goal.returns
returns c = orders_go_out
