use Rattle.osdp_time_laws.proofs.Accepted.{accepted_orders_go_out}
use Rattle.osdp_time_laws.proofs.accepted_orders_go_out.Goals as goal

pub returns : goal.returns
returns c = accepted_orders_go_out
