use Rattle.osdp_ledger.proofs.Orders.{keeps_orders}
use Rattle.osdp_ledger.proofs.keeps_orders.Goals as goal

pub returns : goal.returns
returns c = keeps_orders
