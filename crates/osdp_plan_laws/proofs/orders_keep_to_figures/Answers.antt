use Rattle.osdp_plan_laws.proofs.Common.{new_bus, after_calls, always_well}
use Rattle.osdp_plan_laws.proofs.Orders.{orders_by_plan}
use Rattle.osdp_plan_laws.proofs.PassedOrders.{orders_wait_within}
use Rattle.osdp_plan_laws.proofs.Instances.{order_figure_is_reached}
use Rattle.osdp_plan_laws.proofs.orders_keep_to_figures.Goals as goal

pub returns : goal.returns
returns c = record {
  orders = λ p config calls is. orders_by_plan p (after_calls calls (new_bus config)) (always_well config calls is);
  reached = order_figure_is_reached;
  waits = orders_wait_within;
}
