use Rattle.osdp_tool.proofs.Ordered.{one_order as there_is_one}
use Rattle.osdp_tool.proofs.laws.one_order.Goals as goal

pub returns : goal.returns
returns c = there_is_one
