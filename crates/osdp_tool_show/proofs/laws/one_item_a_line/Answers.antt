use Rattle.osdp_tool_show.proofs.OneItem.{one_item}
use Rattle.osdp_tool_show.proofs.laws.one_item_a_line.Goals as goal

pub returns : goal.returns
returns c = one_item
