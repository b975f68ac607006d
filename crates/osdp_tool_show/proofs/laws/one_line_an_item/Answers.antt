use Rattle.osdp_tool_show.proofs.OneLine.{one_line}
use Rattle.osdp_tool_show.proofs.laws.one_line_an_item.Goals as goal

pub returns : goal.returns
returns c = one_line
