use Rattle.osdp_tool_show.proofs.OneCount.{one_count}
use Rattle.osdp_tool_show.proofs.laws.one_count_a_line.Goals as goal

pub returns : goal.returns
returns c = one_count
