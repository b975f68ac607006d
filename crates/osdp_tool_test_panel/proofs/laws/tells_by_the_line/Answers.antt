use Rattle.osdp_tool_test_panel.proofs.TheLine.{tells_by_the_line}
use Rattle.osdp_tool_test_panel.proofs.laws.tells_by_the_line.Goals as goal

pub returns : goal.returns
returns c = tells_by_the_line
