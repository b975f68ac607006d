use Rattle.osdp_tool_monitor_laws.proofs.Windows.{lines_add_up}
use Rattle.osdp_tool_monitor_laws.proofs.lines_add_up.Goals as goal

pub returns : goal.returns
returns c = lines_add_up
