use Rattle.osdp_tool_monitor_laws.proofs.Windows.{tells_windows}
use Rattle.osdp_tool_monitor_laws.proofs.tells_windows.Goals as goal

pub returns : goal.returns
returns c = tells_windows
