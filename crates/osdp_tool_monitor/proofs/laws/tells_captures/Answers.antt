use Rattle.osdp_tool_monitor.proofs.Captures.{tells_captures as told}
use Rattle.osdp_tool_monitor.proofs.laws.tells_captures.Goals as goal

pub returns : goal.returns
returns g c = told g.M.Moments.tells
