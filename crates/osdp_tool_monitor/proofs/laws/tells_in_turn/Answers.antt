use Rattle.osdp_tool_monitor.proofs.Captures.{tells_in_turn as told}
use Rattle.osdp_tool_monitor.proofs.laws.tells_in_turn.Goals as goal

pub returns : goal.returns
returns g c = told g.M.Moments.tells
