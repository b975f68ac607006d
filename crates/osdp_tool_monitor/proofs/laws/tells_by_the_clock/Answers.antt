use Rattle.osdp_tool_monitor.proofs.Clocks.{tells_by_the_clock as told}
use Rattle.osdp_tool_monitor.proofs.laws.tells_by_the_clock.Goals as goal

pub returns : goal.returns
returns g c = told g.M.Moments.tells
