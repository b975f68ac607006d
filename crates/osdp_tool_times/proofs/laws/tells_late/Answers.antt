use Rattle.osdp_tool_times.proofs.Exchanges.{late_one}
use Rattle.osdp_tool_times.proofs.laws.tells_late.Goals as goal

pub returns : goal.returns
returns c = late_one
