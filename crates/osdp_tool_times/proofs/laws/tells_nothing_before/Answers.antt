use Rattle.osdp_tool_times.proofs.GoingBack.{nothing_before}
use Rattle.osdp_tool_times.proofs.laws.tells_nothing_before.Goals as goal

pub returns : goal.returns
returns c = nothing_before
