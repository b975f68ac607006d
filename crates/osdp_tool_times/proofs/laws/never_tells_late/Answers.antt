use Rattle.osdp_tool_times.proofs.Exchanges.{never_late}
use Rattle.osdp_tool_times.proofs.laws.never_tells_late.Goals as goal

pub returns : goal.returns
returns c = never_late
