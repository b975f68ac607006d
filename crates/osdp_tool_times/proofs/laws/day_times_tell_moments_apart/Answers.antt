use Rattle.osdp_tool_times.proofs.DayTimes.{tells_apart}
use Rattle.osdp_tool_times.proofs.laws.day_times_tell_moments_apart.Goals as goal

pub returns : goal.returns
returns c = tells_apart
