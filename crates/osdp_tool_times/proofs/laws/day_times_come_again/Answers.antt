use Rattle.osdp_tool_times.proofs.DayTimes.{comes_again}
use Rattle.osdp_tool_times.proofs.laws.day_times_come_again.Goals as goal

pub returns : goal.returns
returns c = comes_again
