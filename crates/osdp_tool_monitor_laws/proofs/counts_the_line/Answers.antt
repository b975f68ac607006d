use Rattle.osdp_tool_monitor_laws.proofs.Counting.{counts_the_line}
use Rattle.osdp_tool_monitor_laws.proofs.counts_the_line.Goals as goal

pub returns : goal.returns
returns c = counts_the_line
