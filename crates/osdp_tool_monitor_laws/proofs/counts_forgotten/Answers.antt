use Rattle.osdp_tool_monitor_laws.proofs.Counting.{counts_forgotten}
use Rattle.osdp_tool_monitor_laws.proofs.counts_forgotten.Goals as goal

pub returns : goal.returns
returns c = counts_forgotten
