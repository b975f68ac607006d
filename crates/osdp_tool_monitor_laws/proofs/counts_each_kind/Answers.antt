use Rattle.osdp_tool_monitor_laws.proofs.Counting.{counts_each_kind}
use Rattle.osdp_tool_monitor_laws.proofs.counts_each_kind.Goals as goal

pub returns : goal.returns
returns c = counts_each_kind
