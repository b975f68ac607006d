use Rattle.osdp_tool_monitor_laws.proofs.Faults.{counts_replies_once}
use Rattle.osdp_tool_monitor_laws.proofs.counts_replies_once.Goals as goal

pub returns : goal.returns
returns c = counts_replies_once
