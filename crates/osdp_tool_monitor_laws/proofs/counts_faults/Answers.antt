use Rattle.osdp_tool_monitor_laws.proofs.Faults.{counts_faults}
use Rattle.osdp_tool_monitor_laws.proofs.counts_faults.Goals as goal

pub returns : goal.returns
returns c = counts_faults
