use Rattle.osdp_tool_monitor.proofs.Printing.{prints_lem}
use Rattle.osdp_tool_monitor.proofs.laws.prints_accusations.Goals as goal

pub returns : goal.returns
returns c = prints_lem
