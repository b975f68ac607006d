use Rattle.std.proofs.Common.{length}
use Rattle.osdp_tool_test.proofs.Finding.{Searched}
use Rattle.osdp_tool_test.proofs.runs.packets.Given as goal

abbrev pub invariant-items : goal.invariant-items
invariant-items l = Searched l.fn.is_of_devices l.fn.run l.rest l.found.first l.found.second l.found.count

abbrev pub decreases-items : goal.decreases-items
decreases-items l = length l.rest
