use Rattle.std.proofs.Common.{length, string_bytes}
use Rattle.osdp_tool_monitor.proofs.OpenRuns.{Draining}
use Rattle.osdp_tool_monitor.proofs.open_line.OpenLine.drain.Given as goal

abbrev pub invariant-items : goal.invariant-items
invariant-items l = record {
  draining : Draining l.initial.self.framer l.self.framer l.initial.self.listener l.self.listener (string_bytes l.initial.text) (string_bytes l.text);
}

abbrev pub decreases-items : goal.decreases-items
decreases-items l = length l.self.framer.bytes
