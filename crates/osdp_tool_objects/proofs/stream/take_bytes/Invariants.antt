use Rattle.std.proofs.Common.{◌-◌, length}
use Rattle.osdp_tool_objects.proofs.Lines.{AreWritten}
use Rattle.osdp_tool_objects.proofs.stream.take_bytes.Given as goal

abbrev pub invariant-lines : goal.invariant-lines
invariant-lines l = AreWritten l.bytes l.at l.initial.held.items l.held.items l.initial.text.items l.text.items

abbrev pub decreases-lines : goal.decreases-lines
decreases-lines l = length l.bytes - l.at
