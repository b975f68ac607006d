use Rattle.osdp_tool_show.proofs.Common.{◌≡◌, ◌≤◌, ◌-◌, length, take, true, inner_of, has_failed, written_or_held, TookPiece}
use Rattle.osdp_tool_show.proofs.capture.Capture.take_lines.Given as goal

abbrev pub invariant-lines : goal.invariant-lines
invariant-lines g l = record {
  within : l.at ≤ length l.piece;
  took : TookPiece (take l.at l.piece) true l.initial.self l.self
      (written_or_held (g.W.Write.contents (inner_of l.initial.output)) l.initial.self.report) (written_or_held (g.W.Write.contents (inner_of l.output)) l.self.report);
  unfailed : has_failed l.output ≡ has_failed l.initial.output;
}

abbrev pub decreases-lines : goal.decreases-lines
decreases-lines g l = length l.piece - l.at
