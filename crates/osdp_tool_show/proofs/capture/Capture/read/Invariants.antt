use Rattle.osdp_tool_show.proofs.Common.{◌≡◌, inner_of, has_failed, written_or_held}
use Rattle.osdp_tool_show.proofs.Works.{HasRead}
use Rattle.osdp_tool_show.proofs.capture.Capture.read.Given as goal

abbrev pub invariant-reads : goal.invariant-reads
invariant-reads g l = record {
  has_read : HasRead l.limit l.left l.initial.self l.self
      (g.R.Read.remaining (inner_of l.initial.input)) (g.R.Read.remaining (inner_of l.input))
      (written_or_held (g.W.Write.contents (inner_of l.initial.output)) l.initial.self.report) (written_or_held (g.W.Write.contents (inner_of l.output)) l.self.report);
  unfailed : has_failed l.output ≡ has_failed l.initial.output;
  input : has_failed l.input ≡ has_failed l.initial.input;
}

abbrev pub decreases-reads : goal.decreases-reads
decreases-reads g l = l.left
