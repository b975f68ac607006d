use Rattle.osdp_tool_show.proofs.Common.{◌≡◌, length, inner_of, has_failed, written_or_held}
use Rattle.osdp_tool_show.proofs.Drains.{Draining}
use Rattle.osdp_tool_show.proofs.runs.drain.Given as goal

abbrev pub invariant-items : goal.invariant-items
invariant-items g l = record {
  draining : Draining l.initial.framer l.framer l.initial.report l.report
      (written_or_held (g.W.Write.contents (inner_of l.initial.output)) l.initial.report) (written_or_held (g.W.Write.contents (inner_of l.output)) l.report);
  unfailed : has_failed l.output ≡ has_failed l.initial.output;
}

abbrev pub decreases-items : goal.decreases-items
decreases-items g l = length l.framer.bytes
