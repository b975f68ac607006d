use Rattle.osdp_tool_show.proofs.Common.{◌≡◌, ◌≤◌, ◌-◌, length, take, inner_of, has_failed, written_or_held, Took}
use Rattle.osdp_tool_show.proofs.runs.take.Given as goal

abbrev pub invariant-pieces : goal.invariant-pieces
invariant-pieces g l = record {
  within : l.at ≤ length l.bytes;
  took : Took (take l.at l.bytes) l.initial.framer l.framer l.initial.report l.report
      (written_or_held (g.W.Write.contents (inner_of l.initial.output)) l.initial.report) (written_or_held (g.W.Write.contents (inner_of l.output)) l.report);
  unfailed : has_failed l.output ≡ has_failed l.initial.output;
}

abbrev pub decreases-pieces : goal.decreases-pieces
decreases-pieces g l = length l.bytes - l.at
