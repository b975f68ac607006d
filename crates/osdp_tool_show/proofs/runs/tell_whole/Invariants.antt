use Rattle.osdp_tool_show.proofs.Common.{◌≡◌, ◌≤◌, ◌-◌, length, take, new_run, inner_of, has_failed, written_or_held, Took}
use Rattle.osdp_tool_show.proofs.runs.tell_whole.Given as goal

abbrev pub invariant-items : goal.invariant-items
invariant-items g l = record {
  within : l.at ≤ length l.bytes;
  took : Took (take l.at l.bytes) new_run new_run l.fn.report l.report
      (written_or_held (g.W.Write.contents (inner_of l.fn.output)) l.fn.report) (written_or_held (g.W.Write.contents (inner_of l.output)) l.report);
  unfailed : has_failed l.output ≡ has_failed l.fn.output;
}

abbrev pub decreases-items : goal.decreases-items
decreases-items g l = length l.bytes - l.at
