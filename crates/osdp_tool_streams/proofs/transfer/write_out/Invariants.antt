use Rattle.osdp_tool_streams.proofs.Common.{length, take, ◌-◌, ◌≡◌, ◌≤◌, Appends, inner_of, has_failed}
use Rattle.osdp_tool_streams.proofs.transfer.write_out.Given as goal

-- what is done has been taken, in order, and no write of it failed
abbrev pub invariant-loop-done : goal.invariant-loop-done
invariant-loop-done g l = record {
  within : l.done ≤ length l.bytes;
  unfailed : has_failed l.output ≡ has_failed l.initial.output;
  appended : Appends (g.W.Write.contents (inner_of l.initial.output)) (g.W.Write.contents (inner_of l.output)) (take l.done l.bytes);
}

abbrev pub decreases-loop-done : goal.decreases-loop-done
decreases-loop-done g l = length l.bytes - l.done
