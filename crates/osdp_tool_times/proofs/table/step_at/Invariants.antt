use Rattle.osdp_tool_times.proofs.Common.{◌≡◌, ◌≤◌, ◌+◌, ◌-◌, length, drop, step_at}
use Rattle.osdp_tool_times.proofs.table.step_at.Given as goal

abbrev pub invariant-steps : goal.invariant-steps
invariant-steps l = record {
  within : l.step ≤ length l.counts;
  passed : l.step + step_at l.left (drop l.step l.counts) ≡ step_at l.rank l.counts;
}

abbrev pub decreases-steps : goal.decreases-steps
decreases-steps l = length l.counts - l.step
