use Rattle.std.proofs.Common.{◌≡◌, ◌+◌, length}
use Rattle.osdp_sim.proofs.Schedules.{HasCome}
use Rattle.osdp_sim.proofs.running.run_steps.Given as goal

abbrev pub invariant-steps : goal.invariant-steps
invariant-steps g l = record {
  come : HasCome g.L.SimulatedLine.after_step g.L.SimulatedLine.fault_of g.L.SimulatedLine.StepFits
      (g.S.Schedule.left l.initial.schedule) l.at (g.S.Schedule.left l.schedule) (g.L.SimulatedLine.state_of l.initial.line) (g.L.SimulatedLine.state_of l.line);
  ready : g.L.SimulatedLine.IsReady l.line;
  count : l.at + length (g.S.Schedule.left l.schedule) ≡ length (g.S.Schedule.left l.initial.schedule);
}

abbrev pub decreases-steps : goal.decreases-steps
decreases-steps g l = length (g.S.Schedule.left l.schedule)
