use Rattle.std.proofs.Common.{◌≡◌, drop}
use Rattle.osdp_sim.proofs.Schedules.{HasCome}
use Rattle.osdp_sim.proofs.running.run_listed.Given as goal

abbrev pub invariant-loop-step : goal.invariant-loop-step
invariant-loop-step g l = record {
  come : HasCome g.L.SimulatedLine.after_step g.L.SimulatedLine.fault_of g.L.SimulatedLine.StepFits
      l.steps l.step-index (drop l.step-index l.steps) (g.L.SimulatedLine.state_of l.initial.line) (g.L.SimulatedLine.state_of l.line);
  ready : g.L.SimulatedLine.IsReady l.line;
  count : l.at ≡ l.step-index;
}
