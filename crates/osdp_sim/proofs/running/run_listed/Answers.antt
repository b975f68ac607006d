use Rattle.std.proofs.Common.{◌+◌, ap, drop, rules}
use Rattle.osdp_sim.proofs.Schedules.{goes_on, next_step}
use Rattle.osdp_sim.proofs.running.run_listed.Goals as goal

pub loop-step-preserved : goal.loop-step-preserved
loop-step-preserved g c =
    let line = g.L.SimulatedLine in
    let steps = c.args.steps.now in
    let at = c.loop-step in
    let well = c.in_default.ensures.ok in
    let cut = next_step steps at.step-index c.step-item.result c.loop-step-test.true (search (rules, c.step-item.is)) in
    record {
      come = goes_on line.after_step line.fault_of line.StepFits
          steps at.step-index c.step-item.result (drop at.step-index steps) (drop (at.step-index + 1) steps)
          (line.state_of c.args.line) (line.state_of at.line) (line.state_of c.try_step.new.line)
          at.invariant.come cut well.0 well.1 well.2;
      ready = c.try_step.ensures.ready;
      count = ap (λ n. n + 1) at.invariant.count;
    }
