use Rattle.std.proofs.Common.{◌∷◌, ap, arith, length, sym, ◌∙◌}
use Rattle.osdp_sim.proofs.Schedules.{goes_on}
use Rattle.osdp_sim.proofs.running.run_steps.Goals as goal

pub steps-preserved : goal.steps-preserved
steps-preserved g c =
    let line = g.L.SimulatedLine in
    let well = c.in_default-try_step.ensures.ok in
    let cut = c.in-Some.ensures ∙ ap (λ left. c.in-Some.step ∷ left) (sym c.pass.ensures) in
    record {
      come = goes_on line.after_step line.fault_of line.StepFits
          (g.S.Schedule.left c.args.schedule) c.steps.at c.in-Some.step (g.S.Schedule.left c.steps.schedule) (g.S.Schedule.left c.pass.new.self)
          (line.state_of c.args.line) (line.state_of c.steps.line) (line.state_of c.try_step.new.line)
          c.steps.invariant.come cut well.0 well.1 well.2;
      ready = c.try_step.ensures.ready;
      count = omega (arith, c.steps.invariant.count, ap length cut);
    }
