use Rattle.osdp_tool_times.proofs.Steps.{step_end, step_goes, step_stops}
use Rattle.std.proofs.Common.{arith}
use Rattle.osdp_tool_times.proofs.table.step_at.Goals as goal

pub returns-then-left-counts-clause-value : goal.returns-then-left-counts-clause-value
returns-then-left-counts-clause-value c =
    step_stops c.steps.left c.steps.step c.args.counts.now _ c.steps.invariant.passed c.steps-test.true c.if-left-counts.true

pub steps-preserved : goal.steps-preserved
steps-preserved c = record {
  within = omega (arith, c.steps-test.true);
  passed = step_goes c.steps.left c.steps.step c.args.counts.now _ c.steps.invariant.passed c.steps-test.true c.if-left-counts.false;
}

pub returns-clause-value : goal.returns-clause-value
returns-clause-value c = step_end c.steps.left c.steps.step c.args.counts.now _ c.steps.invariant.passed c.steps-test.false
