use Rattle.std.proofs.Common.{arith, sym, ◌∙◌}
use Rattle.osdp_tool_inputs.proofs.Stamps.{step_end, step_goes, step_great, step_stops}
use Rattle.osdp_tool_inputs.proofs.times.run_in.Goals as goal

pub returns-then-not-is_decimal : goal.returns-then-not-is_decimal
returns-then-not-is_decimal c =
    step_stops c.loop-byte.run c.loop-byte.byte-index c.args.line.now _ c.loop-byte.invariant c.loop-byte-test.true (sym c.is_decimal.ensures ∙ c.if-not-is_decimal.true)

pub returns-in-None : goal.returns-in-None
returns-in-None c =
    step_great c.loop-byte.run c.loop-byte.byte-index c.args.line.now _ c.loop-byte.invariant c.loop-byte-test.true c.args.most
    (sym c.is_decimal.ensures ∙ c.if-not-is_decimal.false) c.in-None.ensures

pub loop-byte-preserved : goal.loop-byte-preserved
loop-byte-preserved c =
    step_goes c.loop-byte.run c.loop-byte.byte-index c.args.line.now _ c.loop-byte.invariant c.loop-byte-test.true c.in-Some.number
    (sym c.is_decimal.ensures ∙ c.if-not-is_decimal.false) c.in-Some.ensures

pub returns : goal.returns
returns c = step_end c.loop-byte.run c.loop-byte.byte-index c.args.line.now _ c.loop-byte.invariant (omega arith)
