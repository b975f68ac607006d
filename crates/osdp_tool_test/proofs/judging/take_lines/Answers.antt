use Rattle.std.proofs.Common.{◌+◌, ◌-◌, arith}
use Rattle.osdp_tool_test.proofs.Taking.{ended, last_bad, last_on, step_bad, step_on}
use Rattle.osdp_tool_test.proofs.judging.take_lines.Goals as goal

pub returns-then-not-good : goal.returns-then-not-good
returns-then-not-good g c =
    step_bad g.T.LineTest.takes g.T.LineTest.refuses g.T.LineTest.found c.args.test.now c.args.bytes.now c.lines.at c.lines.number c.in-Some.length
    (c.lines.at + c.in-Some.length - c.lines.at) c.lines.test c.take_line.new.test c.in_ok-good.good c.lines.invariant c.in-Some.ensures (omega arith)
    c.if-not-good.true c.in_ok-good.ensures

pub lines-preserved : goal.lines-preserved
lines-preserved g c =
    step_on g.T.LineTest.takes g.T.LineTest.refuses g.T.LineTest.found c.args.test.now c.args.bytes.now c.lines.at c.lines.number c.in-Some.length
    (c.lines.at + c.in-Some.length - c.lines.at) c.lines.test c.take_line.new.test c.in_ok-good.good c.lines.invariant c.in-Some.ensures (omega arith)
    c.if-not-good.false c.in_ok-good.ensures

pub returns-then-at-bytes : goal.returns-then-at-bytes
returns-then-at-bytes g c =
    ended g.T.LineTest.takes g.T.LineTest.refuses g.T.LineTest.found c.args.test.now c.args.bytes.now c.lines.at c.lines.number c.lines.test c.lines.invariant c.if-at-bytes.true

pub returns-then-good : goal.returns-then-good
returns-then-good g c =
    last_on g.T.LineTest.takes g.T.LineTest.refuses g.T.LineTest.found c.args.test.now c.args.bytes.now c.lines.at c.lines.number c.lines.test c.take_line-2.new.test
    c.in_ok-good-2.good c.lines.invariant c.if-at-bytes.false c.in_default.ensures c.if-good.true c.in_ok-good-2.ensures

pub returns-else-good : goal.returns-else-good
returns-else-good g c =
    last_bad g.T.LineTest.takes g.T.LineTest.refuses g.T.LineTest.found c.args.test.now c.args.bytes.now c.lines.at c.lines.number c.lines.test c.take_line-2.new.test
    c.in_ok-good-2.good c.lines.invariant c.if-at-bytes.false c.in_default.ensures c.if-good.false c.in_ok-good-2.ensures
