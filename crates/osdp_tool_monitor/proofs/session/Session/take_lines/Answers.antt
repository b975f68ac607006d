use Rattle.osdp_tool_monitor.proofs.Common.{◌+◌, ◌-◌, drop, length, arith, length-drop, length-take}
use Rattle.osdp_tool_monitor.proofs.Sessions.{lines_broke_by, lines_end_in, lines_start, lines_step_by}
use Rattle.osdp_tool_monitor.proofs.session.Session.take_lines.Goals as goal

pub lines-init : goal.lines-init
lines-init c = record {
  done = lines_start c.args.piece.now c.args.self.now _ c.requires.ready;
  within = omega arith;
  weighs = omega arith;
}

pub lines-preserved : goal.lines-preserved
lines-preserved c = record {
  done = lines_step_by c.in_ok-end_line.field-0 c.args.piece.now c.lines.at c.in-Some.length c.args.self.now c.lines.self c.end_line.new.self _ _ _ c.lines.invariant.done
      c.in-Some.ensures c.if-not-branch.false c.in_ok-end_line.ensures.goes;
  within = omega (
    arith,
    c.in-Some.ensures.0,
    c.lines.invariant.within,
    length-take (length c.args.piece.now - c.lines.at) (drop c.lines.at c.args.piece.now),
    length-drop c.lines.at c.args.piece.now,
  );
  weighs = omega (
    arith,
    c.in-Some.ensures.0,
    c.in_ok-end_line.ensures.weighs,
    c.lines.invariant.weighs,
    c.lines.invariant.within,
    length-take (length c.args.piece.now - c.lines.at) (drop c.lines.at c.args.piece.now),
    length-drop c.lines.at c.args.piece.now,
    length-take (c.lines.at + c.in-Some.length - c.lines.at) (drop c.lines.at c.args.piece.now),
  );
}

pub returns-then-not-branch-clause-goes : goal.returns-then-not-branch-clause-goes
returns-then-not-branch-clause-goes c =
    lines_broke_by c.in_ok-end_line.field-0 c.args.piece.now c.lines.at c.in-Some.length c.args.self.now c.lines.self c.end_line.new.self _ _ _ c.lines.invariant.done
    c.in-Some.ensures c.if-not-branch.true c.in_ok-end_line.ensures.goes

pub returns-clause-goes : goal.returns-clause-goes
returns-clause-goes c =
    lines_end_in c.args.piece.now c.lines.at c.args.self.now c.lines.self c.hold.new.self _ _ c.lines.invariant.done c.in_default.ensures (c.in_ok-hold.ensures.goes _)
