use Rattle.std.proofs.Common.{◌+◌, ◌-◌, take, drop, subst}
use Rattle.osdp_tool_captures.specs.Lines.{line_text}
use Rattle.osdp_tool_captures.specs.Captures.{AddsLine}
use Rattle.osdp_tool_captures.proofs.Cutting.{step_on, step_bad, step_last}
use Rattle.osdp_tool_captures.proofs.translation.translate.Goals as goal

pub returns-in-Some-2-clause-text : goal.returns-in-Some-2-clause-text
returns-in-Some-2-clause-text c =
    (step_bad c.args.tool c.args.bytes.now c.lines.at c.lines.number c.lines.text.items c.lines.invariant c.in-Some.length c.in-Some.ensures c.push_numbered.new.text.items c.in-Some-2.bad
    (subst (λ b. AddsLine c.lines.number (line_text c.args.tool (take (c.lines.at + c.in-Some.length - c.lines.at) (drop c.lines.at c.args.bytes.now))) c.lines.text.items c.push_numbered.new.text.items b) c.in-Some-2.is c.in_ok-bad.ensures.adds)).0

pub returns-in-Some-2-clause-bad : goal.returns-in-Some-2-clause-bad
returns-in-Some-2-clause-bad c =
    (step_bad c.args.tool c.args.bytes.now c.lines.at c.lines.number c.lines.text.items c.lines.invariant c.in-Some.length c.in-Some.ensures c.push_numbered.new.text.items c.in-Some-2.bad
    (subst (λ b. AddsLine c.lines.number (line_text c.args.tool (take (c.lines.at + c.in-Some.length - c.lines.at) (drop c.lines.at c.args.bytes.now))) c.lines.text.items c.push_numbered.new.text.items b) c.in-Some-2.is c.in_ok-bad.ensures.adds)).1

pub lines-preserved : goal.lines-preserved
lines-preserved c =
    step_on c.args.tool c.args.bytes.now c.lines.at c.lines.number c.lines.text.items c.lines.invariant c.in-Some.length c.in-Some.ensures c.push_numbered.new.text.items
    (subst (λ b. AddsLine c.lines.number (line_text c.args.tool (take (c.lines.at + c.in-Some.length - c.lines.at) (drop c.lines.at c.args.bytes.now))) c.lines.text.items c.push_numbered.new.text.items b) c.in_default-2.is c.in_ok-bad.ensures.adds)

pub returns-clause-text : goal.returns-clause-text
returns-clause-text c =
    (step_last c.args.tool c.args.bytes.now c.lines.at c.lines.number c.lines.text.items c.lines.invariant c.push_numbered-2.new.text.items c.in_ok-bad-2.bad c.in_default.ensures c.in_ok-bad-2.ensures.adds).0

pub returns-clause-bad : goal.returns-clause-bad
returns-clause-bad c =
    (step_last c.args.tool c.args.bytes.now c.lines.at c.lines.number c.lines.text.items c.lines.invariant c.push_numbered-2.new.text.items c.in_ok-bad-2.bad c.in_default.ensures c.in_ok-bad-2.ensures.adds).1
