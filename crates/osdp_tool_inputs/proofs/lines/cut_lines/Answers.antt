use Rattle.std.proofs.Common.{refl}
use Rattle.osdp_tool_inputs.proofs.Cutting.{last_one, no_more, one_more}
use Rattle.osdp_tool_inputs.proofs.lines.cut_lines.Goals as goal

pub lines-preserved : goal.lines-preserved
lines-preserved c =
    one_more c.args.text.now c.lines.at c.lines.lines.items c.push.new.self.items _ c.lines.invariant c.in_ok-push.ensures.items c.in-Some.length c.in-Some.ensures refl

pub returns-then-at-text : goal.returns-then-at-text
returns-then-at-text c = no_more c.args.text.now c.lines.at c.lines.lines.items c.lines.invariant c.if-at-text.true

pub returns : goal.returns
returns c =
    last_one c.args.text.now c.lines.at c.lines.lines.items _ _ c.lines.invariant c.in_ok-push-2.ensures.items c.if-at-text.false c.in_default.ensures refl
