use Rattle.osdp_tool_inputs.proofs.Common.{◌++◌, ap, sym, ◌∙◌, take_rest, parts, stamps_below}
use Rattle.osdp_tool_inputs.proofs.Stamps.{a_stamp, added, no_digits}
use Rattle.osdp_tool_inputs.proofs.times.find_stamp.Goals as goal

pub returns-then-is_stamp : goal.returns-then-is_stamp
returns-then-is_stamp c = λ lines.
    ap (λ l. parts c.args.found.now.items ++ stamps_below l lines) (take_rest c.args.line.now 2)
    ∙ ap (λ l. parts c.args.found.now.items ++ l) (sym (a_stamp c.args.held.now c.args.line.now lines (sym c.is_stamp.ensures ∙ c.if-is_stamp.true)))

pub returns-then-not-has_digits : goal.returns-then-not-has_digits
returns-then-not-has_digits c = λ lines.
    ap (λ l. parts c.args.found.now.items ++ l)
    (sym (no_digits c.args.held.now c.args.line.now lines (sym c.is_stamp.ensures ∙ c.if-is_stamp.false) (sym c.has_digits.ensures ∙ c.if-not-has_digits.true)))

pub returns : goal.returns
returns c = λ lines.
    added c.args.found.now.items _ c.args.held c.args.line.now lines c.in_ok-push.ensures.items
    (sym c.is_stamp.ensures ∙ c.if-is_stamp.false) (sym c.has_digits.ensures ∙ c.if-not-has_digits.false)
