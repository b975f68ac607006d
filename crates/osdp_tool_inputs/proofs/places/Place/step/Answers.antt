use Rattle.osdp_tool_inputs.proofs.Common.{refl, sym, ◌∙◌, arith, take_rest}
use Rattle.osdp_tool_inputs.proofs.RunPlaces.{at_end, at_run_next, past_last, past_other, past_stamp, run_fits, runs_short}
use Rattle.osdp_tool_inputs.proofs.places.Place.step.Goals as goal

pub returns-in_default-clause-place : goal.returns-in_default-clause-place
returns-in_default-clause-place c =
    at_end c.args.source.text.now c.args.source.late.now c.args.self.now _ c.requires c.in_default.ensures.left.0 c.in_default.ensures.left.1 c.next.ensures.echoes refl refl refl refl refl

pub returns-in_default-clause-none : goal.returns-in_default-clause-none
returns-in_default-clause-none c = λ e. past_last c.args.source.text.now c.args.source.late.now c.args.self.now c.requires c.in_default.ensures.left.0

pub returns-then-is_stamp-clause-place : goal.returns-then-is_stamp-clause-place
returns-then-is_stamp-clause-place c =
    past_stamp c.args.source.text.now c.args.source.late.now c.in-Some.line.now c.args.self.now _ c.requires c.in-Some.ensures.left c.next.ensures.echoes
    (sym c.is_stamp.ensures ∙ c.if-is_stamp.true) (take_rest c.in-Some.line.now 2) refl refl refl refl

pub returns-then-not-has_digits-clause-place : goal.returns-then-not-has_digits-clause-place
returns-then-not-has_digits-clause-place c =
    past_other c.args.source.text.now c.args.source.late.now c.in-Some.line.now c.args.self.now _ c.requires c.in-Some.ensures.left c.next.ensures.echoes
    (sym c.is_stamp.ensures ∙ c.if-is_stamp.false) (sym c.has_digits.ensures ∙ c.if-not-has_digits.true) refl refl refl refl refl

pub overflow_add-self : goal.overflow_add-self
overflow_add-self c =
    let fits = run_fits c.args.source.text.now c.args.source.late.now c.in-Some.line.now c.args.self.now
    (record { rest = c.next.new.self; held = c.args.self.now.held; run = c.args.self.now.run; mark = c.args.self.now.mark; at = c.args.self.now.at }) c.requires c.in-Some.ensures.left
    c.next.ensures.echoes (sym c.is_stamp.ensures ∙ c.if-is_stamp.false) (sym c.has_digits.ensures ∙ c.if-not-has_digits.false) in
    omega (arith, fits, runs_short c.args.source.text.now)

pub returns-clause-place : goal.returns-clause-place
returns-clause-place c =
    at_run_next c.args.source.text.now c.args.source.late.now c.in-Some.line.now c.args.self.now _ c.requires c.in-Some.ensures.left c.next.ensures.echoes
    (sym c.is_stamp.ensures ∙ c.if-is_stamp.false) (sym c.has_digits.ensures ∙ c.if-not-has_digits.false) c.find_late-found.result c.find_late-found.ensures refl refl refl refl refl
