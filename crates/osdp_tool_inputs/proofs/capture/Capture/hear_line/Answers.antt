use Rattle.osdp_tool_inputs.proofs.Common.{refl, sym, ap, ◌∙◌, heard_of, line_bytes}
use Rattle.osdp_tool_inputs.specs.Heard.{late_told}
use Rattle.osdp_tool_times.specs.Captures.{place_of}
use Rattle.osdp_tool_inputs.proofs.Following.{followed_other, followed_run}
use Rattle.osdp_tool_inputs.proofs.OneByOne.{on_each}
use Rattle.osdp_tool_inputs.proofs.capture.Capture.hear_line.Goals as goal

pub returns-then-not-has_digits-clause-followed : goal.returns-then-not-has_digits-clause-followed
returns-then-not-has_digits-clause-followed c = λ lines h.
    followed_other lines c.args.line.now c.args.self.now _ h c.in_ok-told.ensures.after (sym c.has_digits.ensures ∙ c.if-not-has_digits.true) refl refl

pub returns-clause-followed : goal.returns-clause-followed
returns-clause-followed c =
    on_each c.keep.result
    (λ late. λ lines h. followed_run lines c.args.line.now c.args.self.now c.keep.new.self h (ap heard_of c.keep.ensures.timed ∙ c.in_ok-told.ensures.after) c.late_told-late.result _
    (sym c.has_digits.ensures ∙ c.if-not-has_digits.false)
    (c.late_told-late.ensures ∙ ap (λ p. late_told p c.in_ok-told.told) (c.place-place.ensures ∙ ap place_of c.in_ok-told.ensures.said)
    ∙ ap (late_told (place_of (line_bytes c.args.line.now))) c.in_ok-told.ensures.told)
    refl c.keep.ensures.runs late)
    c.keep.ensures.late
