use Rattle.osdp_tool_inputs.proofs.Common.{◌+◌, length, arith, sym, ap, ◌∙◌, echoes_below, Rest}
use Rattle.osdp_tool_inputs.proofs.Echoing.{echo_counts, echo_next, none_next, other_counts, other_next}
use Rattle.osdp_tool_inputs.proofs.RunPlaces.{after_digits, no_echo_other, went_digits, went_other}
use Rattle.osdp_tool_inputs.proofs.echoes.Rest.next.Goals as goal

pub returns-in_default-clause-left : goal.returns-in_default-clause-left
returns-in_default-clause-left c =
    let s : Rest = c.args.self.now in
    (none_next s.stamp.now s.went.now s.lines c.in_default.ensures.0, none_next s.stamp.now s.went.now c.next.new.self c.in_default.ensures.1)

pub returns-in_default-clause-echoes : goal.returns-in_default-clause-echoes
returns-in_default-clause-echoes c =
    let s : Rest = c.args.self.now in
    ap (λ l. s.echoes + length (echoes_below s.stamp.now s.went.now l)) (c.in_default.ensures.1 ∙ sym c.in_default.ensures.0)

pub returns-then-not-has_digits-clause-left : goal.returns-then-not-has_digits-clause-left
returns-then-not-has_digits-clause-left c =
    let s : Rest = c.args.self.now in
    let none = sym c.has_digits.ensures ∙ c.if-not-has_digits.true in
    other_next s.stamp.now s.went.now c.in-Some.line.now _ s.went.now s.lines _ c.in-Some.ensures c.next_stamp-self.ensures (went_other s.stamp.now s.went.now c.in-Some.line.now none)
    (no_echo_other s.stamp.now s.went.now c.in-Some.line.now none)

pub returns-then-not-has_digits-clause-echoes : goal.returns-then-not-has_digits-clause-echoes
returns-then-not-has_digits-clause-echoes c =
    let s : Rest = c.args.self.now in
    let none = sym c.has_digits.ensures ∙ c.if-not-has_digits.true in
    let same = other_counts s.stamp.now s.went.now c.in-Some.line.now _ s.went.now s.lines _ c.in-Some.ensures c.next_stamp-self.ensures (went_other s.stamp.now s.went.now c.in-Some.line.now none)
    (no_echo_other s.stamp.now s.went.now c.in-Some.line.now none) in
    omega (arith, same)

pub overflow_add-self : goal.overflow_add-self
overflow_add-self c =
    let s : Rest = c.args.self.now in
    let line = c.in-Some.line.now in
    let some = sym c.has_digits.ensures ∙ c.if-not-has_digits.false in
    let more = echo_counts s.stamp.now s.went.now line _ _ s.lines _ c.in-Some.ensures (after_digits s.stamp.now line some)
    (c.went_after-self.ensures ∙ went_digits s.stamp.now s.went.now line c.is_echo-echo.result some c.is_echo-echo.ensures) (sym c.is_echo-echo.ensures ∙ c.if-echo.true) in
    omega (arith, c.requires, more)

pub returns-then-echo-clause-left : goal.returns-then-echo-clause-left
returns-then-echo-clause-left c =
    let s : Rest = c.args.self.now in
    let line = c.in-Some.line.now in
    let some = sym c.has_digits.ensures ∙ c.if-not-has_digits.false in
    echo_next s.stamp.now s.went.now line _ _ s.lines _ c.in-Some.ensures (after_digits s.stamp.now line some)
    (c.went_after-self.ensures ∙ went_digits s.stamp.now s.went.now line c.is_echo-echo.result some c.is_echo-echo.ensures) (sym c.is_echo-echo.ensures ∙ c.if-echo.true)

pub returns-then-echo-clause-echoes : goal.returns-then-echo-clause-echoes
returns-then-echo-clause-echoes c =
    let s : Rest = c.args.self.now in
    let line = c.in-Some.line.now in
    let some = sym c.has_digits.ensures ∙ c.if-not-has_digits.false in
    let more = echo_counts s.stamp.now s.went.now line _ _ s.lines _ c.in-Some.ensures (after_digits s.stamp.now line some)
    (c.went_after-self.ensures ∙ went_digits s.stamp.now s.went.now line c.is_echo-echo.result some c.is_echo-echo.ensures) (sym c.is_echo-echo.ensures ∙ c.if-echo.true) in
    omega (arith, more)

pub returns-clause-left : goal.returns-clause-left
returns-clause-left c =
    let s : Rest = c.args.self.now in
    let line = c.in-Some.line.now in
    let some = sym c.has_digits.ensures ∙ c.if-not-has_digits.false in
    other_next s.stamp.now s.went.now line _ _ s.lines _ c.in-Some.ensures (after_digits s.stamp.now line some)
    (c.went_after-self.ensures ∙ went_digits s.stamp.now s.went.now line c.is_echo-echo.result some c.is_echo-echo.ensures) (sym c.is_echo-echo.ensures ∙ c.if-echo.false)

pub returns-clause-echoes : goal.returns-clause-echoes
returns-clause-echoes c =
    let s : Rest = c.args.self.now in
    let line = c.in-Some.line.now in
    let some = sym c.has_digits.ensures ∙ c.if-not-has_digits.false in
    let same = other_counts s.stamp.now s.went.now line _ _ s.lines _ c.in-Some.ensures (after_digits s.stamp.now line some)
    (c.went_after-self.ensures ∙ went_digits s.stamp.now s.went.now line c.is_echo-echo.result some c.is_echo-echo.ensures) (sym c.is_echo-echo.ensures ∙ c.if-echo.false) in
    omega (arith, same)
