use Rattle.osdp_bus.proofs.Common.{Some, sym, subst, ap, ◌∙◌, arith, eqb-false, eqb-true, IsDeadline, first_from, holds, state_of, IsDueFrom, any_due}
use Rattle.osdp_bus.proofs.Waiting.{deadline_free, deadline_held, deadline_now}
use Rattle.osdp_bus.proofs.line.Line.next_deadline.Goals as goal

pub returns-in-Some : goal.returns-in-Some
returns-in-Some c =
    deadline_held (state_of c.args.self.now) c.in-Some.entry c.holder_deadline.result (sym c.is_some.ensures ∙ c.if-is_some.false)
    (ap (first_from 0 holds) (sym c.as_slice.ensures.value) ∙ sym c.in-Some.ensures) (omega (arith, c.greatest-now.ensures.greatest)) c.holder_deadline.ensures

pub returns-in-None : goal.returns-in-None
returns-in-None c =
    deadline_free (state_of c.args.self.now) c.earliest.result (sym c.is_some.ensures ∙ c.if-is_some.false)
    (ap (first_from 0 holds) (sym c.as_slice.ensures.value) ∙ sym c.in-None.ensures)
    (eqb-true _ 0 (sym c.is_empty.ensures.empty ∙ c.if-is_empty.true)) (omega (arith, c.greatest-now.ensures.greatest))
    (subst (λ n. IsDueFrom (any_due c.args.self.now.devices.entries.items) n c.earliest.result) c.greatest-now.ensures.greatest
    (subst (λ ds. IsDueFrom (any_due ds) c.greatest-now.result c.earliest.result) c.as_slice-in-None.ensures.value c.earliest.ensures))

pub returns-in-None-2 : goal.returns-in-None-2
returns-in-None-2 c =
    subst (λ n. IsDeadline (state_of c.args.self.now) (Some n)) (sym c.greatest-now.ensures.greatest)
    (deadline_now (state_of c.args.self.now) (sym c.is_some.ensures ∙ c.if-is_some.false)
    (ap (first_from 0 holds) (sym c.as_slice.ensures.value) ∙ sym c.in-None.ensures) (eqb-false _ 0 (sym c.is_empty.ensures.empty ∙ c.if-is_empty.false)))
