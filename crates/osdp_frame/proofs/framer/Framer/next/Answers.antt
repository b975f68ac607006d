use Rattle.osdp_frame.proofs.Common.{sym, refl, subst, ap, ◌∙◌, IsNone, item_in, item_of}
use Rattle.osdp_frame.proofs.Framing.{shown_first, shown_none, shown_some}
use Rattle.osdp_frame.proofs.framer.Framer.next.Goals as goal

pub returns-in_err-first-clause-none : goal.returns-in_err-first-clause-none
returns-in_err-first-clause-none c =
    (λ _. shown_none c.self.inside c.args.self.now c.self.view_is c.self.invariant c.in_err-first.was, λ _. subst (λ o. IsNone o) (sym c.from_residual.ensures) refl)

pub returns-clause-first : goal.returns-clause-first
returns-clause-first c =
    shown_first c.self.inside c.args.self.now c.in_ok-first.first (item_of c.shown.result) c.self.view_is c.self.invariant c.bytes-held.ensures.bytes c.in_ok-first.was (c.shown.ensures ∙ ap (item_in c.in_ok-first.first) c.bytes-held.ensures.value)

pub returns-clause-none : goal.returns-clause-none
returns-clause-none c =
    (λ e. absurd cc, λ wants. absurd (shown_some c.self.inside c.args.self.now c.in_ok-first.first (item_of c.shown.result) c.self.view_is c.self.invariant c.bytes-held.ensures.bytes c.in_ok-first.was (c.shown.ensures ∙ ap (item_in c.in_ok-first.first) c.bytes-held.ensures.value) wants))
