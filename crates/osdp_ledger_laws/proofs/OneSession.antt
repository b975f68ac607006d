-- Where at most one session begins: the session holds of what was accepted before it, too.
use Rattle.std.proofs.Common.{◌≡◌, ◌≤◌, ◌++◌, true, false, inl, inr, List, [], ◌∷◌, map, Some, None, refl, sym, ap, ◌∙◌, arith}
use Rattle.std.proofs.lemmas.List.Elements.{All-cons, All-head, All-nil, All-tail, All-weaker}
use Rattle.std.specs.Prelude.{All}
use Rattle.osdp_ledger.specs.History.{AreAllowed, History, new_history, runs, steps_on}
use Rattle.osdp_ledger.specs.Ledger.{Act, Card, Close, Doubt, Lapse, Leave, May, Offers, Open, Queue, Report, Reported, RestartDevice, Settle, Step, Submit, Withdraw, WithdrawEvent}
use Rattle.osdp_ledger.specs.OneSession.{HoldsInOneSession, OneSessionHolds, settled_in}
use Rattle.osdp_ledger.specs.Plain.{IsPlain}
use Rattle.osdp_ledger.proofs.Events as events
use Rattle.osdp_ledger.proofs.Waiting.{Events}
use Rattle.osdp_ledger_laws.specs.Reports.{GivesNoneUp}
use Rattle.osdp_ledger_laws.specs.Sessions.{AreTakenBackBetween, BeginsNone, IsTakenBackBetween}
use Rattle.osdp_ledger_laws.proofs.Beginning.{first_reported}
use Rattle.osdp_ledger_laws.proofs.Reports.{told}
use Rattle.osdp_ledger_laws.proofs.Sessions.{acted_first, asked, holds}

-- ---- before it: all that was accepted waits, and what was offered isn't reported

record Unopened (h : History) : Type 0 where
  none : (h.ledger.is_open ≡ false) × (h.ledger.late ≡ None) × (h.sessions ≡ 0) × (h.acted ≡ []) × (h.ended ≡ []) × (h.reports ≡ [])
  orders : h.accepted ≡ h.ledger.ahead
  cards : h.queued ≡ h.ledger.cards
  unreported : (c : Card) → h.ledger.offer ≡ Reported c → ⊥

still : (step : Step) (h : History) → IsPlain step → BeginsNone step → May step h.ledger → Unopened h → Unopened (steps_on step h)
still (Submit o) h plain begins may u = record { none = u.none; orders = ap (λ os. os ++ o ∷ []) u.orders; cards = u.cards; unreported = u.unreported }
still Open h plain begins may u = absurd begins
still (Act o answer) h plain begins (reported, may) u =
    absurd (elim may [ inl m ↦ (let e : true ≡ false = sym m.0 ∙ u.none.0 in cc) | inr m ↦ (let e : Some o ≡ None = sym m.1 ∙ u.none.1 in cc) ])
still (Settle o answer) h plain begins may u = absurd (let e : true ≡ false = sym may.0 ∙ u.none.0 in cc)
still (Doubt o) h plain begins may u = absurd (let e : true ≡ false = sym may.0 ∙ u.none.0 in cc)
still Close h plain begins may u = absurd (let e : true ≡ false = sym may.0 ∙ u.none.0 in cc)
still (Queue c) h plain begins may u = record { none = u.none; orders = u.orders; cards = ap (λ cs. cs ++ c ∷ []) u.cards; unreported = u.unreported }
still (Offers c) h plain begins may u = record { none = u.none; orders = u.orders; cards = u.cards; unreported = λ d e. cc }
still (Report c) h plain begins may u = absurd (let e : true ≡ false = sym may.0 ∙ u.none.0 in cc)
still (Leave c) h plain begins may u = absurd (u.unreported c may.1)
still _ h plain begins may u = absurd plain

-- ---- where no more sessions have begun at the end, none begins

step_more : (step : Step) (h : History) → h.sessions ≤ (steps_on step h).sessions
step_more Open h = omega arith
step_more _ h = omega arith

runs_more : (steps : List Step) (h : History) → h.sessions ≤ (runs steps h).sessions
runs_more [] h = omega arith
runs_more (step ∷ steps) h = omega (arith, step_more step h, runs_more steps (steps_on step h))

begins_none : (step : Step) (h : History) → (steps_on step h).sessions ≤ h.sessions → BeginsNone step
begins_none Open h few = absurd (omega (arith, few))
begins_none _ h few = tt

none_begin : (steps : List Step) (h : History) → (runs steps h).sessions ≤ h.sessions → All BeginsNone steps
none_begin [] h few = All-nil BeginsNone
none_begin (step ∷ steps) h few =
    let next = steps_on step h in
    All-cons BeginsNone step steps (begins_none step h (omega (arith, few, runs_more steps next)))
    (none_begin steps next (omega (arith, few, step_more step h)))

-- ---- the session, and all steps

gives_none_up : (step : Step) → IsPlain step → GivesNoneUp step
gives_none_up (WithdrawEvent c) plain = plain
gives_none_up (Lapse c) plain = plain
gives_none_up RestartDevice plain = plain
gives_none_up _ plain = tt

between_one : (step : Step) (h : History) → IsPlain step → IsTakenBackBetween step h
between_one (Withdraw o) h plain = absurd plain
between_one _ h plain = tt

between_all : (steps : List Step) (h : History) → All IsPlain steps → AreTakenBackBetween steps h
between_all [] h plain = tt
between_all (step ∷ steps) h plain =
    (between_one step h (All-head IsPlain step steps plain), between_all steps (steps_on step h) (All-tail IsPlain step steps plain))

since_open : (steps : List Step) (h : History) → All IsPlain steps → AreAllowed steps (steps_on Open h) → (runs steps (steps_on Open h)).sessions ≤ 1
    → Events (steps_on Open h) → Unopened h → HoldsInOneSession (runs steps (steps_on Open h))
since_open steps h plain allowed few e u =
    let last = runs steps (steps_on Open h) in
    let none = none_begin steps (steps_on Open h) (omega (arith, few, u.none.2)) in
    let s = holds h steps allowed none in
    let a = acted_first h steps allowed none (between_all steps (steps_on Open h) plain) in
    let r = first_reported h steps allowed none (All-weaker IsPlain GivesNoneUp gives_none_up steps plain) e in
    let done : last.acted ≡ s.acted = s.acted_since ∙ ap (λ ds. ds ++ s.acted) u.none.3 in
    let first : last.acted ≡ a.acted = a.acted_since ∙ ap (λ ds. ds ++ a.acted) u.none.3 in
    let over : last.ended ≡ s.ended = s.ended_since ∙ ap (λ es. es ++ s.ended) u.none.4 in
    let said : last.reports ≡ r.reported = r.reported_since ∙ ap (λ rs. rs ++ r.reported) u.none.5 in
    record {
      acted = (a.beginning.0, a.accepted_since ∙ ap (λ os. os ++ a.accepted) u.orders ∙ a.beginning.1 ∙ ap (λ ds. map asked ds ++ a.beginning.0) (sym first));
      settled = (s.settled.0, done ∙ s.settled.1 ∙ ap (λ es. settled_in es ++ s.settled.0) (sym over), s.settled.2);
      reported = (r.beginning.0, r.queued_since ∙ ap (λ cs. cs ++ r.queued) u.cards ∙ r.beginning.1 ∙ ap (λ rs. map told rs ++ r.beginning.0) (sym said));
    }

any_steps : (steps : List Step) (h : History) → All IsPlain steps → AreAllowed steps h → (runs steps h).sessions ≤ 1 → Events h → Unopened h → HoldsInOneSession (runs steps h)
any_steps [] h plain allowed few e u = record {
  acted = (h.accepted, ap (λ ds. map asked ds ++ h.accepted) (sym u.none.3));
  settled = ([], u.none.3 ∙ ap (λ es. settled_in es ++ []) (sym u.none.4), omega arith);
  reported = (h.queued, ap (λ rs. map told rs ++ h.queued) (sym u.none.5));
}
any_steps (step ∷ steps) h plain allowed few e u =
    by_step step (All-head IsPlain step steps plain) (λ next. any_steps steps next (All-tail IsPlain step steps plain)) allowed.0 allowed.1 few
  where
    Then : History → Type 0
    Then next = AreAllowed steps next → (runs steps next).sessions ≤ 1 → Events next → Unopened next → HoldsInOneSession (runs steps next)

    by_step : (step : Step) → IsPlain step → ((next : History) → Then next) → May step h.ledger → AreAllowed steps (steps_on step h) → (runs steps (steps_on step h)).sessions ≤ 1
        → HoldsInOneSession (runs steps (steps_on step h))
    by_step Open first then may allowed few = since_open steps h (All-tail IsPlain step steps plain) allowed few (events.keeps Open h may e) u
    by_step step first then may allowed few = then (steps_on step h) allowed few (events.keeps step h may e) (still step h first tt may u)

pub one_session_holds : OneSessionHolds
one_session_holds steps plain allowed few =
    any_steps steps new_history plain allowed few events.at_first
    (record { none = (refl, refl, refl, refl, refl, refl); orders = refl; cards = refl; unreported = λ c e. cc })
