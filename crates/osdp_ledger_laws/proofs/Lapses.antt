-- An event that lapses before its session has offered it is reported no more.
use Rattle.std.proofs.Common.{◌≡◌, ◌≤◌, ◌<◌, ◌+◌, ℕ, true, false, List, [], ◌∷◌, ◌++◌, drop, refl, sym, subst, ap, ◌∙◌, arith, inl, inr}
use Rattle.std.proofs.lemmas.List.{append-nil}
use Rattle.std.proofs.lemmas.List.Elements.{All-contains, All-cons, All-nil, Contains-append_right}
use Rattle.std.specs.Prelude.{All, Contains}
use Rattle.osdp_ledger.specs.History.{AreAllowed, History, new_history, runs, steps_on}
use Rattle.osdp_ledger.specs.Ledger.{Act, Card, Lapse, Leave, Ledger, May, NoOffer, Offer, Offers, Open, Report, RestartPanel, Reported, Step, Unreported, acted_on, after, panel_restarted}
use Rattle.osdp_ledger.proofs.Events.{at_first, keeps}
use Rattle.osdp_ledger.proofs.InTurn.{allowed_second}
use Rattle.osdp_ledger.proofs.Restarts as restarts
use Rattle.osdp_ledger.proofs.Restarts.{IsSince, MayBeTold, SinceThen, offer_stays}
use Rattle.osdp_ledger.proofs.Waiting.{Events, Rising, Told, rising_above}
use Rattle.osdp_ledger_laws.specs.Lapses.{LapsedIsReportedNoMore}

pub events_hold : (steps : List Step) (h : History) → AreAllowed steps h → Events h → Events (runs steps h)
events_hold [] h allowed i = i
events_hold (step ∷ steps) h allowed i = events_hold steps (steps_on step h) allowed.1 (keeps step h allowed.0 i)

pub allowed_first : (xs ys : List Step) (h : History) → AreAllowed (xs ++ ys) h → AreAllowed xs h
allowed_first [] ys h all = tt
allowed_first (x ∷ xs) ys h all = (all.0, allowed_first xs ys (steps_on x h) all.1)

module _ (card : Card) where
  -- the panel may not report the card now
  abbrev IsNotDue : Offer → Type 0
  IsNotDue offer = offer ≡ Unreported card → ⊥

  no_offer : NoOffer ≡ Unreported card → ⊥
  no_offer e = cc

  reported_once : (c : Card) → Reported c ≡ Unreported card → ⊥
  reported_once c e = cc

  not_due : (step : Step) (l : Ledger) → (step ≡ Offers card → ⊥) → IsNotDue l.offer → IsNotDue (after step l).offer
  not_due Open l other none = no_offer
  not_due (Act o answer) l other none = elim l.is_open as (λ b. IsNotDue (acted_on b answer l).offer) [ true ↦ none | false ↦ none ]
  not_due (Offers c) l other none = λ e. other (ap Offers (let same : c ≡ card = cc in same))
  not_due (Report c) l other none = reported_once c
  not_due (Leave c) l other none = no_offer
  not_due (RestartPanel on_wire) l other none = elim l.is_open as (λ b. IsNotDue (panel_restarted on_wire b l).offer) [ true ↦ none | false ↦ none ]
  not_due _ l other none = none

  not_due_then : (steps : List Step) (h : History) → (Contains steps (Offers card) → ⊥) → IsNotDue h.ledger.offer → IsNotDue (runs steps h).ledger.offer
  not_due_then [] h unoffered none = none
  not_due_then (step ∷ steps) h unoffered none =
      not_due_then steps (steps_on step h) (λ there. unoffered (Contains-append_right (step ∷ []) steps (Offers card) there))
      (not_due step h.ledger (λ is. unoffered (0, omega arith, is)) none)

  abbrev IsNoReport : Step → Type 0
  IsNoReport step = step ≡ Report card → ⊥

  -- after it has gone, and what was on offer was another one: as after a restart, of what was queued up to it nothing is reported but what was on offer
  module _ (session : ℕ) (old : Offer) (first : List Told) (none : IsNotDue old) where
    is_no_report : (step : Step) (h : History) → May step h.ledger → SinceThen (card.place + 1) session old first h → IsNoReport step
    is_no_report (Report c) h may i is =
        let due : IsSince (card.place + 1) session old first h.sessions (Unreported card) =
        subst (IsSince (card.place + 1) session old first h.sessions) (may.1 ∙ ap Unreported (let same : c ≡ card = cc in same)) i.offered in
        elim due [ inl le ↦ omega (arith, le) | inr was ↦ none was.0 ]
    is_no_report _ h may i is = cc

    no_reports : (steps : List Step) (h : History) → AreAllowed steps h → SinceThen (card.place + 1) session old first h → All IsNoReport steps
    no_reports [] h allowed i = All-nil IsNoReport
    no_reports (step ∷ steps) h allowed i =
        All-cons IsNoReport step steps (is_no_report step h allowed.0 i)
        (no_reports steps (steps_on step h) allowed.1 (restarts.keeps (card.place + 1) session old first step h allowed.0 i))

  lapses : (h : History) (rest : List Card) → h.ledger.cards ≡ card ∷ rest → Rising 0 h.ledger.cards → card.place < h.ledger.queued
      → SinceThen (card.place + 1) h.sessions h.ledger.offer h.reports (steps_on (Lapse card) h)
  lapses h rest front rising queued = record {
    counted = omega (arith, queued);
    waiting = subst (λ cs. All (λ (c : Card). card.place + 1 ≤ c.place) (drop 1 cs)) (sym front) (rising_above (card.place + 1) rest (subst (Rising 0) front rising).1);
    offered = offer_stays (card.place + 1) h.sessions h.ledger.offer h.reports;
    more = [];
    reports_are = sym (append-nil h.reports);
    told = All-nil (MayBeTold (card.place + 1) h.sessions h.ledger.offer h.reports);
  }

pub no_more : LapsedIsReportedNoMore
no_more before since more card allowed unoffered reported =
    let h = runs before new_history in
    let began = steps_on Open h in
    let at = runs since began in
    let all = allowed_second before (Open ∷ (since ++ Lapse card ∷ more)) new_history allowed in
    let last = allowed_second since (Lapse card ∷ more) began all.1 in
    let first = events_hold before new_history (allowed_first before (Open ∷ (since ++ Lapse card ∷ more)) new_history allowed) at_first in
    let i = events_hold since began (allowed_first since (Lapse card ∷ more) began all.1) (keeps Open h all.0 first) in
    let shown = i.shown_is in
    let none = not_due_then card since began unoffered (no_offer card) in
    let gone = lapses card at last.0.0.0 last.0.0.1 i.rising (let less = last.0.1 in omega (arith, less, shown)) in
    All-contains (IsNoReport card) more (Report card)
    (no_reports card at.sessions at.ledger.offer at.reports none more (steps_on (Lapse card) at) last.1 gone) reported refl
