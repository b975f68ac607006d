-- After a loss of a device's power nothing that was queued before is reported, but what it had offered.
use Rattle.std.proofs.Common.{◌≡◌, ◌≤◌, ◌<◌, ◌⊎◌, ℕ, Bool, true, false, not, ◌==◌, List, [], ◌∷◌, ◌++◌, refl, sym, subst, ap, ◌∙◌, inl, inr, arith, append-nil, append_assoc}
use Rattle.osdp_ledger.proofs.Common.{All, drop, All-filter, All-head, All-nil, All-push, Card, May, NoOffer, Offer, Reported, Unreported, Step, Open, Act, Queue, Offers, Report, Leave, WithdrawEvent, Lapse, RestartDevice, RestartPanel, acted_on, is_in_front, panel_restarted, AreAllowed, History, new_history, runs, steps_on, All-drop}
use Rattle.osdp_ledger.specs.Restarts.{RestartReportsNoMore, RestartsCost}
use Rattle.osdp_ledger.proofs.InTurn.{allowed_second, runs_then}
use Rattle.osdp_ledger.proofs.Waiting.{Told}

-- ---- so many were queued when the device lost power, in this session, with this offer

module _ (count session : ℕ) (old : Offer) (first : List Told) where
  abbrev pub IsSince : ℕ → Offer → Type 0
  IsSince sessions NoOffer = Unit {0}
  IsSince sessions (Unreported c) = (count ≤ c.place) ⊎ ((old ≡ Unreported c) × (sessions ≡ session))
  IsSince sessions (Reported c) = Unit {0}

  abbrev pub MayBeTold : Told → Type 0
  MayBeTold told = told.1.place < count → (old ≡ Unreported told.1) × (told.0 ≡ session)

  abbrev pub IsNew : Card → Type 0
  IsNew c = count ≤ c.place

  pub record Since (queued : ℕ) (cards : List Card) (offer : Offer) (sessions : ℕ) (reports : List Told) : Type 0 where
    pub counted : count ≤ queued
    pub waiting : All IsNew cards
    pub offered : IsSince sessions offer
    pub more : List Told
    pub reports_are : reports ≡ first ++ more
    pub told : All MayBeTold more

  abbrev pub SinceThen : History → Type 0
  SinceThen h = Since h.ledger.queued h.ledger.cards h.ledger.offer h.sessions h.reports

  reported_now : (sessions : ℕ) (c : Card) → IsSince sessions (Unreported c) → MayBeTold (sessions, c)
  reported_now sessions c (inl le) less = absurd (omega (arith, le, less))
  reported_now sessions c (inr is) less = is

  front : (c : Card) (cards : List Card) → is_in_front c cards → All IsNew cards → IsNew c
  front c cards is all = All-head IsNew c is.0 (subst (All IsNew) is.1 all)

  -- events wait no more, and what was offered is as before, or forgotten
  leaves : (h : History) (fewer : List Card) (offer : Offer) → All IsNew fewer → IsSince h.sessions offer → SinceThen h
      → Since h.ledger.queued fewer offer h.sessions h.reports
  leaves h fewer offer waiting offered i =
      record { counted = i.counted; waiting = waiting; offered = offered; more = i.more; reports_are = i.reports_are; told = i.told }

  pub keeps : (step : Step) (h : History) → May step h.ledger → SinceThen h → SinceThen (steps_on step h)
  keeps Open h may i = record { counted = i.counted; waiting = i.waiting; offered = tt; more = i.more; reports_are = i.reports_are; told = i.told }
  keeps (Act o answer) h may i =
      elim h.ledger.is_open as (λ b. (let l = acted_on b answer h.ledger in Since l.queued l.cards l.offer h.sessions h.reports)) [ true ↦ i | false ↦ i ]
  keeps (Queue c) h may i = record {
    counted = let le = i.counted in omega (arith, le);
    waiting = All-push IsNew h.ledger.cards c i.waiting (let le = i.counted in omega (arith, le, may));
    offered = i.offered;
    more = i.more;
    reports_are = i.reports_are;
    told = i.told;
  }
  keeps (Offers c) h may i = leaves h h.ledger.cards (Unreported c) i.waiting (inl (front c h.ledger.cards may.2 i.waiting)) i
  keeps (Report c) h may i = record {
    counted = i.counted;
    waiting = i.waiting;
    offered = tt;
    more = i.more ++ (h.sessions, c) ∷ [];
    reports_are = ap (λ rs. rs ++ (h.sessions, c) ∷ []) i.reports_are ∙ append_assoc first i.more ((h.sessions, c) ∷ []);
    told = All-push MayBeTold i.more (h.sessions, c) i.told (reported_now h.sessions c (subst (IsSince h.sessions) may.1 i.offered));
  }
  keeps (Leave c) h may i = leaves h (drop 1 h.ledger.cards) NoOffer (All-drop IsNew 1 h.ledger.cards i.waiting) tt i
  keeps (WithdrawEvent c) h may i =
      leaves h _ h.ledger.offer (All-filter (λ d. not (d.place == c.place)) IsNew h.ledger.cards i.waiting) i.offered i
  keeps (Lapse c) h may i = leaves h (drop 1 h.ledger.cards) h.ledger.offer (All-drop IsNew 1 h.ledger.cards i.waiting) i.offered i
  keeps RestartDevice h may i = leaves h [] h.ledger.offer (All-nil IsNew) i.offered i
  keeps (RestartPanel on_wire) h may i =
      elim h.ledger.is_open as (λ b. (let l = panel_restarted on_wire b h.ledger in Since l.queued l.cards l.offer h.sessions h.reports)) [ true ↦ i | false ↦ i ]
  keeps _ h may i = i

  hold : (steps : List Step) (h : History) → AreAllowed steps h → SinceThen h → SinceThen (runs steps h)
  hold [] h allowed i = i
  hold (step ∷ steps) h allowed i = hold steps (steps_on step h) allowed.1 (keeps step h allowed.0 i)

-- what was offered before is offered still
pub offer_stays : (count session : ℕ) (offer : Offer) (first : List Told) → IsSince count session offer first session offer
offer_stays count session NoOffer first = tt
offer_stays count session (Unreported c) first = inr (refl, refl)
offer_stays count session (Reported c) first = tt

pub reports_no_more : RestartReportsNoMore
reports_no_more before more allowed =
    let h = runs before new_history in
    let next = steps_on RestartDevice h in
    let i = hold h.ledger.queued h.sessions h.ledger.offer h.reports more next (allowed_second before (RestartDevice ∷ more) new_history allowed).1 (record {
      counted = omega arith;
      waiting = All-nil (IsNew h.ledger.queued h.sessions h.ledger.offer h.reports);
      offered = offer_stays h.ledger.queued h.sessions h.ledger.offer h.reports;
      more = [];
      reports_are = sym (append-nil h.reports);
      told = All-nil (MayBeTold h.ledger.queued h.sessions h.ledger.offer h.reports);
    }) in
    record {
      since = i.more;
      reports = ap (λ (x : History). x.reports) (runs_then before (RestartDevice ∷ more) new_history) ∙ i.reports_are;
      told = i.told;
    }

-- ---- what goes at once

pub restarts_cost : RestartsCost
restarts_cost h = (
  λ on_wire. record { ended = refl; ahead = none_ahead on_wire h.ledger.is_open; same = (refl, refl, refl) },
  record { left = refl; same = (refl, refl, refl, refl) },
)
  where
    none_ahead : (on_wire is_open : Bool) → (panel_restarted on_wire is_open h.ledger).ahead ≡ []
    none_ahead on_wire true = refl
    none_ahead on_wire false = refl
