-- What the ledger promises, whatever steps happen where each may.
use Rattle.std.specs.Prelude.{◌≡◌, ◌≢◌, ◌≤◌, ◌<◌, ◌+◌, ◌⊎◌, ◌==◌, ℕ, if◌then◌else◌, List, [], ◌∷◌, ◌++◌, All, AllPairs, Contains, map, None, Some}
use Rattle.osdp_msg.specs.declared.reply.Reply.{Reply}
use Rattle.osdp_ledger.specs.Ledger.{Card, IsReported, Ledger, Order, Step, is_in_front}
use Rattle.osdp_ledger.specs.History.{AreAllowed, AfterReport, CutOff, End, History, InDoubt, Left, Settled, TakenBack, new_history, runs}

-- the places count from a number on
abbrev pub CountsFrom : ℕ → List ℕ → Type 0
CountsFrom n [] = Unit {0}
CountsFrom n (place ∷ places) = (place ≡ n) × CountsFrom (n + 1) places

-- the device acted on the order, and its panel has settled it with that answer, was told that it is in doubt, lost power while it was on the wire,
-- or will have the answer
abbrev pub HasOutcome : History → Order × Reply → Type 0
HasOutcome h done =
    Contains h.ended (done.0, Settled done.1) ⊎ (Contains h.ended (done.0, InDoubt) ⊎ (Contains h.ended (done.0, CutOff)
    ⊎ ((h.ledger.acted ≡ Some done.1) × is_in_front done.0 h.ledger.ahead)))

-- of the commands
pub record OrdersHold (h : History) : Type 0 where
  -- each accepted one has one end, in the order of submission, or is ahead
  pub each : h.accepted ≡ map (λ e. e.0) h.ended ++ h.ledger.ahead
  pub places : CountsFrom 0 (map (λ o. o.place) h.accepted)
  -- what is acted on was submitted
  pub submitted : All (λ (done : Order × Reply). Contains h.accepted done.0) h.acted
  -- none is acted on twice, and each in the order of submission
  pub once : AllPairs (λ (a b : Order × Reply). a.0.place < b.0.place) h.acted
  -- what is settled was acted on, with that answer
  pub answered : All (λ (e : Order × End). (answer : Reply) → e.1 ≡ Settled answer → Contains h.acted (e.0, answer)) h.ended
  -- none that was given back, or forgotten while it waited, is acted on
  pub outcomes : All (HasOutcome h) h.acted
  -- at most one is in doubt a session
  pub doubts : AllPairs (λ (m n : ℕ). m < n) h.doubts

-- an event is reported after another: it was queued after it, or it is the same one, told again in a later session
abbrev pub Follows : ℕ × Card → ℕ × Card → Type 0
Follows before told = (before.1.place < told.1.place) ⊎ ((before.1 ≡ told.1) × (before.0 < told.0))

-- how often a place stands in a list
abbrev pub times : ℕ → List ℕ → ℕ
times place [] = 0
times place (p ∷ ps) = (if p == place then 1 else 0) + times place ps

-- of the events
pub record EventsHold (h : History) : Type 0 where
  -- each accepted one has left once, or waits
  pub each : (place : ℕ) → times place (map (λ w. w.card.place) h.left) + times place (map (λ c. c.place) h.ledger.cards) ≡ times place (map (λ c. c.place) h.queued)
  pub places : CountsFrom 0 (map (λ c. c.place) h.queued)
  -- what waits, what has left and what is reported was queued
  pub waiting : All (Contains h.queued) h.ledger.cards
  pub gone : All (λ (w : Left). Contains h.queued w.card) h.left
  pub told : All (λ (r : ℕ × Card). Contains h.queued r.1) h.reports
  -- they are reported in the order in which they were queued, in each session once. One is told again at most as the first of a session, where it was the
  -- last one reported before.
  pub in_turn : AllPairs Follows h.reports
  -- none that waits is passed over: what is reported was not queued after it
  pub in_order : All (λ (c : Card). All (λ (told : ℕ × Card). told.1.place ≤ c.place) h.reports) h.ledger.cards
  -- none leaves for having been reported that wasn't, in the session in which it leaves
  pub reported : All (λ (w : Left). w.why ≡ AfterReport → Contains h.reports (w.session, w.card)) h.left
  -- none that was taken back is reported
  pub withdrawn : All (λ (w : Left). w.why ≡ TakenBack → All (λ (told : ℕ × Card). told.1.place ≡ w.card.place → ⊥) h.reports) h.left
  -- once it has left, it is reported in no later session
  pub no_later : All (λ (w : Left). All (λ (told : ℕ × Card). told.1.place ≡ w.card.place → told.0 ≤ w.session) h.reports) h.left

abbrev pub KeepsOrders : Type 0
KeepsOrders = (steps : List Step) → AreAllowed steps new_history → OrdersHold (runs steps new_history)

abbrev pub KeepsEvents : Type 0
KeepsEvents = (steps : List Step) → AreAllowed steps new_history → EventsHold (runs steps new_history)

-- of the last command that was acted on in a session, and the last event offered in it, at most one isn't told yet
abbrev pub IsOneUntold : Ledger → Type 0
IsOneUntold l = (l.acted ≡ None) ⊎ IsReported l.offer

abbrev pub TellsInTurn : Type 0
TellsInTurn = (steps : List Step) → AreAllowed steps new_history → IsOneUntold (runs steps new_history).ledger

-- an event was reported, or has left for another reason
abbrev pub IsToldOrGone : History → Card → Type 0
IsToldOrGone h card = ((session : ℕ) × Contains h.reports (session, card)) ⊎ ((w : Left) × Contains h.left w × (w.card ≡ card) × (w.why ≢ AfterReport))

-- None is skipped: an event that was queued before one that is reported was reported too, or was taken back, or has lapsed, or was thrown away.
abbrev pub SkipsNone : Type 0
SkipsNone = (steps : List Step) → AreAllowed steps new_history → let h = runs steps new_history in
    (told : ℕ × Card) (card : Card) → Contains h.reports told → Contains h.queued card → card.place < told.1.place → IsToldOrGone h card
