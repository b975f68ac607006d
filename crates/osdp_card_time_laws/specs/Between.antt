-- By when an event is reported where a POLL stands between any two orders by the settings, however many orders are given.
use Rattle.std.specs.Prelude.{◌≡◌, ℕ, ◌+◌, ◌*◌, Bool, true, if◌then◌else◌, is_none, List}
use Rattle.osdp_msg.specs.declared.event.Event.{Event}
use Rattle.osdp_bus.specs.Buses.{BusState}
use Rattle.osdp_bus_laws.specs.Calls.{Call}
use Rattle.osdp_bus_time_laws.specs.Turns.{KeepsTurns, turns_of}
use Rattle.osdp_reader.specs.Queue.{Queue}
use Rattle.osdp_card_time_laws.specs.Among.{PollsBetween}
use Rattle.osdp_card_time_laws.specs.Beside.{Serves, Step, asked_at, calls_of}
use Rattle.osdp_card_time_laws.specs.Cards.{IsQueued, ReportedBy, to_offer_before}

-- no order of an entry waits for its answer, so the next one may be asked at once
abbrev pub may_ask : ℕ → BusState → Bool
may_ask entry b = is_none (asked_at entry b)

-- after an order of an entry the next one is asked only once a POLL of that entry has gone out, or the opening of its next session
abbrev pub PollsComeBetween : BusState → Type 0
PollsComeBetween b = b.config.poll_between_orders ≡ true → (entry : ℕ) (calls : List Call) → PollsBetween (may_ask entry b) entry calls b

-- a reader that serves, and each turn in its time. Of the orders nothing is asked
pub record KeepsServingBetween (late : ℕ) (time : ℕ → ℕ) (n entry : ℕ) (q : Queue) (steps : List Step) (b : BusState) : Type 0 where
  pub setting : b.config.poll_between_orders ≡ true
  pub turns : KeepsTurns late time n (calls_of steps) b
  pub serves : Serves entry q steps b

-- how many orders of its entry are asked before an event that has so many others to be offered before it: one before each of their POLLs, and one before its own. While an
-- order waits for its answer the next exchange is a POLL, so there is one less
abbrev pub orders_before : ℕ → ℕ → BusState → ℕ
orders_before others entry b = if may_ask entry b then others + 1 else others

-- a card in time, by the bound of a card with so many orders
abbrev pub CardsComeInTime : BusState → Type 0
CardsComeInTime b = (late : ℕ) (time : ℕ → ℕ) (n entry place : ℕ) (event : Event) (q : Queue) (steps : List Step)
    → IsQueued event place entry q b → KeepsServingBetween late time n entry q steps b
    → ReportedBy
    (b.greatest + ((to_offer_before place q + orders_before (to_offer_before place q) entry b + 1) * (b.config.poll_interval + turns_of time late n) + time entry))
    event place entry q steps b

-- .. where each answer is read so soon after its packet
abbrev pub CardsComeAsAnswered : BusState → Type 0
CardsComeAsAnswered b = (late answered n entry place : ℕ) (event : Event) (q : Queue) (steps : List Step)
    → IsQueued event place entry q b → KeepsServingBetween late (λ k. answered) n entry q steps b
    → ReportedBy
    (b.greatest + ((to_offer_before place q + orders_before (to_offer_before place q) entry b + 1) * (b.config.poll_interval + n * (answered + late)) + answered))
    event place entry q steps b
