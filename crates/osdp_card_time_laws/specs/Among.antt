-- By when an event is reported where a POLL stands between any two orders of its entry.
use Rattle.std.specs.Prelude.{◌≡◌, ℕ, ◌+◌, ◌*◌, Bool, true, if◌then◌else◌, is_none, List, [], ◌∷◌, Option, Some}
use Rattle.osdp_msg.specs.declared.command.Command.{Command}
use Rattle.osdp_msg.specs.declared.event.Event.{Event}
use Rattle.osdp_bus.specs.Buses.{BusState}
use Rattle.osdp_bus_laws.specs.Calls.{Call, after_call}
use Rattle.osdp_bus_laws.specs.Fairness.{Begins}
use Rattle.osdp_bus_time_laws.specs.Turns.{KeepsTurns, turns_of}
use Rattle.osdp_reader.specs.Queue.{Queue}
use Rattle.osdp_card_time_laws.specs.Beside.{Serves, Step, asked_at, calls_of}
use Rattle.osdp_card_time_laws.specs.Cards.{IsQueued, ReportedBy, to_offer_before}

-- an order is asked only where it may be
abbrev pub AsksAsItMay : Bool → Option Command → Type 0
AsksAsItMay may asked = (command : Command) → asked ≡ Some command → may ≡ true

-- after an order the next one may be asked only once a POLL has gone out
abbrev pub PollsBetween : Bool → ℕ → List Call → BusState → Type 0
PollsBetween may entry [] b = Unit {0}
PollsBetween may entry (call ∷ calls) b =
    (Begins call entry b
    → AsksAsItMay may (asked_at entry (after_call call b)) × PollsBetween (is_none (asked_at entry (after_call call b))) entry calls (after_call call b))
    × ((Begins call entry b → ⊥) → PollsBetween may entry calls (after_call call b))

-- beside a reader that serves, each turn in its time
pub record KeepsBetween (late : ℕ) (time : ℕ → ℕ) (n entry : ℕ) (may : Bool) (q : Queue) (steps : List Step) (b : BusState) : Type 0 where
  pub turns : KeepsTurns late time n (calls_of steps) b
  pub serves : Serves entry q steps b
  pub between : PollsBetween may entry (calls_of steps) b

-- a card in time, however many orders wait: for each event to offer before it a POLL and an order, for itself a POLL, and an order where one may be asked first
abbrev pub CardsAmongOrders : BusState → Type 0
CardsAmongOrders b = (late : ℕ) (time : ℕ → ℕ) (n entry place : ℕ) (may : Bool) (event : Event) (q : Queue) (steps : List Step)
    → IsQueued event place entry q b → KeepsBetween late time n entry may q steps b
    → ReportedBy
    (b.greatest + ((2 * to_offer_before place q + (if may then 1 else 0) + 1) * (b.config.poll_interval + turns_of time late n) + time entry))
    event place entry q steps b
