-- What a moment by which something happens means: while it hasn't happened, and the session goes on, the clock doesn't pass this moment.
use Rattle.std.specs.Prelude.{◌≡◌, ℕ, zero, suc, ◌≤◌, false, List, [], ◌∷◌, Some}
use Rattle.osdp_msg.specs.declared.event.Event.{Event}
use Rattle.osdp_controller.specs.declared.report.Report.TheVariants as reports
use Rattle.osdp_controller.specs.States.{is_closed}
use Rattle.osdp_time_laws.specs.Laws.{is_quiet}
use Rattle.osdp_bus.specs.declared.entry.Entry.{Entry}
use Rattle.osdp_bus.specs.Buses.{BusState, device_of}
use Rattle.osdp_bus_laws.specs.Calls.{Call, NextReport, after_call, after_calls}
use Rattle.osdp_bus_laws.specs.Fairness.{Begins}
use Rattle.osdp_bus_time_laws.specs.Laws.{GoesOutBy, IsUnderWay}
use Rattle.osdp_bus_time_laws.specs.Telling.{IsLost, ToldBy}
use Rattle.osdp_card_time_laws.specs.Beside.{Calls, Queues, Step, calls_of}
use Rattle.osdp_card_time_laws.specs.Cards.{ReportedBy}
use Rattle.osdp_reader.specs.Queue.{Queue}

-- a session that stands, and is quiet no more before its opening, is under way: whatever it waits for
abbrev pub StandingIsUnderWay : BusState → Type 0
StandingIsUnderWay b = (entry : ℕ) (d : Entry) → device_of entry b ≡ Some d → is_closed d.controller.session.state ≡ false
    → is_quiet d.controller.session.state ≡ false → IsUnderWay entry b

-- the session of an entry is under way before each of the calls
abbrev pub GoesOn : ℕ → List Call → BusState → Type 0
GoesOn entry [] b = Unit {0}
GoesOn entry (call ∷ calls) b = IsUnderWay entry b × GoesOn entry calls (after_call call b)

-- no more than so many exchanges of the entry begin in the calls
abbrev pub BeginAtMost : ℕ → ℕ → List Call → BusState → Type 0
BeginAtMost count entry [] b = Unit {0}
BeginAtMost zero entry (call ∷ calls) b = (Begins call entry b → ⊥) × BeginAtMost zero entry calls (after_call call b)
BeginAtMost (suc count) entry (call ∷ calls) b =
    (Begins call entry b → BeginAtMost count entry calls (after_call call b))
    × ((Begins call entry b → ⊥) → BeginAtMost (suc count) entry calls (after_call call b))

-- an exchange with so many before it hasn't had its turn
abbrev pub TurnsWaitWithin : BusState → Type 0
TurnsWaitWithin b = (limit before entry : ℕ) (calls : List Call) → GoesOutBy limit before entry calls b → GoesOn entry calls b → BeginAtMost before entry calls b
    → b.greatest ≤ limit → (after_calls calls b).greatest ≤ limit

-- no report that the entry is lost is taken in the calls
abbrev pub TellNoLoss : ℕ → List Call → BusState → Type 0
TellNoLoss entry [] b = Unit {0}
TellNoLoss entry (call ∷ calls) b = (IsLost entry b → call ≡ NextReport → ⊥) × TellNoLoss entry calls (after_call call b)

abbrev pub SilenceLastsWithin : BusState → Type 0
SilenceLastsWithin b = (limit entry : ℕ) (calls : List Call) → ToldBy limit entry calls b → TellNoLoss entry calls b → b.greatest ≤ limit
    → (after_calls calls b).greatest ≤ limit

-- no call of these steps reports the event of the entry
abbrev pub ReportNot : Event → ℕ → List Step → BusState → Type 0
ReportNot event entry [] b = Unit {0}
ReportNot event entry (Queues other ∷ steps) b = ReportNot event entry steps b
ReportNot event entry (Calls call ∷ steps) b =
    ((after_call call b).devices.report ≡ Some (entry, reports.Event event) → ⊥) × ReportNot event entry steps (after_call call b)

abbrev pub CardsWaitWithin : BusState → Type 0
CardsWaitWithin b = (limit place entry : ℕ) (event : Event) (q : Queue) (steps : List Step) → ReportedBy limit event place entry q steps b
    → GoesOn entry (calls_of steps) b → ReportNot event entry steps b → b.greatest ≤ limit → (after_calls (calls_of steps) b).greatest ≤ limit
