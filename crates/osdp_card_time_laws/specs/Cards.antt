-- By when an event that a reader queues is reported.
use Rattle.std.specs.Prelude.{◌≡◌, ℕ, ◌+◌, ◌-◌, ◌*◌, ◌≤◌, true, if◌then◌else◌, List, [], ◌∷◌, length, Some, slice_get}
use Rattle.osdp_msg.specs.declared.event.Event.{Event}
use Rattle.osdp_controller.specs.declared.report.Report.TheVariants as reports
use Rattle.osdp_time_laws.specs.Lines.{card_time}
use Rattle.osdp_bus.specs.Buses.{BusState}
use Rattle.osdp_bus.specs.Settings.{controller_config}
use Rattle.osdp_bus_laws.specs.Calls.{Call, after_call}
use Rattle.osdp_bus_laws.specs.Exchanges.{IsOutstandingAt}
use Rattle.osdp_bus_laws.specs.Fairness.{Begins}
use Rattle.osdp_bus_time_laws.specs.Laws.{IsUnderWay, time_of}
use Rattle.osdp_bus_time_laws.specs.Turns.{KeepsTurns, turns_of}
use Rattle.osdp_reader.specs.Queue.{Queue, queued}
use Rattle.osdp_card_time_laws.specs.Beside.{Calls, Queues, Serves, Step, accepted_in, asked_at, calls_of, taken, waiting_at}

-- how many of the events before a place are still to be offered: the front may be offered already
abbrev pub to_offer_before : ℕ → Queue → ℕ
to_offer_before place q = if q.offered then place - 1 else place

-- the exchange of a POLL ends in the call, and its answer tells the event, which is the front
pub record Reports (call : Call) (event : Event) (place entry : ℕ) (q : Queue) (b : BusState) : Type 0 where
  pub front : place ≡ 0
  pub offered : q.offered ≡ true
  pub outstanding : IsOutstandingAt entry b
  pub ended : IsOutstandingAt entry (after_call call b) → ⊥
  pub told : (after_call call b).devices.report ≡ Some (entry, reports.Event event)

-- no call comes later than this moment before the event at a place of the queue has been reported, or the session of the entry has ended. With each packet
-- that is taken an offered front leaves
abbrev pub ReportedBy : ℕ → Event → ℕ → ℕ → Queue → List Step → BusState → Type 0
ReportedBy limit event place entry q [] b = Unit {0}
ReportedBy limit event place entry q (Queues other ∷ steps) b = ReportedBy limit event place entry (queued other q) steps b
ReportedBy limit event place entry q (Calls call ∷ steps) b = IsUnderWay entry b
    → ((after_call call b).greatest ≤ limit)
    × (Begins call entry b
    → ReportedBy limit event (to_offer_before place q) entry (taken (asked_at entry (after_call call b)) q) steps (after_call call b))
    × ((Begins call entry b → ⊥) → (Reports call event place entry q b → ⊥) → ReportedBy limit event place entry q steps (after_call call b))

-- an event waits at a place of the queue, and was not offered, while the session of the entry is under way
pub record IsQueued (event : Event) (place entry : ℕ) (q : Queue) (b : BusState) : Type 0 where
  pub under_way : IsUnderWay entry b
  pub there : slice_get q.events place ≡ Some event
  pub not_offered : q.offered ≡ true → 1 ≤ place

-- beside a reader that serves so many orders, each turn in its time
pub record KeepsServing (late : ℕ) (time : ℕ → ℕ) (n entry orders : ℕ) (q : Queue) (steps : List Step) (b : BusState) : Type 0 where
  pub turns : KeepsTurns late time n (calls_of steps) b
  pub serves : Serves entry q steps b
  pub counted : waiting_at entry b + accepted_in entry (calls_of steps) b ≤ orders

-- a card in time: for each event to offer before it, for each order, and for itself the interval between POLLs and a turn of each entry, and then its answer
abbrev pub CardsAreReported : BusState → Type 0
CardsAreReported b = (late : ℕ) (time : ℕ → ℕ) (n entry place orders : ℕ) (event : Event) (q : Queue) (steps : List Step)
    → IsQueued event place entry q b → KeepsServing late time n entry orders q steps b
    → ReportedBy (b.greatest + ((to_offer_before place q + orders + 1) * (b.config.poll_interval + turns_of time late n) + time entry)) event place entry q steps b

-- .. where each answer is read so soon after its packet
abbrev pub CardsInTime : BusState → Type 0
CardsInTime b = (late answered n entry place orders : ℕ) (event : Event) (q : Queue) (steps : List Step)
    → IsQueued event place entry q b → KeepsServing late (λ k. answered) n entry orders q steps b
    → ReportedBy (b.greatest + ((to_offer_before place q + orders + 1) * (b.config.poll_interval + n * (answered + late)) + answered)) event place entry q steps b

-- .. where a list says how long the exchange of each entry takes: by the figure of a plan, which has a late tick more for each round
abbrev pub CardsByFigures : BusState → Type 0
CardsByFigures b = (late entry place orders : ℕ) (exchanges : List ℕ) (event : Event) (q : Queue) (steps : List Step)
    → IsQueued event place entry q b → KeepsServing late (time_of exchanges) (length exchanges) entry orders q steps b
    → ReportedBy (b.greatest + card_time (controller_config 0 b.config) late (to_offer_before place q + orders) (time_of exchanges entry) exchanges)
    event place entry q steps b
