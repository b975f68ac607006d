-- What the figures of a plan say of a line that is as it was planned.
use Rattle.std.specs.Prelude.{◌≡◌, ℕ, ◌+◌, ◌-◌, ◌≤◌, true, List}
use Rattle.osdp_msg.specs.declared.command.Command.{Command}
use Rattle.osdp_msg.specs.declared.event.Event.{Event}
use Rattle.osdp_bus.specs.Buses.{BusState}
use Rattle.osdp_bus.specs.Settings.{controller_config}
use Rattle.osdp_bus_laws.specs.Calls.{Call, Submit, after_call}
use Rattle.osdp_bus_order_laws.specs.InTime.{OrderLeavesBy}
use Rattle.osdp_bus_time_laws.specs.Laws.{GoesOutBy, IsAccepted, IsUnderWay, time_of}
use Rattle.osdp_bus_time_laws.specs.Reading.{NothingIsRead}
use Rattle.osdp_bus_time_laws.specs.Telling.{IsIdle, ToldBy}
use Rattle.osdp_bus_time_laws.specs.Turns.{KeepsTurns, others_of}
use Rattle.osdp_card_time_laws.specs.Beside.{Serves, Step, calls_of}
use Rattle.osdp_card_time_laws.specs.Between.{may_ask}
use Rattle.osdp_card_time_laws.specs.Cards.{IsQueued, ReportedBy, to_offer_before}
use Rattle.osdp_reader.specs.Queue.{Queue}
use Rattle.osdp_time_laws.specs.Lines.{turns_time}
use Rattle.osdp_plan.specs.declared.bounds.Others.{Others}
use Rattle.osdp_plan.specs.declared.plan.Plan.{Plan}
use Rattle.osdp_plan.specs.Figures.{answered_time, card_wait, exchanges, lost_wait, order_wait, poll_round}
use Rattle.osdp_plan.specs.Plans.{IsPlan, config_of}

-- how long the exchange of each entry takes, as it was planned
abbrev pub planned_time : Others → Plan → ℕ → ℕ
planned_time others p = time_of (exchanges others p.readers p)

-- a plan in its ranges, and a bus with its settings, which are those of a panel: a POLL stands between any two orders of an entry
pub record IsAsPlanned (p : Plan) (b : BusState) : Type 0 where
  pub plan : IsPlan p
  pub config : controller_config 0 b.config ≡ config_of p

-- an order: as many as were planned wait before it. It goes out, or is taken back
abbrev pub OrdersKeepToFigures : Plan → BusState → Type 0
OrdersKeepToFigures p b = (others : Others) (entry : ℕ) (command : Command) (calls : List Call) → IsAsPlanned p b
    → IsAccepted entry p.orders command b → KeepsTurns p.late (planned_time others p) p.readers calls (after_call (Submit entry command) b)
    → OrderLeavesBy (b.greatest + order_wait others p) entry command p.orders calls (after_call (Submit entry command) b)

-- a reader is asked again, by a POLL where no order waits: the next frame of its exchanges goes out within a round of POLLs, or its session has ended
abbrev pub RoundsKeepToFigures : Plan → BusState → Type 0
RoundsKeepToFigures p b = (others : Others) (entry : ℕ) (calls : List Call) → IsAsPlanned p b → IsUnderWay entry b
    → KeepsTurns p.late (planned_time others p) p.readers calls b → GoesOutBy (b.greatest + poll_round others p) 0 entry calls b

-- a card of a reader that answers in the planned time, before which no other is still to be offered
pub record IsNextCard (others : Others) (p : Plan) (event : Event) (place entry : ℕ) (q : Queue) (b : BusState) : Type 0 where
  pub planned : IsAsPlanned p b
  pub answers : planned_time others p entry ≡ answered_time p
  pub queued : IsQueued event place entry q b
  pub first : to_offer_before place q ≡ 0

-- .. however many orders are given meanwhile. Where no order waits for its answer one may be asked before the card, so at least one was planned
abbrev pub CardsKeepToFigures : Plan → BusState → Type 0
CardsKeepToFigures p b = (others : Others) (entry place : ℕ) (event : Event) (q : Queue) (steps : List Step)
    → (may_ask entry b ≡ true → 1 ≤ p.orders) → IsNextCard others p event place entry q b
    → KeepsTurns p.late (planned_time others p) p.readers (calls_of steps) b → Serves entry q steps b → ReportedBy (b.greatest + card_wait others p) event place entry q steps b

-- a reader of which nothing is read any more, where the turns of the others take as long as was planned
abbrev pub SilenceKeepsToFigures : Plan → BusState → Type 0
SilenceKeepsToFigures p b = (others : Others) (time : ℕ → ℕ) (entry : ℕ) (calls : List Call) → IsAsPlanned p b
    → others_of time p.late p.readers entry ≡ turns_time p.late (exchanges others (p.readers - 1) p) → IsIdle entry b → KeepsTurns p.late time p.readers calls b
    → NothingIsRead entry calls b → ToldBy (b.greatest + lost_wait others p) entry calls b
