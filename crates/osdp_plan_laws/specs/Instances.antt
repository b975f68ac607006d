-- Lines of two readers that take as long as the figures of their plan, to the millisecond, and a card before which another one is no obstacle.
use Rattle.std.specs.Prelude.{◌≡◌, ℕ, ◌+◌, ◌-◌, List, [], ◌∷◌, Some}
use Rattle.osdp_frame.specs.declared.check_kind.CheckKind.TheVariants.{Sum}
use Rattle.osdp_msg.specs.declared.command.Command.TheVariants.{Id}
use Rattle.osdp_msg.specs.declared.event.Event.{Event}
use Rattle.osdp_msg.specs.declared.event.Event.TheVariants.{Raw}
use Rattle.osdp_controller.specs.declared.report.Report.TheVariants as reports
use Rattle.osdp_bus.specs.Settings.{IsBusConfig}
use Rattle.osdp_bus.specs.Buses.{BusState, new_bus}
use Rattle.osdp_bus_laws.specs.Calls.{Call, Add, Begin, NextReport, OnBytes, OnSilence, Retarget, Submit, Tick, Withdraw, after_calls}
use Rattle.osdp_bus_order_laws.specs.Instances.{before_it, between_line, first_gone, ordered, with_it}
use Rattle.osdp_bus_order_laws.specs.Pacing.{goes_out}
use Rattle.osdp_bus_order_laws.specs.Places.{waiting_orders}
use Rattle.osdp_bus_time_laws.specs.Clock.{KeepsTime}
use Rattle.osdp_bus_time_laws.specs.Instances.{ack_bytes, pd_id_bytes}
use Rattle.osdp_bus_time_laws.specs.Laws.{IsAccepted}
use Rattle.osdp_bus_time_laws.specs.Reading.{NothingIsRead}
use Rattle.osdp_bus_time_laws.specs.Telling.{IsIdle, IsLost}
use Rattle.osdp_bus_time_laws.specs.Turns.{HasFew, KeepsTurns, others_of}
use Rattle.osdp_card_time_laws.specs.Beside.{Calls, Queues, Step, calls_of}
use Rattle.osdp_card_time_laws.specs.Between.{KeepsServingBetween}
use Rattle.osdp_card_time_laws.specs.Cards.{IsQueued}
use Rattle.osdp_card_time_laws.specs.Instances.{card, with_card}
use Rattle.osdp_card_time_laws.specs.SlowCard.{card_answer, order_answer, polled_between}
use Rattle.osdp_time_laws.specs.Lines.{turns_time}
use Rattle.osdp_plan.specs.declared.bounds.Others.{Others}
use Rattle.osdp_plan.specs.declared.plan.Plan.{Plan}
use Rattle.osdp_plan.specs.Figures.{exchanges, lost_wait, order_wait}
use Rattle.osdp_plan_laws.specs.Figures.{IsAsPlanned}

-- the plan of `between_line`: a packet and its answer take one millisecond on the wire, and the reader thinks for two. The wait for an answer is just as long,
-- so `osdp plan` refuses it
abbrev pub short_plan : Plan
short_plan = record {
  readers = 2;
  rate = 1000000;
  check = Sum;
  longest = 8;
  answer = 2;
  hold = 0;
  late = 0;
  orders = 0;
  reply_wait = 3;
  poll_interval = 5;
  sends = 1;
  busy_wait = 2;
  busy_limit = 0;
  quiet_wait = 4;
}

-- ---- an order

-- it is accepted as the one before it has just gone out, and both readers answer at the last moment
pub record OrderFigureIsReached : Type 0 where
  pub planned : IsAsPlanned short_plan first_gone
  pub accepted : IsAccepted 0 short_plan.orders (Id 0) first_gone
  pub in_time : KeepsTime short_plan.late with_it ordered
  pub few : HasFew short_plan.readers with_it ordered
  pub not_before : waiting_orders 0 (after_calls before_it ordered) ≡ Id 0 ∷ []
  pub goes_out : goes_out 0 (Tick 21) (after_calls before_it ordered) ≡ Some (Id 0)
  pub moment : (others : Others) → (after_calls with_it ordered).greatest ≡ first_gone.greatest + order_wait others short_plan

-- ---- a reader that falls silent

-- both sessions have just opened, and both POLLs are due 5 ms later
abbrev pub both_idle : BusState
both_idle =
    after_calls
    (Add 0 ∷ Add 1 ∷ Begin 0 0 ∷ Begin 1 0 ∷ Tick 4 ∷ OnBytes (pd_id_bytes 128 168) 4 ∷ NextReport ∷ Tick 4 ∷ OnBytes (pd_id_bytes 129 167) 4 ∷ NextReport
    ∷ []) (new_bus between_line)

-- the first reader answers its POLL at the last moment, when the second one's has been due for a while. Calls that change nothing come between. The second one is silent
abbrev pub before_told : List Call
before_told =
    Tick 9 ∷ OnBytes (ack_bytes 128 229) 12 ∷ OnSilence 12 ∷ Begin 0 12 ∷ Retarget 0 9 ∷ Withdraw 0 ∷ Tick 12 ∷ Tick 15 ∷ []

abbrev pub silent_calls : List Call
silent_calls =
    Tick 9 ∷ OnBytes (ack_bytes 128 229) 12 ∷ OnSilence 12 ∷ Begin 0 12 ∷ Retarget 0 9 ∷ Withdraw 0 ∷ Tick 12 ∷ Tick 15 ∷ NextReport ∷ []

abbrev pub at_last : ℕ → ℕ
at_last entry = 3

-- it is told lost exactly when it has to be, though the other one is read
pub record SilenceFigureIsReached : Type 0 where
  pub planned : IsAsPlanned short_plan both_idle
  pub turns : (others : Others)
      → others_of at_last short_plan.late short_plan.readers 1 ≡ turns_time short_plan.late (exchanges others (short_plan.readers - 1) short_plan)
  pub idle : IsIdle 1 both_idle
  pub keeps : KeepsTurns short_plan.late at_last short_plan.readers silent_calls both_idle
  pub silent : NothingIsRead 1 silent_calls both_idle
  pub lost : IsLost 1 (after_calls before_told both_idle)
  pub moment : (others : Others) → (after_calls silent_calls both_idle).greatest ≡ both_idle.greatest + lost_wait others short_plan

-- ---- a card

-- another card comes after it, before its POLL, and so do two orders, of which the first goes out before it
abbrev pub later : Event
later = Raw (record { reader = 0; format = 0; bits = 8; bytes = 90 ∷ [] })

abbrev pub card_steps : List Step
card_steps =
    Calls (OnBytes (ack_bytes 128 229) 10) ∷ Queues later ∷ Calls (OnBytes [] 15) ∷ Calls (Submit 0 (Id 0)) ∷ Calls (Tick 16) ∷ Calls (Submit 0 (Id 0))
    ∷ Calls (OnBytes order_answer 17) ∷ Calls NextReport ∷ Calls (Tick 18) ∷ Calls (Tick 23) ∷ Calls (OnBytes card_answer 24) ∷ []

-- the card is reported, and the one after it doesn't keep the reader from serving
pub record CardComesBeforeAnother : Type 0 where
  pub config : IsBusConfig between_line
  pub queued : IsQueued card 0 0 with_card polled_between
  pub serving : KeepsServingBetween 1 (λ entry. 1) 1 0 with_card card_steps polled_between
  pub reported : (after_calls (calls_of card_steps) polled_between).devices.report ≡ Some (0, reports.Event card)
