-- How long a line of several entries takes, whatever it does.
use Rattle.std.specs.Prelude.{◌≡◌, ℕ, zero, suc, ◌+◌, ◌-◌, ◌*◌, ◌≤◌, true, false, List, [], ◌∷◌, length, Some, None, Ok}
use Rattle.osdp_msg.specs.declared.command.Command.{Command}
use Rattle.osdp_controller.specs.declared.exchange.Exchange.TheVariants.{Polling}
use Rattle.osdp_bus.specs.declared.entry.Entry.{Entry}
use Rattle.osdp_bus.specs.Buses.{BusState, device_of}
use Rattle.osdp_bus.specs.Machine.{begin_refusal_at, submit_refusal_at, withdrawal_at}
use Rattle.osdp_bus.specs.Settings.{controller_config}
use Rattle.osdp_bus_laws.specs.Calls.{Call, Begin, Submit, Withdraw, after_call}
use Rattle.osdp_bus_laws.specs.Fairness.{Begins}
use Rattle.osdp_controller_laws.specs.Commands.{asked_in}
use Rattle.osdp_controller_laws.specs.Laws.{exchange_in}
use Rattle.osdp_time_laws.specs.Bounds.{longest_exchange}
use Rattle.osdp_time_laws.specs.Lines.{turns_time}
use Rattle.osdp_time_laws.specs.Orders.{is_under_way}
use Rattle.osdp_bus_time_laws.specs.Clock.{KeepsTime}
use Rattle.osdp_bus_time_laws.specs.Turns.{BeginsBy, HasFew, KeepsTurns, OutstandingTakes, TurnsTake, others_of, turns_of}

-- the longest exchange, by the settings of a bus: those of each of its controllers
abbrev pub exchange_of : BusState → ℕ → ℕ
exchange_of b late = longest_exchange (controller_config 0 b.config) late

-- each exchange ends in time, however its answers come, and whoever has the next turn
pub record ExchangesEnd (b : BusState) : Type 0 where
  pub begun : (late : ℕ) (calls : List Call) → KeepsTime late calls b → TurnsTake (λ entry. exchange_of b late) calls b
  pub outstanding : (late : ℕ) (calls : List Call) → KeepsTime late calls b → OutstandingTakes (λ entry. exchange_of b late) calls b

-- the session of an entry stands, and doesn't wait for its opening
pub record IsUnderWay (entry : ℕ) (b : BusState) : Type 0 where
  pub device : Entry
  pub there : device_of entry b ≡ Some device
  pub under_way : is_under_way device.controller.session.state ≡ true

-- no call comes later than this moment before a command that waits, with so many before it, has gone out, or the session of its entry has ended. Each
-- exchange of the entry takes the command that waits at the front
abbrev pub GoesOutBy : ℕ → ℕ → ℕ → List Call → BusState → Type 0
GoesOutBy limit before entry [] b = Unit {0}
GoesOutBy limit zero entry (call ∷ calls) b = IsUnderWay entry b
    → ((after_call call b).greatest ≤ limit) × ((Begins call entry b → ⊥) → GoesOutBy limit zero entry calls (after_call call b))
GoesOutBy limit (suc before) entry (call ∷ calls) b = IsUnderWay entry b
    → ((after_call call b).greatest ≤ limit)
    × (Begins call entry b → GoesOutBy limit before entry calls (after_call call b))
    × ((Begins call entry b → ⊥) → GoesOutBy limit (suc before) entry calls (after_call call b))

-- where orders go out one after the other, an exchange that begins while the session of its entry is under way asks the command that waits at the front, and the
-- others wait on
abbrev pub TakesTheFront : BusState → Type 0
TakesTheFront b = (call : Call) (entry : ℕ) (command : Command) (rest : List Command) (d : Entry) → device_of entry b ≡ Some d
    → is_under_way d.controller.session.state ≡ true → d.controller.session.config.poll_between_orders ≡ false → d.controller.waiting ≡ command ∷ rest
    → Begins call entry b
    → (e : Entry) × (device_of entry (after_call call b) ≡ Some e) × (asked_in e.controller.session.state ≡ Some command) × (e.controller.waiting ≡ rest)

-- and where none waits it is a POLL
abbrev pub PollsElse : BusState → Type 0
PollsElse b = (call : Call) (entry : ℕ) (d : Entry) → device_of entry b ≡ Some d → is_under_way d.controller.session.state ≡ true
    → d.controller.waiting ≡ [] → Begins call entry b
    → (e : Entry) × (device_of entry (after_call call b) ≡ Some e) × (exchange_in e.controller.session.state ≡ Some Polling) × (e.controller.waiting ≡ [])

-- a command is accepted while the session of its entry is under way, where so many of the entry wait before it
pub record IsAccepted (entry before : ℕ) (command : Command) (b : BusState) : Type 0 where
  pub under_way : IsUnderWay entry b
  pub accepted : submit_refusal_at entry command b ≡ None
  pub place : length under_way.device.controller.waiting ≡ before

-- no order of the entry is taken back: an order that waits keeps its place until those before it have gone out
abbrev pub TakesNoneBack : ℕ → List Call → BusState → Type 0
TakesNoneBack entry [] b = Unit {0}
TakesNoneBack entry (call ∷ calls) b = (call ≡ Withdraw entry → withdrawal_at entry b ≡ Ok None) × TakesNoneBack entry calls (after_call call b)

-- an order in time, where orders go out one after the other: a turn of each entry for each command before it, and one more
abbrev pub OrdersGoOut : BusState → Type 0
OrdersGoOut b = (late : ℕ) (time : ℕ → ℕ) (n entry before : ℕ) (command : Command) (calls : List Call)
    → b.config.poll_between_orders ≡ false → IsAccepted entry before command b → KeepsTurns late time n calls (after_call (Submit entry command) b)
    → TakesNoneBack entry calls (after_call (Submit entry command) b)
    → GoesOutBy (b.greatest + (before + 1) * turns_of time late n) before entry calls (after_call (Submit entry command) b)

-- an entry that is open is asked in time, by a POLL where no order waits: for each of its exchanges the interval between POLLs, and a turn of each entry
abbrev pub ExchangesComeRound : BusState → Type 0
ExchangesComeRound b = (late : ℕ) (time : ℕ → ℕ) (n entry before : ℕ) (calls : List Call) → IsUnderWay entry b → KeepsTurns late time n calls b
    → GoesOutBy (b.greatest + (before + 1) * (b.config.poll_interval + turns_of time late n)) before entry calls b

-- an opening in time: the quiet wait, a late tick, and a turn of each other entry
abbrev pub OpeningsBegin : BusState → Type 0
OpeningsBegin b = (late : ℕ) (time : ℕ → ℕ) (n entry now : ℕ) (calls : List Call)
    → begin_refusal_at entry b ≡ None → KeepsTurns late time n calls (after_call (Begin entry now) b)
    → BeginsBy ((after_call (Begin entry now) b).greatest + (b.config.quiet_wait + late + others_of time late n entry)) entry calls
    (after_call (Begin entry now) b)

-- ---- whatever the line does: each turn as long as the settings allow

abbrev pub OrdersInTime : BusState → Type 0
OrdersInTime b = (late n entry before : ℕ) (command : Command) (calls : List Call) → b.config.poll_between_orders ≡ false → IsAccepted entry before command b
    → KeepsTime late calls (after_call (Submit entry command) b) → HasFew n calls (after_call (Submit entry command) b)
    → TakesNoneBack entry calls (after_call (Submit entry command) b)
    → GoesOutBy (b.greatest + (before + 1) * (n * (exchange_of b late + late))) before entry calls (after_call (Submit entry command) b)

abbrev pub OpeningsInTime : BusState → Type 0
OpeningsInTime b = (late n entry now : ℕ) (calls : List Call) → begin_refusal_at entry b ≡ None → KeepsTime late calls (after_call (Begin entry now) b)
    → HasFew n calls (after_call (Begin entry now) b)
    → BeginsBy ((after_call (Begin entry now) b).greatest + (b.config.quiet_wait + late + (n - 1) * (exchange_of b late + late))) entry calls
    (after_call (Begin entry now) b)

-- ---- turns by a list of how long each entry's exchange takes

abbrev pub time_of : List ℕ → ℕ → ℕ
time_of [] entry = 0
time_of (exchange ∷ exchanges) zero = exchange
time_of (exchange ∷ exchanges) (suc entry) = time_of exchanges entry

-- they add up as in the figures of a line: those of all entries, and those of all but the first
pub record LinesAddUp (late : ℕ) (exchanges : List ℕ) : Type 0 where
  pub all : turns_of (time_of exchanges) late (length exchanges) ≡ turns_time late exchanges
  pub others : (own : ℕ) → others_of (time_of (own ∷ exchanges)) late (length (own ∷ exchanges)) 0 ≡ turns_time late exchanges
