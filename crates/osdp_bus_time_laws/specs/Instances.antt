-- Runs of a line that take as long as a law allows, to the millisecond.
use Rattle.std.specs.Prelude.{◌≡◌, ℕ, ◌+◌, ◌-◌, ◌*◌, false, List, [], ◌∷◌, Option, Some, None}
use Rattle.std.specs.Option.{option_map_or}
use Rattle.osdp_frame.specs.declared.check_kind.CheckKind.TheVariants.{Sum}
use Rattle.osdp_msg.specs.declared.command.Command.{Command}
use Rattle.osdp_msg.specs.declared.command.Command.TheVariants.{Id}
use Rattle.osdp_controller_laws.specs.Commands.{asked_in}
use Rattle.osdp_bus.specs.declared.config.BusConfig.{BusConfig}
use Rattle.osdp_bus.specs.Buses.{BusState, device_of, new_bus}
use Rattle.osdp_bus.specs.Machine.{begin_refusal_at}
use Rattle.osdp_bus.specs.Settings.{IsBusConfig}
use Rattle.osdp_bus_laws.specs.Calls.{Call, Add, Begin, NextReport, OnBytes, Submit, Tick, after_call, after_calls}
use Rattle.osdp_bus_laws.specs.Exchanges.{IsOutstandingAt}
use Rattle.osdp_bus_time_laws.specs.Clock.{KeepsTime}
use Rattle.osdp_bus_time_laws.specs.Laws.{IsAccepted, exchange_of}
use Rattle.osdp_bus_time_laws.specs.Reading.{NothingIsRead}
use Rattle.osdp_bus_time_laws.specs.Telling.{IsIdle, IsLost, silence_bound}
use Rattle.osdp_bus_time_laws.specs.Turns.{HasFew}

-- one send of 3 ms, no BUSY, and 4 ms of quiet
abbrev pub short_line : BusConfig
short_line = record {
  check = Sum;
  reply_wait = 3;
  poll_interval = 5;
  sends = 1;
  busy_wait = 2;
  busy_limit = 0;
  quiet_wait = 4;
  poll_between_orders = false;
  gap = 20;
  room = record { messages = 1; bytes = 1433 };
}

-- two devices that answer nothing, whose sessions begin at one moment
abbrev pub one_begun : BusState
one_begun = after_calls (Add 0 ∷ Add 1 ∷ Begin 0 0 ∷ []) (new_bus short_line)

abbrev pub two_begun : BusState
two_begun = after_call (Begin 1 0) one_begun

-- the first opens a millisecond late, is told lost as late, and so is the report taken and the next tick made
abbrev pub before_opening : List Call
before_opening = Tick 5 ∷ Tick 9 ∷ NextReport ∷ []

abbrev pub opening_calls : List Call
opening_calls = Tick 5 ∷ Tick 9 ∷ NextReport ∷ Tick 10 ∷ []

-- the opening ID of the other goes out exactly when it has to
pub record OpeningIsReached : Type 0 where
  pub config : IsBusConfig short_line
  pub accepted : begin_refusal_at 1 one_begun ≡ None
  pub in_time : KeepsTime 1 opening_calls two_begun
  pub few : HasFew 2 opening_calls two_begun
  pub not_before : IsOutstandingAt 1 (after_calls before_opening two_begun) → ⊥
  pub begins : IsOutstandingAt 1 (after_calls opening_calls two_begun)
  pub moment : (after_calls opening_calls two_begun).greatest
      ≡ two_begun.greatest + (short_line.quiet_wait + 1 + (2 - 1) * (exchange_of two_begun 1 + 1))

-- what a device says, by the byte of its address and its check: the PDID with number 0, and ACK with number 1
abbrev pub pd_id_bytes : ℕ → ℕ → List ℕ
pd_id_bytes address check = 83 ∷ address ∷ 19 ∷ 0 ∷ 0 ∷ 69 ∷ 1 ∷ 2 ∷ 3 ∷ 4 ∷ 5 ∷ 6 ∷ 0 ∷ 0 ∷ 0 ∷ 7 ∷ 8 ∷ 9 ∷ check ∷ []

abbrev pub ack_bytes : ℕ → ℕ → List ℕ
ack_bytes address check = 83 ∷ address ∷ 7 ∷ 0 ∷ 1 ∷ 64 ∷ check ∷ []

-- ---- an order

-- both sessions have opened, and the first POLL of the first has just gone out
abbrev pub both_open : BusState
both_open =
    after_calls
    (Add 0 ∷ Add 1 ∷ Begin 0 0 ∷ Begin 1 0 ∷ Tick 4 ∷ OnBytes (pd_id_bytes 128 168) 4 ∷ NextReport ∷ Tick 4 ∷ OnBytes (pd_id_bytes 129 167) 4 ∷ NextReport
    ∷ Tick 9 ∷ []) (new_bus short_line)

abbrev pub ordered : BusState
ordered = after_call (Submit 0 (Id 0)) both_open

-- each of the two devices answers its POLL by ACK at the last moment, and the ticks are on time
abbrev pub before_order : List Call
before_order = OnBytes (ack_bytes 128 229) 12 ∷ Tick 12 ∷ OnBytes (ack_bytes 129 228) 15 ∷ []

abbrev pub order_calls : List Call
order_calls = OnBytes (ack_bytes 128 229) 12 ∷ Tick 12 ∷ OnBytes (ack_bytes 129 228) 15 ∷ Tick 15 ∷ []

abbrev pub waiting_of : ℕ → BusState → List Command
waiting_of entry b = option_map_or (λ d. d.controller.waiting) (device_of entry b) []

abbrev pub asked_of : ℕ → BusState → Option Command
asked_of entry b = option_map_or (λ d. asked_in d.controller.session.state) (device_of entry b) None

-- the order of the first goes out exactly when it has to
pub record OrderIsReached : Type 0 where
  pub config : IsBusConfig short_line
  pub in_a_row : short_line.poll_between_orders ≡ false
  pub accepted : IsAccepted 0 0 (Id 0) both_open
  pub in_time : KeepsTime 0 order_calls ordered
  pub few : HasFew 2 order_calls ordered
  pub not_before : waiting_of 0 (after_calls before_order ordered) ≡ Id 0 ∷ []
  pub goes_out : asked_of 0 (after_calls order_calls ordered) ≡ Some (Id 0)
  pub moment : (after_calls order_calls ordered).greatest ≡ both_open.greatest + (0 + 1) * (2 * (exchange_of both_open 0 + 0))

-- ---- a device of which nothing is read any more

-- both sessions have just opened, and both POLLs are due 5 ms later
abbrev pub both_idle : BusState
both_idle =
    after_calls
    (Add 0 ∷ Add 1 ∷ Begin 0 0 ∷ Begin 1 0 ∷ Tick 4 ∷ OnBytes (pd_id_bytes 128 168) 4 ∷ NextReport ∷ Tick 4 ∷ OnBytes (pd_id_bytes 129 167) 4 ∷ NextReport
    ∷ []) (new_bus short_line)

-- the first has its turn, a millisecond late, and is told lost as late; then the second has its own
abbrev pub before_taken : List Call
before_taken = Tick 10 ∷ Tick 14 ∷ NextReport ∷ Tick 15 ∷ Tick 19 ∷ Tick 20 ∷ []

abbrev pub silent_calls : List Call
silent_calls = Tick 10 ∷ Tick 14 ∷ NextReport ∷ Tick 15 ∷ Tick 19 ∷ Tick 20 ∷ NextReport ∷ []

-- that the second is lost is taken exactly when it has to be
pub record SilenceIsReached : Type 0 where
  pub config : IsBusConfig short_line
  pub idle : IsIdle 1 both_idle
  pub in_time : KeepsTime 1 silent_calls both_idle
  pub few : HasFew 2 silent_calls both_idle
  pub silent : NothingIsRead 1 silent_calls both_idle
  pub lost : IsLost 1 (after_calls before_taken both_idle)
  pub moment : (after_calls before_taken both_idle).greatest ≡ both_idle.greatest + silence_bound both_idle 1 2
