-- A run in which an order goes out exactly when it has to, where a POLL stands between any two.
use Rattle.std.specs.Prelude.{◌≡◌, ℕ, ◌+◌, ◌*◌, true, List, [], ◌∷◌, Some}
use Rattle.osdp_msg.specs.declared.command.Command.TheVariants.{Id}
use Rattle.osdp_bus.specs.declared.config.BusConfig.{BusConfig}
use Rattle.osdp_bus.specs.Buses.{BusState, new_bus}
use Rattle.osdp_bus.specs.Settings.{IsBusConfig}
use Rattle.osdp_bus_laws.specs.Calls.{Call, Add, Begin, NextReport, OnBytes, Submit, Tick, after_call, after_calls}
use Rattle.osdp_bus_time_laws.specs.Clock.{KeepsTime}
use Rattle.osdp_bus_time_laws.specs.Instances.{ack_bytes, pd_id_bytes, short_line}
use Rattle.osdp_bus_time_laws.specs.Laws.{IsAccepted, exchange_of}
use Rattle.osdp_bus_time_laws.specs.Turns.{HasFew}
use Rattle.osdp_bus_order_laws.specs.Pacing.{goes_out}
use Rattle.osdp_bus_order_laws.specs.Places.{waiting_orders}

-- the line of short waits, where a POLL stands between any two orders
abbrev pub between_line : BusConfig
between_line = record short_line { poll_between_orders = true }

-- ACK with number 2, of the device at address 0
abbrev pub second_ack : List ℕ
second_ack = 83 ∷ 128 ∷ 7 ∷ 0 ∷ 2 ∷ 64 ∷ 228 ∷ []

-- two entries, of which the first has opened, and an order of it has just gone out
abbrev pub first_gone : BusState
first_gone =
    after_calls (Add 0 ∷ Add 1 ∷ Begin 0 0 ∷ Tick 4 ∷ OnBytes (pd_id_bytes 128 168) 4 ∷ NextReport ∷ Submit 0 (Id 0) ∷ Tick 4 ∷ [])
    (new_bus between_line)

-- the next order is accepted at the same moment, and waits
abbrev pub ordered : BusState
ordered = after_call (Submit 0 (Id 0)) first_gone

-- each device answers at the last moment, and the ticks are on time. The session of the other is begun so that its opening comes just before the POLL of the first, and
-- an order of the other comes just before the order of the first
abbrev pub before_it : List Call
before_it =
    OnBytes (ack_bytes 128 229) 7 ∷ NextReport ∷ Tick 7 ∷ Begin 1 8 ∷ Tick 12 ∷ OnBytes (pd_id_bytes 129 167) 15 ∷ NextReport ∷ Tick 15 ∷ Submit 1 (Id 0)
    ∷ OnBytes second_ack 18 ∷ Tick 18 ∷ OnBytes (ack_bytes 129 228) 21 ∷ NextReport ∷ []

abbrev pub with_it : List Call
with_it =
    OnBytes (ack_bytes 128 229) 7 ∷ NextReport ∷ Tick 7 ∷ Begin 1 8 ∷ Tick 12 ∷ OnBytes (pd_id_bytes 129 167) 15 ∷ NextReport ∷ Tick 15 ∷ Submit 1 (Id 0)
    ∷ OnBytes second_ack 18 ∷ Tick 18 ∷ OnBytes (ack_bytes 129 228) 21 ∷ NextReport ∷ Tick 21 ∷ []

-- the order goes out exactly when it has to
pub record OrderIsReached : Type 0 where
  pub config : IsBusConfig between_line
  pub accepted : IsAccepted 0 0 (Id 0) first_gone
  pub in_time : KeepsTime 0 with_it ordered
  pub few : HasFew 2 with_it ordered
  pub not_before : waiting_orders 0 (after_calls before_it ordered) ≡ Id 0 ∷ []
  pub goes_out : goes_out 0 (Tick 21) (after_calls before_it ordered) ≡ Some (Id 0)
  pub moment : (after_calls with_it ordered).greatest
      ≡ first_gone.greatest + (0 + 1) * (between_line.poll_interval + 2 * (2 * (exchange_of first_gone 0 + 0)))
