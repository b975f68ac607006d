-- Runs that take as long as the laws allow, to the millisecond.
use Rattle.std.specs.Prelude.{◌≡◌, ℕ, ◌+◌, false, true, All, List, [], ◌∷◌}
use Rattle.osdp_frame.specs.declared.check_kind.CheckKind.TheVariants.{Sum}
use Rattle.osdp_frame.specs.Packet.{Packet}
use Rattle.osdp_msg.specs.declared.command.Command.TheVariants.{Id}
use Rattle.osdp_controller.specs.declared.config.ControllerConfig.{ControllerConfig}
use Rattle.osdp_controller.specs.declared.exchange.Exchange.TheVariants.{Polling}
use Rattle.osdp_controller.specs.declared.state.State.{State}
use Rattle.osdp_controller.specs.declared.state.State.TheVariants.{Closed, Idle, Waiting}
use Rattle.osdp_controller.specs.Machine.{Machine}
use Rattle.osdp_controller_laws.specs.Runs.{Call, Begin, Hear, Submit, Tick, after_call, after_calls}
use Rattle.osdp_time_laws.specs.Acceptance.{IsAccepted}
use Rattle.osdp_time_laws.specs.Bounds.{longest_exchange, opening_time, round_time, silence_time}
use Rattle.osdp_time_laws.specs.Orders.{OrderWaits, order_time}
use Rattle.osdp_time_laws.specs.Laws.{FallsSilent, GoesOn, IsNotBusy, IsOpening}

-- two sends of 3 ms each, one BUSY with a pause of 2 ms, a POLL after 5 ms, 4 ms of quiet; ticks come up to 1 ms late
abbrev pub short_waits : ControllerConfig
short_waits =
    record { address = 0; check = Sum; reply_wait = 3; poll_interval = 5; sends = 2; busy_wait = 2; busy_limit = 1; quiet_wait = 4; poll_between_orders = false }

abbrev pub machine_in : State → ℕ → Machine
machine_in state number = record {
  session = record { config = short_waits; state = state; number = number; asked = false; greatest = 0 };
  waiting = [];
  capacity = 1;
  room = 1433;
}

abbrev pub reply_of_one : ℕ → ℕ → Packet
reply_of_one number code =
    record { reply = true; address = 0; sequence = number; check = Sum; block = false; reserved = 0; body = code ∷ [] }

abbrev pub busy : Packet
busy = reply_of_one 0 0x79

abbrev pub ack : Packet
ack = reply_of_one 1 0x40

-- a POLL is sent twice, answered BUSY at the last moment, sent twice more after the pause, and given up: each tick is 1 ms late
abbrev pub slow_calls : List Call
slow_calls = Tick 4 ∷ Hear busy 8 ∷ Tick 8 ∷ Tick 11 ∷ Tick 15 ∷ Tick 19 ∷ []

-- the same without BUSY
abbrev pub dead_calls : List Call
dead_calls = Tick 4 ∷ Tick 8 ∷ []

-- an opening ID in place of the POLL
abbrev pub opening_calls : List Call
opening_calls = Tick 5 ∷ Tick 9 ∷ Hear busy 13 ∷ Tick 13 ∷ Tick 16 ∷ Tick 20 ∷ Tick 24 ∷ []

-- a POLL after the last answer, and its repeat
abbrev pub silent_calls : List Call
silent_calls = Tick 6 ∷ Tick 10 ∷ Tick 14 ∷ []

abbrev pub outstanding_poll : State
outstanding_poll = Waiting 3 1 (record { exchange = Polling; busies = 0; sent = 1 })

-- the same with ticks on time, and an order in place of the POLL, while another waits: the first is answered at the last moment
abbrev pub two_orders : Machine
two_orders = record (machine_in (Idle 0) 0) { waiting = Id 0 ∷ Id 0 ∷ []; capacity = 2; room = 2866 }

abbrev pub order_calls : List Call
order_calls = Tick 3 ∷ Hear busy 6 ∷ Tick 6 ∷ Tick 8 ∷ Tick 11 ∷ Hear ack 14 ∷ Tick 14 ∷ []

-- the same order, accepted at the moment at which the one before it has gone out
abbrev pub one_order : Machine
one_order = after_call (Tick 0) (record (machine_in (Idle 0) 0) { waiting = Id 0 ∷ []; capacity = 2; room = 2866 })

-- the last call comes exactly so long after the moment of the call before them
abbrev pub LastsExactly : ℕ → Call → List Call → Machine → Type 0
LastsExactly time call calls m = (after_calls calls (after_call call m)).session.greatest ≡ (after_call call m).session.greatest + time

-- each bound is reached
pub record BoundsAreReached : Type 0 where
  pub slow : GoesOn 1 0 slow_calls (machine_in (Idle 0) 0)
  pub exchange : LastsExactly (longest_exchange short_waits 1) (Tick 0) slow_calls (machine_in (Idle 0) 0)
  pub dead : GoesOn 1 0 dead_calls (machine_in (Idle 0) 0)
  pub not_busy : All IsNotBusy dead_calls
  pub round : LastsExactly (round_time short_waits 1) (Tick 0) dead_calls (machine_in (Idle 0) 0)
  pub begins : IsOpening 1 0 opening_calls (machine_in Closed 0)
  pub opening : LastsExactly (opening_time short_waits 1) (Begin 0) opening_calls (machine_in Closed 0)
  pub order_waits : OrderWaits 0 0 0 order_calls two_orders
  pub order : LastsExactly (order_time short_waits 0 0) (Tick 0) order_calls two_orders
  pub falls : FallsSilent 1 ack 0 silent_calls (machine_in outstanding_poll 1)
  pub silence : LastsExactly (silence_time short_waits 1) (Hear ack 0) silent_calls (machine_in outstanding_poll 1)
  pub accepted : IsAccepted 0 (Id 0) order_calls one_order
  pub acceptance : LastsExactly (order_time short_waits 0 0) (Submit (Id 0)) order_calls one_order
