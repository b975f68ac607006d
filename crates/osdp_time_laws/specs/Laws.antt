-- How long a controller takes, whatever the line does.
use Rattle.std.specs.Prelude.{◌≡◌, ℕ, ◌+◌, ◌≤◌, Bool, true, false, not, All, List}
use Rattle.osdp_frame.specs.Packet.{Packet}
use Rattle.osdp_controller.specs.declared.state.State.{State}
use Rattle.osdp_controller.specs.declared.state.State.TheVariants.{Closed, Quiet, Idle, Waiting, Pausing}
use Rattle.osdp_controller.specs.Answers.{is_not_taken, meaning_of}
use Rattle.osdp_controller.specs.Machine.{IsMachine, Machine, is_outstanding}
use Rattle.osdp_controller.specs.States.{is_closed, is_idle}
use Rattle.osdp_controller_laws.specs.Runs.{Call, Begin, Tick, Hear, after_call, after_calls, begins_exchange}
use Rattle.osdp_time_laws.specs.Bounds.{longest_exchange, opening_time, round_time, silence_time}
use Rattle.osdp_time_laws.specs.Clock.{KeepsTime, Stays}

-- the calls end no more than so long after the moment of the call before them
abbrev pub LastsAtMost : ℕ → Call → List Call → Machine → Type 0
LastsAtMost time call calls m =
    (after_calls calls (after_call call m)).session.greatest ≤ (after_call call m).session.greatest + time

-- no reply that is read says BUSY
abbrev pub IsNotBusy : Call → Type 0
IsNotBusy (Hear p now) = is_not_taken (meaning_of p) ≡ false
IsNotBusy _ = Unit {0}

-- nothing is read
abbrev pub IsSilent : Call → Type 0
IsSilent (Hear p now) = ⊥
IsSilent _ = Unit {0}

-- an exchange begins with a tick, and is outstanding before each of the calls that follow; the last of them may end it
pub record GoesOn (late now : ℕ) (calls : List Call) (m : Machine) : Type 0 where
  pub machine : IsMachine m
  pub begins : begins_exchange (Tick now) m ≡ true
  pub lasts : Stays is_outstanding calls (after_call (Tick now) m)
  pub in_time : KeepsTime late calls (after_call (Tick now) m)

-- an exchange ends in time, however its answers come; sooner where none of them is BUSY
pub record ExchangesEnd (late now : ℕ) (calls : List Call) (m : Machine) : Type 0 where
  pub at_most : GoesOn late now calls m → LastsAtMost (longest_exchange m.session.config late) (Tick now) calls m
  pub without_busy : GoesOn late now calls m → All IsNotBusy calls → LastsAtMost (round_time m.session.config late) (Tick now) calls m

-- a session has begun, and is neither open nor lost
abbrev pub is_opening : State → Bool
is_opening Closed = false
is_opening (Quiet until) = true
is_opening (Idle due) = false
is_opening (Waiting until sends o) = true
is_opening (Pausing until o) = true

-- a session begins, and is being opened before each of the calls that follow; the last of them may open it, or tell it lost
pub record IsOpening (late now : ℕ) (calls : List Call) (m : Machine) : Type 0 where
  pub machine : IsMachine m
  pub begins : is_closed m.session.state ≡ true
  pub lasts : Stays is_opening calls (after_call (Begin now) m)
  pub in_time : KeepsTime late calls (after_call (Begin now) m)

-- a session is open or told lost in time, and the opening ID has gone out in time
abbrev pub is_quiet : State → Bool
is_quiet (Quiet until) = true
is_quiet _ = false

pub record OpeningsEnd (late now : ℕ) (calls : List Call) (m : Machine) : Type 0 where
  pub at_most : IsOpening late now calls m → LastsAtMost (opening_time m.session.config late) (Begin now) calls m
  pub first_frame : IsOpening late now calls m → Stays is_quiet calls (after_call (Begin now) m)
      → LastsAtMost (m.session.config.quiet_wait + late) (Begin now) calls m

abbrev pub is_in_session : State → Bool
is_in_session state = not (is_closed state)

-- an answer ends an exchange, nothing is read after it, and the session goes on before each of the calls that follow; the last of them may end it
pub record FallsSilent (late : ℕ) (p : Packet) (now : ℕ) (calls : List Call) (m : Machine) : Type 0 where
  pub machine : IsMachine m
  pub outstanding : is_outstanding m.session.state ≡ true
  pub answered : is_idle (after_call (Hear p now) m).session.state ≡ true
  pub silent : All IsSilent calls
  pub lasts : Stays is_in_session calls (after_call (Hear p now) m)
  pub in_time : KeepsTime late calls (after_call (Hear p now) m)

-- a device that falls silent is told lost in time
abbrev pub SilenceIsTold : Type 0
SilenceIsTold = (late : ℕ) (p : Packet) (now : ℕ) (calls : List Call) (m : Machine) → FallsSilent late p now calls m
    → LastsAtMost (silence_time m.session.config late) (Hear p now) calls m
