-- How long an order waits for the exchanges of its own controller.
use Rattle.std.specs.Prelude.{◌≡◌, ℕ, ◌+◌, ◌-◌, ◌*◌, ◌<◌, ◌≤◌, Bool, true, false, if◌then◌else◌, is_some, List, [], ◌∷◌, length}
use Rattle.osdp_controller.specs.declared.config.ControllerConfig.{ControllerConfig}
use Rattle.osdp_controller.specs.declared.state.State.{State}
use Rattle.osdp_controller.specs.declared.state.State.TheVariants.{Closed, Quiet, Idle, Waiting, Pausing}
use Rattle.osdp_controller.specs.Machine.{IsMachine, Machine, withdrawn_in}
use Rattle.osdp_controller.specs.States.{is_idle}
use Rattle.osdp_controller_laws.specs.Runs.{Call, Tick, Withdraw, after_call, begins_exchange}
use Rattle.osdp_time_laws.specs.Bounds.{longest_exchange}
use Rattle.osdp_time_laws.specs.Clock.{KeepsTime}
use Rattle.osdp_time_laws.specs.Laws.{LastsAtMost}

-- a session stands, and doesn't wait for its opening
abbrev pub is_under_way : State → Bool
is_under_way Closed = false
is_under_way (Quiet until) = false
is_under_way (Idle due) = true
is_under_way (Waiting until sends o) = true
is_under_way (Pausing until o) = true

-- how many commands wait up to an order and with it: a tick asks the front one where nothing is outstanding, and orders go out one after the other. The front
-- may be taken back, too
abbrev pub left_after : Call → Machine → ℕ → ℕ
left_after (Tick now) m left = if is_idle m.session.state then left - 1 else left
left_after Withdraw m left = if is_some (withdrawn_in m.session.state m.waiting) then left - 1 else left
left_after _ m left = left

-- the order waits before each of the calls, and its session is under way; the last of them may send its first frame, or end the session
abbrev pub Waits : ℕ → List Call → Machine → Type 0
Waits left [] m = Unit {0}
Waits left (call ∷ calls) m =
    (1 ≤ left) × (is_under_way m.session.state ≡ true) × Waits (left_after call m left) calls (after_call call m)

-- for each command before it, and for the exchange that is outstanding, the longest exchange and a late tick
abbrev pub order_time : ControllerConfig → ℕ → ℕ → ℕ
order_time c late before = (before + 1) * (longest_exchange c late + late)

-- an exchange begins, and an order waits that has so many before it. Orders go out one after the other
pub record OrderWaits (late now before : ℕ) (calls : List Call) (m : Machine) : Type 0 where
  pub machine : IsMachine m
  pub begins : begins_exchange (Tick now) m ≡ true
  pub in_a_row : m.session.config.poll_between_orders ≡ false
  pub place : before < length (after_call (Tick now) m).waiting
  pub lasts : Waits (before + 1) calls (after_call (Tick now) m)
  pub in_time : KeepsTime late calls (after_call (Tick now) m)

-- its first frame has gone out in time, or its session has ended
abbrev pub OrdersGoOut : Type 0
OrdersGoOut = (late now before : ℕ) (calls : List Call) (m : Machine) → OrderWaits late now before calls m
    → LastsAtMost (order_time m.session.config late before) (Tick now) calls m
