-- An order from its acceptance on.
use Rattle.std.specs.Prelude.{◌≡◌, ℕ, ◌+◌, ◌≤◌, true, false, List, length, None}
use Rattle.osdp_msg.specs.declared.command.Command.{Command}
use Rattle.osdp_controller.specs.declared.config.ControllerConfig.{ControllerConfig}
use Rattle.osdp_controller.specs.declared.state.State.{State}
use Rattle.osdp_controller.specs.declared.state.State.TheVariants.{Closed, Quiet, Idle, Waiting, Pausing}
use Rattle.osdp_controller.specs.Machine.{IsMachine, Machine, new_machine, submit_refusal}
use Rattle.osdp_controller_laws.specs.Runs.{Call, Submit, after_call, after_calls}
use Rattle.osdp_time_laws.specs.Clock.{KeepsTime}
use Rattle.osdp_time_laws.specs.Laws.{LastsAtMost}
use Rattle.osdp_time_laws.specs.Orders.{Waits, is_under_way, order_time}

-- what a state waits for lies no further away than its own wait
abbrev pub WaitsItsTime : ControllerConfig → ℕ → State → Type 0
WaitsItsTime c greatest Closed = Unit {0}
WaitsItsTime c greatest (Quiet until) = until ≤ greatest + c.quiet_wait
WaitsItsTime c greatest (Idle due) = due ≤ greatest + c.poll_interval
WaitsItsTime c greatest (Waiting until sends o) = until ≤ greatest + c.reply_wait
WaitsItsTime c greatest (Pausing until o) = until ≤ greatest + c.busy_wait

abbrev pub IsTimely : Machine → Type 0
IsTimely m = WaitsItsTime m.session.config m.session.greatest m.session.state

-- it holds of a new controller, and after whatever is called
pub record StaysTimely : Type 0 where
  pub new : (config : ControllerConfig) (capacity room : ℕ) → IsTimely (new_machine config capacity room)
  pub later : (m : Machine) (calls : List Call) → IsTimely m → IsTimely (after_calls calls m)

-- a command is accepted while a session is under way, and waits. Orders go out one after the other
pub record IsAccepted (late : ℕ) (command : Command) (calls : List Call) (m : Machine) : Type 0 where
  pub machine : IsMachine m
  pub timely : IsTimely m
  pub under_way : is_under_way m.session.state ≡ true
  pub in_a_row : m.session.config.poll_between_orders ≡ false
  pub accepted : submit_refusal command m ≡ None
  pub lasts : Waits (length m.waiting + 1) calls (after_call (Submit command) m)
  pub in_time : KeepsTime late calls (after_call (Submit command) m)

-- its first frame has gone out in time, or its session has ended
abbrev pub AcceptedOrdersGoOut : Type 0
AcceptedOrdersGoOut = (late : ℕ) (command : Command) (calls : List Call) (m : Machine) → IsAccepted late command calls m
    → LastsAtMost (order_time m.session.config late (length m.waiting)) (Submit command) calls m
