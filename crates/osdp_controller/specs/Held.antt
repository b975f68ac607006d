-- How the state of a session is held: its parts, and the bytes of the command that is on its way.
use Rattle.std.specs.Prelude.{ℕ, List, Option}
use Rattle.osdp_msg.specs.declared.command.Command.{Command}
use Rattle.osdp_msg.specs.Kept.{command_kept}
use Rattle.osdp_controller.specs.declared.exchange.Asked.{Asked}
use Rattle.osdp_controller.specs.declared.exchange.Asked.TheVariants as asked
use Rattle.osdp_controller.specs.declared.exchange.Exchange.{Exchange}
use Rattle.osdp_controller.specs.declared.exchange.Exchange.TheVariants.{Opening, Polling, Asking}
use Rattle.osdp_controller.specs.declared.exchange.Outstanding.{Outstanding}
use Rattle.osdp_controller.specs.declared.state.Progress.{Progress}
use Rattle.osdp_controller.specs.declared.state.Stage.{Stage}
use Rattle.osdp_controller.specs.declared.state.Stage.TheVariants as stages
use Rattle.osdp_controller.specs.declared.state.State.{State}
use Rattle.osdp_controller.specs.declared.state.State.TheVariants.{Closed, Quiet, Idle, Waiting, Pausing}
use Rattle.osdp_controller.specs.Exchanges.{submitted_command}

-- the exchange that what is asked and the command that is kept make
abbrev pub exchange_of : Asked → Command → Exchange
exchange_of asked.Opening command = Opening
exchange_of asked.Polling command = Polling
exchange_of asked.Submitted command = Asking command

-- the state that a stage, its moment, its sends and an exchange make
abbrev pub state_of : Stage → ℕ → ℕ → Outstanding → State
state_of stages.Closed moment sends o = Closed
state_of stages.Quiet moment sends o = Quiet moment
state_of stages.Idle moment sends o = Idle moment
state_of stages.Waiting moment sends o = Waiting moment sends o
state_of stages.Pausing moment sends o = Pausing moment o

-- the state that its parts and the bytes of a command make
abbrev pub state_in : Progress → List ℕ → State
state_in p bytes = state_of p.stage p.moment p.sends (record {
  exchange = exchange_of p.asked (command_kept bytes);
  busies = p.busies;
  sent = p.sent;
})

-- the stage of a state
abbrev pub stage_of : State → Stage
stage_of Closed = stages.Closed
stage_of (Quiet until) = stages.Quiet
stage_of (Idle due) = stages.Idle
stage_of (Waiting until sends o) = stages.Waiting
stage_of (Pausing until o) = stages.Pausing

-- the outstanding exchange; where none is, a POLL that was never sent
abbrev pub outstanding_in : State → Outstanding
outstanding_in (Waiting until sends o) = o
outstanding_in (Pausing until o) = o
outstanding_in _ = record { exchange = Polling; busies = 0; sent = 0 }

-- the command that is on its way: it was sent, and waits for its answer
abbrev pub on_its_way : State → Option Command
on_its_way state = submitted_command (outstanding_in state).exchange

-- the sends since the exchange began or was last answered BUSY
abbrev pub sends_in : State → ℕ
sends_in (Waiting until sends o) = sends
sends_in _ = 0
