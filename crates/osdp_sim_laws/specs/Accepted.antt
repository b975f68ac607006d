-- What is accepted: which of the commands that a schedule issues, and which of the events that it queues.
use Rattle.std.specs.Prelude.{◌≡◌, ◌≤◌, ℕ, ◌==◌, if◌then◌else◌, List, [], ◌∷◌, ◌++◌, length, take, Result}
use Rattle.osdp_msg.specs.declared.command.Command.{Command}
use Rattle.osdp_msg.specs.declared.event.Event.{Event}
use Rattle.osdp_reader.specs.declared.handler.Answer.{Answer}
use Rattle.osdp_link_laws.specs.Reports.{command_taken as but_poll}
use Rattle.osdp_link_laws.specs.Sessions.{IsAmong, IsBeginning}
use Rattle.osdp_sim.specs.Account.{Account}
use Rattle.osdp_sim.specs.Runs.{steps_done}
use Rattle.osdp_sim.specs.declared.account.Account as declared
use Rattle.osdp_sim.specs.declared.config.SimConfig.{SimConfig}
use Rattle.osdp_sim.specs.declared.fault.Fault.{Fault}
use Rattle.osdp_sim.specs.declared.step.SimStep.{SimStep}
use Rattle.osdp_sim.specs.declared.step.SimStep.TheVariants.{Issue, Queue}
use Rattle.osdp_sim_laws.specs.Accounts.{IsAnswer, account_in}

-- what a step orders, where it names the reader of this number
abbrev pub if_named : {A : Type 0} → ℕ → ℕ → List A → List A
if_named reader number items = if number == reader then items else []

-- the commands that a schedule issues for the reader of this number, but POLL, in their order
abbrev pub commands_for : ℕ → List SimStep → List Command
commands_for reader [] = []
commands_for reader (Issue number command ∷ steps) = if_named reader number (but_poll command) ++ commands_for reader steps
commands_for reader (step ∷ steps) = commands_for reader steps

-- the events that a schedule queues for the reader of this number, in their order
abbrev pub events_for : ℕ → List SimStep → List Event
events_for reader [] = []
events_for reader (Queue number event ∷ steps) = if_named reader number (event ∷ []) ++ events_for reader steps
events_for reader (step ∷ steps) = events_for reader steps

-- the commands for the reader that is alone on its line, whose number is 1
abbrev pub commands_of : List SimStep → List Command
commands_of steps = commands_for 1 steps

-- the events for the reader that is alone on its line
abbrev pub events_of : List SimStep → List Event
events_of steps = events_for 1 steps

-- where so many may wait: all are accepted where there is room for all; else the first of them, as many as there is room for, and of
-- the others some, each once and in their order
pub record IsAccepted {A : Type 0} (room : ℕ) (all accepted : List A) : Type 0 where
  pub every : length all ≤ room → accepted ≡ all
  pub first : IsBeginning (take room all) accepted
  pub among : IsAmong accepted all

-- of the steps that were taken these commands were accepted, and these events: those for which the settings leave room
pub record IsAcceptedByRoom (config : SimConfig) (steps_taken : List SimStep) (a : Account) : Type 0 where
  pub issued : IsAccepted config.commands (commands_of steps_taken) a.issued
  pub queued : IsAccepted config.events (events_of steps_taken) a.queued

module _ {H : Type 0} (answer_of : H → Command → Answer) (after : H → Command → H) where
  -- whatever the steps are
  abbrev pub AcceptsByRoom : Type 0
  AcceptsByRoom = (config : SimConfig) (handler : H) (steps : List SimStep) (answer : Result declared.Account (Fault declared.Account))
      → IsAnswer answer_of after config handler steps answer → IsAcceptedByRoom config (steps_done steps answer) (account_in answer)
