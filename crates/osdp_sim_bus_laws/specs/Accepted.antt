-- What is accepted for each of several readers.
use Rattle.std.specs.Prelude.{◌≡◌, ℕ, suc, All, List, None, Some, slice_get}
use Rattle.osdp_msg.specs.declared.command.Command.{Command}
use Rattle.osdp_msg.specs.declared.limits.Room.{Room}
use Rattle.osdp_controller.specs.Hearing.{comset_of}
use Rattle.osdp_reader.specs.declared.handler.Answer.{Answer}
use Rattle.osdp_bus.specs.declared.config.BusConfig.{BusConfig}
use Rattle.osdp_link_laws.specs.Sessions.{IsAmong}
use Rattle.osdp_sim.specs.Account.{Account}
use Rattle.osdp_sim.specs.State.{room_for}
use Rattle.osdp_sim.specs.declared.step.SimStep.{SimStep}
use Rattle.osdp_sim_bus.specs.Runs.{steps_done}
use Rattle.osdp_sim_bus.specs.State.{Given}
use Rattle.osdp_sim_laws.specs.Accepted.{IsAccepted, commands_for, events_for}
use Rattle.osdp_sim_bus_laws.specs.Accounts.{BusAnswer, IsAnswer, WasSetUp, accounts_in}

-- a COMSET is refused too where another device takes up its address
abbrev pub IsNoComset : Command → Type 0
IsNoComset command = comset_of command ≡ None

-- Of the orders for the reader of this number some are accepted, each once and in their order; where none is a COMSET, and there is room for as many
-- as may wait however long each is, those for which there is room. So it is of its events.
pub record AcceptsFor (commands : Room) (events number : ℕ) (steps_taken : List SimStep) (a : Account) : Type 0 where
  pub among : IsAmong a.issued (commands_for number steps_taken)
  pub issued : commands ≡ room_for commands.messages → All IsNoComset (commands_for number steps_taken)
      → IsAccepted commands.messages (commands_for number steps_taken) a.issued
  pub queued : IsAccepted events (events_for number steps_taken) a.queued

module _ {H : Type 0} where
  -- of the steps that were taken, for each reader: these commands were accepted for it, and these events
  abbrev pub AcceptsEach : BusConfig → List (Given H) → List SimStep → List Account → Type 0
  AcceptsEach config readers steps_taken told = (k : ℕ) (given : Given H) → slice_get readers k ≡ Some given
      → (a : Account) × (slice_get told k ≡ Some a) × AcceptsFor config.room given.1 (suc k) steps_taken a

  -- whatever the steps are
  abbrev pub EachAccepts : (H → Command → Answer) → (H → Command → H) → Type 0
  EachAccepts answer_of after = (config : BusConfig) (readers : List (Given H)) (steps : List SimStep) (answer : BusAnswer)
      → IsAnswer answer_of after config readers steps answer → WasSetUp answer
      → AcceptsEach config readers (steps_done steps answer) (accounts_in answer)
