-- A run over a bus keeps the ledger of each reader. Its steps are those of the moves that the steps of the schedule are to the link of this reader.
use Rattle.std.specs.Prelude.{◌≡◌, ℕ, List, ◌++◌, Some, slice_get}
use Rattle.osdp_msg.specs.declared.command.Command.{Command}
use Rattle.osdp_bus.specs.declared.config.BusConfig.{BusConfig}
use Rattle.osdp_reader.specs.declared.handler.Answer.{Answer}
use Rattle.osdp_ledger.specs.Ledger.{Step}
use Rattle.osdp_line_ledger.specs.Laws.{steps_at}
use Rattle.osdp_sim.specs.Account.{Account}
use Rattle.osdp_sim.specs.declared.step.SimStep.{SimStep}
use Rattle.osdp_sim_bus.specs.Runs.{run, steps_done}
use Rattle.osdp_sim_bus.specs.State.{Given, accounts, set_up}
use Rattle.osdp_sim_bus_laws.specs.Accounts.{BusAnswer, IsAnswer, WasSetUp, accounts_in}
use Rattle.osdp_sim_bus_laws.specs.Moves.{first_net, first_site, moves_of}
use Rattle.osdp_sim_ledger.specs.Telling.{TellsByLedger}

module _ {H : Type 0} (answer_of : H → Command → Answer) (after : H → Command → H) where
  -- the steps of the ledger of the reader at this place, in a run of these steps of a schedule
  abbrev pub steps_of_reader : ℕ → Given H → BusConfig → List (Given H) → List SimStep → List Step
  steps_of_reader k given config readers steps =
      steps_at answer_of after k (first_site config given) (moves_of answer_of after steps (set_up config readers)) (first_net config readers)

  -- after these steps each reader has an account, which tells what the steps of its ledger come to
  abbrev pub EachReaderKeepsLedger : BusConfig → List (Given H) → List SimStep → List Account → Type 0
  EachReaderKeepsLedger config readers steps told = (k : ℕ) (given : Given H) → slice_get readers k ≡ Some given
      → (a : Account) × (slice_get told k ≡ Some a) × TellsByLedger answer_of after given.0 given.2 a (steps_of_reader k given config readers steps)

  -- of what `run_bus` answers, with a fault too: once the line was set up, for the steps that it took, and for each beginning of them
  pub record BusRunKeeps (config : BusConfig) (readers : List (Given H)) (steps : List SimStep) (answer : BusAnswer) : Type 0 where
    pub whole : EachReaderKeepsLedger config readers (steps_done steps answer) (accounts_in answer)
    pub until : (before later : List SimStep) → steps_done steps answer ≡ before ++ later
        → EachReaderKeepsLedger config readers before (accounts (run answer_of after before (set_up config readers)))

  -- whatever the steps of the schedule are
  abbrev pub BusRunKeepsLedgers : Type 0
  BusRunKeepsLedgers = (config : BusConfig) (readers : List (Given H)) (steps : List SimStep) (answer : BusAnswer)
      → IsAnswer answer_of after config readers steps answer → WasSetUp answer → BusRunKeeps config readers steps answer
