-- A run over a line with one reader keeps the ledger. Its steps are those of the moves that the steps of the schedule are.
use Rattle.std.specs.Prelude.{◌≡◌, List, ◌++◌, Result}
use Rattle.osdp_msg.specs.declared.command.Command.{Command}
use Rattle.osdp_reader.specs.declared.handler.Answer.{Answer}
use Rattle.osdp_ledger.specs.Ledger.{Step}
use Rattle.osdp_link_ledger.specs.Steps.{steps_from}
use Rattle.osdp_sim.specs.Runs.{run, steps_done}
use Rattle.osdp_sim.specs.State.{set_up}
use Rattle.osdp_sim.specs.declared.account.Account.{Account}
use Rattle.osdp_sim.specs.declared.config.SimConfig.{SimConfig}
use Rattle.osdp_sim.specs.declared.fault.Fault.{Fault}
use Rattle.osdp_sim.specs.declared.step.SimStep.{SimStep}
use Rattle.osdp_sim_laws.specs.Accounts.{IsAnswer, WasSetUp, account_in}
use Rattle.osdp_sim_laws.specs.Moves.{first_link, moves_of}
use Rattle.osdp_sim_ledger.specs.Telling.{TellsByLedger}

module _ {H : Type 0} (answer_of : H → Command → Answer) (after : H → Command → H) where
  -- the steps of the ledger in a run of these steps of a schedule
  abbrev pub steps_of_run : SimConfig → H → List SimStep → List Step
  steps_of_run config handler steps = steps_from answer_of after (moves_of steps 0) (first_link config handler)

  -- the account that these steps come to tells what their ledger's steps come to
  abbrev pub RunTellsLedger : SimConfig → H → List SimStep → Type 0
  RunTellsLedger config handler steps =
      TellsByLedger answer_of after config.reader handler (run answer_of after steps (set_up config handler)).account (steps_of_run config handler steps)

  -- of what `run_session` answers, with a fault too: once both ends were set up, for the steps that it took, and for each beginning of them
  pub record RunKeeps (config : SimConfig) (handler : H) (steps : List SimStep) (answer : Result Account (Fault Account)) : Type 0 where
    pub whole : TellsByLedger answer_of after config.reader handler (account_in answer) (steps_of_run config handler (steps_done steps answer))
    pub until : (before later : List SimStep) → steps_done steps answer ≡ before ++ later → RunTellsLedger config handler before

  -- whatever the steps of the schedule are
  abbrev pub RunKeepsLedger : Type 0
  RunKeepsLedger = (config : SimConfig) (handler : H) (steps : List SimStep) (answer : Result Account (Fault Account))
      → IsAnswer answer_of after config handler steps answer → WasSetUp answer → RunKeeps config handler steps answer
