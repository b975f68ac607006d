-- What holds of a run over a line with one reader.
use Rattle.std.specs.Prelude.{◌≡◌, List, Result}
use Rattle.osdp_msg.specs.declared.command.Command.{Command}
use Rattle.osdp_reader.specs.declared.handler.Answer.{Answer}
use Rattle.osdp_sim.specs.Account as account
use Rattle.osdp_sim.specs.Runs.{steps_done}
use Rattle.osdp_sim.specs.declared.account.Account.{Account}
use Rattle.osdp_sim.specs.declared.config.SimConfig.{SimConfig}
use Rattle.osdp_sim.specs.declared.fault.Fault.{Fault}
use Rattle.osdp_sim.specs.declared.step.SimStep.{SimStep}
use Rattle.osdp_sim_laws.specs.Accepted.{IsAcceptedByRoom}
use Rattle.osdp_sim_laws.specs.Accounts.{SessionsEndOnce, IsAnswer, HoldsInOneSession, WasSetUp, account_in, reopens_in}
use Rattle.osdp_sim_laws.specs.Begun as begun
use Rattle.osdp_sim_laws.specs.Begun.{AreBegun}
use Rattle.osdp_sim_ledger.specs.OneReader.{steps_of_run}
use Rattle.osdp_sim_ledger.specs.Telling.{TellsByLedger}

module _ {H : Type 0} (answer_of : H → Command → Answer) (after : H → Command → H) where
  -- steps from the set-up came to this account, which tells what their ledger comes to
  pub record CameTo (config : SimConfig) (handler : H) (steps : List SimStep) (was : account.Account) : Type 0 where
    pub came : begun.CameTo answer_of after config handler steps was
    pub ledger : TellsByLedger answer_of after config.reader handler was (steps_of_run answer_of after config handler steps)

  -- the account of these steps tells what their ledger comes to, where each session began, and how those that are over ended. Only a Reopen of reader 1,
  -- which is the one that there is, begins one again.
  pub record TellsSessions (config : SimConfig) (handler : H) (steps : List SimStep) (a : account.Account) : Type 0 where
    pub ledger : TellsByLedger answer_of after config.reader handler a (steps_of_run answer_of after config handler steps)
    pub begun : AreBegun 1 (CameTo config handler) steps a
    pub ends : SessionsEndOnce a

  -- all that the call of `osdp_sim` promises; which of the orders were accepted; once both ends are set up, what the account tells of its sessions; and
  -- the promise in plain lists where there is one session
  pub record HoldsOfRun (config : SimConfig) (handler : H) (steps : List SimStep) (answer : Result Account (Fault Account)) : Type 0 where
    pub run : IsAnswer answer_of after config handler steps answer
    pub room : IsAcceptedByRoom config (steps_done steps answer) (account_in answer)
    pub sessions : WasSetUp answer → TellsSessions config handler (steps_done steps answer) (account_in answer)
    pub once : WasSetUp answer → reopens_in 1 (steps_done steps answer) ≡ 0 → HoldsInOneSession answer_of after config.reader handler (account_in answer)

  -- whatever the steps are
  abbrev pub HoldsOfEachRun : Type 0
  HoldsOfEachRun = (config : SimConfig) (handler : H) (steps : List SimStep) (answer : Result Account (Fault Account))
      → IsAnswer answer_of after config handler steps answer → HoldsOfRun config handler steps answer
