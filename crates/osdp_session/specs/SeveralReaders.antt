-- The same of a run over a bus, for each of its readers.
use Rattle.std.specs.Prelude.{ℕ, suc, List}
use Rattle.osdp_msg.specs.declared.command.Command.{Command}
use Rattle.osdp_reader.specs.declared.handler.Answer.{Answer}
use Rattle.osdp_bus.specs.declared.config.BusConfig.{BusConfig}
use Rattle.osdp_sim.specs.Account.{Account}
use Rattle.osdp_sim.specs.declared.step.SimStep.{SimStep}
use Rattle.osdp_sim_bus.specs.Runs.{steps_done}
use Rattle.osdp_sim_bus.specs.State.{Given}
use Rattle.osdp_sim_bus_laws.specs.Accepted.{AcceptsEach}
use Rattle.osdp_sim_bus_laws.specs.Accounts.{BusAnswer, IsAnswer, IsOneSession, OfEach, WasSetUp, accounts_in}
use Rattle.osdp_sim_bus_laws.specs.Begun as begun
use Rattle.osdp_sim_laws.specs.Accounts.{SessionsEndOnce}
use Rattle.osdp_sim_laws.specs.Begun.{AreBegun}
use Rattle.osdp_sim_ledger.specs.SeveralReaders.{steps_of_reader}
use Rattle.osdp_sim_ledger.specs.Telling.{TellsByLedger}

module _ {H : Type 0} where
  module _ (answer_of : H → Command → Answer) (after : H → Command → H) (config : BusConfig) (readers : List (Given H)) where
    -- steps from the set-up came to this account of the reader at a place, which tells what the steps of its ledger come to
    pub record CameTo (k : ℕ) (given : Given H) (steps : List SimStep) (was : Account) : Type 0 where
      pub came : begun.CameTo answer_of after config readers k given steps was
      pub ledger : TellsByLedger answer_of after given.0 given.2 was (steps_of_reader answer_of after k given config readers steps)

    -- its account tells what its ledger comes to, where each of its sessions began, and how those that are over ended
    pub record TellsSessions (steps : List SimStep) (k : ℕ) (given : Given H) (a : Account) : Type 0 where
      pub ledger : TellsByLedger answer_of after given.0 given.2 a (steps_of_reader answer_of after k given config readers steps)
      pub begun : AreBegun (suc k) (CameTo k given) steps a
      pub ends : SessionsEndOnce a

    -- all that the call of `osdp_sim_bus` promises, and of each reader, once the line is set up, what `HoldsOfRun` says of one
    pub record HoldsOfBusRun (steps : List SimStep) (answer : BusAnswer) : Type 0 where
      pub run : IsAnswer answer_of after config readers steps answer
      pub room : WasSetUp answer → AcceptsEach config readers (steps_done steps answer) (accounts_in answer)
      pub sessions : WasSetUp answer → OfEach (TellsSessions (steps_done steps answer)) readers (accounts_in answer)
      pub once : WasSetUp answer → OfEach (IsOneSession answer_of after (steps_done steps answer)) readers (accounts_in answer)

  -- whatever the readers and the steps are
  abbrev pub HoldsOfEachBusRun : (H → Command → Answer) → (H → Command → H) → Type 0
  HoldsOfEachBusRun answer_of after = (config : BusConfig) (readers : List (Given H)) (steps : List SimStep) (answer : BusAnswer)
      → IsAnswer answer_of after config readers steps answer → HoldsOfBusRun answer_of after config readers steps answer
