-- The sessions of each reader's account: how many there are, and how long its lists were where each of them began.
use Rattle.std.specs.Prelude.{◌≡◌, ℕ, suc, List, Some, slice_get}
use Rattle.osdp_msg.specs.declared.command.Command.{Command}
use Rattle.osdp_reader.specs.declared.handler.Answer.{Answer}
use Rattle.osdp_bus.specs.declared.config.BusConfig.{BusConfig}
use Rattle.osdp_sim.specs.Account.{Account}
use Rattle.osdp_sim.specs.declared.step.SimStep.{SimStep}
use Rattle.osdp_sim_bus.specs.Runs.{run, steps_done}
use Rattle.osdp_sim_bus.specs.State.{Given, accounts, set_up}
use Rattle.osdp_sim_laws.specs.Begun.{AreBegun}
use Rattle.osdp_sim_bus_laws.specs.Accepted.{AcceptsFor}
use Rattle.osdp_sim_bus_laws.specs.Accounts.{BusAnswer, IsAnswer, WasSetUp, accounts_in}

module _ {H : Type 0} (answer_of : H → Command → Answer) (after : H → Command → H) where
  -- steps from the set-up came to this account of the reader at a place, with those of its orders in it that were accepted
  pub record CameTo (config : BusConfig) (readers : List (Given H)) (k : ℕ) (given : Given H) (steps : List SimStep) (was : Account) : Type 0 where
    pub run : slice_get (accounts (run answer_of after steps (set_up config readers))) k ≡ Some was
    pub room : AcceptsFor config.room given.1 (suc k) steps was

  -- the first session of each reader began with nothing, and each Reopen of it began one more, after what the steps before had come to for it
  abbrev pub EachIsBegun : BusConfig → List (Given H) → List SimStep → List Account → Type 0
  EachIsBegun config readers steps told = (k : ℕ) (given : Given H) → slice_get readers k ≡ Some given
      → (a : Account) × (slice_get told k ≡ Some a) × AreBegun (suc k) (CameTo config readers k given) steps a

  -- whatever the steps are, once the line was set up
  abbrev pub EachBeginsByReopens : Type 0
  EachBeginsByReopens = (config : BusConfig) (readers : List (Given H)) (steps : List SimStep) (answer : BusAnswer)
      → IsAnswer answer_of after config readers steps answer → WasSetUp answer
      → EachIsBegun config readers (steps_done steps answer) (accounts_in answer)
