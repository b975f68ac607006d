-- What the accounts of a schedule over a bus are, and what holds of each of them: for each reader what holds of one alone.
use Rattle.std.specs.Prelude.{◌≡◌, ◌≤◌, ℕ, suc, true, List, length, Result, Ok, Err, Some, slice_get}
use Rattle.std.specs.Global.{Vec}
use Rattle.osdp_msg.specs.declared.command.Command.{Command}
use Rattle.osdp_reader.specs.declared.handler.Answer.{Answer}
use Rattle.osdp_bus.specs.declared.config.BusConfig.{BusConfig}
use Rattle.osdp_sim.specs.Account.{Account}
use Rattle.osdp_sim.specs.declared.account.Account as declared
use Rattle.osdp_sim.specs.declared.fault.Fault.{Fault}
use Rattle.osdp_sim.specs.declared.step.SimStep.{SimStep}
use Rattle.osdp_sim_bus.specs.Runs.{AreSettings, FitAlong, RunEnds, is_well, lists_of_all, steps_done}
use Rattle.osdp_sim_bus.specs.State.{Given, set_up}
use Rattle.osdp_sim_laws.specs.Accounts.{SessionsEndOnce, HoldsInOneSession, reopens_in}

-- what `run_bus` answers: an account for each reader, or a fault with those of the steps before it
abbrev pub BusAnswer : Type 0
BusAnswer = Result (Vec declared.Account) (Fault (Vec declared.Account))

-- the accounts that are handed back, with a fault too
abbrev pub accounts_in : BusAnswer → List Account
accounts_in (Ok told) = lists_of_all told.items
accounts_in (Err fault) = lists_of_all fault.account.items

-- the bus and its readers were set up
abbrev pub WasSetUp : BusAnswer → Type 0
WasSetUp (Ok told) = Unit {0}
WasSetUp (Err fault) = 1 ≤ fault.step

module _ {H : Type 0} where
  -- there are as many accounts as readers, in their order, and of each this holds
  pub record OfEach (Holds : ℕ → Given H → Account → Type 0) (readers : List (Given H)) (told : List Account) : Type 0 where
    pub count : length told ≡ length readers
    pub each : (k : ℕ) (given : Given H) → slice_get readers k ≡ Some given → (a : Account) × (slice_get told k ≡ Some a) × Holds k given a

  module _ (answer_of : H → Command → Answer) (after : H → Command → H) where
    -- what `run_bus` answers, and what went over the line in the steps that it took
    pub record IsAnswer (config : BusConfig) (readers : List (Given H)) (steps : List SimStep) (answer : BusAnswer) : Type 0 where
      pub ends : RunEnds answer_of after config readers steps answer
      pub fits : FitAlong answer_of after (steps_done steps answer) (set_up config readers)

    -- a schedule whose settings are in their ranges, of which no step is refused, and what goes over the line in it fits
    pub record IsRun (config : BusConfig) (readers : List (Given H)) (steps : List SimStep) : Type 0 where
      pub settings : AreSettings config readers
      pub well : is_well answer_of after steps (set_up config readers) ≡ true
      pub fits : FitAlong answer_of after steps (set_up config readers)

    -- whatever the steps are, for each reader
    abbrev pub AccountsEndOnce : Type 0
    AccountsEndOnce = (config : BusConfig) (readers : List (Given H)) (steps : List SimStep) (answer : BusAnswer)
        → IsAnswer config readers steps answer → WasSetUp answer → OfEach (λ k given a. SessionsEndOnce a) readers (accounts_in answer)

    -- the promise in plain lists, of a reader whose session no step begins again, whatever the sessions of others do
    abbrev pub IsOneSession : List SimStep → ℕ → Given H → Account → Type 0
    IsOneSession steps k given a = reopens_in (suc k) steps ≡ 0 → HoldsInOneSession answer_of after given.0 given.2 a

    -- whatever the steps are, for each reader
    abbrev pub AccountsAreOnce : Type 0
    AccountsAreOnce = (config : BusConfig) (readers : List (Given H)) (steps : List SimStep) (answer : BusAnswer)
        → IsAnswer config readers steps answer → WasSetUp answer → OfEach (IsOneSession (steps_done steps answer)) readers (accounts_in answer)
