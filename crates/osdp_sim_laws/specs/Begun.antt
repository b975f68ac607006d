-- The sessions of an account: how many there are, and how long its lists were where each of them began.
use Rattle.std.specs.Prelude.{◌≡◌, ◌+◌, ℕ, List, ◌∷◌, ◌++◌, length, Option, Some, slice_get, Result}
use Rattle.osdp_msg.specs.declared.command.Command.{Command}
use Rattle.osdp_reader.specs.declared.handler.Answer.{Answer}
use Rattle.osdp_link_laws.specs.Sessions.{IsBeginning}
use Rattle.osdp_sim.specs.Account.{Account, lengths_of}
use Rattle.osdp_sim.specs.Runs.{run, steps_done}
use Rattle.osdp_sim.specs.State.{set_up}
use Rattle.osdp_sim.specs.declared.account.Account as declared
use Rattle.osdp_sim.specs.declared.account.Lengths.{Lengths}
use Rattle.osdp_sim.specs.declared.config.SimConfig.{SimConfig}
use Rattle.osdp_sim.specs.declared.fault.Fault.{Fault}
use Rattle.osdp_sim.specs.declared.step.SimStep.{SimStep}
use Rattle.osdp_sim.specs.declared.step.SimStep.TheVariants.{Reopen}
use Rattle.osdp_sim_laws.specs.Accepted.{IsAcceptedByRoom}
use Rattle.osdp_sim_laws.specs.Accounts.{IsAnswer, WasSetUp, account_in, no_lengths, reopens_in}

-- the account keeps of this session how long all lists of an earlier account were; its commands and events begin with those of the earlier one
pub record BeginsAfter (was a : Account) (begun : Option Lengths) : Type 0 where
  pub lengths : begun ≡ Some (lengths_of was)
  pub issued : IsBeginning was.issued a.issued
  pub queued : IsBeginning was.queued a.queued

-- the sessions of a reader after these steps, none of which was refused: the first began with nothing, and each Reopen of this reader began one
-- more, in the order of the steps, after what the steps before it had come to
pub record AreBegun (reader : ℕ) (CameTo : List SimStep → Account → Type 0) (steps : List SimStep) (a : Account) : Type 0 where
  pub count : length a.sessions ≡ 1 + reopens_in reader steps
  pub first : slice_get a.sessions 0 ≡ Some no_lengths
  pub each : (before later : List SimStep) → steps ≡ before ++ Reopen reader ∷ later
      → (was : Account) × CameTo before was × BeginsAfter was a (slice_get a.sessions (1 + reopens_in reader before))

module _ {H : Type 0} (answer_of : H → Command → Answer) (after : H → Command → H) where
  -- steps from the set-up came to this account, with the orders in it for which there was room
  pub record CameTo (config : SimConfig) (handler : H) (steps : List SimStep) (was : Account) : Type 0 where
    pub run : was ≡ (run answer_of after steps (set_up config handler)).account
    pub room : IsAcceptedByRoom config steps was

  -- whatever the steps are, once both ends were set up
  abbrev pub BeginsByReopens : Type 0
  BeginsByReopens = (config : SimConfig) (handler : H) (steps : List SimStep) (answer : Result declared.Account (Fault declared.Account))
      → IsAnswer answer_of after config handler steps answer → WasSetUp answer
      → AreBegun 1 (CameTo config handler) (steps_done steps answer) (account_in answer)
