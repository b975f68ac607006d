-- What holds of the account of a schedule.
use Rattle.std.specs.Prelude.{◌≡◌, ◌≤◌, ℕ, ◌==◌, if◌then◌else◌, All, List, [], ◌∷◌, ◌++◌, length, Result, Ok, Err, ◌⊎◌, ◌+◌}
use Rattle.osdp_msg.specs.declared.command.Command.{Command}
use Rattle.osdp_msg.specs.declared.reply.Reply.{Reply}
use Rattle.osdp_reader.specs.declared.config.ReaderConfig.{ReaderConfig}
use Rattle.osdp_reader.specs.declared.handler.Answer.{Answer}
use Rattle.osdp_link_laws.specs.Sessions.{IsBeginning}
use Rattle.osdp_link_laws.specs.OneHandler.{with_answers}
use Rattle.osdp_link_laws.specs.Refusals.{IsOtherCause}
use Rattle.osdp_link_laws.specs.Reports.{Told}
use Rattle.osdp_sim.specs.Account.{Account, lists_of}
use Rattle.osdp_sim.specs.Runs.{FitAlong, RunEnds, steps_done}
use Rattle.osdp_sim.specs.State.{set_up}
use Rattle.osdp_sim.specs.declared.account.Account as declared
use Rattle.osdp_sim.specs.declared.account.End.{End}
use Rattle.osdp_sim.specs.declared.account.End.TheVariants as ending
use Rattle.osdp_sim.specs.declared.account.Lengths.{Lengths}
use Rattle.osdp_sim.specs.declared.config.SimConfig.{SimConfig}
use Rattle.osdp_sim.specs.declared.fault.Fault.{Fault}
use Rattle.osdp_sim.specs.declared.step.SimStep.{SimStep}
use Rattle.osdp_sim.specs.declared.step.SimStep.TheVariants.{Reopen}

-- all lists are empty where the first session begins
abbrev pub no_lengths : Lengths
no_lengths = record { issued = 0; taken = 0; settled = 0; unsettled = 0; queued = 0; reported = 0; ends = 0 }

-- what the account says that was told
abbrev pub told_of : Account → Told
told_of a = record { settled = a.settled; in_doubt = a.unsettled; reported = a.reported }

-- the reader has refused no number
abbrev pub IsNoRefusal : End → Type 0
IsNoRefusal (ending.Lost cause) = IsOtherCause cause
IsNoRefusal ending.Moved = Unit {0}

-- each session has ended once, or each but the last; none because the reader refused a number
pub record SessionsEndOnce (a : Account) : Type 0 where
  pub count : (length a.ends + 1 ≡ length a.sessions) ⊎ (length a.ends ≡ length a.sessions)
  pub causes : All IsNoRefusal a.ends

-- no session begins again
abbrev pub IsInSession : SimStep → Type 0
IsInSession (Reopen number) = ⊥
IsInSession _ = Unit {0}

-- one where the step begins a session of this reader again, else none
abbrev pub reopens : ℕ → SimStep → ℕ
reopens reader (Reopen number) = if number == reader then 1 else 0
reopens reader _ = 0

-- how many of these steps do
abbrev pub reopens_in : ℕ → List SimStep → ℕ
reopens_in reader [] = 0
reopens_in reader (step ∷ steps) = reopens reader step + reopens_in reader steps

-- the account that is handed back, with a fault too
abbrev pub account_in : Result declared.Account (Fault declared.Account) → Account
account_in (Ok account) = lists_of account
account_in (Err fault) = lists_of fault.account

-- both ends were set up
abbrev pub WasSetUp : Result declared.Account (Fault declared.Account) → Type 0
WasSetUp (Ok account) = Unit {0}
WasSetUp (Err fault) = 1 ≤ fault.step

module _ {H : Type 0} (answer_of : H → Command → Answer) (after : H → Command → H) where
  -- in one session: the commands that the reader has taken are a beginning of those issued, and hold each settled one, with the answer
  -- that the reader gave, and one more at most; the events reported are a beginning of those queued
  pub record HoldsInOneSession (config : ReaderConfig) (handler : H) (a : Account) : Type 0 where
    pub taken : IsBeginning a.taken a.issued
    pub settled : (more : List (Command × Reply)) × (with_answers answer_of after config handler a.taken ≡ a.settled ++ more) × (length more ≤ 1)
    pub reported : IsBeginning a.reported a.queued
    pub ends : length a.ends ≤ 1
    pub causes : All IsNoRefusal a.ends

  -- what `run_session` answers, and what went over the line in the steps that it took
  pub record IsAnswer (config : SimConfig) (handler : H) (steps : List SimStep) (answer : Result declared.Account (Fault declared.Account)) : Type 0 where
    pub ends : RunEnds answer_of after config handler steps answer
    pub fits : FitAlong answer_of after (steps_done steps answer) (set_up config handler)

  -- whatever the steps are
  abbrev pub AnswersEndOnce : Type 0
  AnswersEndOnce = (config : SimConfig) (handler : H) (steps : List SimStep) (answer : Result declared.Account (Fault declared.Account))
      → IsAnswer config handler steps answer → WasSetUp answer → SessionsEndOnce (account_in answer)

  -- where none of the steps that were taken begins the reader's session again
  abbrev pub AnswersHoldOnce : Type 0
  AnswersHoldOnce = (config : SimConfig) (handler : H) (steps : List SimStep) (answer : Result declared.Account (Fault declared.Account))
      → IsAnswer config handler steps answer → WasSetUp answer → reopens_in 1 (steps_done steps answer) ≡ 0
      → HoldsInOneSession config.reader handler (account_in answer)
