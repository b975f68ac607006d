-- The run of a schedule over any state: what each step does to it, where it stops, and how it ends.
use Rattle.std.specs.Prelude.{◌≡◌, ℕ, suc, zero, ◌≤◌, ◌-◌, Bool, true, ◌&&◌, is_none, List, [], ◌∷◌, length, take, drop, Option, Some, None, Result, Ok, Err}
use Rattle.osdp_sim.specs.declared.fault.Cause.{Cause}
use Rattle.osdp_sim.specs.declared.fault.Cause.TheVariants.{HoldsPacket, NoMemory, NotQuiet, OutOfRange}
use Rattle.osdp_sim.specs.declared.fault.Fault.{Fault}
use Rattle.osdp_sim.specs.declared.step.SimStep.{SimStep}

-- the cause of a stop: a refusal is looked at before memory is asked for
abbrev pub IsCause : Cause → Option Cause → Type 0
IsCause HoldsPacket fault = fault ≡ Some HoldsPacket
IsCause NotQuiet fault = fault ≡ Some NotQuiet
IsCause NoMemory fault = fault ≡ None
IsCause OutOfRange fault = ⊥

-- why nothing was set up, by what says that the settings are in their ranges: they are judged before memory is asked for
abbrev pub IsSetUpCause : Cause → Type 0 → Type 0
IsSetUpCause OutOfRange AreSettings = AreSettings → ⊥
IsSetUpCause NoMemory AreSettings = AreSettings
IsSetUpCause HoldsPacket AreSettings = ⊥
IsSetUpCause NotQuiet AreSettings = ⊥

-- the steps that were taken
abbrev pub steps_done : {T : Type 0} → List SimStep → Result T (Fault T) → List SimStep
steps_done steps (Ok told) = steps
steps_done steps (Err fault) = take (fault.step - 1) steps

module _ {S : Type 0} where
  -- why the first of these steps is refused
  abbrev pub first_fault : (SimStep → S → Option Cause) → List SimStep → S → Option Cause
  first_fault fault_of [] s = None
  first_fault fault_of (step ∷ steps) s = fault_of step s

  module _ (after_step : SimStep → S → S) where
    -- the state after these steps
    abbrev pub run : List SimStep → S → S
    run [] s = s
    run (step ∷ steps) s = run steps (after_step step s)

    -- each step meets this where it is taken
    abbrev pub HoldsAlong : (SimStep → S → Type 0) → List SimStep → S → Type 0
    HoldsAlong Holds [] s = Unit {0}
    HoldsAlong Holds (step ∷ steps) s = Holds step s × HoldsAlong Holds steps (after_step step s)

    module _ (fault_of : SimStep → S → Option Cause) where
      -- none of them is refused
      abbrev pub is_well : List SimStep → S → Bool
      is_well [] s = true
      is_well (step ∷ steps) s = is_none (fault_of step s) && is_well steps (after_step step s)

      -- the run stops at a step, counted from 1; what is told is that of the steps before it
      pub record StopsAt {A : Type 0} (account_of : S → A) (at : ℕ) (why : Cause) (lists : A) (steps : List SimStep) (s : S) : Type 0 where
        pub within : at ≤ length steps
        pub well : is_well (take (at - 1) steps) s ≡ true
        pub cause : IsCause why (first_fault fault_of (drop (at - 1) steps) (run (take (at - 1) steps) s))
        pub account : lists ≡ account_of (run (take (at - 1) steps) s)

      module _ {T A : Type 0} (lists_of : T → A) (account_of : S → A) where
        -- all these steps were taken, or the run stops at one of them
        abbrev pub RunsTo : List SimStep → S → Result T (Fault T) → Type 0
        RunsTo steps s (Ok told) = (is_well steps s ≡ true) × (lists_of told ≡ account_of (run steps s))
        RunsTo steps s (Err fault) =
            (1 ≤ fault.step) × StopsAt account_of fault.step fault.cause (lists_of fault.account) steps s

      -- it stops at a step, or nothing was set up and nothing is told
      abbrev pub Stops : {A : Type 0} → (S → A) → Type 0 → A → ℕ → Cause → A → List SimStep → S → Type 0
      Stops account_of AreSettings nothing zero why lists steps start = IsSetUpCause why AreSettings × (lists ≡ nothing)
      Stops account_of AreSettings nothing (suc before) why lists steps start =
          AreSettings × StopsAt account_of (suc before) why lists steps start

      -- the answer of a run that began with the settings
      abbrev pub RunEnds : {T A : Type 0} → (T → A) → (S → A) → Type 0 → A → List SimStep → S → Result T (Fault T) → Type 0
      RunEnds lists_of account_of AreSettings nothing steps start (Ok told) =
          AreSettings × (is_well steps start ≡ true) × (lists_of told ≡ account_of (run steps start))
      RunEnds lists_of account_of AreSettings nothing steps start (Err fault) =
          Stops account_of AreSettings nothing fault.step fault.cause (lists_of fault.account) steps start
