-- A run that stops is told as it stopped.
use Rattle.osdp_tool_sim.proofs.Common.{◌≡◌, ◌≤◌, ◌-◌, ℕ, List, Option, take, Result, refl, sym, subst, Cause, SimStep, ToolFault, EndsBy, RunTells, steps_taken}
use Rattle.osdp_sim.specs.declared.fault.Cause.TheVariants as cause
use Rattle.osdp_sim.specs.Schedules.{StopsAt}

module _ {S A : Type 0} (after_step : SimStep → S → S) (fault_of : SimStep → S → Option Cause) (account_of : S → A) where
  -- the run that this end tells, and the steps that were taken
  abbrev pub IsTold : ℕ → A → List SimStep → S → Result (Unit {0}) ToolFault → Type 0
  IsTold step told steps start end =
      RunTells after_step fault_of account_of end told steps start × (steps_taken end steps ≡ take (step - 1) steps)

  pub stop_is_told : (why : Cause) (step : ℕ) (end : Result (Unit {0}) ToolFault) (told : A) (steps : List SimStep) (start : S) → EndsBy why step end
      → (1 ≤ step) × StopsAt after_step fault_of account_of step why told steps start → IsTold step told steps start end
  stop_is_told cause.HoldsPacket step end told steps start is stops = subst (IsTold step told steps start) (sym is) (stops, refl)
  stop_is_told cause.NotQuiet step end told steps start is stops = subst (IsTold step told steps start) (sym is) (stops, refl)
  stop_is_told cause.NoMemory step end told steps start is stops = absurd is
  stop_is_told cause.OutOfRange step end told steps start is stops = absurd is
