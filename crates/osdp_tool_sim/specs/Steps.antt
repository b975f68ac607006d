-- What the run of a script's steps comes to, over a line with one reader or with several.
use Rattle.std.specs.Prelude.{◌≡◌, ◌≤◌, ◌-◌, ℕ, true, List, Option, take, Result, Ok, Err}
use Rattle.osdp_sim.specs.declared.fault.Cause.{Cause}
use Rattle.osdp_sim.specs.declared.fault.Cause.TheVariants as cause
use Rattle.osdp_sim.specs.declared.step.SimStep.{SimStep}
use Rattle.osdp_sim.specs.Schedules.{StopsAt, is_well, run}
use Rattle.osdp_tool_streams.specs.declared.fault.ToolFault.{ToolFault}
use Rattle.osdp_tool_streams.specs.declared.fault.ToolFault.TheVariants.{NotHex, TooLong, BadWords, BadStep}
use Rattle.osdp_tool_streams.specs.declared.fault.ToolFault.TheVariants.{HoldsPacket, NotQuiet, ReadFailed}
use Rattle.osdp_tool_streams.specs.declared.fault.ToolFault.TheVariants.{WriteFailed, NoMemory}

-- a run comes to this: over all steps, or up to the step that is refused, counted from 1
module _ {S A : Type 0} (after_step : SimStep → S → S) (fault_of : SimStep → S → Option Cause) (account_of : S → A) where
  -- all steps were taken, or the step that is named was refused for the cause that is told
  abbrev pub RunTells : Result (Unit {0}) ToolFault → A → List SimStep → S → Type 0
  RunTells (Ok done) told steps start = (is_well after_step fault_of steps start ≡ true) × (told ≡ account_of (run after_step steps start))
  RunTells (Err (HoldsPacket step)) told steps start = (1 ≤ step) × StopsAt after_step fault_of account_of step cause.HoldsPacket told steps start
  RunTells (Err (NotQuiet step)) told steps start = (1 ≤ step) × StopsAt after_step fault_of account_of step cause.NotQuiet told steps start
  RunTells (Err (NotHex line)) told steps start = ⊥
  RunTells (Err TooLong) told steps start = ⊥
  RunTells (Err BadWords) told steps start = ⊥
  RunTells (Err (BadStep line)) told steps start = ⊥
  RunTells (Err ReadFailed) told steps start = ⊥
  RunTells (Err WriteFailed) told steps start = ⊥
  RunTells (Err NoMemory) told steps start = ⊥

-- the steps that were taken
abbrev pub steps_taken : Result (Unit {0}) ToolFault → List SimStep → List SimStep
steps_taken (Err (HoldsPacket step)) steps = take (step - 1) steps
steps_taken (Err (NotQuiet step)) steps = take (step - 1) steps
steps_taken _ steps = steps

-- a step was refused for this cause, and it is told so
abbrev pub EndsBy : Cause → ℕ → Result (Unit {0}) ToolFault → Type 0
EndsBy cause.HoldsPacket step end = end ≡ Err (HoldsPacket step)
EndsBy cause.NotQuiet step end = end ≡ Err (NotQuiet step)
EndsBy cause.NoMemory step end = ⊥
EndsBy cause.OutOfRange step end = ⊥
