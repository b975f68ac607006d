-- The run of a schedule, and how it ends.
use Rattle.std.specs.Prelude.{ℕ, ◌≤◌, Bool, List, Result}
use Rattle.osdp_msg.specs.Limits.{most_waiting, room_for}
use Rattle.osdp_msg.specs.declared.command.Command.{Command}
use Rattle.osdp_controller.specs.Machine as controllers
use Rattle.osdp_reader.specs.declared.handler.Answer.{Answer}
use Rattle.osdp_sim.specs.declared.account.Account as declared
use Rattle.osdp_sim.specs.declared.config.SimConfig.{SimConfig}
use Rattle.osdp_sim.specs.declared.fault.Cause.{Cause}
use Rattle.osdp_sim.specs.declared.fault.Fault.{Fault}
use Rattle.osdp_sim.specs.declared.step.SimStep.{SimStep}
use Rattle.osdp_sim.specs.Account.{Account, empty_account, lists_of}
use Rattle.osdp_sim.specs.Schedules as schedules
use Rattle.osdp_sim.specs.State.{SimState, set_up}
use Rattle.osdp_sim.specs.Steps.{StepFits, after_step, fault_of}

-- the reader's settings are in their ranges ..
pub record ReaderInRange (config : SimConfig) : Type 0 where
  pub address : config.reader.address ≤ 126
  pub some : 1 ≤ config.events
  pub limit : config.events ≤ most_waiting

-- .. and so are the controller's
pub record AreSettings (config : SimConfig) : Type 0 where
  pub reader : ReaderInRange config
  pub controller : controllers.AreSettings config.controller config.commands (room_for config.commands).bytes

-- why there is no controller ..
abbrev pub IsControllerCause : Cause → SimConfig → Type 0
IsControllerCause cause config =
    schedules.IsSetUpCause cause (controllers.AreSettings config.controller config.commands (room_for config.commands).bytes)

-- .. and why no step was taken
abbrev pub IsSetUpCause : Cause → SimConfig → Type 0
IsSetUpCause cause config = schedules.IsSetUpCause cause (AreSettings config)

module _ {H : Type 0} (answer_of : H → Command → Answer) (after : H → Command → H) where
  -- the state after these steps
  abbrev pub run : List SimStep → SimState H → SimState H
  run steps s = schedules.run (after_step answer_of after) steps s

  -- none of them is refused
  abbrev pub is_well : List SimStep → SimState H → Bool
  is_well steps s = schedules.is_well (after_step answer_of after) fault_of steps s

  -- what went over the line in these steps had its fields in their ranges
  abbrev pub FitAlong : List SimStep → SimState H → Type 0
  FitAlong steps s = schedules.HoldsAlong (after_step answer_of after) (StepFits answer_of after) steps s

  -- the run stops at a step, counted from 1; the account is that of the steps before it
  abbrev pub StopsAt : ℕ → Cause → Account → List SimStep → SimState H → Type 0
  StopsAt at why lists steps s = schedules.StopsAt (after_step answer_of after) fault_of (λ t. t.account) at why lists steps s

  -- .. or nothing was set up
  abbrev pub Stops : ℕ → Cause → Account → SimConfig → H → List SimStep → Type 0
  Stops at why lists config handler steps =
      schedules.Stops (after_step answer_of after) fault_of (λ t. t.account) (AreSettings config) empty_account at why lists steps (set_up config handler)

  abbrev pub RunEnds : SimConfig → H → List SimStep → Result declared.Account (Fault declared.Account) → Type 0
  RunEnds config handler steps answer =
      schedules.RunEnds (after_step answer_of after) fault_of lists_of (λ t. t.account) (AreSettings config) empty_account steps (set_up config handler) answer

-- the steps that were taken
abbrev pub steps_done : List SimStep → Result declared.Account (Fault declared.Account) → List SimStep
steps_done steps answer = schedules.steps_done steps answer
