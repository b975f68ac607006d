-- The run of a schedule for several readers, and how it ends.
use Rattle.std.specs.Prelude.{◌≡◌, ℕ, ◌==◌, nat_le, Bool, true, not, ◌&&◌, List, [], ◌∷◌, length, map, Result}
use Rattle.std.specs.Global.{Vec}
use Rattle.std.specs.List.{list_all, list_any}
use Rattle.osdp_msg.specs.Limits.{most_waiting}
use Rattle.osdp_msg.specs.declared.command.Command.{Command}
use Rattle.osdp_reader.specs.declared.handler.Answer.{Answer}
use Rattle.osdp_bus.specs.Machine.{most_entries}
use Rattle.osdp_bus.specs.Settings.{IsBusConfig}
use Rattle.osdp_bus.specs.declared.config.BusConfig.{BusConfig}
use Rattle.osdp_sim.specs.Account.{Account, lists_of}
use Rattle.osdp_sim.specs.Schedules as schedules
use Rattle.osdp_sim.specs.declared.account.Account as declared
use Rattle.osdp_sim.specs.declared.fault.Cause.{Cause}
use Rattle.osdp_sim.specs.declared.fault.Fault.{Fault}
use Rattle.osdp_sim.specs.declared.step.SimStep.{SimStep}
use Rattle.osdp_sim_bus.specs.State.{Given, LineState, accounts, address_of, set_up}
use Rattle.osdp_sim_bus.specs.Steps.{StepFits, after_step, fault_of}

-- the lists of each account, whatever room they have
abbrev pub lists_of_all : List declared.Account → List Account
lists_of_all told = map lists_of told

-- why there is no bus
abbrev pub IsBusCause : Cause → BusConfig → Type 0
IsBusCause cause config = schedules.IsSetUpCause cause (IsBusConfig config)

module _ {H : Type 0} where
  abbrev pub is_reader_in_range : Given H → Bool
  is_reader_in_range given = nat_le (address_of given) 126 && (nat_le 1 given.1 && nat_le given.1 most_waiting)

  abbrev pub is_at : ℕ → Given H → Bool
  is_at address given = address_of given == address

  -- no two of them are at one address
  abbrev pub are_apart : List (Given H) → Bool
  are_apart [] = true
  are_apart (given ∷ others) = not (list_any (is_at (address_of given)) others) && are_apart others

  -- there are no more than a bus has place for, each is in its range, and no two are at one address ..
  abbrev pub are_readers : List (Given H) → Bool
  are_readers readers =
      nat_le (length readers) most_entries && (list_all is_reader_in_range readers && are_apart readers)

  -- .. and the bus's settings are in their ranges
  pub record AreSettings (config : BusConfig) (readers : List (Given H)) : Type 0 where
    pub each : are_readers readers ≡ true
    pub bus : IsBusConfig config

  -- .. and why no step was taken
  abbrev pub IsSetUpCause : Cause → BusConfig → List (Given H) → Type 0
  IsSetUpCause cause config readers = schedules.IsSetUpCause cause (AreSettings config readers)

  module _ (answer_of : H → Command → Answer) (after : H → Command → H) where
    -- the state after these steps
    abbrev pub run : List SimStep → LineState H → LineState H
    run = schedules.run (after_step answer_of after)

    -- none of them is refused
    abbrev pub is_well : List SimStep → LineState H → Bool
    is_well = schedules.is_well (after_step answer_of after) fault_of

    -- what went over the line in these steps had its fields in their ranges
    abbrev pub FitAlong : List SimStep → LineState H → Type 0
    FitAlong = schedules.HoldsAlong (after_step answer_of after) (StepFits answer_of after)

    -- the run stops at a step, counted from 1; the accounts are those of the steps before it
    abbrev pub StopsAt : ℕ → Cause → List Account → List SimStep → LineState H → Type 0
    StopsAt at why told steps s = schedules.StopsAt (after_step answer_of after) fault_of accounts at why told steps s

    -- .. or nothing was set up, and there are no accounts
    abbrev pub Stops : ℕ → Cause → List Account → BusConfig → List (Given H) → List SimStep → Type 0
    Stops at why told config readers steps =
        schedules.Stops (after_step answer_of after) fault_of accounts (AreSettings config readers) [] at why told steps (set_up config readers)

    abbrev pub RunEnds : BusConfig → List (Given H) → List SimStep → Result (Vec declared.Account) (Fault (Vec declared.Account)) → Type 0
    RunEnds config readers steps answer =
        schedules.RunEnds (after_step answer_of after) fault_of (λ told. lists_of_all told.items) accounts (AreSettings config readers) [] steps
        (set_up config readers) answer

-- the steps that were taken
abbrev pub steps_done : List SimStep → Result (Vec declared.Account) (Fault (Vec declared.Account)) → List SimStep
steps_done steps answer = schedules.steps_done steps answer
