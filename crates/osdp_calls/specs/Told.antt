-- What calls tell the panel's program of an entry, and what its device's program acts on in them.
use Rattle.std.specs.Prelude.{ℕ, ◌==◌, if◌then◌else◌, List, [], ◌∷◌, ◌++◌, Option, Some, None}
use Rattle.osdp_msg.specs.declared.command.Command.{Command}
use Rattle.osdp_controller.specs.declared.report.Report.{Report}
use Rattle.osdp_bus_laws.specs.Reports.{told_in}
use Rattle.osdp_device.specs.Telling.{next_told}
use Rattle.osdp_reader.specs.declared.handler.Answer.{Answer}
use Rattle.osdp_shared_line.specs.Line.{site_at}
use Rattle.osdp_calls.specs.Calls.{Call, Next, OfPanel, Step, after_call}
use Rattle.osdp_calls.specs.Lines.{InUse, Station}
use Rattle.osdp_calls.specs.Sayings.{acted_on}

-- of reports, each with its entry, those of this one
abbrev pub reports_of : ℕ → List (ℕ × Report) → List Report
reports_of k [] = []
reports_of k (said ∷ more) = (if said.0 == k then said.1 ∷ [] else []) ++ reports_of k more

module _ {H : Type 0} where
  -- what the panel's controllers tell in a call
  abbrev pub told_by : Call H → InUse H → List (ℕ × Report)
  told_by (OfPanel call) l = told_in call l.bus
  told_by _ l = []

  module _ (answer_of : H → Command → Answer) (after : H → Command → H) where
    -- .. and in a list of calls
    abbrev pub all_told : List (Step H) → InUse H → List (ℕ × Report)
    all_told [] l = []
    all_told (step ∷ steps) l = told_by step.call l ++ all_told steps (after_call answer_of after step.call step.places l)

    -- the command that the device of this entry takes in a call: the one on which its program acts by the response
    abbrev pub taken_at : Option (Station H) → List Command
    taken_at None = []
    taken_at (Some t) = acted_on (next_told answer_of after t.reader t.line.held).said

    -- .. where the call is a `next` of that device
    abbrev pub taken_by : ℕ → Call H → InUse H → List Command
    taken_by k (Next entry) l = if entry == k then taken_at (site_at entry l.stations) else []
    taken_by k _ l = []

    -- .. and in a list of calls
    abbrev pub all_taken : ℕ → List (Step H) → InUse H → List Command
    all_taken k [] l = []
    all_taken k (step ∷ steps) l = taken_by k step.call l ++ all_taken k steps (after_call answer_of after step.call step.places l)
