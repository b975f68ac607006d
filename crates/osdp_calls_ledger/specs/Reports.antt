-- What a panel is told of an entry is what the steps of its ledger come to: each report is a step, and no other step settles a command, puts one in doubt
-- or reports an event.
use Rattle.std.specs.Prelude.{◌≡◌, ℕ, List}
use Rattle.osdp_msg.specs.declared.command.Command.{Command}
use Rattle.osdp_reader.specs.declared.handler.Answer.{Answer}
use Rattle.osdp_ledger.specs.History.{new_history, runs}
use Rattle.osdp_link_laws.specs.Reports.{nothing_told, with_reports}
use Rattle.osdp_link_ledger.specs.Telling.{told_in_history}
use Rattle.osdp_calls.specs.Calls.{Step}
use Rattle.osdp_calls.specs.Lines.{InUse, Station}
use Rattle.osdp_calls.specs.Told.{all_told, reports_of}
use Rattle.osdp_calls_ledger.specs.Steps.{steps_from}

-- whatever is called, and whatever the ends read
abbrev pub TellsReports : {H : Type 0} → (H → Command → Answer) → (H → Command → H) → Type 0
TellsReports {H} answer_of after = (l : InUse H) (steps : List (Step H)) (k : ℕ) (first : Station H)
    → told_in_history (runs (steps_from answer_of after k first steps l) new_history)
    ≡ with_reports (reports_of k (all_told answer_of after steps l)) nothing_told
