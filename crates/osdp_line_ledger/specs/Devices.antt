-- Of each device of a line: where it never changes, and where nobody restarts, nothing of it is withdrawn and no event of it lapses.
use Rattle.std.specs.Prelude.{ℕ, All, List}
use Rattle.osdp_msg.specs.declared.command.Command.{Command}
use Rattle.osdp_reader.specs.declared.handler.Answer.{Answer}
use Rattle.osdp_ledger.specs.History.{new_history, runs}
use Rattle.osdp_ledger.specs.Plain.{AllTold}
use Rattle.osdp_link_ledger.specs.Answers.{HasAnswersOf}
use Rattle.osdp_shared_line.specs.Line.{Net, NetMove, Site}
use Rattle.osdp_shared_line.specs.Restarts.{IsOrdinaryOf, KeepsDeviceOf}
use Rattle.osdp_line_ledger.specs.Laws.{steps_at}

module _ {H : Type 0} (answer_of : H → Command → Answer) (after : H → Command → H) where
  -- the device never changes, whatever the others do
  abbrev pub EachActsByOneHandler : Type 0
  EachActsByOneHandler = (n : Net H) (moves : List (NetMove H)) (k : ℕ) (first : Site H) → All (KeepsDeviceOf k) moves
      → HasAnswersOf answer_of after first.reader.config first.reader.handler (runs (steps_at answer_of after k first moves n) new_history)

  -- neither of its ends restarts, nothing of it is withdrawn, and no event of it lapses
  abbrev pub EachOrdinaryEndsTold : Type 0
  EachOrdinaryEndsTold = (n : Net H) (moves : List (NetMove H)) (k : ℕ) (first : Site H) → All (IsOrdinaryOf k) moves
      → AllTold (runs (steps_at answer_of after k first moves n) new_history)
