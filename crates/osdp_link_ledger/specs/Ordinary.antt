-- Where neither end restarts, nothing is withdrawn and no event lapses, all that ends is told.
use Rattle.std.specs.Prelude.{List, All}
use Rattle.osdp_msg.specs.declared.command.Command.{Command}
use Rattle.osdp_reader.specs.declared.handler.Answer.{Answer}
use Rattle.osdp_ledger.specs.History.{new_history, runs}
use Rattle.osdp_ledger.specs.Plain.{AllTold}
use Rattle.osdp_link_laws.specs.Link.{Link, Move}
use Rattle.osdp_link_laws.specs.Ordinary.{IsOrdinary}
use Rattle.osdp_link_ledger.specs.Steps.{steps_from}

abbrev pub OrdinaryMovesEndTold : {H : Type 0} → (H → Command → Answer) → (H → Command → H) → Type 0
OrdinaryMovesEndTold {H} answer_of after = (l : Link H) (moves : List (Move H)) → All IsOrdinary moves → AllTold (runs (steps_from answer_of after moves l) new_history)
