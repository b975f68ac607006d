-- Where the device never changes, what it acted on has the answers of its settings and its one handler.
use Rattle.std.specs.Prelude.{◌≡◌, List, map}
use Rattle.osdp_msg.specs.declared.command.Command.{Command}
use Rattle.osdp_msg.specs.declared.reply.Reply.{Reply}
use Rattle.osdp_reader.specs.declared.config.ReaderConfig.{ReaderConfig}
use Rattle.osdp_reader.specs.declared.handler.Answer.{Answer}
use Rattle.osdp_ledger.specs.History.{History, new_history, runs}
use Rattle.osdp_ledger.specs.Ledger.{Order}
use Rattle.osdp_link_laws.specs.Link.{Link, Move}
use Rattle.osdp_link_laws.specs.OneHandler.{KeepHandler, with_answers}
use Rattle.osdp_link_ledger.specs.Steps.{steps_from}
use Rattle.osdp_link_ledger.specs.Telling.{acted_in_history}

module _ {H : Type 0} (answer_of : H → Command → Answer) (after : H → Command → H) where
  -- each command that was acted on has the answer to it after those before it: that of these settings to ID, CAP and COMSET, and that of this handler to
  -- all others
  abbrev pub HasAnswersOf : ReaderConfig → H → History → Type 0
  HasAnswersOf config handler h =
      acted_in_history h ≡ with_answers answer_of after config handler (map (λ (d : Order × Reply). d.0.command) h.acted)

  -- however the link stands at first, and whatever goes over it
  abbrev pub ActsHaveAnswersOfOneHandler : Type 0
  ActsHaveAnswersOfOneHandler = (l : Link H) (moves : List (Move H)) → KeepHandler answer_of after moves l
      → HasAnswersOf l.reader.config l.reader.handler (runs (steps_from answer_of after moves l) new_history)
