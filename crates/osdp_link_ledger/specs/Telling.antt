-- What the steps of a ledger come to is what was accepted, what the device has acted on and answered, and what the panel was told: so no step is
-- forgotten, and none is made up.
use Rattle.std.specs.Prelude.{◌≡◌, ℕ, List, [], ◌∷◌, ◌++◌, flat_map, map}
use Rattle.osdp_msg.specs.declared.command.Command.{Command}
use Rattle.osdp_msg.specs.declared.event.Event.{Event}
use Rattle.osdp_msg.specs.declared.reply.Reply.{Reply}
use Rattle.osdp_reader.specs.declared.handler.Answer.{Answer}
use Rattle.osdp_ledger.specs.History.{End, History, InDoubt, new_history, runs}
use Rattle.osdp_ledger.specs.Ledger.{Card, Order}
use Rattle.osdp_ledger.specs.OneSession.{settled_in}
use Rattle.osdp_link_laws.specs.Beginning.{Begins, MovesFit}
use Rattle.osdp_link_laws.specs.Link.{Link, Move}
use Rattle.osdp_link_laws.specs.Reports.{Told, nothing_told, reports, with_reports}
use Rattle.osdp_link_laws.specs.Sessions.{all_queued, all_submitted}
use Rattle.osdp_link_ledger.specs.Acted.{all_acted}
use Rattle.osdp_link_ledger.specs.Steps.{steps_from}

-- a command and its answer, without the place of the order
abbrev pub without_place : Order × Reply → Command × Reply
without_place d = (d.0.command, d.1)

-- a command that was told in doubt
abbrev pub doubted_as : Order → End → List Command
doubted_as order InDoubt = order.command ∷ []
doubted_as order _ = []

-- what a history says that the device has acted on: each command, with the device's answer to it
abbrev pub acted_in_history : History → List (Command × Reply)
acted_in_history h = map without_place h.acted

-- what a history says that was told
abbrev pub told_in_history : History → Told
told_in_history h = record {
  settled = map without_place (settled_in h.ended);
  in_doubt = flat_map (λ (e : Order × End). doubted_as e.0 e.1) h.ended;
  reported = map (λ (r : ℕ × Card). r.1.event) h.reports;
}

-- these commands were accepted, these were acted on, each with this answer, these events were queued, and this was told
pub record TellsAll (accepted : List Command) (answered : List (Command × Reply)) (queued : List Event) (said : Told) (h : History) : Type 0 where
  pub orders : map (λ (o : Order). o.command) h.accepted ≡ accepted
  pub acted : acted_in_history h ≡ answered
  pub cards : map (λ (c : Card). c.event) h.queued ≡ queued
  pub told : told_in_history h ≡ said

module _ {H : Type 0} (answer_of : H → Command → Answer) (after : H → Command → H) where
  abbrev pub LedgerTellsMoves : Type 0
  LedgerTellsMoves = (l : Link H) (moves : List (Move H)) → Begins l → MovesFit answer_of after moves l
      → TellsAll (l.controller.waiting ++ all_submitted answer_of after moves l) (all_acted answer_of after moves l)
      (l.reader.queue.events ++ all_queued answer_of after moves l) (with_reports (reports answer_of after moves l) nothing_told)
      (runs (steps_from answer_of after moves l) new_history)
