-- What is on the line is sent by an end, whatever step comes.
use Rattle.osdp_sim.proofs.Common.{ℕ, Bool, true, false, ◌==◌, if◌then◌else◌, All, List, [], ◌∷◌, Option, Some, None, IfSome, packets_in, IsPacket, Packet, Spells, spelling, ticks, Move, Deliver, Drop, Repeat, Damage, SimStep, IsSent, handed, left, sent, AreSent, SimState, SaysFit, StepFits, after_step, controller_hears, issued, moment_after, queued, reader_hears}
use Rattle.std.proofs.lemmas.List.Elements.{All-append, All-cons, All-nil, All-tail}
use Rattle.osdp_msg.specs.declared.command.Command.{Command}
use Rattle.osdp_msg.specs.declared.event.Event.{Event}
use Rattle.osdp_controller.specs.Machine as controllers
use Rattle.osdp_controller.specs.declared.fault.ControllerFault.{ControllerFault}
use Rattle.osdp_reader.specs.declared.handler.Answer.{Answer}
use Rattle.osdp_reader.specs.Table as reader
use Rattle.osdp_reader.specs.Queue.{lacks_room}
use Rattle.osdp_sim.specs.declared.step.SimStep.TheVariants.{Issue, Queue, Busy, Wait, ToReader, ToController, Reopen}

-- each packet has a spelling
abbrev pub HasSpelling : Type 0
HasSpelling = (p : Packet) → IsPacket p → Spells p (spelling p)

pub all_sent : HasSpelling → (o : Option Packet) → IfSome o IsPacket → All IsSent (sent o)
all_sent has None fits = All-nil IsSent
all_sent has (Some p) fits = All-cons IsSent (spelling p) [] (p, has p fits) (All-nil IsSent)

pub left_sent : (move : Move) (line : List (List ℕ)) → All IsSent line → All IsSent (left move line)
left_sent move [] all = all
left_sent Deliver (burst ∷ line) all = All-tail IsSent burst line all
left_sent Drop (burst ∷ line) all = All-tail IsSent burst line all
left_sent Repeat (burst ∷ line) all = all
left_sent (Damage bytes) (burst ∷ line) all = All-tail IsSent burst line all

module _ {H : Type 0} (answer_of : H → Command → Answer) (after : H → Command → H) where
  where_sent : (there : Bool) (old new : SimState H) → AreSent old → AreSent new → AreSent (if there then new else old)
  where_sent true old new before later = later
  where_sent false old new before later = before

  issued_sent : (fault : Option ControllerFault) (command : Command) (s : SimState H) → AreSent s → AreSent (issued fault command s)
  issued_sent None command s h = record { to_reader = h.to_reader; to_controller = h.to_controller }
  issued_sent (Some fault) command s h = h

  queued_sent : (full : Bool) (event : Event) (s : SimState H) → AreSent s → AreSent (queued full event s)
  queued_sent true event s h = h
  queued_sent false event s h = record { to_reader = h.to_reader; to_controller = h.to_controller }

  heard_sent : (packets : List Packet) (s : SimState H) → AreSent s → AreSent (controller_hears packets s)
  heard_sent [] s h = h
  heard_sent (p ∷ packets) s h = heard_sent packets _ (record { to_reader = h.to_reader; to_controller = h.to_controller })

  answered_sent : HasSpelling → (packets : List Packet) (s : SimState H) → SaysFit answer_of after packets s.reader → AreSent s
      → AreSent (reader_hears answer_of after packets s)
  answered_sent has [] s fits h = h
  answered_sent has (p ∷ packets) s fits h =
      let o = reader.hears answer_of after s.reader p in
      answered_sent has packets _ fits.2
      (record { to_reader = h.to_reader; to_controller = All-append IsSent s.to_controller (sent o.reply) h.to_controller (all_sent has o.reply fits.1) })

  pub step_sent : HasSpelling → (step : SimStep) (s : SimState H) → StepFits answer_of after step s → AreSent s → AreSent (after_step answer_of after step s)
  step_sent has (Issue number command) s fits h =
      where_sent (number == 1) s _ h (issued_sent (controllers.submit_refusal command s.controller) command s h)
  step_sent has (Queue number event) s fits h =
      where_sent (number == 1) s _ h (queued_sent (lacks_room event s.reader.queue) event s h)
  step_sent has (Busy number busy) s fits h =
      where_sent (number == 1) s _ h (record { to_reader = h.to_reader; to_controller = h.to_controller })
  step_sent has (Wait wait) s fits h =
      let t = ticks (moment_after wait s.clock) s.controller.session s.controller.waiting in
      record {
        to_reader = All-append IsSent s.to_reader (sent t.step.frame) h.to_reader (all_sent has t.step.frame fits);
        to_controller = h.to_controller;
      }
  step_sent has (ToReader move) s fits h =
      answered_sent has (packets_in (handed move s.to_reader)) _ fits
      (record { to_reader = left_sent move s.to_reader h.to_reader; to_controller = h.to_controller })
  step_sent has (ToController move) s fits h =
      heard_sent (packets_in (handed move s.to_controller)) _
      (record { to_reader = h.to_reader; to_controller = left_sent move s.to_controller h.to_controller })
  step_sent has (Reopen number) s fits h =
      where_sent (number == 1) s _ h (record { to_reader = h.to_reader; to_controller = h.to_controller })
