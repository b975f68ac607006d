-- The steps of a schedule.
use Rattle.std.specs.Prelude.{ℕ, ◌+◌, ◌-◌, ◌^◌, ◌==◌, min, Bool, true, false, not, ◌&&◌, List, [], ◌∷◌, ◌++◌, length, Option, Some, None, IfSome, if◌then◌else◌}
use Rattle.osdp_frame.specs.Items.{packets_in}
use Rattle.osdp_frame.specs.Packet.{IsPacket, Packet}
use Rattle.osdp_msg.specs.CommandTable.{CommandFits}
use Rattle.osdp_msg.specs.Events.{EventFits}
use Rattle.osdp_msg.specs.ReplyTable.{ReplyFits}
use Rattle.osdp_msg.specs.declared.command.Command.{Command}
use Rattle.osdp_msg.specs.declared.event.Event.{Event}
use Rattle.osdp_controller.specs.declared.fault.ControllerFault.{ControllerFault}
use Rattle.osdp_controller.specs.Hearing as controller
use Rattle.osdp_controller.specs.Machine as controllers
use Rattle.osdp_controller.specs.States.{is_closed}
use Rattle.osdp_controller.specs.Ticking.{Ticked, ticks}
use Rattle.osdp_reader.specs.declared.handler.Answer.{Answer}
use Rattle.osdp_reader.specs.State as readers
use Rattle.osdp_reader.specs.State.{ReaderState}
use Rattle.osdp_reader.specs.Table as reader
use Rattle.osdp_reader.specs.Queue.{lacks_room}
use Rattle.osdp_sim.specs.declared.fault.Cause.{Cause}
use Rattle.osdp_sim.specs.declared.fault.Cause.TheVariants.{HoldsPacket, NotQuiet}
use Rattle.osdp_sim.specs.declared.step.Move.{Move}
use Rattle.osdp_sim.specs.declared.step.Move.TheVariants.{Damage}
use Rattle.osdp_sim.specs.declared.step.SimStep.{SimStep}
use Rattle.osdp_sim.specs.declared.step.SimStep.TheVariants.{Issue, Queue, Busy, Wait, ToReader, ToController, Reopen}
use Rattle.osdp_sim.specs.Account.{taken_by, with_issued, with_queued, with_report, with_session, with_taken}
use Rattle.osdp_sim.specs.Line.{handed, holds_packet, left, sent}
use Rattle.osdp_sim.specs.State.{SimState}

-- so much later, and the last moment that there is where it would lie after that
abbrev pub moment_after : ℕ → ℕ → ℕ
moment_after wait clock = min (clock + wait) (2 ^ 64 - 1)

-- damage may not hold a packet
abbrev pub damage_fault : Move → Option Cause
damage_fault (Damage bytes) = if holds_packet bytes.items then Some HoldsPacket else None
damage_fault _ = None

-- why a step is refused, where it is told whether a session may not begin again yet
abbrev pub fault_by : {S : Type 0} → (ℕ → S → Bool) → SimStep → S → Option Cause
fault_by refuses_reopen (ToReader move) s = damage_fault move
fault_by refuses_reopen (ToController move) s = damage_fault move
fault_by refuses_reopen (Reopen number) s = if refuses_reopen number s then Some NotQuiet else None
fault_by refuses_reopen _ s = None

module _ {H : Type 0} where
  -- the reader counts from 1, and there is one
  abbrev pub where_there : ℕ → SimState H → SimState H → SimState H
  where_there number old new = if number == 1 then new else old

  abbrev pub issued : Option ControllerFault → Command → SimState H → SimState H
  issued (Some fault) command s = s
  issued None command s =
      record s { controller = controllers.after_submit command s.controller; account = with_issued command s.account }

  abbrev pub queued : Bool → Event → SimState H → SimState H
  queued true event s = s
  queued false event s =
      record s { reader = readers.after_submit event s.reader; account = with_queued event s.account }

  -- a tick at this moment
  abbrev pub ticked : Ticked → ℕ → SimState H → SimState H
  ticked t now s = record s {
    controller = record s.controller { session = t.session; waiting = t.waiting };
    to_reader = s.to_reader ++ sent t.step.frame;
    clock = now;
    account = with_report t.step.report s.account;
  }

  abbrev pub waited : ℕ → SimState H → SimState H
  waited now s = ticked (ticks now s.controller.session s.controller.waiting) now s

  -- the controller hears these packets, one after the other
  abbrev pub controller_hears : List Packet → SimState H → SimState H
  controller_hears [] s = s
  controller_hears (p ∷ packets) s =
      controller_hears packets (record s {
        controller = controllers.after_frame p s.clock s.controller;
        account = with_report (controller.hears p s.clock s.controller.session).report s.account;
      })

  -- a session begins again
  abbrev pub reopened : SimState H → SimState H
  reopened s = record s { controller = controllers.after_begin s.clock s.controller; account = with_session s.account }

  -- nothing is on the line, and the session has ended
  abbrev pub is_quiet : SimState H → Bool
  is_quiet s = length s.to_reader == 0 && length s.to_controller == 0 && is_closed s.controller.session.state

  -- it is the reader that there is, and its session may not begin again yet
  abbrev pub refuses_reopen : ℕ → SimState H → Bool
  refuses_reopen number s = number == 1 && not (is_quiet s)

  -- why a step is refused
  abbrev pub fault_of : SimStep → SimState H → Option Cause
  fault_of = fault_by refuses_reopen

  module _ (answer_of : H → Command → Answer) (after : H → Command → H) where
    -- the reader hears these packets, one after the other, and each answer goes out
    abbrev pub reader_hears : List Packet → SimState H → SimState H
    reader_hears [] s = s
    reader_hears (p ∷ packets) s =
        let outcome = reader.hears answer_of after s.reader p in
        reader_hears packets (record s {
          reader = outcome.reader;
          to_controller = s.to_controller ++ sent outcome.reply;
          account = with_taken (taken_by (reader.kind_of s.reader p) outcome.command) s.account;
        })

    -- what a step does
    abbrev pub after_step : SimStep → SimState H → SimState H
    after_step (Issue number command) s =
        where_there number s (issued (controllers.submit_refusal command s.controller) command s)
    after_step (Queue number event) s =
        where_there number s (queued (lacks_room event s.reader.queue) event s)
    after_step (Busy number busy) s =
        where_there number s (record s { reader = readers.after_set_busy busy s.reader })
    after_step (Wait wait) s = waited (moment_after wait s.clock) s
    after_step (ToReader move) s =
        reader_hears (packets_in (handed move s.to_reader)) (record s { to_reader = left move s.to_reader })
    after_step (ToController move) s =
        controller_hears (packets_in (handed move s.to_controller)) (record s { to_controller = left move s.to_controller })
    after_step (Reopen number) s = where_there number s (reopened s)

    -- what the reader says to these packets is of the table of replies, and what it sends are packets
    abbrev pub SaysFit : List Packet → ReaderState H → Type 0
    SaysFit [] r = Unit {0}
    SaysFit (p ∷ packets) r =
        let outcome = reader.hears answer_of after r p in
        IfSome outcome.said ReplyFits × IfSome outcome.reply IsPacket × SaysFit packets outcome.reader

    -- what both ends make sure of: what goes over the line has its fields in their ranges
    abbrev pub StepFits : SimStep → SimState H → Type 0
    StepFits (Issue number command) s = CommandFits command
    StepFits (Queue number event) s = EventFits event
    StepFits (Busy number busy) s = Unit {0}
    StepFits (Wait wait) s =
        IfSome (ticks (moment_after wait s.clock) s.controller.session s.controller.waiting).step.frame IsPacket
    StepFits (ToReader move) s = SaysFit (packets_in (handed move s.to_reader)) s.reader
    StepFits (ToController move) s = Unit {0}
    StepFits (Reopen number) s = Unit {0}
