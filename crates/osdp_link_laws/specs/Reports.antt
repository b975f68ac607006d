-- What moves of a link tell the panel's program, and what the device acts on in them.
use Rattle.std.specs.Prelude.{ℕ, ◌+◌, List, [], ◌∷◌, ◌++◌, Option, Some, None, option_to_list}
use Rattle.osdp_frame.specs.Packet.{Packet}
use Rattle.osdp_msg.specs.declared.command.Command.{Command}
use Rattle.osdp_msg.specs.declared.command.Command.TheVariants.{Poll}
use Rattle.osdp_msg.specs.declared.event.Event.{Event}
use Rattle.osdp_msg.specs.declared.reply.Reply.{Reply}
use Rattle.osdp_msg.specs.declared.reply.Reply.TheVariants as reply
use Rattle.osdp_controller.specs.Hearing.{hears}
use Rattle.osdp_controller.specs.Ticking.{ticks}
use Rattle.osdp_controller.specs.declared.report.Report.{Report}
use Rattle.osdp_controller.specs.declared.report.Report.TheVariants as report
use Rattle.osdp_controller.specs.declared.session.Session.{Session}
use Rattle.osdp_reader.specs.State.{ReaderState}
use Rattle.osdp_reader.specs.Table as reader
use Rattle.osdp_reader.specs.declared.handler.Answer.{Answer}
use Rattle.osdp_reader.specs.declared.kind.Kind.{Kind}
use Rattle.osdp_reader.specs.declared.kind.Kind.TheVariants as kind
use Rattle.osdp_link_laws.specs.Link.{Delivered, Delivery, Link, Move, Repeated, Tick, ToController, ToReader, after_move}

-- ---- reports

-- commands that were settled, each with its answer, commands that were told in doubt, and events
pub record Told : Type 0 where
  pub settled : List (Command × Reply)
  pub in_doubt : List Command
  pub reported : List Event

abbrev pub nothing_told : Told
nothing_told = record { settled = []; in_doubt = []; reported = [] }

-- one report more: a COMSET that moves the device is settled by its COM
abbrev pub with_report : Report → Told → Told
with_report (report.Settled command answer) y = record y { settled = y.settled ++ (command, answer) ∷ [] }
with_report (report.Moved command answered) y = record y { settled = y.settled ++ (command, reply.Com answered) ∷ [] }
with_report (report.Event event) y = record y { reported = y.reported ++ event ∷ [] }
with_report (report.Lost cause command) y = record y { in_doubt = y.in_doubt ++ option_to_list command }
with_report _ y = y

abbrev pub with_reports : List Report → Told → Told
with_reports [] y = y
with_reports (r ∷ rs) y = with_reports rs (with_report r y)

-- one where a report tells that a command is settled, or an event
abbrev pub tells_one : Report → ℕ
tells_one (report.Settled command answer) = 1
tells_one (report.Moved command answered) = 1
tells_one (report.Event event) = 1
tells_one _ = 0

-- how many of these do
abbrev pub told_in : List Report → ℕ
told_in [] = 0
told_in (r ∷ rs) = tells_one r + told_in rs

-- what is told where the packet in front comes through
abbrev pub told_by_front : Delivery → List Packet → ℕ → Session → Option Report
told_by_front Delivered (p ∷ rest) now s = (hears p now s).report
told_by_front Repeated (p ∷ rest) now s = (hears p now s).report
told_by_front _ _ now s = None

-- ---- what the device acts on

-- the command that is taken with a number: a POLL is none
abbrev pub command_taken : Command → List Command
command_taken Poll = []
command_taken command = command ∷ []

abbrev pub taken_as : Kind → Option Command → List Command
taken_as kind.Taken (Some command) = command_taken command
taken_as _ _ = []

module _ {H : Type 0} where
  -- what the controller tells in a move
  abbrev pub told_by : Move H → Link H → Option Report
  told_by (Tick now) l = (ticks now l.controller.session l.controller.waiting).step.report
  told_by (ToController how now) l = told_by_front how l.to_controller now l.controller.session
  told_by _ l = None

  module _ (answer_of : H → Command → Answer) (after : H → Command → H) where
    -- .. and in a list of moves
    abbrev pub reports : List (Move H) → Link H → List Report
    reports [] l = []
    reports (move ∷ moves) l = option_to_list (told_by move l) ++ reports moves (after_move answer_of after move l)

    -- the command that a reader takes by a packet, and by the one in front, where that comes through
    abbrev pub taken_by : Packet → ReaderState H → List Command
    taken_by p r = taken_as (reader.kind_of r p) (reader.hears answer_of after r p).command

    abbrev pub taken_by_front : Delivery → List Packet → ReaderState H → List Command
    taken_by_front Delivered (p ∷ rest) r = taken_by p r
    taken_by_front Repeated (p ∷ rest) r = taken_by p r
    taken_by_front _ _ r = []

    abbrev pub taken_in : Move H → Link H → List Command
    taken_in (ToReader how) l = taken_by_front how l.to_reader l.reader
    taken_in _ l = []

    -- all commands that it takes in a list of moves
    abbrev pub all_taken : List (Move H) → Link H → List Command
    all_taken [] l = []
    all_taken (move ∷ moves) l = taken_in move l ++ all_taken moves (after_move answer_of after move l)
