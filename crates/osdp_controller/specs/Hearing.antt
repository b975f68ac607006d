-- The table of frames: what a frame from the line brings about.
use Rattle.std.specs.Prelude.{ℕ, ◌+◌, Bool, true, false, not, ◌&&◌, ◌||◌, ◌==◌, nat_lt, if◌then◌else◌, Option, Some, None}
use Rattle.osdp_frame.specs.Packet.{Packet}
use Rattle.osdp_msg.specs.declared.command.Command.{Command}
use Rattle.osdp_msg.specs.declared.command.Command.TheVariants.{Comset}
use Rattle.osdp_msg.specs.declared.command_fields.Communication.{Communication}
use Rattle.osdp_msg.specs.declared.event.Event.{Event as EventOfReader}
use Rattle.osdp_msg.specs.declared.reply.Reply.{Reply}
use Rattle.osdp_msg.specs.declared.reply.Reply.TheVariants as replies
use Rattle.osdp_msg.specs.declared.reply_fields.PdId.{PdId}
use Rattle.osdp_controller.specs.declared.meaning.ReplyMeaning.{ReplyMeaning}
use Rattle.osdp_controller.specs.declared.meaning.ReplyMeaning.TheVariants.{NotTaken, Damaged, NumberRefused, Plain, Unreadable}
use Rattle.osdp_controller.specs.declared.exchange.Exchange.{Exchange}
use Rattle.osdp_controller.specs.declared.exchange.Exchange.TheVariants.{Opening, Polling, Asking}
use Rattle.osdp_controller.specs.declared.exchange.Outstanding.{Outstanding}
use Rattle.osdp_controller.specs.declared.report.LostCause.{LostCause}
use Rattle.osdp_controller.specs.declared.report.LostCause.TheVariants as causes
use Rattle.osdp_controller.specs.declared.report.Report.{Report}
use Rattle.osdp_controller.specs.declared.report.Report.TheVariants.{Opened, Settled, Moved, Event, PollAnswered, Unread}
use Rattle.osdp_controller.specs.declared.session.Session.{Session}
use Rattle.osdp_controller.specs.declared.state.State.{State}
use Rattle.osdp_controller.specs.declared.state.State.TheVariants.{Closed, Quiet, Idle, Waiting, Pausing}
use Rattle.osdp_msg.specs.Events.{event_in}
use Rattle.osdp_controller.specs.Answers.{meaning_of, is_not_taken}
use Rattle.osdp_controller.specs.Sessions.{at_rest, closed, later, lost, seen}

-- what comes of a frame: the session after it, and what is told
pub record Heard : Type 0 where
  pub session : Session
  pub report : Option Report

abbrev pub ignores : Session → Heard
ignores s = record { session = s; report = None }

-- the exchange has ended
abbrev pub rests : Option Report → Session → Heard
rests report s = record { session = at_rest s; report = report }

-- the session has ended
abbrev pub loses : LostCause → Outstanding → Session → Heard
loses cause o s = record { session = closed s; report = Some (lost cause o) }

-- a reply from the own address that can be read
abbrev pub is_from_reader : Packet → Session → Bool
is_from_reader p s = p.reply && p.address == s.config.address && not p.block

-- it has the number of the exchange; a BUSY may have 0
abbrev pub is_numbered : ℕ → ReplyMeaning → Session → Bool
is_numbered number answer s = number == s.number || number == 0 && is_not_taken answer

-- one more BUSY: the exchange pauses, or the session ends where there are more than are allowed
abbrev pub hears_busy : Outstanding → Session → Heard
hears_busy o s =
    if nat_lt s.config.busy_limit (o.busies + 1) then loses causes.TooBusy o s
    else record {
      session = record s { state = Pausing (later s.config.busy_wait s) (record o { busies = o.busies + 1 }) };
      report = None;
    }

-- the opening ID is answered by a PDID alone
abbrev pub pd_id_of : Reply → Option PdId
pd_id_of (replies.PdId id) = Some id
pd_id_of _ = None

abbrev pub opening_answered : Option PdId → Session → Heard
opening_answered (Some id) s = rests (Some (Opened id)) s
opening_answered None s = ignores s

abbrev pub is_ack : Reply → Bool
is_ack replies.Ack = true
is_ack _ = false

-- a POLL: ACK tells nothing
abbrev pub poll_told : Reply → Option EventOfReader → Option Report
poll_told reply (Some event) = Some (Event event)
poll_told reply None = if is_ack reply then None else Some (PollAnswered reply)

-- a COMSET to a device's address is answered by a COM with that address
abbrev pub comset_of : Command → Option Communication
comset_of (Comset asked) = Some asked
comset_of _ = None

abbrev pub com_of : Reply → Option Communication
com_of (replies.Com answered) = Some answered
com_of _ = None

abbrev pub moved_by : Option Communication → Option Communication → Option Communication
moved_by (Some asked) (Some answered) =
    if nat_lt answered.address 127 && answered.address == asked.address then Some answered else None
moved_by (Some asked) None = None
moved_by None answered = None

-- a command: the reader is at its new address, and the session ends; else the command is settled, whether or not
-- the reply fits it
abbrev pub command_answered : Option Communication → Command → Reply → Session → Heard
command_answered (Some answered) command reply s = record {
  session = closed (record s { config = record s.config { address = answered.address } });
  report = Some (Moved command answered);
}
command_answered None command reply s = rests (Some (Settled command reply)) s

-- a reply that is neither BUSY, NAK 1 nor NAK 4
abbrev pub answered : Exchange → Reply → Session → Heard
answered Opening reply s = opening_answered (pd_id_of reply) s
answered Polling reply s = rests (poll_told reply (event_in reply)) s
answered (Asking command) reply s =
    command_answered (moved_by (comset_of command) (com_of reply)) command reply s

-- a reply that cannot be read
abbrev pub answered_unread : Exchange → ℕ → Session → Heard
answered_unread Opening code s = ignores s
answered_unread Polling code s = rests (Some (Unread None code)) s
answered_unread (Asking command) code s = rests (Some (Unread (Some command) code)) s

-- while the answer is waited for; after a NAK 1 the next tick repeats or gives up
abbrev pub waiting_hears : ReplyMeaning → ℕ → Outstanding → Session → Heard
waiting_hears NotTaken sends o s = hears_busy o s
waiting_hears Damaged sends o s = ignores (record s { state = Waiting s.greatest sends o })
waiting_hears NumberRefused sends o s = loses causes.NumberRefused o s
waiting_hears (Plain reply) sends o s = answered o.exchange reply s
waiting_hears (Unreadable code) sends o s = answered_unread o.exchange code s

-- in a pause
abbrev pub pausing_hears : ReplyMeaning → Outstanding → Session → Heard
pausing_hears NotTaken o s = ignores s
pausing_hears Damaged o s = ignores s
pausing_hears NumberRefused o s = loses causes.NumberRefused o s
pausing_hears (Plain reply) o s = answered o.exchange reply s
pausing_hears (Unreadable code) o s = answered_unread o.exchange code s

-- by the state: where no exchange is outstanding a frame is ignored; else it is heard where it has the number
abbrev pub hears_in : State → ℕ → ReplyMeaning → Session → Heard
hears_in Closed number answer s = ignores s
hears_in (Quiet until) number answer s = ignores s
hears_in (Idle due) number answer s = ignores s
hears_in (Waiting until sends o) number answer s =
    if is_numbered number answer s then waiting_hears answer sends o s else ignores s
hears_in (Pausing until o) number answer s =
    if is_numbered number answer s then pausing_hears answer o s else ignores s

-- a frame at a moment
abbrev pub hears : Packet → ℕ → Session → Heard
hears p now s =
    if is_from_reader p s then hears_in s.state p.sequence (meaning_of p) (seen now s)
    else ignores (seen now s)
