-- What the answer to an exchange brings about: of each exchange and each kind of answer by itself.
use Rattle.std.specs.Prelude.{◌≡◌, ◌≢◌, ℕ, Option, Some, None}
use Rattle.osdp_frame.specs.Packet.{Packet}
use Rattle.osdp_msg.specs.declared.command.Command.{Command}
use Rattle.osdp_msg.specs.declared.command_fields.Communication.{Communication}
use Rattle.osdp_msg.specs.declared.event.Event.{Event as EventOfReader}
use Rattle.osdp_msg.specs.declared.reply.Reply.{Reply}
use Rattle.osdp_msg.specs.declared.reply.Reply.TheVariants as replies
use Rattle.osdp_msg.specs.declared.reply_fields.PdId.{PdId}
use Rattle.osdp_msg.specs.Events.{event_reply}
use Rattle.osdp_controller.specs.declared.exchange.Exchange.TheVariants.{Opening, Polling, Asking}
use Rattle.osdp_controller.specs.declared.meaning.ReplyMeaning.TheVariants.{Plain, Unreadable}
use Rattle.osdp_controller.specs.declared.report.Report.{Report}
use Rattle.osdp_controller.specs.declared.report.Report.TheVariants.{Opened, Settled, Moved, Event, PollAnswered, Unread}
use Rattle.osdp_controller.specs.declared.session.Session.{Session}
use Rattle.osdp_controller.specs.Hearing.{hears}
use Rattle.osdp_controller.specs.Sessions.{at_rest, seen}
use Rattle.osdp_controller_laws.specs.Laws.{ComesNumbered, ConfirmsMove}
use Rattle.osdp_controller_laws.specs.Steps.{moved_away}

-- the frame tells this, and leaves the session so, which has seen the moment
abbrev pub Brings : Option Report → (Session → Session) → Packet → ℕ → Session → Type 0
Brings report left p now s = hears p now s ≡ record { session = left (seen now s); report = report }

abbrev pub as_it_was : Session → Session
as_it_was s = s

-- the reply is the COM that moves the reader: its rate doesn't matter, nor where the reader was
abbrev pub Confirms : Command → Reply → Communication → Type 0
Confirms command reply answered = (reply ≡ replies.Com answered) × ConfirmsMove command answered

pub record AnswersBring (p : Packet) (now : ℕ) (s : Session) : Type 0 where
  -- to the opening ID: a PDID opens the session. Any other reply is passed over, a NAK and one that cannot be read too
  pub opens : (id : PdId) → ComesNumbered p s Opening (Plain (replies.PdId id)) → Brings (Some (Opened id)) at_rest p now s
  pub passed : (reply : Reply) → ComesNumbered p s Opening (Plain reply) → ((id : PdId) → reply ≢ replies.PdId id) → Brings None as_it_was p now s
  pub passed_unread : (code : ℕ) → ComesNumbered p s Opening (Unreadable code) → Brings None as_it_was p now s
  -- to a POLL: ACK tells nothing, an event is told, and so is any other reply, a NAK too
  pub nothing : ComesNumbered p s Polling (Plain replies.Ack) → Brings None at_rest p now s
  pub event : (e : EventOfReader) → ComesNumbered p s Polling (Plain (event_reply e)) → Brings (Some (Event e)) at_rest p now s
  pub no_event : (reply : Reply) → ComesNumbered p s Polling (Plain reply) → reply ≢ replies.Ack → ((e : EventOfReader) → reply ≢ event_reply e)
      → Brings (Some (PollAnswered reply)) at_rest p now s
  pub unread_poll : (code : ℕ) → ComesNumbered p s Polling (Unreadable code) → Brings (Some (Unread None code)) at_rest p now s
  -- to a command: a COMSET that is confirmed ends the session, at whatever rate. Any other reply settles its command, also where it doesn't fit it
  pub moves : (command : Command) (reply : Reply) (answered : Communication) → ComesNumbered p s (Asking command) (Plain reply) → Confirms command reply answered
      → Brings (Some (Moved command answered)) (moved_away answered) p now s
  pub settles : (command : Command) (reply : Reply) → ComesNumbered p s (Asking command) (Plain reply) → ((answered : Communication) → Confirms command reply answered → ⊥)
      → Brings (Some (Settled command reply)) at_rest p now s
  pub unread_command : (command : Command) (code : ℕ) → ComesNumbered p s (Asking command) (Unreadable code)
      → Brings (Some (Unread (Some command) code)) at_rest p now s
