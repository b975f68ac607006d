-- What each end reads of the packets that the other one sends.
use Rattle.std.specs.Prelude.{◌≡◌, ◌⊎◌, ℕ, Some, Ok}
use Rattle.osdp_frame.specs.Packet.{Packet}
use Rattle.osdp_msg.specs.CommandTable.{CommandFits}
use Rattle.osdp_msg.specs.Events.{event_in, event_reply}
use Rattle.osdp_msg.specs.ReplyTable.{ReplyFits}
use Rattle.osdp_msg.specs.declared.command.Command.{Command}
use Rattle.osdp_msg.specs.declared.event.Event.{Event}
use Rattle.osdp_msg.specs.declared.reply.Reply.{Reply}
use Rattle.osdp_controller.specs.Answers.{meaning_by_reply, meaning_of}
use Rattle.osdp_controller.specs.Exchanges.{exchange_command}
use Rattle.osdp_controller.specs.Sessions.{frame_of}
use Rattle.osdp_controller.specs.declared.meaning.ReplyMeaning.TheVariants.{NotTaken, Plain}
use Rattle.osdp_controller.specs.declared.exchange.Exchange.{Exchange}
use Rattle.osdp_controller.specs.declared.session.Session.{Session}
use Rattle.osdp_reader.specs.Replies.{reply_packet}
use Rattle.osdp_reader.specs.Table.{command_in}
use Rattle.osdp_reader.specs.declared.handler.Answer.{Answer}
use Rattle.osdp_reader_laws.specs.Laws.{AnswersPlainly, IsPlain}

-- the reader reads the command that the exchange asks
abbrev pub ReadsWhatIsAsked : Type 0
ReadsWhatIsAsked = (x : Exchange) (s : Session) → CommandFits (exchange_command x)
    → command_in (frame_of x s) ≡ Ok (exchange_command x)

-- the controller reads the reply
abbrev pub ReadsWhatIsAnswered : Type 0
ReadsWhatIsAnswered = (p : Packet) (number : ℕ) (r : Reply) → ReplyFits r
    → meaning_of (reply_packet p number r) ≡ meaning_by_reply r

-- a plain reply is the answer
abbrev pub TakesPlainReplies : Type 0
TakesPlainReplies = (r : Reply) → IsPlain r → meaning_by_reply r ≡ Plain r

-- a packet that says BUSY, or a reply that settles: none refuses a number or a check, and all can be read
abbrev pub IsPlainlySaid : Packet → Type 0
IsPlainlySaid p = (meaning_of p ≡ NotTaken) ⊎ ((r : Reply) × (meaning_of p ≡ Plain r))

-- the reply that tells an event tells this event
abbrev pub TellsItsEvent : Type 0
TellsItsEvent = (e : Event) → event_in (event_reply e) ≡ Some e

-- both ends read what the other says, and the reader's answers settle
pub record ReadEachOther {H : Type 0} (answer_of : H → Command → Answer) (after : H → Command → H) : Type 0 where
  pub asked : ReadsWhatIsAsked
  pub answered : ReadsWhatIsAnswered
  pub plain : TakesPlainReplies
  pub tells : TellsItsEvent
  pub plainly : AnswersPlainly answer_of after
