-- The reply to each command that is acted on, and which of them the handler is asked about: once, and about no other.
use Rattle.std.specs.Prelude.{◌≡◌, ◌≤◌, ◌<◌, ◌∷◌, ℕ, []}
use Rattle.osdp_msg.specs.declared.command.Command.{Command}
use Rattle.osdp_msg.specs.declared.command.Command.TheVariants.{Poll, Id, Cap, LocalStatus, InputStatus, OutputStatus, ReaderStatus, Output, Led, Buzzer, Text, Comset, Maker}
use Rattle.osdp_msg.specs.declared.command_fields.Communication.{Communication}
use Rattle.osdp_msg.specs.declared.fault.MsgFault.TheVariants.{UnknownCode, Length, Count}
use Rattle.osdp_msg.specs.declared.nak.NakReason.{NakReason}
use Rattle.osdp_msg.specs.declared.nak.NakReason.TheVariants.{CommandLength, UnknownCommand}
use Rattle.osdp_msg.specs.declared.reply.Reply.{Reply}
use Rattle.osdp_msg.specs.declared.reply.Reply.TheVariants as reply
use Rattle.osdp_msg.specs.ReplyTable.{reply_code, reply_data}
use Rattle.osdp_reader.specs.declared.config.ReaderConfig.{ReaderConfig}
use Rattle.osdp_reader.specs.declared.handler.Answer.{Answer}
use Rattle.osdp_reader.specs.declared.handler.Answer.TheVariants as answer
use Rattle.osdp_reader.specs.Replies.{refused, unread_reason}
use Rattle.osdp_reader.specs.Table.{answer_to}
use Rattle.osdp_reader_laws.specs.Laws.{nak_body}

-- a NAK with this number, and nothing after it
abbrev pub Refuses : ℕ → Reply → Type 0
Refuses number said = reply_code said ∷ reply_data said ≡ nak_body number

-- a packet that holds no command: 3 where its code is unknown, 2 where its length or a count in it is wrong
pub record RefusesByCause : Type 0 where
  pub code : Refuses 3 (refused (unread_reason UnknownCode))
  pub length : Refuses 2 (refused (unread_reason Length))
  pub count : Refuses 2 (refused (unread_reason Count))

-- a command that the reader doesn't answer by itself
abbrev pub IsForItsHandler : Command → Type 0
IsForItsHandler Poll = ⊥
IsForItsHandler (Id kept) = ⊥
IsForItsHandler (Cap kept) = ⊥
IsForItsHandler (Comset asked) = ⊥
IsForItsHandler _ = Unit {0}

-- reasons 2 and 3 are told as they are, all others as 9
abbrev pub RefusesFor : NakReason → Reply → Type 0
RefusesFor CommandLength said = Refuses 2 said
RefusesFor UnknownCommand said = Refuses 3 said
RefusesFor _ said = Refuses 9 said

-- command by command: what the handler's answer is told as. An answer that doesn't belong to the command is NAK 9
abbrev pub IsToldAs : Command → Answer → Reply → Type 0
IsToldAs (Output records) answer.Done said = said ≡ reply.Ack
IsToldAs (Led records) answer.Done said = said ≡ reply.Ack
IsToldAs (Buzzer b) answer.Done said = said ≡ reply.Ack
IsToldAs (Text t) answer.Done said = said ≡ reply.Ack
IsToldAs (Maker m) answer.Done said = said ≡ reply.Ack
IsToldAs (Maker m) (answer.Maker own) said = said ≡ reply.MakerReply own
IsToldAs LocalStatus (answer.Local tamper power) said = said ≡ reply.LocalState (record { tamper = tamper; power = power })
IsToldAs InputStatus (answer.List states) said = said ≡ reply.Inputs states
IsToldAs OutputStatus (answer.List states) said = said ≡ reply.Outputs states
IsToldAs ReaderStatus (answer.List states) said = said ≡ reply.Readers states
IsToldAs _ (answer.Refuse reason) said = RefusesFor reason said
IsToldAs _ _ said = Refuses 9 said

module _ {H : Type 0} (answer_of : H → Command → Answer) (after : H → Command → H) where
  -- by what the reader is, and its handler stays: POLL where no event is told, ID, CAP, and COMSET with its own values, or NAK 9 where its address is
  -- no device's
  pub record AnswersByItself (config : ReaderConfig) (handler : H) : Type 0 where
    pub poll : answer_to answer_of after config handler Poll ≡ record { reply = reply.Ack; handler = handler }
    pub id : (kept : ℕ) → answer_to answer_of after config handler (Id kept) ≡ record { reply = reply.PdId config.id; handler = handler }
    pub cap : (kept : ℕ) → answer_to answer_of after config handler (Cap kept)
        ≡ record { reply = reply.PdCap (record { capabilities = config.caps }); handler = handler }
    pub comset : (asked : Communication) → asked.address ≤ 126
        → answer_to answer_of after config handler (Comset asked) ≡ record { reply = reply.Com asked; handler = handler }
    pub above : (asked : Communication) → 126 < asked.address
        → Refuses 9 (answer_to answer_of after config handler (Comset asked)).reply
        × ((answer_to answer_of after config handler (Comset asked)).handler ≡ handler)

  -- .. and each other command reaches the handler once, and its answer is told
  abbrev pub AsksItsHandlerOnce : Type 0
  AsksItsHandlerOnce = (config : ReaderConfig) (handler : H) (command : Command) → IsForItsHandler command
      → let a = answer_to answer_of after config handler command in
      (a.handler ≡ after handler command) × IsToldAs command (answer_of handler command) a.reply
