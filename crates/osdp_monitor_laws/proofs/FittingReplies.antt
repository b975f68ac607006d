-- What a reader says anew is an answer, and fits its command, whatever the handler does.
use Rattle.osdp_monitor_laws.proofs.Common.{◌≡◌, true, not, ◌&&◌, eqb, List, refl, false≢true, meaning_by_reason, meaning_by_reply, Command, MsgFault, CheckCharacters, UnexpectedSequence, Reply, reply_fits, Answer, said_by, AnswerOfHandler, event_for, refused, unread_reason, answer_to, event_or_answer}
use Rattle.osdp_msg.specs.declared.event.Event.{Event}
use Rattle.osdp_msg.specs.declared.nak.NakReason.{NakReason}
use Rattle.osdp_msg.specs.declared.reply.Reply.TheVariants as reply
use Rattle.osdp_msg.specs.declared.reply_fields.Nak.{Nak}
use Rattle.osdp_msg.specs.NakReasons.{reason_number}
use Rattle.osdp_reader.specs.declared.config.ReaderConfig.{ReaderConfig}
use Rattle.osdp_reader_laws.proofs.FittingReplies as replies
use Rattle.osdp_reader_laws.proofs.PlainReplies.{unread_plain}

-- neither BUSY nor NAK 1 or 4
abbrev pub IsAnswer : Reply → Type 0
IsAnswer x = said_by (meaning_by_reply x) ≡ Answer

abbrev pub Suits : Command → Reply → Type 0
Suits c x = IsAnswer x × (reply_fits c x ≡ true)

reason_answers : (reason : NakReason) (n : Nak) → (not (eqb (reason_number reason) 1) && not (eqb (reason_number reason) 4)) ≡ true
    → said_by (meaning_by_reason reason n) ≡ Answer
reason_answers CheckCharacters n plain = absurd (false≢true plain)
reason_answers UnexpectedSequence n plain = absurd (false≢true plain)
reason_answers _ n plain = refl

plain_answers : (x : Reply) → replies.plainly x ≡ true → IsAnswer x
plain_answers reply.Busy plain = absurd (false≢true plain)
plain_answers (reply.Nak n) plain = reason_answers n.reason n plain
plain_answers x plain = refl

pub unread_answers : (fault : MsgFault) → IsAnswer (refused (unread_reason fault))
unread_answers fault = plain_answers (refused (unread_reason fault)) (unread_plain fault)

module _ {H : Type 0} (answer_of : H → Command → AnswerOfHandler) (after : H → Command → H) where
  pub answer_suits : (config : ReaderConfig) (handler : H) (c : Command) → Suits c (answer_to answer_of after config handler c).reply
  answer_suits config handler c =
      let suits = replies.answer_suits answer_of after config handler c in
      (plain_answers (answer_to answer_of after config handler c).reply suits.1, suits.0)

  pub event_or_answer_suits : (config : ReaderConfig) (handler : H) (c : Command) (events : List Event)
      → Suits c (event_or_answer answer_of after (event_for c events) config handler c).reply
  event_or_answer_suits config handler c events =
      let suits = replies.event_or_answer_suits answer_of after config handler c events in
      (plain_answers (event_or_answer answer_of after (event_for c events) config handler c).reply suits.1, suits.0)
