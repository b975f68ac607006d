-- The reply to each command, by what the reader is or by what its handler answers.
use Rattle.osdp_reader_laws.proofs.Common.{◌≡◌, refl, Command, ReaderConfig, Answer, reply_for, answer_to}
use Rattle.osdp_msg.specs.declared.command.Command.TheVariants as command
use Rattle.osdp_msg.specs.declared.nak.NakReason.{NakReason}
use Rattle.osdp_msg.specs.declared.nak.NakReason.TheVariants.{CommandLength, UnknownCommand}
use Rattle.osdp_reader.specs.declared.handler.Answer.TheVariants as answer
use Rattle.osdp_reader.specs.Replies.{refusal_reply}
use Rattle.osdp_reader_laws.specs.Replying.{IsForItsHandler, IsToldAs, RefusesFor}

refuses_for : (reason : NakReason) → RefusesFor reason (refusal_reply reason)
refuses_for CommandLength = refl
refuses_for UnknownCommand = refl
refuses_for reason = refl

told_as : (c : Command) (a : Answer) → IsToldAs c a (reply_for a c)
told_as command.Poll (answer.Refuse reason) = refuses_for reason
told_as (command.Id kept) (answer.Refuse reason) = refuses_for reason
told_as (command.Cap kept) (answer.Refuse reason) = refuses_for reason
told_as command.LocalStatus (answer.Refuse reason) = refuses_for reason
told_as command.InputStatus (answer.Refuse reason) = refuses_for reason
told_as command.OutputStatus (answer.Refuse reason) = refuses_for reason
told_as command.ReaderStatus (answer.Refuse reason) = refuses_for reason
told_as (command.Output records) (answer.Refuse reason) = refuses_for reason
told_as (command.Led records) (answer.Refuse reason) = refuses_for reason
told_as (command.Buzzer b) (answer.Refuse reason) = refuses_for reason
told_as (command.Text t) (answer.Refuse reason) = refuses_for reason
told_as (command.Comset asked) (answer.Refuse reason) = refuses_for reason
told_as (command.Maker m) (answer.Refuse reason) = refuses_for reason
told_as c a = refl

module _ {H : Type 0} (answer_of : H → Command → Answer) (after : H → Command → H) where
  pub asks_once : (config : ReaderConfig) (handler : H) (c : Command) → IsForItsHandler c
      → ((answer_to answer_of after config handler c).handler ≡ after handler c)
      × IsToldAs c (answer_of handler c) (answer_to answer_of after config handler c).reply
  asks_once config handler command.Poll own = absurd own
  asks_once config handler (command.Id kept) own = absurd own
  asks_once config handler (command.Cap kept) own = absurd own
  asks_once config handler (command.Comset asked) own = absurd own
  asks_once config handler c own = (refl, told_as c (answer_of handler c))
