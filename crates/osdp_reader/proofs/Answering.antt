-- What holds of each reply to a command that is acted on, whether the reader gives it by itself, tells an event or asks the handler.
use Rattle.std.proofs.Common.{List, Option, Some, None}
use Rattle.std.specs.Prelude.{slice_get}
use Rattle.std.specs.Option.{option_map}
use Rattle.osdp_msg.specs.declared.command.Command.{Command}
use Rattle.osdp_msg.specs.declared.command.Command.TheVariants.{Poll}
use Rattle.osdp_msg.specs.declared.event.Event.{Event}
use Rattle.osdp_msg.specs.declared.reply.Reply.{Reply}
use Rattle.osdp_msg.specs.Events.{event_reply}
use Rattle.osdp_reader.specs.declared.config.ReaderConfig.{ReaderConfig}
use Rattle.osdp_reader.specs.declared.handler.Answer.{Answer}
use Rattle.osdp_reader.specs.Queue.{event_for}
use Rattle.osdp_reader.specs.Replies.{own_reply, reply_for}
use Rattle.osdp_reader.specs.Table.{answer_to, answered, event_or_answer}

-- where there is a reply
abbrev pub OfReply : (Reply → Type 0) → Option Reply → Type 0
OfReply P None = Unit {0}
OfReply P (Some reply) = P reply

module _ (P : Command → Reply → Type 0) (told : (e : Event) → P Poll (event_reply e)) where
  of_event : (o : Option Event) → OfReply (P Poll) (option_map event_reply o)
  of_event None = tt
  of_event (Some e) = told e

  of_events : (c : Command) (events : List Event) → OfReply (P c) (event_for c events)
  of_events Poll events = of_event (slice_get events 0)
  of_events c events = tt

  module _ (own : (config : ReaderConfig) (c : Command) → OfReply (P c) (own_reply config c)) (handled : (a : Answer) (c : Command) → P c (reply_for a c))
      {H : Type 0} (answer_of : H → Command → Answer) (after : H → Command → H) where
    of_handler : (o : Option Reply) (handler : H) (c : Command) → OfReply (P c) o → P c (answered answer_of after o handler c).reply
    of_handler (Some reply) handler c so = so
    of_handler None handler c none = handled (answer_of handler c) c

    pub of_answer : (config : ReaderConfig) (handler : H) (c : Command) → P c (answer_to answer_of after config handler c).reply
    of_answer config handler c = of_handler (own_reply config c) handler c (own config c)

    of_either : (o : Option Reply) (config : ReaderConfig) (handler : H) (c : Command) → OfReply (P c) o
        → P c (event_or_answer answer_of after o config handler c).reply
    of_either (Some event) config handler c so = so
    of_either None config handler c none = of_answer config handler c

    pub of_event_or_answer : (config : ReaderConfig) (handler : H) (c : Command) (events : List Event)
        → P c (event_or_answer answer_of after (event_for c events) config handler c).reply
    of_event_or_answer config handler c events = of_either (event_for c events) config handler c (of_events c events)
