-- What a reader's table and a controller's make of the queue beside a line.
use Rattle.std.specs.Prelude.{◌≡◌, ◌≢◌, ℕ, Some, None, slice_get, Ok}
use Rattle.osdp_frame.specs.Packet.{Packet}
use Rattle.osdp_msg.specs.declared.command.Command.{Command}
use Rattle.osdp_msg.specs.declared.command.Command.TheVariants.{Poll}
use Rattle.osdp_msg.specs.declared.event.Event.{Event}
use Rattle.osdp_msg.specs.Events.{event_reply}
use Rattle.osdp_controller.specs.declared.exchange.Exchange.TheVariants.{Polling}
use Rattle.osdp_controller.specs.declared.meaning.ReplyMeaning.TheVariants.{Plain}
use Rattle.osdp_controller.specs.declared.report.Report.TheVariants as reports
use Rattle.osdp_controller.specs.Answers.{meaning_of}
use Rattle.osdp_controller_laws.specs.Laws.{exchange_in}
use Rattle.osdp_bus.specs.declared.entry.Entry.{Entry}
use Rattle.osdp_bus.specs.Entries.{told_of}
use Rattle.osdp_bus_laws.specs.Exchanges.{own_frame}
use Rattle.osdp_reader.specs.declared.handler.Answer.{Answer}
use Rattle.osdp_reader.specs.declared.kind.Kind.TheVariants.{Taken}
use Rattle.osdp_reader.specs.Queue.{released}
use Rattle.osdp_reader.specs.Replies.{reply_packet}
use Rattle.osdp_reader.specs.State.{ReaderState}
use Rattle.osdp_reader.specs.Table.{command_in, hears, kind_of}
use Rattle.osdp_card_time_laws.specs.Beside.{taken}

module _ {H : Type 0} (answer_of : H → Command → Answer) (after : H → Command → H) where
  -- a packet that the reader takes: an order, or a POLL, and this is answered by the front
  pub record TakesAsQueue (r : ReaderState H) (p : Packet) : Type 0 where
    pub order : (command : Command) → command_in p ≡ Ok command → command ≢ Poll → (hears answer_of after r p).reader.queue ≡ taken (Some command) r.queue
    pub poll : command_in p ≡ Ok Poll → (hears answer_of after r p).reader.queue ≡ taken None r.queue
    pub front : (event : Event) → command_in p ≡ Ok Poll → slice_get (released r.queue).events 0 ≡ Some event
        → (hears answer_of after r p).reply ≡ Some (reply_packet p p.sequence (event_reply event))

  abbrev pub ReadersTakeAsQueues : Type 0
  ReadersTakeAsQueues = (r : ReaderState H) (p : Packet) → kind_of r p ≡ Taken → TakesAsQueue r p

-- this answer to the packet of a POLL tells the controller of the event
abbrev pub AnswersTellTheFront : Type 0
AnswersTellTheFront = (event : Event) (p : Packet) (now : ℕ) (d : Entry) → exchange_in d.controller.session.state ≡ Some Polling → own_frame d ≡ Some p
    → meaning_of (reply_packet p p.sequence (event_reply event)) ≡ Plain (event_reply event)
    → told_of (reply_packet p p.sequence (event_reply event)) now d ≡ Some (reports.Event event)
