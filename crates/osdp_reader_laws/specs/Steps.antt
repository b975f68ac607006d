-- What a packet does to what a reader keeps, line by line of its table.
use Rattle.std.specs.Prelude.{◌≡◌, ◌≢◌, ◌≤◌, ◌⊎◌, ◌↔◌, [], ◌∷◌, true, false, List, drop, Some, None, Ok, Err}
use Rattle.osdp_frame.specs.Packet.{Packet}
use Rattle.osdp_msg.specs.declared.command.Command.{Command}
use Rattle.osdp_msg.specs.declared.command.Command.TheVariants.{Comset, Poll}
use Rattle.osdp_msg.specs.declared.command_fields.Communication.{Communication}
use Rattle.osdp_msg.specs.declared.event.Event.{Event}
use Rattle.osdp_msg.specs.declared.fault.MsgFault.{MsgFault}
use Rattle.osdp_msg.specs.declared.reply.Reply.{Reply}
use Rattle.osdp_msg.specs.declared.reply.Reply.TheVariants as reply
use Rattle.osdp_msg.specs.Events.{event_reply}
use Rattle.osdp_msg.specs.Fitting.{reply_fits}
use Rattle.osdp_reader.specs.declared.config.ReaderConfig.{ReaderConfig}
use Rattle.osdp_reader.specs.declared.handler.Answer.{Answer}
use Rattle.osdp_reader.specs.declared.kind.Kind.TheVariants.{Zero, Taken}
use Rattle.osdp_reader.specs.Replies.{refused, reply_packet, unread_reason}
use Rattle.osdp_reader.specs.Heard.{accepted_comset}
use Rattle.osdp_reader.specs.State.{ReaderState}
use Rattle.osdp_reader.specs.Table.{answer_to, command_in, hears, kind_of}

module _ {H : Type 0} (answer_of : H → Command → Answer) (after : H → Command → H) where
  -- only number 0 and a taken number change anything, or reach the handler
  abbrev pub ChangesByActing : Type 0
  ChangesByActing = (r : ReaderState H) (p : Packet) → kind_of r p ≢ Zero → kind_of r p ≢ Taken
      → ((hears answer_of after r p).reader ≡ r) × ((hears answer_of after r p).command ≡ None)

  -- .. and these tell their command
  abbrev pub TellsItsCommand : Type 0
  TellsItsCommand = (r : ReaderState H) (p : Packet) (command : Command) → (kind_of r p ≡ Zero) ⊎ (kind_of r p ≡ Taken)
      → command_in p ≡ Ok command → (hears answer_of after r p).command ≡ Some command

  -- .. and the reply that is said to it fits it, whatever the handler answers
  abbrev pub SaysWhatFits : Type 0
  SaysWhatFits = (r : ReaderState H) (p : Packet) (command : Command) → (kind_of r p ≡ Zero) ⊎ (kind_of r p ≡ Taken)
      → command_in p ≡ Ok command
      → (reply : Reply) × ((hears answer_of after r p).said ≡ Some reply) × (reply_fits command reply ≡ true)

  -- .. as does the answer to a command at any place of a list of them
  abbrev pub AnswersWhatFits : Type 0
  AnswersWhatFits = (config : ReaderConfig) (handler : H) (command : Command)
      → reply_fits command (answer_to answer_of after config handler command).reply ≡ true

  -- a COMSET to a device's address that is acted on is told with its address and rate, nothing else is, and the reader is at that
  -- address then
  abbrev pub TellsItsComset : Type 0
  TellsItsComset = (r : ReaderState H) (p : Packet) (asked : Communication)
      → ((accepted_comset (hears answer_of after r p).command ≡ Some asked)
      ↔ (((kind_of r p ≡ Zero) ⊎ (kind_of r p ≡ Taken)) × (command_in p ≡ Ok (Comset asked)) × (asked.address ≤ 126)))
      × (accepted_comset (hears answer_of after r p).command ≡ Some asked
      → (hears answer_of after r p).reader.config.address ≡ asked.address)

  -- .. or, where they hold none, refuse it, and the handler stays
  abbrev pub RefusesUnread : Type 0
  RefusesUnread = (r : ReaderState H) (p : Packet) (fault : MsgFault) → (kind_of r p ≡ Zero) ⊎ (kind_of r p ≡ Taken)
      → command_in p ≡ Err fault
      → ((hears answer_of after r p).command ≡ None)
      × ((hears answer_of after r p).reply ≡ Some (reply_packet p p.sequence (refused (unread_reason fault))))
      × ((hears answer_of after r p).reader.handler ≡ r.handler)

  -- after number 0 all events wait and none is offered; where the reader isn't moved, the last number is 0 and the stored
  -- reply is the one from before
  abbrev pub BeginsAnew : Type 0
  BeginsAnew = (r : ReaderState H) (p : Packet) → kind_of r p ≡ Zero
      → let next = (hears answer_of after r p).reader in
      (next.queue.events ≡ r.queue.events)
      × (next.queue.offered ≡ false)
      × (next.config.address ≡ r.config.address → (next.last ≡ Some 0) × (next.stored ≡ r.stored))

  -- a taken number lets the front go where it was offered, and no other event
  abbrev pub LetsItsOfferGo : Type 0
  LetsItsOfferGo = (r : ReaderState H) (p : Packet) → kind_of r p ≡ Taken
      → (r.queue.offered ≡ true → (hears answer_of after r p).reader.queue.events ≡ drop 1 r.queue.events)
      × (r.queue.offered ≡ false → (hears answer_of after r p).reader.queue.events ≡ r.queue.events)

  -- a taken POLL is answered by the event that is the front then, which is offered, or else by ACK; the handler stays
  abbrev pub AnswersPolls : Type 0
  AnswersPolls = (r : ReaderState H) (p : Packet) → kind_of r p ≡ Taken → command_in p ≡ Ok Poll
      → let next = (hears answer_of after r p).reader in
      let answer = (hears answer_of after r p).reply in
      (next.queue.events ≡ [] → (answer ≡ Some (reply_packet p p.sequence reply.Ack)) × (next.queue.offered ≡ false))
      × ((event : Event) (rest : List Event) → next.queue.events ≡ event ∷ rest
      → (answer ≡ Some (reply_packet p p.sequence (event_reply event))) × (next.queue.offered ≡ true))
      × (next.handler ≡ r.handler)

  -- .. and nothing is offered after any other taken number
  abbrev pub OffersToPollsAlone : Type 0
  OffersToPollsAlone = (r : ReaderState H) (p : Packet) → kind_of r p ≡ Taken → command_in p ≢ Ok Poll
      → (hears answer_of after r p).reader.queue.offered ≡ false

  -- no packet changes whether the reader is busy, how many events there may be and how many bytes of them, or what it answers to ID and CAP
  abbrev pub KeepsItsSettings : Type 0
  KeepsItsSettings = (r : ReaderState H) (p : Packet)
      → let next = (hears answer_of after r p).reader in
      (next.busy ≡ r.busy) × (next.queue.capacity ≡ r.queue.capacity) × (next.queue.room ≡ r.queue.room)
      × (next.config.id ≡ r.config.id) × (next.config.caps ≡ r.config.caps)

  -- the address changes by a COMSET to a device's address alone, and to that address
  abbrev pub MovesByComsetAlone : Type 0
  MovesByComsetAlone = (r : ReaderState H) (p : Packet)
      → (hears answer_of after r p).reader.config.address ≢ r.config.address
      → (asked : Communication) × ((hears answer_of after r p).command ≡ Some (Comset asked)) × (asked.address ≤ 126)
      × ((hears answer_of after r p).reader.config.address ≡ asked.address)
