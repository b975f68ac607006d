-- The reader's table: the tests in their order, and for each kind of packet one effect.
use Rattle.std.specs.Prelude.{ℕ, ◌==◌, Bool, ◌||◌, not, nat_le, drop, slice_index, Option, Some, None, Result, Ok, Err, if◌then◌else◌}
use Rattle.osdp_frame.specs.Packet.{Packet, next_sequence}
use Rattle.osdp_msg.specs.CommandTable.{command_of}
use Rattle.osdp_msg.specs.declared.command.Command.{Command}
use Rattle.osdp_msg.specs.declared.command.Command.TheVariants.{Comset}
use Rattle.osdp_msg.specs.declared.fault.MsgFault.{MsgFault}
use Rattle.osdp_msg.specs.declared.nak.NakReason.TheVariants.{SecurityBlock, UnexpectedSequence}
use Rattle.osdp_msg.specs.declared.reply.Reply.{Reply}
use Rattle.osdp_msg.specs.declared.reply.Reply.TheVariants as reply
use Rattle.osdp_reader.specs.declared.config.ReaderConfig.{ReaderConfig}
use Rattle.osdp_reader.specs.declared.handler.Answer.{Answer}
use Rattle.osdp_reader.specs.declared.kind.Kind.{Kind}
use Rattle.osdp_reader.specs.declared.kind.Kind.TheVariants.{Silent, Secured, Zero, Repeat, Taken, Busy, Wrong}
use Rattle.osdp_reader.specs.Queue.{event_for, offering, released, unoffered}
use Rattle.osdp_reader.specs.Replies.{own_reply, refused, reply_for, reply_packet, unread_reason}
use Rattle.osdp_reader.specs.State.{ReaderState}

-- by the last number and the packet's number, which isn't 0
abbrev pub kind_by_number : Option ℕ → ℕ → Bool → Kind
kind_by_number None sequence busy = Wrong
kind_by_number (Some last) sequence busy =
    if sequence == last then Repeat
    else if sequence == next_sequence last then (if busy then Busy else Taken)
    else Wrong

-- where the COMSET is accepted, the address that it sets
abbrev pub new_address : Command → Option ℕ
new_address (Comset c) = if nat_le c.address 126 then Some c.address else None
new_address _ = None

-- the command that a packet's code and data are
abbrev pub command_in : Packet → Result Command MsgFault
command_in p = command_of (slice_index p.body 0) (drop 1 p.body)

-- a reply, and the handler after it
pub record Answered (H : Type 0) : Type 0 where
  pub reply : Reply
  pub handler : H

-- what comes of a packet: the command that was acted on and could be read, the reply that is said anew, the packet that is
-- sent back, and the reader after it
pub record Outcome (H : Type 0) : Type 0 where
  pub command : Option Command
  pub said : Option Reply
  pub reply : Option Packet
  pub reader : ReaderState H

module _ {H : Type 0} where
  -- whether the packet is for another device, or from one
  abbrev pub is_for_another : ReaderState H → Packet → Bool
  is_for_another r p = p.reply || not (p.address == r.config.address || p.address == 127)

  -- the first test that holds
  abbrev pub kind_of : ReaderState H → Packet → Kind
  kind_of r p =
      if is_for_another r p then Silent
      else if p.block then Secured
      else if p.sequence == 0 then (if r.busy then Busy else Zero)
      else kind_by_number r.last p.sequence r.busy

  -- a COMSET to another address: nothing that was said at the old one counts any more
  abbrev pub moved : Option ℕ → ReaderState H → ReaderState H
  moved None r = r
  moved (Some address) r =
      if address == r.config.address then r
      else record r { config = record r.config { address = address }; last = None; stored = None }

  -- nothing changes, and nothing is said but what was said before
  abbrev pub unchanged : ReaderState H → Option Packet → Outcome H
  unchanged r p = record { command = None; said = None; reply = p; reader = r }

  -- nothing changes, and this reply goes out with this number
  abbrev pub refuses : ReaderState H → Packet → ℕ → Reply → Outcome H
  refuses r p sequence reply =
      record { command = None; said = Some reply; reply = Some (reply_packet p sequence reply); reader = r }

  module _ (answer_of : H → Command → Answer) (after : H → Command → H) where
    -- what the reader answers by itself, or else its handler
    abbrev pub answered : Option Reply → H → Command → Answered H
    answered (Some own) handler command = record { reply = own; handler = handler }
    answered None handler command =
        record { reply = reply_for (answer_of handler command) command; handler = after handler command }

    abbrev pub answer_to : ReaderConfig → H → Command → Answered H
    answer_to config handler command = answered (own_reply config command) handler command

    -- a taken command: the front is offered where an event is told, and else it is answered as any command
    abbrev pub event_or_answer : Option Reply → ReaderConfig → H → Command → Answered H
    event_or_answer (Some event) config handler command = record { reply = event; handler = handler }
    event_or_answer None config handler command = answer_to config handler command

    -- number 0: no event is told
    abbrev pub begun : Result Command MsgFault → ReaderState H → Packet → Outcome H
    begun (Err fault) r p = record {
      command = None;
      said = Some (refused (unread_reason fault));
      reply = Some (reply_packet p 0 (refused (unread_reason fault)));
      reader = record r { last = Some 0; queue = unoffered r.queue };
    }
    begun (Ok command) r p =
        let a = answer_to r.config r.handler command in
        record {
          command = Some command;
          said = Some a.reply;
          reply = Some (reply_packet p 0 a.reply);
          reader = moved (new_address command)
              (record r { last = Some 0; queue = unoffered r.queue; handler = a.handler });
        }

    -- the next number: an offered front has come through, and the reply is stored
    abbrev pub taken : Result Command MsgFault → ReaderState H → Packet → Outcome H
    taken (Err fault) r p =
        let back = reply_packet p p.sequence (refused (unread_reason fault)) in
        record {
          command = None;
          said = Some (refused (unread_reason fault));
          reply = Some back;
          reader = record r { last = Some p.sequence; stored = Some back; queue = released r.queue };
        }
    taken (Ok command) r p =
        let queue = released r.queue in
        let event = event_for command queue.events in
        let a = event_or_answer event r.config r.handler command in
        let back = reply_packet p p.sequence a.reply in
        record {
          command = Some command;
          said = Some a.reply;
          reply = Some back;
          reader = moved (new_address command)
              (record r { last = Some p.sequence; stored = Some back; queue = offering event queue; handler = a.handler });
        }

    -- one effect for each kind
    abbrev pub outcome : Kind → ReaderState H → Packet → Outcome H
    outcome Silent r p = unchanged r None
    outcome Secured r p = refuses r p p.sequence (refused SecurityBlock)
    outcome Zero r p = begun (command_in p) r p
    outcome Repeat r p = unchanged r r.stored
    outcome Taken r p = taken (command_in p) r p
    outcome Busy r p = refuses r p 0 reply.Busy
    outcome Wrong r p = refuses r p p.sequence (refused UnexpectedSequence)

    -- what a packet does to a reader
    abbrev pub hears : ReaderState H → Packet → Outcome H
    hears r p = outcome (kind_of r p) r p
