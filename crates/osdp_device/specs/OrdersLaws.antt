-- What a device does with a command, by the number that it came with and by the reply to it.
use Rattle.std.specs.Prelude.{◌≡◌, ◌≢◌, ◌↔◌, false, Some, None}
use Rattle.osdp_frame.specs.Packet.{Packet}
use Rattle.osdp_msg.specs.declared.command.Command.{Command}
use Rattle.osdp_msg.specs.declared.command.Command.TheVariants.{Poll}
use Rattle.osdp_msg.specs.declared.reply.Reply.{Reply}
use Rattle.osdp_reader.specs.declared.handler.Answer.{Answer}
use Rattle.osdp_reader.specs.declared.kind.Kind.TheVariants.{Zero, Taken}
use Rattle.osdp_reader.specs.State.{ReaderState}
use Rattle.osdp_reader.specs.Table.{hears, kind_of}
use Rattle.osdp_device.specs.Orders.{is_refusal, order_of, ordered_in}
use Rattle.osdp_device.specs.Saying.{said_to}
use Rattle.osdp_device.specs.declared.order.Order.TheVariants.{Nothing, Once, Again}

module _ {H : Type 0} (answer_of : H → Command → Answer) (after : H → Command → H) where
  -- the reader acts on this command of a packet, which is no POLL, and says this to it
  pub record ActsOn (r : ReaderState H) (p : Packet) (command : Command) (reply : Reply) : Type 0 where
    pub read : (hears answer_of after r p).command ≡ Some command
    pub is_no_poll : command ≢ Poll
    pub said : (hears answer_of after r p).said ≡ Some reply

  -- The order is about that command. Where the reply refuses it not, it is done once exactly where it came with the next number, and as one that may come again
  -- exactly where it came with number 0. Nothing is done on a POLL, nor on what the reader doesn't act on or can't read.
  pub record OrdersByNumber (r : ReaderState H) (p : Packet) : Type 0 where
    pub about : (command : Command) (reply : Reply) → ActsOn r p command reply → ordered_in (said_to answer_of after r p) ≡ Some command
    pub once : (command : Command) (reply : Reply) → ActsOn r p command reply → is_refusal reply ≡ false
        → (order_of (said_to answer_of after r p) ≡ Once) ↔ (kind_of r p ≡ Taken)
    pub again : (command : Command) (reply : Reply) → ActsOn r p command reply → is_refusal reply ≡ false
        → (order_of (said_to answer_of after r p) ≡ Again) ↔ (kind_of r p ≡ Zero)
    pub poll : (hears answer_of after r p).command ≡ Some Poll → order_of (said_to answer_of after r p) ≡ Nothing
    pub none : (hears answer_of after r p).command ≡ None → order_of (said_to answer_of after r p) ≡ Nothing
