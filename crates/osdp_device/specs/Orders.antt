-- What a device does with a command that its reader has acted on.
use Rattle.std.specs.Prelude.{ℕ, ◌==◌, Bool, true, false, List, slice_index, Option, None, Some}
use Rattle.osdp_msg.specs.declared.command.Command.{Command}
use Rattle.osdp_msg.specs.declared.reply.Reply.{Reply}
use Rattle.osdp_msg.specs.declared.reply.Reply.TheVariants as reply
use Rattle.osdp_device.specs.Saying.{Said, again_by, taken_by}
use Rattle.osdp_device.specs.declared.order.Order.{Order}
use Rattle.osdp_device.specs.declared.order.Order.TheVariants.{Nothing, Once, Again, Refused}

-- whether what is sent back is a NAK, by which a command is refused: the code of a reply is its sixth byte
abbrev pub is_nak : List ℕ → Bool
is_nak bytes = slice_index bytes 5 == 0x41

-- whether a reply is one
abbrev pub is_refusal : Reply → Bool
is_refusal (reply.Nak n) = true
is_refusal _ = false

-- a command that the device does once; one that came with number 0 and may come again; one of both that is refused
abbrev pub order_by : Bool → Option Command → Option Command → Order
order_by refused None None = Nothing
order_by false (Some command) again = Once
order_by false None (Some command) = Again
order_by true (Some command) again = Refused
order_by true None (Some command) = Refused

abbrev pub order_of : Said → Order
order_of s = order_by (is_nak s.bytes) (taken_by s.kind s.command) (again_by s.kind s.command)

-- the command that the order is about
abbrev pub either : Option Command → Option Command → Option Command
either (Some command) again = Some command
either None again = again

abbrev pub ordered_in : Said → Option Command
ordered_in s = either (taken_by s.kind s.command) (again_by s.kind s.command)
