-- The words of make, and the packet that they order.
use Rattle.std.specs.Prelude.{◌<◌, ℕ, Bool, true, false, List, ◌∷◌, ◌++◌, codes}
use Rattle.hex.specs.Hex.{encode_upper}
use Rattle.osdp_frame.specs.Check.{check_name}
use Rattle.osdp_frame.specs.Packet.{Packet}
use Rattle.osdp_frame.specs.Packed.{packed}
use Rattle.osdp_frame.specs.Spelling.{spelling}
use Rattle.osdp_words.specs.Word.{Word, plain, number}
use Rattle.osdp_msg.specs.CommandTable.{CommandFits, command_code, command_data}
use Rattle.osdp_msg.specs.CommandText.{command_words}
use Rattle.osdp_msg.specs.ReplyTable.{ReplyFits, reply_code, reply_data}
use Rattle.osdp_msg.specs.ReplyText.{reply_words}
use Rattle.osdp_tool.specs.declared.order.Message.{Message}
use Rattle.osdp_tool.specs.declared.order.Message.TheVariants.{Command, Reply}
use Rattle.osdp_tool.specs.declared.order.PacketOrder.{PacketOrder}

-- a reply comes from a device
abbrev pub message_is_reply : Message → Bool
message_is_reply (Command m) = false
message_is_reply (Reply m) = true

-- the words of a text of the table of commands or of replies
abbrev pub message_words : Message → List Word
message_words (Command m) = command_words m
message_words (Reply m) = reply_words m

-- the code and the data
abbrev pub message_body : Message → List ℕ
message_body (Command m) = command_code m ∷ command_data m
message_body (Reply m) = reply_code m ∷ reply_data m

abbrev pub MessageFits : Message → Type 0
MessageFits (Command m) = CommandFits m
MessageFits (Reply m) = ReplyFits m

-- an address, a sequence number, the check's name and the words of the message
abbrev pub order_words : PacketOrder → List Word
order_words o = number o.address ∷ number o.seq ∷ plain (check_name o.check) ∷ message_words o.message

-- the fields are in their ranges
pub record OrderFits (o : PacketOrder) : Type 0 where
  pub address : o.address < 128
  pub sequence : o.seq < 4
  pub message : MessageFits o.message

-- the packet, without a security block and with reserved bits of zero
abbrev pub order_packet : PacketOrder → Packet
order_packet o = packed (message_is_reply o.message) o.address o.seq o.check false 0 (message_body o.message)

-- the packet's bytes in upper case digits
abbrev pub order_digits : PacketOrder → List ℕ
order_digits o = encode_upper (spelling (order_packet o))

-- one line of them
abbrev pub order_line : PacketOrder → List ℕ
order_line o = order_digits o ++ codes "\n"
