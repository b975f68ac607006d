-- What holds of the words of make and of what it prints.
use Rattle.std.specs.Prelude.{◌≡◌, ℕ, true, false, List, [], ◌∷◌, drop, slice_index, Ok}
use Rattle.osdp_frame.specs.Packet.{Packet}
use Rattle.osdp_frame.specs.Reading.{PacketItem, IsReading}
use Rattle.osdp_frame.specs.Spelling.{spelling}
use Rattle.osdp_msg.specs.CommandTable.{command_of}
use Rattle.osdp_msg.specs.ReplyTable.{reply_of}
use Rattle.osdp_tool.specs.declared.order.Message.{Message}
use Rattle.osdp_tool.specs.declared.order.Message.TheVariants.{Command, Reply}
use Rattle.osdp_tool.specs.declared.order.PacketOrder.{PacketOrder}
use Rattle.osdp_tool.specs.PacketOrder.{OrderFits, order_packet}
use Rattle.osdp_tool.specs.Ending.{Order}

-- words order one packet at most
abbrev pub HasOneOrder : Type 0
HasOneOrder = (given : List (List ℕ)) (a b : PacketOrder) → Order given a → Order given b → a ≡ b

-- the packet is of a command or of a reply as the message is, and the table reads its code and data as that message
abbrev pub IsReadAs : Packet → Message → Type 0
IsReadAs p (Command m) = (p.reply ≡ false) × (command_of (slice_index p.body 0) (drop 1 p.body) ≡ Ok m)
IsReadAs p (Reply m) = (p.reply ≡ true) × (reply_of (slice_index p.body 0) (drop 1 p.body) ≡ Ok m)

-- The bytes of a packet that is ordered are read as that packet alone. It has the address, number and check that were
-- ordered, neither a security block nor reserved bits, and its body is read as the message.
pub record IsReadBack (o : PacketOrder) : Type 0 where
  pub packet : IsReading (spelling (order_packet o)) (PacketItem (order_packet o) ∷ [])
  pub fields : ((order_packet o).address ≡ o.address) × ((order_packet o).sequence ≡ o.seq) × ((order_packet o).check ≡ o.check)
  pub plain : ((order_packet o).block ≡ false) × ((order_packet o).reserved ≡ 0)
  pub message : IsReadAs (order_packet o) o.message

abbrev pub ReadsBack : Type 0
ReadsBack = (o : PacketOrder) → OrderFits o → IsReadBack o
