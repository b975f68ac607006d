-- How make ends.
use Rattle.std.specs.Prelude.{◌≡◌, ◌⊎◌, ℕ, Bool, true, false, List, ◌++◌, Option, Result, Ok, Err}
use Rattle.std.specs.Io.KnownBytes.{Appends, Keeps}
use Rattle.osdp_tool_streams.specs.declared.fault.ToolFault.{ToolFault}
use Rattle.osdp_tool_streams.specs.declared.fault.ToolFault.TheVariants.{NotHex, TooLong, BadWords, BadStep}
use Rattle.osdp_tool_streams.specs.declared.fault.ToolFault.TheVariants.{HoldsPacket, NotQuiet, ReadFailed}
use Rattle.osdp_tool_streams.specs.declared.fault.ToolFault.TheVariants.{WriteFailed, NoMemory}
use Rattle.osdp_words.specs.Word.{AllStandFor}
use Rattle.osdp_tool.specs.declared.order.PacketOrder.{PacketOrder}
use Rattle.osdp_tool.specs.PacketOrder.{OrderFits, order_line, order_words}

-- the words order this packet
abbrev pub Order : List (List ℕ) → PacketOrder → Type 0
Order given o = OrderFits o × AllStandFor (order_words o) given

-- the words order no packet
abbrev pub OrderNone : List (List ℕ) → Type 0
OrderNone given = (o : PacketOrder) → Order given o → ⊥

-- the words order a packet, and nothing was printed
pub record Unprinted (given : List (List ℕ)) (before after : Option (List ℕ)) : Type 0 where
  pub order : PacketOrder
  pub ordered : Order given order
  pub kept : Keeps before after

-- the packet that the words order was printed on one line
pub record Printed (given : List (List ℕ)) (before after : Option (List ℕ)) : Type 0 where
  pub order : PacketOrder
  pub ordered : Order given order
  pub text : Appends before after (order_line order)

-- a beginning of that line was printed: none of it, a part or all
pub record PrintedPart (given : List (List ℕ)) (before after : Option (List ℕ)) : Type 0 where
  pub order : PacketOrder
  pub ordered : Order given order
  pub printed : List ℕ
  pub rest : List ℕ
  pub line : order_line order ≡ printed ++ rest
  pub text : Appends before after printed

-- nothing was printed, or a beginning of the line of the packet that the words order
abbrev pub PrintedSome : List (List ℕ) → Option (List ℕ) → Option (List ℕ) → Type 0
PrintedSome given before after = Keeps before after ⊎ PrintedPart given before after

-- by the answer: what the output has before and after, where that is known, and whether it has failed in the end
abbrev pub Ends : List (List ℕ) → Option (List ℕ) → Option (List ℕ) → Bool → Result (Unit {0}) ToolFault → Type 0
Ends given before after failed (Ok done) = Printed given before after × (failed ≡ false)
Ends given before after failed (Err BadWords) = OrderNone given × Keeps before after × (failed ≡ false)
Ends given before after failed (Err WriteFailed) = PrintedSome given before after × (failed ≡ true)
Ends given before after failed (Err NoMemory) = Unprinted given before after × (failed ≡ false)
Ends given before after failed (Err (NotHex line)) = ⊥
Ends given before after failed (Err TooLong) = ⊥
Ends given before after failed (Err (BadStep line)) = ⊥
Ends given before after failed (Err (HoldsPacket step)) = ⊥
Ends given before after failed (Err (NotQuiet step)) = ⊥
Ends given before after failed (Err ReadFailed) = ⊥
