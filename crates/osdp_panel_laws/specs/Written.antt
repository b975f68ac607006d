-- What a tick writes.
use Rattle.std.specs.Prelude.{◌≡◌, ℕ, List, Option, Some, None}
use Rattle.osdp_frame.specs.Packet.{Packet}
use Rattle.osdp_frame.specs.Spelling.{spelling}
use Rattle.osdp_controller.specs.Lent.{IsWritten}

-- Of what was there and the packet that goes out, or none, the bytes that stand there then are one list: those of the packet, and without one what was there.
pub record OneBurstIsWritten : Type 0 where
  pub once : (packet : Option Packet) (old a b : List ℕ) → IsWritten packet old a → IsWritten packet old b → a ≡ b
  pub stays : (old new : List ℕ) → IsWritten None old new → new ≡ old
  pub packet : (p : Packet) (old new : List ℕ) → IsWritten (Some p) old new → new ≡ spelling p
