-- What a call leaves in what its caller lends.
use Rattle.std.specs.Prelude.{◌≡◌, ℕ, List, Option, Some, None}
use Rattle.osdp_frame.specs.Packet.{Packet}
use Rattle.osdp_frame.specs.Spelling.{Spells}

-- the bytes of the packet stand in place of those that were there; without one they are as they were
abbrev pub IsWritten : Option Packet → List ℕ → List ℕ → Type 0
IsWritten None old new = new ≡ old
IsWritten (Some p) old new = Spells p new
