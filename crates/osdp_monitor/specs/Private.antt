-- What the parts of a monitor keep, for its own crate.
use Rattle.std.specs.Prelude.{◌≡◌, ℕ, Bool, true, false, List, [], slice_index_or, Option, None, Some, Box}
use Rattle.osdp_monitor.specs.Known.{Known, nothing_known}
use Rattle.osdp_frame.specs.Packet.{Packet, IsPacket}
use Rattle.osdp_frame.specs.Spelling.{Spells}

-- a packet in a place of its own, where it is kept
abbrev pub kept_packet : Bool → Packet → Option Packet
kept_packet true p = Some p
kept_packet false p = None

abbrev pub IsKept : Bool → Packet → Type 0
IsKept true p = IsPacket p
IsKept false p = Unit {0}

-- bytes that spell a packet; where there is none there are no bytes
abbrev pub IsSpelledIf : Option Packet → List ℕ → Type 0
IsSpelledIf None bytes = bytes ≡ []
IsSpelledIf (Some p) bytes = Spells p bytes

-- ---- the blocks of a line, one for each address that was seen

-- what is known in the place of a block, where one is there
abbrev pub known_of : {A : Type 0} → Option (Box Known A) → Known
known_of (Some block) = block.value
known_of None = nothing_known

abbrev pub known_in : {A : Type 0} → List (Option (Box Known A)) → ℕ → Known
known_in blocks address = known_of (slice_index_or blocks address None)
