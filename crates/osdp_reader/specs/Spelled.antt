-- Bytes of a packet, or of none.
use Rattle.std.specs.Prelude.{◌≡◌, ℕ, true, List, [], Option, Some, None}
use Rattle.osdp_frame.specs.Held.{decided}
use Rattle.osdp_frame.specs.Packet.{Packet}
use Rattle.osdp_frame.specs.Reading.{RunItem, PacketItem, SkippedItem, RefusedItem}
use Rattle.osdp_frame.specs.Spelling.{Spells}

-- the bytes spell the packet; where there is none there are no bytes
abbrev pub IsSpelled : Option Packet → List ℕ → Type 0
IsSpelled None bytes = bytes ≡ []
IsSpelled (Some p) bytes = Spells p bytes

abbrev pub packet_in : RunItem → Option Packet
packet_in (PacketItem p) = Some p
packet_in (SkippedItem b) = None
packet_in (RefusedItem f) = None

abbrev pub packet_if : Option RunItem → Option Packet
packet_if None = None
packet_if (Some part) = packet_in part

-- the packet that stands first in a run of these bytes
abbrev pub first_packet : List ℕ → Option Packet
first_packet bytes = packet_if (decided true bytes)
