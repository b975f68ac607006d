-- What is kept of the first item, beside the bytes that it stands in.
use Rattle.std.specs.Prelude.{◌≡◌, ℕ, ◌≤◌, List, length, Option, Some, None}
use Rattle.osdp_frame.specs.declared.first.First.{First}
use Rattle.osdp_frame.specs.declared.first.First.TheVariants.{Packet, Skipped, Refused}
use Rattle.osdp_frame.specs.Held.{packet_at}
use Rattle.osdp_frame.specs.Reading.{RunItem, PacketItem, SkippedItem, RefusedItem, count_at, check_at, smallest}

-- the item in these bytes
abbrev pub item_in : First → List ℕ → RunItem
item_in (Packet count) rest = PacketItem (packet_at rest)
item_in (Skipped b) rest = SkippedItem b
item_in (Refused f) rest = RefusedItem f

abbrev pub item_if : Option First → List ℕ → Option RunItem
item_if None rest = None
item_if (Some first) rest = Some (item_in first rest)

-- a packet of so many bytes may stand at the head of the rest
abbrev pub PacketFits : List ℕ → ℕ → Type 0
PacketFits rest count = (count ≡ count_at rest) × (smallest (check_at rest) ≤ count) × (count ≤ length rest)

-- it lies within these bytes
abbrev pub FirstFits : List ℕ → Option First → Type 0
FirstFits rest None = Unit {0}
FirstFits rest (Some (Packet count)) = PacketFits rest count
FirstFits rest (Some (Skipped b)) = 1 ≤ length rest
FirstFits rest (Some (Refused f)) = 1 ≤ length rest
