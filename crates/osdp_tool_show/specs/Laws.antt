-- What holds of the lines, in the words of their reader.
use Rattle.std.specs.Prelude.{◌≡◌, ℕ, ◌<◌, ◌^◌, List, [], ◌∷◌, ◌++◌, codes}
use Rattle.std.specs.List.{AllByRecursion}
use Rattle.std.specs.Str.Iter.{LacksByte}
use Rattle.osdp_frame.specs.Packet.{IsPacket}
use Rattle.osdp_frame.specs.Reading.{RunItem, PacketItem, SkippedItem, RefusedItem}
use Rattle.osdp_tool_show.specs.ItemText.{item_line, counts_line}

-- an item that a run of bytes can have
abbrev pub IsItem : RunItem → Type 0
IsItem (PacketItem p) = IsPacket p
IsItem (SkippedItem b) = b < 256
IsItem (RefusedItem fault) = Unit {0}

-- numbers of 64 bits
abbrev pub IsCount : ℕ → Type 0
IsCount n = n < 2 ^ 64

-- two items with one line are the same item, of the same run and at the same place in it
abbrev pub HasOneItem : Type 0
HasOneItem =
    (run place other_run other_place : ℕ) (item other : RunItem)
    → IsCount run → IsCount place → IsCount other_run → IsCount other_place → IsItem item → IsItem other
    → item_line run place item ≡ item_line other_run other_place other
    → (run ≡ other_run) × (place ≡ other_place) × (item ≡ other)

-- an item has one line: a line feed ends it, and none stands in it
abbrev pub HasOneLine : Type 0
HasOneLine =
    (run place : ℕ) (item : RunItem) → IsCount run → IsCount place → IsItem item
    → (text : List ℕ) × (item_line run place item ≡ text ++ codes "\n") × LacksByte 10 text

-- counts with one line are the same counts
abbrev pub HasOneCount : Type 0
HasOneCount =
    (runs packets skipped refused other_runs other_packets other_skipped other_refused : ℕ)
    → AllByRecursion IsCount (runs ∷ packets ∷ skipped ∷ refused ∷ [])
    → AllByRecursion IsCount (other_runs ∷ other_packets ∷ other_skipped ∷ other_refused ∷ [])
    → counts_line runs packets skipped refused ≡ counts_line other_runs other_packets other_skipped other_refused
    → (runs ≡ other_runs) × (packets ≡ other_packets) × (skipped ≡ other_skipped) × (refused ≡ other_refused)
