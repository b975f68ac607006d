-- The items that bytes decide, one after the other.
use Rattle.std.specs.Prelude.{ℕ, zero, suc, Bool, true, false, List, [], ◌∷◌, length, drop}
use Rattle.std.specs.Option.{option_map_or}
use Rattle.osdp_frame.specs.Packet.{Packet}
use Rattle.osdp_frame.specs.Reading.{RunItem, PacketItem, SkippedItem, RefusedItem, item_size, total_size, IsFirst, IsUndecided}
use Rattle.osdp_frame.specs.Held.{decided}

-- at most `most` of them
abbrev pub items_within : ℕ → Bool → List ℕ → List RunItem
items_within zero ended bytes = []
items_within (suc most) ended bytes =
    option_map_or (λ part. part ∷ items_within most ended (drop (item_size part) bytes)) (decided ended bytes) []

-- all of them: each takes a byte or more
unfoldable pub items : Bool → List ℕ → List RunItem
items ended bytes = items_within (length bytes) ended bytes

-- the reading of a run, as a function of it
abbrev pub reading : List ℕ → List RunItem
reading run = items true run

-- the packets among the items of a reading, in their order
abbrev pub whole_packets : List RunItem → List Packet
whole_packets [] = []
whole_packets (PacketItem p ∷ parts) = p ∷ whole_packets parts
whole_packets (SkippedItem b ∷ parts) = whole_packets parts
whole_packets (RefusedItem fault ∷ parts) = whole_packets parts

-- the packets in a run of bytes
abbrev pub packets_in : List ℕ → List Packet
packets_in run = whole_packets (reading run)

-- what is left after the items that bytes decide in a run that goes on
unfoldable pub left_over : List ℕ → List ℕ
left_over bytes = drop (total_size (items false bytes)) bytes

-- what is left once all items that are decided have been taken off: of a run that is over nothing
abbrev pub rest_of : Bool → List ℕ → List ℕ
rest_of true bytes = []
rest_of false bytes = left_over bytes

-- what a caller sees who takes item after item off until none is shown
abbrev pub Drains : Bool → List ℕ → List RunItem → Type 0
Drains ended bytes [] = IsUndecided ended bytes
Drains ended bytes (part ∷ parts) =
    IsFirst ended bytes part × Drains ended (drop (item_size part) bytes) parts
