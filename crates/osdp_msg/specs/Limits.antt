-- How much a message holds at most, and how many may wait.
use Rattle.std.specs.Prelude.{ℕ, ◌+◌, ◌-◌, ◌*◌, ◌≤◌}
use Rattle.osdp_msg.specs.declared.limits.Room.{Room}

-- the data after a code byte: with its code it fits into a packet of 1440 bytes with either check
abbrev pub most_data : ℕ
most_data = 1432

-- the detail of a NAK, after its reason
abbrev pub most_detail : ℕ
most_detail = most_data - 1

-- a maker's message, after the maker's own three bytes
abbrev pub most_maker_bytes : ℕ
most_maker_bytes = most_data - 3

-- a card, after its reader, its format and two bytes of a count of bits
abbrev pub most_card_bytes : ℕ
most_card_bytes = most_data - 4

-- the messages that may wait: commands for a reader, or events in it
abbrev pub most_waiting : ℕ
most_waiting = 1024

-- there is room for one, and for no more than may wait
abbrev pub IsRoom : ℕ → Type 0
IsRoom count = (1 ≤ count) × (count ≤ most_waiting)

-- .. and for a byte of them together, and no more than they may have
abbrev pub AreRoom : ℕ → ℕ → Type 0
AreRoom count bytes = IsRoom count × (1 ≤ bytes) × (bytes ≤ most_waiting * (1 + most_data))

-- room for so many messages, however long each is
abbrev pub room_for : ℕ → Room
room_for count = record { messages = count; bytes = count * (1 + most_data) }
