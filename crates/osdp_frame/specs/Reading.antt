-- How a run of bytes is read.
use Rattle.std.specs.Prelude.{◌≡◌, ◌≢◌, ℕ, ◌+◌, ◌-◌, ◌*◌, ◌/◌, ◌%◌, ◌<◌, ◌≤◌, ◌⊎◌, Bool, IsTrue, false, ◌==◌, if◌then◌else◌, List, [], ◌∷◌, ◌++◌, length, take, drop, get_or}
use Rattle.osdp_frame.specs.declared.check_kind.CheckKind.{CheckKind}
use Rattle.osdp_frame.specs.declared.check_kind.CheckKind.TheVariants.{Sum, Crc}
use Rattle.osdp_frame.specs.declared.fault.FrameFault.{FrameFault}
use Rattle.osdp_frame.specs.declared.fault.FrameFault.TheVariants.{TooShort, TooLong, BadCheck, Ended}
use Rattle.osdp_frame.specs.Check.{check_of, check_size}
use Rattle.osdp_frame.specs.Packet.{Packet, largest, packet_length}
use Rattle.osdp_frame.specs.Spelling.{Spells, start_of_message}

-- one item of a reading: a packet, a byte that cannot begin one, or a byte 0x53 that begins none
pub data RunItem : Type 0 where
  PacketItem : Packet → RunItem
  SkippedItem : ℕ → RunItem
  RefusedItem : FrameFault → RunItem

-- how many bytes of the run an item takes
abbrev pub item_size : RunItem → ℕ
item_size (PacketItem p) = packet_length p
item_size (SkippedItem b) = 1
item_size (RefusedItem f) = 1

-- how many bytes items take together
abbrev pub total_size : List RunItem → ℕ
total_size [] = 0
total_size (part ∷ parts) = item_size part + total_size parts

-- the packet stands at the head of the rest
pub record Begins (p : Packet) (rest : List ℕ) : Type 0 where
  pub bytes : List ℕ
  pub after : List ℕ
  pub spelled : Spells p bytes
  pub parts : rest ≡ bytes ++ after

-- what the bytes after the address say of the packet: how many bytes it has ..
abbrev pub count_at : List ℕ → ℕ
count_at rest = get_or rest 2 0 + 256 * get_or rest 3 0

-- .. and which check
abbrev pub check_at : List ℕ → CheckKind
check_at rest = if get_or rest 4 0 / 4 % 2 == 0 then Sum else Crc

-- the smallest packet with this check: five bytes of the head, a code and the check
abbrev pub smallest : CheckKind → ℕ
smallest check = 6 + check_size check

-- the bytes that the count speaks of end with the check of those before it
abbrev pub IsChecked : List ℕ → Type 0
IsChecked rest =
    let checked = take (count_at rest - check_size (check_at rest)) rest in
    take (count_at rest) rest ≡ checked ++ check_of (check_at rest) checked

-- each fault by itself
abbrev pub HasFault : FrameFault → List ℕ → Type 0
HasFault TooShort rest = (5 ≤ length rest) × (count_at rest < smallest (check_at rest))
HasFault TooLong rest = (5 ≤ length rest) × (largest < count_at rest)
HasFault Ended rest = (length rest < 5) ⊎ (length rest < count_at rest)
HasFault BadCheck rest = (5 ≤ length rest) × (count_at rest ≤ length rest) × (IsChecked rest → ⊥)

-- the first of them in the order F1, F2, F4, F3
abbrev pub IsFirstFault : FrameFault → List ℕ → Type 0
IsFirstFault TooShort rest = HasFault TooShort rest
IsFirstFault TooLong rest = HasFault TooLong rest × (HasFault TooShort rest → ⊥)
IsFirstFault Ended rest =
    HasFault Ended rest × (HasFault TooShort rest → ⊥) × (HasFault TooLong rest → ⊥)
IsFirstFault BadCheck rest =
    HasFault BadCheck rest × (HasFault TooShort rest → ⊥) × (HasFault TooLong rest → ⊥)
    × (HasFault Ended rest → ⊥)

-- the item that stands first in the rest of a run
abbrev pub Stands : List ℕ → RunItem → Type 0
Stands rest (PacketItem p) = Begins p rest
Stands rest (SkippedItem b) = (after : List ℕ) × (rest ≡ b ∷ after) × (b ≢ start_of_message)
Stands rest (RefusedItem f) =
    (after : List ℕ) × (rest ≡ start_of_message ∷ after) × ((p : Packet) → Begins p rest → ⊥)
    × IsFirstFault f rest

-- the reading of a run: item by item, each going on after the one before
abbrev pub IsReading : List ℕ → List RunItem → Type 0
IsReading rest [] = rest ≡ []
IsReading rest (part ∷ parts) = Stands rest part × IsReading (drop (item_size part) rest) parts

-- the item that stands first in every run that begins with these bytes, or in the run that is these bytes
abbrev pub IsFirst : Bool → List ℕ → RunItem → Type 0
IsFirst ended bytes part =
    (more : List ℕ) → (IsTrue ended → more ≡ []) → Stands (bytes ++ more) part

-- it depends on bytes to come which item is first: there are none, or the run goes on and a byte 0x53 has
-- fewer than five bytes, or fewer than its count says where the count is well
abbrev pub IsUndecided : Bool → List ℕ → Type 0
IsUndecided ended bytes =
    (bytes ≡ [])
    ⊎ ((ended ≡ false) × (get_or bytes 0 0 ≡ start_of_message)
    × ((length bytes < 5)
    ⊎ ((smallest (check_at bytes) ≤ count_at bytes) × (count_at bytes ≤ largest)
    × (length bytes < count_at bytes))))
