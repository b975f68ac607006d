-- What a framer holds, and what it makes of it step by step.
use Rattle.std.specs.Prelude.{ℕ, ◌-◌, ◌/◌, ◌%◌, Bool, false, not, ◌&&◌, ◌==◌, nat_lt, if◌then◌else◌, min, List, [], ◌∷◌, ◌++◌, length, take, drop, get_or, slice_range, Option, Some, None}
use Rattle.std.specs.Str.{bytes_eq}
use Rattle.osdp_frame.specs.declared.fault.FrameFault.TheVariants.{TooShort, TooLong, BadCheck, Ended}
use Rattle.osdp_frame.specs.Check.{check_of, check_size}
use Rattle.osdp_frame.specs.Packet.{Packet, largest}
use Rattle.osdp_frame.specs.Packed.{packed}
use Rattle.osdp_frame.specs.Spelling.{start_of_message}
use Rattle.osdp_frame.specs.Reading.{RunItem, PacketItem, SkippedItem, RefusedItem, item_size, count_at, check_at, smallest}

-- the bytes held, and whether the run has ended after them
pub record Held : Type 0 where
  pub bytes : List ℕ
  pub ended : Bool

-- the fields of a packet at the head of the rest, as its bytes say
abbrev pub packet_at : List ℕ → Packet
packet_at rest =
    packed (nat_lt 127 (get_or rest 1 0)) (get_or rest 1 0 % 128) (get_or rest 4 0 % 4) (check_at rest)
    (get_or rest 4 0 / 8 % 2 == 1) (get_or rest 4 0 / 16)
    (slice_range rest 5 (count_at rest - check_size (check_at rest)))

-- whether the bytes that the count speaks of end with the check of those before it
abbrev pub is_checked : List ℕ → Bool
is_checked rest =
    let checked = count_at rest - check_size (check_at rest) in
    bytes_eq (slice_range rest checked (count_at rest)) (check_of (check_at rest) (take checked rest))

-- what a byte 0x53 begins
abbrev pub begun : Bool → List ℕ → Option RunItem
begun ended rest =
    let at_end = if ended then Some (RefusedItem Ended) else None in
    if nat_lt (length rest) 5 then at_end
    else (if nat_lt (count_at rest) (smallest (check_at rest)) then Some (RefusedItem TooShort)
    else (if nat_lt largest (count_at rest) then Some (RefusedItem TooLong)
    else (if nat_lt (length rest) (count_at rest) then at_end
    else (if is_checked rest then Some (PacketItem (packet_at rest)) else Some (RefusedItem BadCheck)))))

-- the first item, where the bytes decide it
unfoldable pub decided : Bool → List ℕ → Option RunItem
decided ended [] = None
decided ended (b ∷ bytes) = if b == start_of_message then begun ended (b ∷ bytes) else Some (SkippedItem b)

-- a new run, of which nothing has come
abbrev pub new_run : Held
new_run = record { bytes = []; ended = false }

-- how many of the bytes given are taken: none in a run that has ended, else as many as there is room for
abbrev pub taken_count : Held → List ℕ → ℕ
taken_count held given = if held.ended then 0 else min (length given) (largest - length held.bytes)

abbrev pub after_push : Held → List ℕ → Held
after_push held given = record held { bytes = held.bytes ++ take (taken_count held given) given }

-- the run ends where something of it is held
abbrev pub after_gap : Held → Held
after_gap held = record held { ended = not (length held.bytes == 0) }

-- after an item; an ended run whose last byte goes is a new one
abbrev pub later : Held → RunItem → Held
later held part =
    let rest = drop (item_size part) held.bytes in
    record { bytes = rest; ended = held.ended && not (length rest == 0) }

-- after the first item, where it is decided
abbrev pub after_first : Held → Option RunItem → Held
after_first held None = held
after_first held (Some part) = later held part

abbrev pub after_advance : Held → Held
after_advance held = after_first held (decided held.ended held.bytes)

-- of an item that is decided: where its own bytes alone decide it, as they do a packet and a skipped byte
abbrev pub by_itself : Option RunItem → Option RunItem
by_itself None = None
by_itself (Some (PacketItem p)) = Some (PacketItem p)
by_itself (Some (SkippedItem b)) = Some (SkippedItem b)
by_itself (Some (RefusedItem f)) = None
