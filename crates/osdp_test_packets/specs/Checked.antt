-- A packet of a test whose check is computed anew.
use Rattle.std.specs.Prelude.{ℕ, ◌-◌, ◌==◌, ◌++◌, List, bit_and, if◌then◌else◌, length, nat_lt, slice_index, take}
use Rattle.osdp_check.specs.Checksum.{checksum_bytes}
use Rattle.osdp_check.specs.Crc.{crc_bytes}

-- bytes that end in their own checksum, and in their own CRC, whatever stood there
abbrev pub summed : List ℕ → List ℕ
summed bytes = let front = take (length bytes - 1) bytes in front ++ checksum_bytes front

abbrev pub divided : List ℕ → List ℕ
divided bytes = let front = take (length bytes - 2) bytes in front ++ crc_bytes front

-- The fifth byte of a packet says by its bit of value 4 that the check is a CRC. Fewer than seven bytes are no packet.
abbrev pub checked_anew : List ℕ → List ℕ
checked_anew bytes =
    if nat_lt (length bytes) 7 then bytes
    else if bit_and (slice_index bytes 4) 4 == 0 then summed bytes
    else divided bytes
