-- The one-byte check: the sum of all bytes, check included, is a multiple of 256.
use Rattle.std.specs.Prelude.{◌≡◌, ℕ, ◌+◌, ◌-◌, ◌%◌, ◌<◌, List, [], ◌∷◌, sum}

abbrev pub IsChecksum : List ℕ → ℕ → Type 0
IsChecksum bytes check = (check < 256) × ((sum bytes + check) % 256 ≡ 0)

-- the running sum in one byte, gone on from start by the bytes
abbrev pub sum_from : ℕ → List ℕ → ℕ
sum_from start bytes = (start + sum bytes) % 256

-- the two's complement of the sum, in one byte
abbrev pub checksum : List ℕ → ℕ
checksum bytes = (256 - sum bytes % 256) % 256

-- the check as sent
abbrev pub checksum_bytes : List ℕ → List ℕ
checksum_bytes bytes = checksum bytes ∷ []
