-- Numbers of what is counted.
use Rattle.std.specs.Prelude.{ℕ, ◌+◌, ◌-◌, ◌^◌, nat_le, nat_lt, if◌then◌else◌}

-- one more; a count stays at the greatest number of 64 bits
abbrev pub one_more : ℕ → ℕ
one_more count = if nat_lt count (2 ^ 64 - 1) then count + 1 else count

abbrev pub lesser : ℕ → ℕ → ℕ
lesser a b = if nat_le a b then a else b

abbrev pub greater : ℕ → ℕ → ℕ
greater a b = if nat_le a b then b else a
