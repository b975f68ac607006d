-- Digits as other tools write them.
use Rattle.std.specs.Prelude.{◌==◌, ◌||◌, not, ℕ, Bool, List, filter, Option, Some, None, is_ok, if◌then◌else◌}
use Rattle.std.specs.List.{list_all}
use Rattle.hex.specs.Hex.{decode_of}

-- a character that counts: no space, tab, carriage return or hyphen
abbrev pub counts : ℕ → Bool
counts b = not (b == 32 || (b == 9 || (b == 13 || b == 45)))

abbrev pub counted : List ℕ → List ℕ
counted characters = filter counts characters

-- no character counts
abbrev pub is_blank : List ℕ → Bool
is_blank characters = list_all (λ b. not (counts b)) characters

-- the digits among the characters, where all that count are digits in pairs
abbrev pub digits_in : List ℕ → Option (List ℕ)
digits_in characters = if is_ok (decode_of (counted characters)) then Some (counted characters) else None
