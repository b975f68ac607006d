-- The values of digits as a table.
use Rattle.std.specs.Prelude.{◌≡◌, ℕ, ◌<◌, List, slice_index, Option, Some, None}
use Rattle.hex.specs.Hex.{hex_digit_value}

-- what a table has where a character is no digit
abbrev pub no_digit : ℕ
no_digit = 255

abbrev pub value_or_none : Option ℕ → ℕ
value_or_none None = no_digit
value_or_none (Some value) = value

-- at the place of each character stands its value as a digit
abbrev pub AreValues : List ℕ → Type 0
AreValues values = (character : ℕ) → character < 256 → slice_index values character ≡ value_or_none (hex_digit_value character)
