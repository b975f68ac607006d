-- What a line of hexadecimal digits says.
use Rattle.std.specs.Prelude.{ℕ, ◌==◌, ◌||◌, not, Bool, if◌then◌else◌, List, [], ◌∷◌, filter, Option, Some}
use Rattle.std.specs.Result.{result_ok}
use Rattle.hex.specs.Hex.{decode_of}

-- a space, a tab or a carriage return, which are passed over wherever they stand
abbrev pub is_blank : ℕ → Bool
is_blank b = b == 32 || (b == 9 || b == 13)

-- the characters of a line that count
abbrev pub kept : List ℕ → List ℕ
kept characters = filter (λ b. not (is_blank b)) characters

-- what the characters say: nothing in a comment, else the bytes of the digits; a bad line says nothing at all
abbrev pub said : List ℕ → Option (List ℕ)
said [] = Some []
said (b ∷ characters) = if b == 35 then Some [] else result_ok (decode_of (b ∷ characters))

-- the bytes of a line, none in a blank line or a comment, and None for a bad line
abbrev pub line_bytes : List ℕ → Option (List ℕ)
line_bytes line = said (kept line)
