-- What it means to put a piece of a text into a room.
use Rattle.std.specs.Prelude.{◌≡◌, ◌+◌, ◌/◌, ◌%◌, ◌<◌, ◌≤◌, ℕ, List, [], ◌∷◌, ◌++◌, codes, drop, length, slice_index, take, Result, MatchResult}
use Rattle.std.specs.List.{flat_map}
use Rattle.hex.specs.Hex.{upper_digits}
use Rattle.osdp_words.specs.Word.{Word, printed}
use Rattle.osdp_c_values.specs.declared.pieces.NoRoom.{NoRoom}

-- words that follow others in a text: each after a space
abbrev pub following : List Word → List ℕ
following words = flat_map (λ word. codes " " ++ printed word) words

-- a byte as two digits
abbrev pub two_digits : ℕ → List ℕ
two_digits b = slice_index upper_digits (b / 16) ∷ slice_index upper_digits (b % 16) ∷ []

-- a piece of a text has its place from `at` to `end`, and stands there where the room reaches so far; the room before and after it stays
pub record IsAt (at : ℕ) (old : List ℕ) (end : ℕ) (new piece : List ℕ) : Type 0 where
  pub place : end ≡ at + length piece
  pub room : length new ≡ length old
  pub written : end ≤ length old → new ≡ take at old ++ (piece ++ drop end old)

-- that is so; or the text is longer than the most that there is
abbrev pub IsPut : ℕ → ℕ → List ℕ → Result ℕ NoRoom → List ℕ → List ℕ → Type 0
IsPut most at old result new piece = MatchResult result (λ end. IsAt at old end new piece) (λ _. most < at + length piece)
