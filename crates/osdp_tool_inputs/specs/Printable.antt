-- Text of a capture as it is printed: its control characters are shown, and do nothing to a terminal.
use Rattle.std.specs.Prelude.{◌≡◌, ℕ, ◌+◌, ◌/◌, ◌%◌, Bool, true, false, not, List, [], ◌∷◌, ◌++◌, codes, flat_map, get_or, if◌then◌else◌}
use Rattle.std.specs.Char.{is_control}
use Rattle.std.specs.List.{list_all}
use Rattle.std.specs.Str.{IsUtf8, chars, encode_utf8_all}
use Rattle.std.specs.Str.Lossy.{utf8_lossy}

-- an upper-case hexadecimal digit
unfoldable pub digit_of : ℕ → ℕ
digit_of value = get_or (codes "0123456789ABCDEF") value 0

-- a control character by its number, in two digits: `\x1B`
abbrev pub shown_control : ℕ → List ℕ
shown_control c = codes "\\x" ++ (digit_of (c / 16) ∷ digit_of (c % 16) ∷ [])

abbrev pub shown_char : ℕ → List ℕ
shown_char c = if is_control c then shown_control c else c ∷ []

-- every other character stands as it is, and U+FFFD in place of bytes that are no text
unfoldable pub printable : List ℕ → List ℕ
printable text = encode_utf8_all (flat_map shown_char (chars (utf8_lossy text)))

-- ---- in the words of a reader

-- no character of it is a control character
abbrev pub has_no_control : List ℕ → Bool
has_no_control text = list_all (λ c. not (is_control c)) (chars text)

-- Of text no control character is left, and text that has none stands as it is.
pub record ShowsControls : Type 0 where
  pub none : (text : List ℕ) → IsUtf8 text → has_no_control (printable text) ≡ true
  pub plain : (text : List ℕ) → IsUtf8 text → has_no_control text ≡ true → printable text ≡ text
  -- the character by which a terminal is told what to do
  pub escape : shown_char 27 ≡ codes "\\x1B"
