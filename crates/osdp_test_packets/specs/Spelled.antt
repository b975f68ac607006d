-- Bytes as tests write them.
use Rattle.std.specs.Prelude.{◌≡◌, ℕ, ◌≤◌, List, [], codes, if◌then◌else◌, length, Ok}
use Rattle.std.specs.Str.{bytes_eq}
use Rattle.hex.specs.Hex.{decode_of}

-- the digits of a text: none for the word `none`, else the text itself
abbrev pub digits_of : List ℕ → List ℕ
digits_of text = if bytes_eq text (codes "none") then [] else text

-- two hexadecimal digits a byte, in either case
abbrev pub Spells : List ℕ → List ℕ → Type 0
Spells text bytes = decode_of (digits_of text) ≡ Ok bytes

-- no more bytes than there is room for
abbrev pub SpellsFew : List ℕ → List ℕ → Type 0
SpellsFew text bytes = Spells text bytes × (length bytes ≤ 32)
