-- Inputs that plainly are in another form than the one that they are read in.
use Rattle.std.specs.Prelude.{ℕ, ◌==◌, ◌&&◌, ◌||◌, not, nat_le, nat_lt, Bool, false, List, [], ◌∷◌, length, slice_index, Option, Some, None, if◌then◌else◌}
use Rattle.std.specs.List.{list_all, list_any}
use Rattle.hex.specs.Hex.{is_hex_digit}
use Rattle.osdp_tool_captures.specs.declared.format.Format.{Format}
use Rattle.osdp_tool_captures.specs.declared.format.Format.TheVariants.{Digits, Bytes, Of}
use Rattle.osdp_tool_captures.specs.declared.hint.Hint.{Hint}
use Rattle.osdp_tool_captures.specs.declared.hint.Hint.TheVariants as hint
use Rattle.osdp_tool_captures.specs.Marks.{without_mark}

-- a tab, or a character of a line's end
abbrev pub is_spread : ℕ → Bool
is_spread b = b == 9 || (b == 10 || b == 13)

-- a character of text
abbrev pub is_text : ℕ → Bool
is_text b = (nat_le 32 b && nat_le b 126) || is_spread b

-- a byte of no text in UTF-8: a control character, or a byte that UTF-8 never has
abbrev pub is_no_text : ℕ → Bool
is_no_text b = (nat_lt b 32 && not (is_spread b)) || (b == 127 || (b == 0xC0 || (b == 0xC1 || nat_le 0xF5 b)))

-- a digit, a blank, or a character of a line's end
abbrev pub is_digit : ℕ → Bool
is_digit b = is_hex_digit b || (b == 32 || is_spread b)

abbrev pub are_text : List ℕ → Bool
are_text front = list_all is_text front

-- some byte is of no text
abbrev pub are_bytes : List ℕ → Bool
are_bytes front = list_any is_no_text front

abbrev pub are_digits : List ℕ → Bool
are_digits front = list_all is_digit front

-- an offset of eight digits, and a colon
abbrev pub begins_dump : List ℕ → Bool
begins_dump (a ∷ b ∷ c ∷ d ∷ e ∷ f ∷ g ∷ h ∷ i ∷ rest) = i == 58 && are_digits (a ∷ b ∷ c ∷ d ∷ e ∷ f ∷ g ∷ h ∷ [])
begins_dump front = false

-- what a text is by its first characters
abbrev pub of_text : List ℕ → Option Hint → Option Hint
of_text front other = if slice_index front 0 == 123 then Some hint.Osdpcap else (if begins_dump front then Some hint.Xxd else other)

-- a mark of UTF-16, whose characters have their low byte first or their high one
abbrev pub begins_utf16 : List ℕ → Bool
begins_utf16 (a ∷ b ∷ rest) = (a == 0xFF && b == 0xFE) || (a == 0xFE && b == 0xFF)
begins_utf16 front = false

-- what is read as digits: bytes where one is of no text, and else a text, whose comments may have any characters
abbrev pub of_digits : List ℕ → Option Hint
of_digits front = if are_bytes front then Some hint.Bytes else of_text front None

-- what bytes are: text where all are characters, and eight or more
abbrev pub of_bytes : List ℕ → Option Hint
of_bytes front =
    if nat_lt (length front) 8 || not (are_text front) then None
    else (if are_digits front || slice_index front 0 == 35 then Some hint.Digits else of_text front (Some hint.Text))

-- Read as lines: text in UTF-16 by its mark, and else, of digits, by what they are. Read as bytes: by what stands after a mark of UTF-8.
abbrev pub hint_of : Format → List ℕ → Option Hint
hint_of Digits front = if begins_utf16 front then Some hint.Utf16 else of_digits front
hint_of Bytes front = of_bytes (without_mark front)
hint_of (Of tool) front = if begins_utf16 front then Some hint.Utf16 else None
