-- The mark of UTF-8 that some editors put in front of a text.
use Rattle.std.specs.Prelude.{ℕ, ◌==◌, ◌&&◌, Bool, true, false, List, [], ◌∷◌, Option, option_map, if◌then◌else◌}
use Rattle.std.specs.Io.KnownBytes.{prepend_known}
use Rattle.osdp_tool_captures.specs.declared.format.Format.{Format}
use Rattle.osdp_tool_captures.specs.declared.format.Format.TheVariants.{Digits, Bytes, Of}
use Rattle.osdp_tool_captures.specs.declared.mark.Unmarked.{Unmarked}

-- the mark: three bytes
abbrev pub utf8_mark : List ℕ
utf8_mark = 0xEF ∷ 0xBB ∷ 0xBF ∷ []

-- what stands after a mark in front of a text, or else all of it
abbrev pub without_mark : List ℕ → List ℕ
without_mark (a ∷ b ∷ c ∷ rest) = if a == 0xEF && (b == 0xBB && c == 0xBF) then rest else a ∷ b ∷ c ∷ rest
without_mark text = text

-- what is read of an input in this form: in lines a mark is passed over, and bytes have none
abbrev pub content_of : Format → List ℕ → List ℕ
content_of Digits text = without_mark text
content_of Bytes bytes = bytes
content_of (Of tool) text = without_mark text

-- ---- how it is read

-- the first bytes of a text are those of a mark, and more of it may come
abbrev pub is_part : List ℕ → Bool
is_part [] = true
is_part (a ∷ []) = a == 0xEF
is_part (a ∷ b ∷ []) = a == 0xEF && b == 0xBB
is_part front = false

-- of a text that isn't begun, a mark doesn't count
abbrev pub left_of : Bool → List ℕ → List ℕ
left_of true text = text
left_of false text = without_mark text

-- what is left to be read: of the bytes that are held, and of those that are to come
abbrev pub left_in : {R : Type 0} → (R → Option (List ℕ)) → Unmarked R → Option (List ℕ)
left_in remaining input = option_map (left_of input.is_begun) (prepend_known input.held.items (remaining input.inner))
