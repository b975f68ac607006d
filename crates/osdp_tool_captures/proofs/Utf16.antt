-- Text in UTF-16 is no lines of digits.
use Rattle.std.proofs.Common.{◌≡◌, ◌≢◌, inl, inr, not, nat_lt, ℕ, ◌%◌, ◌==◌, ◌||◌, ◌&&◌, Bool, true, false, cond, List, [], ◌∷◌, ◌++◌, Option, Some, None, Err, length, slice_index, refl, ap, ◌∙◌}
use Rattle.std.specs.Result.{result_ok}
use Rattle.std.specs.Option.{option_map_or}
use Rattle.std.proofs.lemmas.Bool.{eqb-true}
use Rattle.hex.specs.Hex.{decode_of, decode_pairs, hex_digit_value}
use Rattle.hex.specs.declared.error.FromHexError.TheVariants.{OddLength}
use Rattle.osdp_tool_streams.specs.Cut.{ended_after, last_line, line_feed, lines_of, unended_after}
use Rattle.osdp_tool_streams.specs.Line.{kept}
use Rattle.osdp_tool_streams.specs.Runs.{bad_line}
use Rattle.osdp_tool_captures.specs.Hints.{are_bytes, are_digits, are_text, begins_dump, begins_utf16, hint_of, of_bytes, of_digits, of_text}
use Rattle.osdp_tool_captures.specs.Laws.{StandsUtf16, TellsUtf16}
use Rattle.osdp_tool_captures.specs.Marks.{without_mark}
use Rattle.osdp_tool_captures.specs.declared.format.Format.{Format}
use Rattle.osdp_tool_captures.specs.declared.format.Format.TheVariants.{Bytes, Digits, Of}
use Rattle.osdp_tool_captures.specs.declared.hint.Hint.{Hint}
use Rattle.osdp_tool_captures.specs.declared.hint.Hint.TheVariants as hint

-- a character that begins no line feed begins the first line
first_line : (a : ℕ) (line bytes : List ℕ)
    → (more : List ℕ) × (lines : List (List ℕ)) × (ended_after (a ∷ line) bytes ++ last_line (unended_after (a ∷ line) bytes) ≡ (a ∷ more) ∷ lines)
unfolding ended_after unended_after
first_line a line [] = (line, [], refl)
first_line a line (b ∷ bytes) = go (b == line_feed) (first_line a (line ++ b ∷ []) bytes)
  where
    go : (t : Bool) → (more : List ℕ) × (lines : List (List ℕ)) × (ended_after (a ∷ (line ++ b ∷ [])) bytes ++ last_line (unended_after (a ∷ (line ++ b ∷ [])) bytes) ≡ (a ∷ more) ∷ lines)
        → (more : List ℕ) × (lines : List (List ℕ)) × (cond t ((a ∷ line) ∷ ended_after [] bytes) (ended_after ((a ∷ line) ++ b ∷ []) bytes) ++ last_line (cond t (unended_after [] bytes) (unended_after ((a ∷ line) ++ b ∷ []) bytes)) ≡ (a ∷ more) ∷ lines)
    go true below = (line, ended_after [] bytes ++ last_line (unended_after [] bytes), refl)
    go false below = below

-- digits that begin with another character are none
not_decoded : (a : ℕ) (rest : List ℕ) → hex_digit_value a ≡ None → result_ok (decode_of (a ∷ rest)) ≡ None
unfolding decode_pairs
not_decoded a rest none = go (length (a ∷ rest) % 2 == 1) rest
  where
    go : (t : Bool) (rest : List ℕ) → result_ok (cond t (Err OddLength) (decode_pairs 0 (a ∷ rest))) ≡ None
    go true rest = refl
    go false [] = refl
    go false (low ∷ rest) = rw none refl

bad_low : (bytes : List ℕ) → bad_line 1 (lines_of (0xFF ∷ bytes)) ≡ Some 1
unfolding ended_after unended_after bad_line
bad_low bytes =
    let first = first_line 0xFF [] bytes in
    ap (bad_line 1) first.2 ∙ ap (λ bytes. option_map_or (λ bytes. bad_line 2 first.1) bytes (Some 1)) (not_decoded 0xFF (kept first.0) refl)

bad_high : (bytes : List ℕ) → bad_line 1 (lines_of (0xFE ∷ bytes)) ≡ Some 1
unfolding ended_after unended_after bad_line
bad_high bytes =
    let first = first_line 0xFE [] bytes in
    ap (bad_line 1) first.2 ∙ ap (λ bytes. option_map_or (λ bytes. bad_line 2 first.1) bytes (Some 1)) (not_decoded 0xFE (kept first.0) refl)

-- a mark that is found stands there, by whether each of two bytes is one of it
by_bytes : (s t u v : Bool) (a b : ℕ) (rest : List ℕ) → (a == 0xFF) ≡ s → (b == 0xFE) ≡ t → (a == 0xFE) ≡ u → (b == 0xFF) ≡ v → ((s && t) || (u && v)) ≡ true → StandsUtf16 (a ∷ b ∷ rest)
by_bytes true true u v a b rest x y z w h = (rest, inl (rw (eqb-true a 0xFF x, eqb-true b 0xFE y) refl))
by_bytes true false true true a b rest x y z w h = (rest, inr (rw (eqb-true a 0xFE z, eqb-true b 0xFF w) refl))
by_bytes true false true false a b rest x y z w h = cc
by_bytes true false false v a b rest x y z w h = cc
by_bytes false t true true a b rest x y z w h = (rest, inr (rw (eqb-true a 0xFE z, eqb-true b 0xFF w) refl))
by_bytes false t true false a b rest x y z w h = cc
by_bytes false t false v a b rest x y z w h = cc

stands : (front : List ℕ) → begins_utf16 front ≡ true → StandsUtf16 front
stands [] h = cc
stands (a ∷ []) h = cc
stands (a ∷ b ∷ rest) h = by_bytes (a == 0xFF) (b == 0xFE) (a == 0xFE) (b == 0xFF) a b rest refl refl refl refl h

-- nothing else is told so
other_text : (s t : Bool) (other : Option Hint) → other ≢ Some hint.Utf16 → cond s (Some hint.Osdpcap) (cond t (Some hint.Xxd) other) ≢ Some hint.Utf16
other_text true t other not_so h = cc
other_text false true other not_so h = cc
other_text false false other not_so h = not_so h

other_digits : (s : Bool) (text : Option Hint) → text ≢ Some hint.Utf16 → cond s (Some hint.Bytes) text ≢ Some hint.Utf16
other_digits true text not_so h = cc
other_digits false text not_so h = not_so h

other_bytes : (s t : Bool) (text : Option Hint) → text ≢ Some hint.Utf16 → cond s None (cond t (Some hint.Digits) text) ≢ Some hint.Utf16
other_bytes true t text not_so h = cc
other_bytes false true text not_so h = cc
other_bytes false false text not_so h = not_so h

no_text : (front : List ℕ) (other : Option Hint) → other ≢ Some hint.Utf16 → of_text front other ≢ Some hint.Utf16
no_text front other = other_text (slice_index front 0 == 123) (begins_dump front) other

no_digits : (front : List ℕ) → of_digits front ≢ Some hint.Utf16
no_digits front = other_digits (are_bytes front) (of_text front None) (no_text front None (λ h. cc h))

no_bytes : (front : List ℕ) → of_bytes front ≢ Some hint.Utf16
no_bytes front =
    other_bytes (nat_lt (length front) 8 || not (are_text front)) (are_digits front || slice_index front 0 == 35) (of_text front (Some hint.Text))
    (no_text front (Some hint.Text) (λ h. cc h))

found : (front : List ℕ) (other : Option Hint) (t : Bool) → other ≢ Some hint.Utf16 → begins_utf16 front ≡ t → cond t (Some hint.Utf16) other ≡ Some hint.Utf16 → StandsUtf16 front
found front other true not_so is told = stands front is
found front other false not_so is told = absurd (not_so told)

is_told : (format : Format) (front : List ℕ) → format ≢ Bytes → StandsUtf16 front → hint_of format front ≡ Some hint.Utf16
is_told Digits front lines (rest, low_or_high) = elim low_or_high [ inl low ↦ rw low refl | inr high ↦ rw high refl ]
is_told Bytes front lines stands = absurd (lines refl)
is_told (Of tool) front lines (rest, low_or_high) = elim low_or_high [ inl low ↦ rw low refl | inr high ↦ rw high refl ]

is_so : (format : Format) (front : List ℕ) → format ≢ Bytes → hint_of format front ≡ Some hint.Utf16 → StandsUtf16 front
is_so Digits front lines told = found front (of_digits front) (begins_utf16 front) (no_digits front) refl told
is_so Bytes front lines told = absurd (lines refl)
is_so (Of tool) front lines told = found front None (begins_utf16 front) (λ h. cc h) refl told

bad : (front rest : List ℕ) → hint_of Digits front ≡ Some hint.Utf16 → bad_line 1 (lines_of (front ++ rest)) ≡ Some 1
bad front rest told =
    let marked = is_so Digits front (λ h. cc h) told in
    elim marked.1 [ inl low ↦ rw low (bad_low (0xFE ∷ (marked.0 ++ rest))) | inr high ↦ rw high (bad_high (0xFF ∷ (marked.0 ++ rest))) ]

pub tells_utf16 : TellsUtf16
tells_utf16 = record {
  told = λ format front lines. (is_so format front lines, is_told format front lines);
  bytes = λ front. no_bytes (without_mark front);
  bad = bad;
}
