-- Text as it is printed.
use Rattle.std.proofs.Common.{◌≡◌, ◌<◌, ◌≤◌, ◌⊎◌, inl, inr, ℕ, ◌+◌, ◌/◌, ◌%◌, ◌&&◌, Bool, true, false, not, List, [], ◌∷◌, ◌++◌, append_assoc, ap, arith, codes, flat_map, get_or, length, refl, sym, subst, ◌∙◌}
use Rattle.std.proofs.lemmas.Bool.{cases_Bool, cond-false, cond-true, false≢true}
use Rattle.std.proofs.lemmas.List.{flat_map_more}
use Rattle.std.proofs.lemmas.List.Folds.{list_all-append, list_all_at}
use Rattle.std.proofs.lemmas.Str.{chars-encodes, encodes-append, encodes-chars, scalars-chars, utf8_lossy-IsUtf8}
use Rattle.std.specs.Char.{is_control}
use Rattle.std.specs.List.{list_all}
use Rattle.std.specs.Str.{IsUtf8, chars, encode_utf8_all}
use Rattle.std.specs.Str.Lossy.{utf8_lossy}
use Rattle.std.proofs.Math.Utf8.{scalar, scalars}
use Rattle.osdp_tool_inputs.specs.Printable.{ShowsControls, digit_of, has_no_control, printable, shown_char, shown_control}

-- a character after those that came before
pub one_more : (before yielded : List ℕ) (c : ℕ)
    → (before ++ encode_utf8_all (flat_map shown_char yielded)) ++ encode_utf8_all (shown_char c)
    ≡ before ++ encode_utf8_all (flat_map shown_char (yielded ++ c ∷ []))
one_more before yielded c =
    append_assoc before (encode_utf8_all (flat_map shown_char yielded)) (encode_utf8_all (shown_char c))
    ∙ ap (λ l. before ++ l) (sym (encodes-append (flat_map shown_char yielded) (shown_char c)) ∙ ap encode_utf8_all (flat_map_more shown_char [] yielded c))

-- ---- no control character is left

both : (a b : Bool) → a ≡ true → b ≡ true → (a && b) ≡ true
both true b e f = f
both false b e f = absurd (false≢true e)

first : (a b : Bool) → (a && b) ≡ true → a ≡ true
first true b e = refl
first false b e = absurd (false≢true e)

second : (a b : Bool) → (a && b) ≡ true → b ≡ true
second true b e = e
second false b e = absurd (false≢true e)

-- a character that is none
is_fine : ℕ → Bool
is_fine c = scalar c && not (is_control c)

fine_digits : list_all is_fine (codes "0123456789ABCDEF") ≡ true
unfolding is_fine
fine_digits = refl

fine_digit : (value : ℕ) → value < 16 → is_fine (digit_of value) ≡ true
unfolding digit_of
fine_digit value lt = elim (cases_Bool (is_fine (get_or (codes "0123456789ABCDEF") value 0))) [
  | inl fine ↦ fine
  | inr not_fine ↦ absurd (false≢true (sym (list_all_at is_fine (codes "0123456789ABCDEF") value 0 lt not_fine) ∙ fine_digits))
]

no_control : (b : Bool) → b ≡ false → not b ≡ true
no_control true e = absurd (false≢true (sym e))
no_control false e = refl

control_below : (c : ℕ) → is_control c ≡ true → c < 160
control_below c is = grind arith

fine_control : (c : ℕ) → is_control c ≡ true → list_all is_fine (shown_control c) ≡ true
unfolding is_fine
fine_control c is =
    let below = control_below c is in
    both (is_fine (digit_of (c / 16))) _ (fine_digit (c / 16) (omega arith)) (both (is_fine (digit_of (c % 16))) true (fine_digit (c % 16) (omega arith)) refl)

fine_shown : (c : ℕ) → scalar c ≡ true → list_all is_fine (shown_char c) ≡ true
unfolding is_fine
fine_shown c is = elim (cases_Bool (is_control c)) [
  | inl control ↦ ap (list_all is_fine) (cond-true (is_control c) (shown_control c) (c ∷ []) control) ∙ fine_control c control
  | inr other ↦ ap (list_all is_fine) (cond-false (is_control c) (shown_control c) (c ∷ []) other) ∙ both (is_fine c) true (both (scalar c) (not (is_control c)) is (no_control (is_control c) other)) refl
]

fine_all : (cs : List ℕ) → scalars cs ≡ true → list_all is_fine (flat_map shown_char cs) ≡ true
fine_all [] are = refl
fine_all (c ∷ cs) are =
    list_all-append is_fine (shown_char c) (flat_map shown_char cs)
    ∙ both (list_all is_fine (shown_char c)) _ (fine_shown c (first (scalar c) (scalars cs) are)) (fine_all cs (second (scalar c) (scalars cs) are))

all_scalars : (cs : List ℕ) → list_all is_fine cs ≡ true → scalars cs ≡ true
unfolding is_fine
all_scalars [] fine = refl
all_scalars (c ∷ cs) fine =
    both (scalar c) (scalars cs) (first (scalar c) (not (is_control c)) (first (is_fine c) (list_all is_fine cs) fine)) (all_scalars cs (second (is_fine c) (list_all is_fine cs) fine))

no_controls : (cs : List ℕ) → list_all is_fine cs ≡ true → list_all (λ c. not (is_control c)) cs ≡ true
unfolding is_fine
no_controls [] fine = refl
no_controls (c ∷ cs) fine =
    both (not (is_control c)) _ (second (scalar c) (not (is_control c)) (first (is_fine c) (list_all is_fine cs) fine)) (no_controls cs (second (is_fine c) (list_all is_fine cs) fine))

-- of text that is read as characters
pub none_left : (text : List ℕ) → IsUtf8 text → has_no_control (encode_utf8_all (flat_map shown_char (chars text))) ≡ true
none_left text is =
    let shown = flat_map shown_char (chars text) in
    let fine = fine_all (chars text) (scalars-chars text is) in
    ap (list_all (λ c. not (is_control c))) (chars-encodes shown (all_scalars shown fine)) ∙ no_controls shown fine

-- ---- text without one

not_control : (b : Bool) → not b ≡ true → b ≡ false
not_control true e = absurd (false≢true e)
not_control false e = refl

stays : (cs : List ℕ) → list_all (λ c. not (is_control c)) cs ≡ true → flat_map shown_char cs ≡ cs
stays [] none = refl
stays (c ∷ cs) none =
    ap (λ l. l ++ flat_map shown_char cs) (cond-false (is_control c) (shown_control c) (c ∷ []) (not_control (is_control c) (first (not (is_control c)) _ none)))
    ∙ ap (λ l. c ∷ l) (stays cs (second (not (is_control c)) _ none))

pub shows_controls : ShowsControls
unfolding printable digit_of
shows_controls = record {
  none = λ text is. ap (λ t. has_no_control (encode_utf8_all (flat_map shown_char (chars t)))) (utf8_lossy-IsUtf8 text is) ∙ none_left text is;
  plain = λ text is none.
      ap (λ t. encode_utf8_all (flat_map shown_char (chars t))) (utf8_lossy-IsUtf8 text is) ∙ ap encode_utf8_all (stays (chars text) none) ∙ encodes-chars text is;
  escape = refl;
}
