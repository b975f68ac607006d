-- Hexadecimal digits in either case: a text decodes to bytes just where it is their digits in upper case.
use Rattle.osdp_words.proofs.Common.{◌≡◌, ℕ, zero, suc, ◌+◌, ◌*◌, ◌/◌, ◌%◌, ◌-◌, ◌<◌, ◌^◌, ◌==◌, ◌&&◌, Bool, true, false, inl, inr, List, [], ◌∷◌, ◌++◌, length, get_or, take, slice_index, Option, Some, None, Result, Ok, Err, refl, sym, ap, ◌∙◌, arith, and_parts, cases_lt, eqb-true, nat_tests, hex_byte, take_more, to_ascii_uppercase, digit_glyph, digits, format_spec, padded_integral, str_to_ascii_uppercase, result_ok, result_unwrap_or, FromHexError, cons_byte, decode_pairs-ok_pair}
use Rattle.hex.specs.Hex.{IsBytes, decode_pairs, digit_or_error, encode_upper, encode_with, hex_digit_value, pair_value, upper_digits, value_at, ◌>>=◌}

-- the digits of the table are those that std prints
abbrev same_glyphs : ℕ → Bool
same_glyphs zero = true
same_glyphs (suc n) = (slice_index upper_digits n == digit_glyph true n) && same_glyphs n

same_glyph_below : (n d : ℕ) → same_glyphs n ≡ true → d < n → slice_index upper_digits d ≡ digit_glyph true d
same_glyph_below zero d h lt = absurd (omega arith)
same_glyph_below (suc n) d h lt =
    let parts = and_parts (slice_index upper_digits n == digit_glyph true n) (same_glyphs n) h in
    elim (cases_lt d n) [
      | inl below ↦ same_glyph_below n d parts.1 below
      | inr top ↦
          let e : d ≡ n = omega arith in
          rw e (eqb-true (slice_index upper_digits n) (digit_glyph true n) parts.0)
    ]

pub upper_digit : (d : ℕ) → d < 16 → slice_index upper_digits d ≡ digit_glyph true d
upper_digit d lt = same_glyph_below 16 d refl lt

-- a character that has a value is that digit in upper case
digit_of_value : (c d : ℕ) → hex_digit_value c ≡ Some d → (d < 16) × (to_ascii_uppercase c ≡ digit_glyph true d)
digit_of_value c d h = (grind arith, grind (arith, nat_tests))

-- a character that is a digit in upper case has its value
value_of_digit : (c d : ℕ) → d < 16 → to_ascii_uppercase c ≡ digit_glyph true d → hex_digit_value c ≡ Some d
value_of_digit c d lt h = grind (arith, nat_tests)

-- ---- steps of the decoder

-- the value of a digit that read
digit_read : (c i : ℕ) (o : Option ℕ) (v : ℕ) → digit_or_error c i o ≡ Ok v → o ≡ Some v
digit_read c i (Some w) v h = ap result_ok h
digit_read c i None v h = cc h

-- what an `Ok` after `>>=` shows
bind_ok : {A B : Type 0} (r : Result A FromHexError) (f : A → Result B FromHexError) (y : B)
    → (r >>= f) ≡ Ok y → (x : A) × (r ≡ Ok x) × (f x ≡ Ok y)
bind_ok (Ok x) f y h = (x, refl, h)
bind_ok (Err e) f y h = cc h

-- the digits of two halves are those of the byte
halves : (t : List ℕ) (high low byte : ℕ) → high < 16 → low < 16 → high * 16 + low ≡ byte
    → (slice_index t (byte / 16) ≡ slice_index t high) × (slice_index t (byte % 16) ≡ slice_index t low)
halves t high low byte hh hl e =
    let quotient : byte / 16 ≡ high = omega arith in
    let rest : byte % 16 ≡ low = omega arith in
    (ap (slice_index t) quotient, ap (slice_index t) rest)

-- ---- texts and bytes

pub digits_from_pairs : (i : ℕ) (text bs : List ℕ) → decode_pairs i text ≡ Ok bs → str_to_ascii_uppercase text ≡ encode_upper bs
unfolding decode_pairs encode_with
digits_from_pairs i [] bs h =
    let e : [] ≡ bs = ap (λ (r : Result (List ℕ) FromHexError). result_unwrap_or r []) h in
    rw (← e) refl
digits_from_pairs i (a ∷ []) bs h = cc h
digits_from_pairs i (a ∷ b ∷ rest) bs h =
    let p0 = bind_ok (pair_value a b i) _ bs h in
    let p1 = bind_ok (value_at a i) _ p0.0 p0.1 in
    let p2 = bind_ok (value_at b (i + 1)) _ p0.0 p1.2 in
    let p3 = bind_ok (decode_pairs (i + 2) rest) _ bs p0.2 in
    let e : p0.0 ∷ p3.0 ≡ bs = ap (λ (r : Result (List ℕ) FromHexError). result_unwrap_or r []) p3.2 in
    let byte : p1.0 * 16 + p2.0 ≡ p0.0 = ap (λ (r : Result ℕ FromHexError). result_unwrap_or r 0) p2.2 in
    let high = digit_of_value a p1.0 (digit_read a i (hex_digit_value a) p1.0 p1.1) in
    let low = digit_of_value b p2.0 (digit_read b (i + 1) (hex_digit_value b) p2.0 p2.1) in
    let parts = halves upper_digits p1.0 p2.0 p0.0 high.0 low.0 byte in
    let ih = digits_from_pairs (i + 2) rest p3.0 p3.1 in
    let front : to_ascii_uppercase a ≡ slice_index upper_digits (p0.0 / 16) = high.1 ∙ sym (upper_digit p1.0 high.0) ∙ sym parts.0 in
    let back : to_ascii_uppercase b ≡ slice_index upper_digits (p0.0 % 16) = low.1 ∙ sym (upper_digit p2.0 low.0) ∙ sym parts.1 in
    rw (← e) (cc (front, back, ih))

pub pairs_from_digits : (i : ℕ) (text bs : List ℕ) → IsBytes bs → str_to_ascii_uppercase text ≡ encode_upper bs → decode_pairs i text ≡ Ok bs
unfolding decode_pairs encode_with
pairs_from_digits i [] [] h e = refl
pairs_from_digits i (a ∷ text) [] h e = cc e
pairs_from_digits i [] (b ∷ bs) h e = cc e
pairs_from_digits i (a ∷ []) (b ∷ bs) h e = cc e
pairs_from_digits i (a ∷ c ∷ text) (b ∷ bs) h e =
    let fits : b < 256 = h 0 in
    let high : b / 16 < 16 = omega arith in
    let low : b % 16 < 16 = omega arith in
    let front : to_ascii_uppercase a ≡ digit_glyph true (b / 16) = cc (e, upper_digit (b / 16) high) in
    let back : to_ascii_uppercase c ≡ digit_glyph true (b % 16) = cc (e, upper_digit (b % 16) low) in
    let rest : str_to_ascii_uppercase text ≡ encode_upper bs = cc e in
    let ha : value_at a i ≡ Ok (b / 16) = ap (digit_or_error a i) (value_of_digit a (b / 16) high front) in
    let hb : value_at c (i + 1) ≡ Ok (b % 16) = ap (digit_or_error c (i + 1)) (value_of_digit c (b % 16) low back) in
    let pair : pair_value a c i ≡ Ok (b / 16 * 16 + b % 16) = rw (ha, hb) refl in
    let ih = pairs_from_digits (i + 2) text bs (λ k. h (suc k)) rest in
    let whole : b / 16 * 16 + b % 16 ≡ b = omega arith in
    decode_pairs-ok_pair i a c _ text pair ∙ ap (cons_byte (b / 16 * 16 + b % 16)) ih ∙ ap (λ (v : ℕ). Ok (v ∷ bs)) whole

-- ---- printing

encode_with-append : (t xs ys : List ℕ) → encode_with t (xs ++ ys) ≡ encode_with t xs ++ encode_with t ys
unfolding encode_with
encode_with-append t [] ys = refl
encode_with-append t (x ∷ xs) ys = ap (λ (rest : List ℕ). slice_index t (x / 16) ∷ slice_index t (x % 16) ∷ rest) (encode_with-append t xs ys)

encode_one : (b : ℕ) → b < 256 → encode_upper (b ∷ []) ≡ padded_integral (format_spec 32 0 4 2 (2 ^ 64 - 1)) false [] (digits 16 true b)
unfolding encode_with
encode_one b lt =
    let high = upper_digit (b / 16) (omega arith) in
    let low = upper_digit (b % 16) (omega arith) in
    cc (hex_byte true b lt, high, low)

-- one byte more is printed
pub printed_more : (xs : List ℕ) (i b : ℕ) → i < length xs → b ≡ get_or xs i 0 → b < 256
    → encode_upper (take i xs) ++ padded_integral (format_spec 32 0 4 2 (2 ^ 64 - 1)) false [] (digits 16 true b) ≡ encode_upper (take (i + 1) xs)
printed_more xs i b lt e small =
    rw (take_more xs i 0 lt, encode_with-append, ← e) (ap (λ (text : List ℕ). encode_upper (take i xs) ++ text) (sym (encode_one b small)))
