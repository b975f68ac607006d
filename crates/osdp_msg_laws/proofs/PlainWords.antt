-- Words that are printed as digits, colons and letters.
use Rattle.std.proofs.Common.{◌≡◌, ◌<◌, ◌≤◌, ◌/◌, ◌%◌, ◌^◌, inl, inr, lit<, ℕ, suc, Bool, true, false, ◌&&◌, List, [], ◌∷◌, ◌++◌, codes, length, map, slice_index, refl, sym, subst, arith}
use Rattle.osdp_msg_laws.proofs.Common.{nat_le, decimal, digit_glyph, All, AllByRecursion, flat_map, leb-true, decimal_is_IsNumeral, All-head, All-tail, IsWord, Word, bytes, number, numbers, plain, are_all_words, IsPlainCharacter, IsPlainWord}
use Rattle.std.specs.Str.Parse.{AllDigits}
use Rattle.std.proofs.lemmas.Bool.Decides.{nat_tests}
use Rattle.std.proofs.lemmas.Str.Parse.{digit_from_value}
use Rattle.hex.specs.Hex.{IsBytes, encode_upper, encode_with, upper_digits}
use Rattle.osdp_words.proofs.HexDigits.{upper_digit}
use Rattle.osdp_msg_laws.proofs.OneMeaning.{AreSmall}
use Rattle.osdp_msg_laws.proofs.TextWords.{name_word, has_no_space, record_word}

abbrev pub ArePlain : List ℕ → Type 0
ArePlain text = AllByRecursion IsPlainCharacter text

abbrev pub ArePlainWords : List Word → Type 0
ArePlainWords words = AllByRecursion IsPlainWord words

pub plain_append : (xs ys : List ℕ) → ArePlain xs → ArePlain ys → ArePlain (xs ++ ys)
plain_append [] ys h k = k
plain_append (x ∷ xs) ys h k = (h.0, plain_append xs ys h.1 k)

-- ---- names

abbrev pub is_upper : ℕ → Bool
is_upper c = nat_le 65 c && nat_le c 90

abbrev pub are_upper : List ℕ → Bool
are_upper [] = true
are_upper (c ∷ rest) = is_upper c && are_upper rest

pub both : (a b : Bool) → (a && b) ≡ true → (a ≡ true) × (b ≡ true)
both true b e = (refl, e)
both false b e = absurd cc

upper_plain : (text : List ℕ) → are_upper text ≡ true → ArePlain text
upper_plain [] e = tt
upper_plain (c ∷ rest) e =
    let p = both (is_upper c) (are_upper rest) e in
    let q = both (nat_le 65 c) (nat_le c 90) p.0 in
    (inr (inl (leb-true 65 c q.0, leb-true c 90 q.1)), upper_plain rest p.1)

pub name_plain : (text : List ℕ) → 0 < length text → has_no_space text ≡ true → are_upper text ≡ true → IsPlainWord (plain text)
name_plain text some no_space upper = record { held = name_word text some no_space; some = some; each = upper_plain text upper }

-- ---- numbers

digits_plain : (ds : List ℕ) → AllDigits 10 ds → ArePlain ds
digits_plain [] d = tt
digits_plain (c ∷ cs) d =
    let range = digit_from_value c d.0 in
    (inl (omega (arith, range), omega (arith, range)), digits_plain cs d.1)

decimal_plain : (n : ℕ) → n < 2 ^ 64 → ArePlain (decimal n)
decimal_plain n small = digits_plain (decimal n) (decimal_is_IsNumeral n small).0.1

colons_plain : (ns : List ℕ) → AreSmall ns → ArePlain (flat_map (λ m. 58 ∷ decimal m) ns)
colons_plain [] h = tt
colons_plain (n ∷ ns) h =
    (inl (omega arith, omega arith), plain_append (decimal n) (flat_map (λ m. 58 ∷ decimal m) ns) (decimal_plain n h.0) (colons_plain ns h.1))

pub record_plain : (n : ℕ) (ns : List ℕ) → AreSmall (n ∷ ns) → IsPlainWord (numbers (n ∷ ns))
record_plain n ns h =
    let held = record_word n ns h in
    record {
      held = held;
      some = held.0;
      each = plain_append (decimal n) (flat_map (λ m. 58 ∷ decimal m) ns) (decimal_plain n h.0) (colons_plain ns h.1);
    }

pub numbers_plain : (ns : List ℕ) (ws : List Word) → AreSmall ns → ArePlainWords ws → ArePlainWords (map number ns ++ ws)
numbers_plain [] ws h k = k
numbers_plain (n ∷ ns) ws h k =
    let held : IsWord (number n) = (are_all_words n [] (h.0, tt)).0 in
    (record { held = held; some = held.0; each = decimal_plain n h.0 }, numbers_plain ns ws h.1 k)

pub records_plain : {R : Type 0} (word : R → Word) (Fits : R → Type 0) → ((r : R) → Fits r → IsPlainWord (word r)) → (rs : List R) → All Fits rs → ArePlainWords (map word rs)
records_plain word Fits each [] h = tt
records_plain word Fits each (r ∷ rs) h = (each r (All-head Fits r rs h), records_plain word Fits each rs (All-tail Fits r rs h))

-- ---- bytes

glyph_plain : (d : ℕ) → d < 16 → IsPlainCharacter (digit_glyph true d)
glyph_plain d lt = grind (arith, nat_tests)

upper_plain_digit : (d : ℕ) → d < 16 → IsPlainCharacter (slice_index upper_digits d)
upper_plain_digit d lt = subst IsPlainCharacter (sym (upper_digit d lt)) (glyph_plain d lt)

encoded_plain : (bs : List ℕ) → IsBytes bs → ArePlain (encode_upper bs)
unfolding encode_with
encoded_plain [] fits = tt
encoded_plain (b ∷ bs) fits =
    let fit : b < 256 = fits 0 in
    (upper_plain_digit (b / 16) (omega arith), (upper_plain_digit (b % 16) (omega arith), encoded_plain bs (λ k. fits (suc k))))

none_plain : ArePlain (codes "none")
none_plain = (lower 110 (omega arith) (omega arith), (lower 111 (omega arith) (omega arith), (lower 110 (omega arith) (omega arith), (lower 101 (omega arith) (omega arith), tt))))
  where
    lower : (c : ℕ) → 97 ≤ c → c ≤ 122 → IsPlainCharacter c
    lower c low high = inr (inr (low, high))

pub bytes_plain : (bs : List ℕ) → IsBytes bs → IsPlainWord (bytes bs)
unfolding encode_with
bytes_plain [] h = record { held = h; some = lit< tt; each = none_plain }
bytes_plain (b ∷ bs) h = record { held = h; some = omega arith; each = encoded_plain (b ∷ bs) h }
