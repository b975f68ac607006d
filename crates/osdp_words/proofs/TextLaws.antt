-- The laws of texts and of reading.
use Rattle.osdp_words.proofs.Common.{◌≡◌, ◌≢◌, ℕ, suc, ◌<◌, List, [], ◌∷◌, length, map, slice_index, codes, Option, Some, None, refl, sym, ap, ◌∙◌, arith, lit<, AllByRecursion, AllZip, nat_tests, digit_glyph, LacksByte, HasOneList, HasOneResult, JoinsBySpaces, PartsAtSpaces, Reads, AllStandFor, AreWithin, AreWords, IsSameSort, IsWord, StandsFor, Word, bytes, number, numbers, plain, printed, text_of}
use Rattle.std.specs.Prelude.{◌/◌, ◌%◌, true}
use Rattle.hex.specs.Hex.{IsBytes, encode_upper, encode_with, upper_digits}
use Rattle.osdp_words.proofs.HexDigits.{upper_digit}
use Rattle.osdp_words.proofs.Joined.{join_by-is, pieces, pieces-join_by}
use Rattle.osdp_words.proofs.WordLaws.{has_one_word, lacks-cons, stands_for_itself}

pub joins_by_spaces : JoinsBySpaces
joins_by_spaces words = join_by-is printed 32 words

-- ---- words hold no spaces

glyph_is_no_space : (d : ℕ) → d < 16 → digit_glyph true d ≢ 32
glyph_is_no_space d lt e = grind (arith, nat_tests)

digits_lack_spaces : (bs : List ℕ) → IsBytes bs → LacksByte 32 (encode_upper bs)
unfolding encode_with
digits_lack_spaces [] fits = λ k lt. absurd (omega arith)
digits_lack_spaces (b ∷ bs) fits =
    let fit : b < 256 = fits 0 in
    let high : b / 16 < 16 = omega arith in
    let low : b % 16 < 16 = omega arith in
    lacks-cons 32 (slice_index upper_digits (b / 16)) (slice_index upper_digits (b % 16) ∷ encode_upper bs) (λ e. glyph_is_no_space (b / 16) high (sym (upper_digit (b / 16) high) ∙ e))
    (lacks-cons 32 (slice_index upper_digits (b % 16)) (encode_upper bs) (λ e. glyph_is_no_space (b % 16) low (sym (upper_digit (b % 16) low) ∙ e)) (digits_lack_spaces bs (λ k. fits (suc k))))

none_lacks_spaces : LacksByte 32 (codes "none")
none_lacks_spaces =
    lacks-cons 32 110 (111 ∷ 110 ∷ 101 ∷ []) (omega arith) (lacks-cons 32 111 (110 ∷ 101 ∷ []) (omega arith) (lacks-cons 32 110 (101 ∷ []) (omega arith) (lacks-cons 32 101 [] (omega arith) (λ k lt. absurd (omega arith)))))

lacks_spaces : (word : Word) → IsWord word → LacksByte 32 (printed word)
lacks_spaces (plain text) h = h.1
lacks_spaces (bytes []) h = none_lacks_spaces
lacks_spaces (bytes (b ∷ bs)) h = digits_lack_spaces (b ∷ bs) h

is_not_empty : (word : Word) → IsWord word → 0 < length (printed word)
unfolding encode_with
is_not_empty (plain text) h = h.0
is_not_empty (bytes []) h = lit< tt
is_not_empty (bytes (b ∷ bs)) h = omega arith

all_lack_spaces : (words : List Word) → AreWords words → AllByRecursion (λ word. LacksByte 32 (printed word)) words
all_lack_spaces [] h = tt
all_lack_spaces (word ∷ words) h = (lacks_spaces word h.0, all_lack_spaces words h.1)

none_is_empty : (words : List Word) → AreWords words → AllByRecursion (λ word. 0 < length (printed word)) words
none_is_empty [] h = tt
none_is_empty (word ∷ words) h = (is_not_empty word h.0, none_is_empty words h.1)

pub parts_at_spaces : PartsAtSpaces
parts_at_spaces first rest h =
    (pieces-join_by printed 32 first rest (all_lack_spaces (first ∷ rest) h), none_is_empty (first ∷ rest) h)

-- ---- one list of words

same_words : (ws vs : List Word) → AreWords ws → AreWords vs → AllZip IsSameSort ws vs → map printed ws ≡ map printed vs → ws ≡ vs
same_words [] [] hw hv same e = refl
same_words [] (v ∷ vs) hw hv same e = absurd same
same_words (w ∷ ws) [] hw hv same e = absurd same
same_words (w ∷ ws) (v ∷ vs) hw hv same e =
    let front : printed w ≡ printed v = cc e in
    let at : StandsFor w (printed v) = rw (← front) (stands_for_itself w hw.0) in
    let one = has_one_word (printed v) w v hw.0 hv.0 same.0 at (stands_for_itself v hv.0) in
    let rest = same_words ws vs hw.1 hv.1 same.1 (cc e) in
    cc (one, rest)

one_text : (ws vs : List Word) → AreWords ws → AreWords vs → AllZip IsSameSort ws vs → text_of ws ≡ text_of vs → ws ≡ vs
one_text [] [] hw hv same e = refl
one_text [] (v ∷ vs) hw hv same e = absurd same
one_text (w ∷ ws) [] hw hv same e = absurd same
one_text (w ∷ ws) (v ∷ vs) hw hv same e =
    same_words (w ∷ ws) (v ∷ vs) hw hv same
    (sym (parts_at_spaces w ws hw).0 ∙ ap (pieces 32) e ∙ (parts_at_spaces v vs hv).0)

one_given : (given : List (List ℕ)) (ws vs : List Word) → AreWords ws → AreWords vs → AllZip IsSameSort ws vs → AllStandFor ws given → AllStandFor vs given → ws ≡ vs
one_given given [] [] hw hv same a b = refl
one_given given [] (v ∷ vs) hw hv same a b = absurd same
one_given given (w ∷ ws) [] hw hv same a b = absurd same
one_given [] (w ∷ ws) (v ∷ vs) hw hv same a b = absurd a
one_given (given ∷ more) (w ∷ ws) (v ∷ vs) hw hv same a b =
    let one = has_one_word given w v hw.0 hv.0 same.0 a.0 b.0 in
    let rest = one_given more ws vs hw.1 hv.1 same.1 a.1 b.1 in
    cc (one, rest)

pub has_one_list : HasOneList
has_one_list ws vs hw hv same = (one_text ws vs hw hv same, λ given a b. one_given given ws vs hw hv same a b)

-- ---- one result

pub one_result : {A : Type 0} (word : A → Word) (Allowed : A → Type 0) (given : List ℕ) (r s : Option A)
    → Reads word Allowed given r → Reads word Allowed given s → r ≡ s
one_result word Allowed given (Some a) s hr hs = sym (hs.only a hr.value.1 hr.value.0)
one_result word Allowed given None (Some b) hr hs = hr.only b hs.value.1 hs.value.0
one_result word Allowed given None None hr hs = refl

pub has_one_result : HasOneResult
has_one_result = (
  λ limit given r s. one_result number (λ n. n < limit) given r s,
  λ room given r s. one_result bytes (λ bs. (length bs < room) × IsBytes bs) given r s,
  λ limits given r s. one_result numbers (AreWithin limits) given r s,
)
