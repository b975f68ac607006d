-- The laws of words.
use Rattle.osdp_words.proofs.Common.{◌≡◌, ◌≢◌, ℕ, zero, suc, ◌<◌, ◌^◌, ◌⊎◌, inl, inr, lit<, List, [], ◌∷◌, ◌++◌, length, get_or, map, Result, Ok, refl, sym, ap, ◌∙◌, arith, length-append, decimal-digits_value, decimal_digit, decimal_is_IsNumeral, decimal_nonempty, first_decimal, cases_eq, All-append, All-from_get_or, IsNumeralModel, numerals_by_value, tells_digits, decimal, All, AllByRecursion, flat_map, result_unwrap_or, LacksByte, AllDigits, digits_value, IsBytes, decode_pairs, encode_upper, upper_digits, FromHexError, IsDigits-upper_digits, decode_of-even, decode_of-ok, decode_pairs-encode_with, AreAllWords, HasOneWord, IsDecimal, IsDecoded, PartsAtColons, StandsForItself, AllStandFor, StandsFor, bytes, number, plain}
use Rattle.osdp_words.proofs.HexDigits.{digits_from_pairs, pairs_from_digits}
use Rattle.osdp_words.proofs.HexWords.{digits_that_stand, length_of_digits, no_digits, stands_by_digits}
use Rattle.osdp_words.proofs.Joined.{from_pieces, pieces, pieces-join_by}
use Rattle.osdp_words.proofs.RecordWords.{decimal_lacks}

-- ---- a word for each text

pub stands_for_itself : StandsForItself
stands_for_itself (plain text) h = refl
stands_for_itself (bytes []) h = refl
stands_for_itself (bytes (b ∷ bs)) h =
    digits_from_pairs 0 (encode_upper (b ∷ bs)) (b ∷ bs) (decode_pairs-encode_with upper_digits IsDigits-upper_digits 0 (b ∷ bs) h)

same_bytes : (text ys bs : List ℕ) → decode_pairs 0 text ≡ Ok ys → decode_pairs 0 text ≡ Ok bs → ys ≡ bs
same_bytes text ys bs ea eb = ap (λ (r : Result (List ℕ) FromHexError). result_unwrap_or r []) (sym ea ∙ eb)

one_list : (text ys bs : List ℕ) → IsBytes ys → IsBytes bs → StandsFor (bytes ys) text → StandsFor (bytes bs) text → ys ≡ bs
one_list text [] [] ha hb ea eb = refl
one_list text [] (b ∷ bs) ha hb ea eb = absurd (no_digits (b ∷ bs) (omega arith) hb (rw ea at eb))
one_list text (a ∷ ys) [] ha hb ea eb = absurd (no_digits (a ∷ ys) (omega arith) ha (rw eb at ea))
one_list text (a ∷ ys) (b ∷ bs) ha hb ea eb =
    same_bytes text (a ∷ ys) (b ∷ bs) (pairs_from_digits 0 text (a ∷ ys) ha ea) (pairs_from_digits 0 text (b ∷ bs) hb eb)

pub has_one_word : HasOneWord
has_one_word text (plain a) (plain b) ha hb same ea eb = ap plain (sym ea ∙ eb)
has_one_word text (plain a) (bytes bs) ha hb same ea eb = absurd same
has_one_word text (bytes ys) (plain b) ha hb same ea eb = absurd same
has_one_word text (bytes ys) (bytes bs) ha hb same ea eb = ap bytes (one_list text ys bs ha hb ea eb)

-- ---- decimals

own : IsNumeralModel (AllDigits 10) (digits_value 10)
own = numerals_by_value (AllDigits 10) tells_digits

first_of_decimal : (n : ℕ) → n < 2 ^ 64 → get_or (decimal n) 0 0 ≡ 48 → length (decimal n) ≡ 1
first_of_decimal n small e =
    elim (cases_eq n 0) [
      | inl none ↦ rw none (ap length (decimal_digit 0 (omega arith)))
      | inr some ↦ absurd (omega (arith, first_decimal n (omega arith) small))
    ]

pub is_decimal : IsDecimal
is_decimal n given small = (
  λ e. let parts = decimal_is_IsNumeral n small in rw e (parts.0, first_of_decimal n small, parts.1),
  λ h. sym (decimal-digits_value own given h.0.1 h.0.0 h.1 (omega (arith, h.2))) ∙ ap decimal h.2,
)

-- ---- bytes

pub is_decoded : IsDecoded
is_decoded bs given some fits = (
  λ stands.
      let digits = digits_that_stand bs given some stands in
      let len = length_of_digits bs given digits in
      decode_of-even given (omega arith) ∙ pairs_from_digits 0 given bs fits digits,
  λ e.
      let parts = decode_of-ok given bs e in
      stands_by_digits bs given some (digits_from_pairs 0 given bs (sym (decode_of-even given parts.0) ∙ e)),
)

-- ---- records

all_lack : (c : ℕ) → (c < 48) ⊎ (57 < c) → (ns : List ℕ) → AllByRecursion (λ m. m < 2 ^ 64) ns → AllByRecursion (λ m. LacksByte c (decimal m)) ns
all_lack c h [] small = tt
all_lack c h (n ∷ ns) small = (decimal_lacks c n h small.0, all_lack c h ns small.1)

-- the words of numbers stand for their decimals alone
decimals_stand : (ns : List ℕ) (parts : List (List ℕ)) → parts ≡ map decimal ns → AllStandFor (map number ns) parts
decimals_stand [] [] e = tt
decimals_stand [] (part ∷ parts) e = cc e
decimals_stand (n ∷ ns) [] e = cc e
decimals_stand (n ∷ ns) (part ∷ parts) e = let rest : parts ≡ map decimal ns = cc e in (cc e, decimals_stand ns parts rest)

decimals_from_words : (ns : List ℕ) (parts : List (List ℕ)) → AllStandFor (map number ns) parts → parts ≡ map decimal ns
decimals_from_words [] [] h = refl
decimals_from_words [] (part ∷ parts) h = absurd h
decimals_from_words (n ∷ ns) [] h = absurd h
decimals_from_words (n ∷ ns) (part ∷ parts) h = let rest = decimals_from_words ns parts h.1 in cc (h.0, rest)

pub parts_at_colons : PartsAtColons
parts_at_colons n ns given small = (
  λ e. decimals_stand (n ∷ ns) (pieces 58 given) (rw e (pieces-join_by decimal 58 n ns (all_lack 58 (inr (lit< tt)) (n ∷ ns) small))),
  λ h. from_pieces decimal 58 given (n ∷ ns) (decimals_from_words (n ∷ ns) (pieces 58 given) h),
)

-- ---- words of a text

lacks_from_all : (c : ℕ) (xs : List ℕ) → All (λ x. x ≢ c) xs → LacksByte c xs
lacks_from_all c xs h = λ k lt. h k 0 lt

all_from_lacks : (c : ℕ) (xs : List ℕ) → LacksByte c xs → All (λ x. x ≢ c) xs
all_from_lacks c xs h = All-from_get_or (λ x. x ≢ c) xs 0 h

pub lacks-append : (c : ℕ) (xs ys : List ℕ) → LacksByte c xs → LacksByte c ys → LacksByte c (xs ++ ys)
lacks-append c xs ys hx hy =
    lacks_from_all c (xs ++ ys) (All-append (λ x. x ≢ c) xs ys (all_from_lacks c xs hx) (all_from_lacks c ys hy))

pub lacks-cons : (c x : ℕ) (xs : List ℕ) → x ≢ c → LacksByte c xs → LacksByte c (x ∷ xs)
lacks-cons c x xs other h zero lt = other
lacks-cons c x xs other h (suc k) lt = h k (omega arith)

rest_lacks : (ns : List ℕ) → AllByRecursion (λ m. m < 2 ^ 64) ns → LacksByte 32 (flat_map (λ m. 58 ∷ decimal m) ns)
rest_lacks [] small = λ k lt. absurd (omega arith)
rest_lacks (n ∷ ns) small =
    lacks-append 32 (58 ∷ decimal n) (flat_map (λ m. 58 ∷ decimal m) ns)
    (lacks-cons 32 58 (decimal n) (omega arith) (decimal_lacks 32 n (inl (lit< tt)) small.0))
    (rest_lacks ns small.1)

pub are_all_words : AreAllWords
are_all_words n ns small =
    let some = decimal_nonempty n small.0 in
    let lacks = decimal_lacks 32 n (inl (lit< tt)) small.0 in (
      (some, lacks),
      (
        omega (arith, length-append (decimal n) (flat_map (λ m. 58 ∷ decimal m) ns)),
        lacks-append 32 (decimal n) (flat_map (λ m. 58 ∷ decimal m) ns) lacks (rest_lacks ns small.1),
      ),
    )
