-- Decimal words: what std's `parse` reads, once signs and leading zeros are kept out.
use Rattle.osdp_words.proofs.Common.{◌≡◌, ℕ, ◌<◌, ◌^◌, ◌⊎◌, inl, inr, List, [], ◌∷◌, length, get_or, None, Result, Ok, Err, sym, ap, ◌∙◌, arith, IsNumeralModel, numerals_by_value, tells_digits, parse_plain, decimal-digits_value, decimal_digit, first_decimal, parse-decimal, cases_eq, cases_lt, decimal, result_ok, AllDigits, ParsesUnsigned, digits_value, IfSome, Reads, number}

own : IsNumeralModel (AllDigits 10) (digits_value 10)
own = numerals_by_value (AllDigits 10) tells_digits

-- a sign or a leading zero in front of more
abbrev HasMore : List ℕ → Type 0
HasMore text = (get_or text 0 0 ≡ 43) ⊎ ((get_or text 0 0 ≡ 48) × (1 < length text))

-- printed numbers begin otherwise
pub decimal_has_no_more : (n : ℕ) → n < 2 ^ 64 → HasMore (decimal n) → ⊥
decimal_has_no_more n small h =
    elim (cases_eq n 0) [
      | inl none ↦
          let e : decimal n ≡ 48 ∷ [] = rw none (decimal_digit 0 (omega arith)) in
          elim (rw e at h) [ inl plus ↦ absurd (omega arith) | inr zeros ↦ absurd (omega arith) ]
      | inr some ↦
          let first = first_decimal n (omega arith) small in
          elim h [ inl plus ↦ omega arith | inr zeros ↦ omega arith ]
    ]

-- what such a text reads as
pub none_read : (text : List ℕ) → HasMore text → Reads number (λ n. n < 2 ^ 64) text None
none_read text h = record {
  value = tt;
  only = λ n small e. absurd (decimal_has_no_more n (omega arith) (rw e at h));
}

-- what `parse` reads is printed as it was given
printed_back : (text : List ℕ) (v : ℕ) → (HasMore text → ⊥)
    → (AllDigits 10 text × (0 < length text) × (digits_value 10 text < 2 ^ 64)) × (v ≡ digits_value 10 text)
    → (text ≡ decimal v) × (v < 2 ^ 64)
printed_back text v bare h =
    let one : get_or text 0 0 ≡ 48 → length text ≡ 1 =
    λ e. elim (cases_lt 1 (length text)) [ inl more ↦ absurd (bare (inr (e, more))) | inr less ↦ omega (arith, h.0.1) ] in
    let same = decimal-digits_value own text h.0.0 h.0.1 one (omega (arith, h.0.2)) in
    (sym same ∙ ap decimal (sym h.1), omega (arith, h.0.2, h.1))

value_read : {E : Type 0} (text : List ℕ) (r : Result ℕ E) → (HasMore text → ⊥) → ParsesUnsigned 64 10 text r
    → IfSome (result_ok r) (λ v. (text ≡ decimal v) × (v < 2 ^ 64))
value_read {E} text (Ok v) bare h =
    printed_back text v bare (parse_plain own {E = E} 64 text (Ok v) h (λ e. bare (inl e)))
value_read text (Err e) bare h = tt

-- what any other text reads as
pub number_read : {E : Type 0} (text : List ℕ) (r : Result ℕ E) → (HasMore text → ⊥) → ParsesUnsigned 64 10 text r
    → Reads number (λ n. n < 2 ^ 64) text (result_ok r)
number_read text r bare h = record {
  value = value_read text r bare h;
  only = λ n small e. ap result_ok (parse-decimal 64 n text r small (omega arith) e h);
}
