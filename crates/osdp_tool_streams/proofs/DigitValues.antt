-- The values of digits, and bytes of two of them.
use Rattle.osdp_tool_streams.proofs.Common.{◌≡◌, ◌⊎◌, inl, inr, ℕ, ◌+◌, ◌*◌, ◌%◌, ◌<◌, ◌≤◌, List, [], ◌∷◌, length, slice_index, slice_index_or, slice_set, Option, Some, None, Result, Ok, Err, MatchResult, MatchOption, true, false, refl, sym, subst, ap, ◌∙◌, arith, cases_lt, get_or-set_same, get_or-set_other, result_ok, FromHexError, decode_of-even, value_or_none}
use Rattle.hex.specs.Hex.{decode_of, decode_pairs, decode_sized, digit_or_error, hex_digit_value, ◌>>=◌}

-- a digit after a zero
decoded : (c : ℕ) → decode_sized (48 ∷ c ∷ []) 1 ≡ (digit_or_error c 1 (hex_digit_value c) >>= (λ v. Ok (v ∷ [])))
unfolding decode_pairs
decoded c = go (hex_digit_value c)
  where
    go : (o : Option ℕ) → ((digit_or_error c 1 o >>= (λ l. Ok (0 * 16 + l))) >>= (λ byte. decode_pairs 2 [] >>= (λ bytes. Ok (byte ∷ bytes))))
        ≡ (digit_or_error c 1 o >>= (λ v. Ok (v ∷ [])))
    go (Some v) = ap (λ n. Ok (n ∷ [])) (omega arith)
    go None = refl

abbrev Reads : Result (List ℕ) FromHexError → Result (Unit {0}) FromHexError → List ℕ → Type 0
Reads d r new = MatchResult d (λ bytes. (r ≡ Ok tt) × (new ≡ bytes)) (λ e. r ≡ Err e)

pub value_read : (c : ℕ) (r : Result (Unit {0}) FromHexError) (new : List ℕ) → Reads (decode_sized (48 ∷ c ∷ []) 1) r new → r ≡ Ok tt
    → slice_index_or new 0 0 ≡ value_or_none (hex_digit_value c)
value_read c r new m is = go (hex_digit_value c) (subst (λ d. Reads d r new) (decoded c) m)
  where
    go : (o : Option ℕ) → Reads (digit_or_error c 1 o >>= (λ v. Ok (v ∷ []))) r new → slice_index_or new 0 0 ≡ value_or_none o
    go (Some v) h = ap (λ (l : List ℕ). slice_index_or l 0 0) h.1
    go None h = cc

pub value_refused : (c : ℕ) (r : Result (Unit {0}) FromHexError) (new : List ℕ) (e : FromHexError) → Reads (decode_sized (48 ∷ c ∷ []) 1) r new → r ≡ Err e
    → 255 ≡ value_or_none (hex_digit_value c)
value_refused c r new e m is = go (hex_digit_value c) (subst (λ d. Reads d r new) (decoded c) m)
  where
    go : (o : Option ℕ) → Reads (digit_or_error c 1 o >>= (λ v. Ok (v ∷ []))) r new → 255 ≡ value_or_none o
    go (Some v) h = let ok = h.0 in cc
    go None h = refl

-- one more value in the table
pub value_set : (values : List ℕ) (at v : ℕ) → at < length values
    → ((c : ℕ) → c < at → slice_index values c ≡ value_or_none (hex_digit_value c)) → v ≡ value_or_none (hex_digit_value at)
    → (c : ℕ) → c < at + 1 → slice_index (slice_set values at v) c ≡ value_or_none (hex_digit_value c)
value_set values at v within h is c below =
    elim (cases_lt c at) [
      | inl lt ↦ get_or-set_other values at c v 0 (λ e. omega arith) ∙ h c lt
      | inr le ↦
          let here : at ≡ c = omega arith in
          subst (λ n. slice_index (slice_set values at v) n ≡ value_or_none (hex_digit_value n)) here (get_or-set_same values at v 0 within ∙ is)
    ]

-- ---- the byte of two digits

pub pair_ok : (r : Result ℕ FromHexError) (v : ℕ) → Some v ≡ result_ok r → r ≡ Ok v
pair_ok (Ok w) v h = cc
pair_ok (Err e) v h = cc

pub pair_err : (r : Result ℕ FromHexError) → None ≡ result_ok r → (e : FromHexError) × (r ≡ Err e)
pair_err (Ok w) h = absurd cc
pair_err (Err e) h = (e, refl)

-- ---- digits in pairs

twice_even : (n m : ℕ) → n ≡ 2 * m → n % 2 ≡ 0
twice_even n m h = omega arith

pub read_all : (characters bytes : List ℕ) (count : ℕ) → length characters ≡ 2 * count → decode_pairs 0 characters ≡ Ok bytes
    → MatchOption (result_ok (decode_of characters)) (true ≡ false) (λ read. (true ≡ true) × (bytes ≡ read))
read_all characters bytes count size h =
    subst (λ (r : Result (List ℕ) FromHexError). MatchOption (result_ok r) (true ≡ false) (λ read. (true ≡ true) × (bytes ≡ read)))
    (sym (decode_of-even characters (twice_even (length characters) count size) ∙ h)) (refl, refl)

pub read_none : (characters bytes : List ℕ) (count : ℕ) (e : FromHexError) → length characters ≡ 2 * count → decode_pairs 0 characters ≡ Err e
    → MatchOption (result_ok (decode_of characters)) (false ≡ false) (λ read. (false ≡ true) × (bytes ≡ read))
read_none characters bytes count e size h =
    subst (λ (r : Result (List ℕ) FromHexError). MatchOption (result_ok r) (false ≡ false) (λ read. (false ≡ true) × (bytes ≡ read)))
    (sym (decode_of-even characters (twice_even (length characters) count size) ∙ h)) refl
