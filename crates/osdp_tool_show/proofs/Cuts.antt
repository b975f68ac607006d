-- Texts from their fronts: where they part, and what was printed in front.
use Rattle.osdp_tool_show.proofs.Common.{◌≡◌, ℕ, zero, suc, ◌<◌, ◌^◌, ◌⊎◌, false, eqb, List, [], ◌∷◌, ◌++◌, get_or, Result, refl, sym, ap, ◌∙◌, arith, eq-eqb, true≢false, decimal_injective, decimal, LacksByte, IsBytes, decode_of, encode_upper, decimal_lacks}
use Rattle.std.specs.Result.{result_unwrap_or}
use Rattle.hex.specs.declared.error.FromHexError.{FromHexError}
use Rattle.hex.proofs.HexLemmas.{decode_of-encode_upper}

-- texts whose characters at a place differ
pub differ_at : (place : ℕ) (xs ys : List ℕ) → eqb (get_or xs place 0) (get_or ys place 0) ≡ false → xs ≡ ys → ⊥
differ_at place xs ys no_match e =
    true≢false (sym (eq-eqb (get_or xs place 0) (get_or ys place 0) (ap (λ (text : List ℕ). get_or text place 0) e)) ∙ no_match)

-- what stands in front of the first c, and after it
pub cut : (c : ℕ) (xs ys front back : List ℕ) → LacksByte c xs → LacksByte c ys → xs ++ c ∷ front ≡ ys ++ c ∷ back
    → (xs ≡ ys) × (front ≡ back)
cut c [] [] front back hx hy e = (refl, cc e)
cut c [] (y ∷ ys) front back hx hy e = absurd (hy 0 (omega arith) (cc e))
cut c (x ∷ xs) [] front back hx hy e = absurd (hx 0 (omega arith) (cc e))
cut c (x ∷ xs) (y ∷ ys) front back hx hy e =
    let first : x ≡ y = cc e in
    let rest = cut c xs ys front back (λ k lt. hx (suc k) (omega arith)) (λ k lt. hy (suc k) (omega arith)) (cc e) in
    (cc (first, rest.0), rest.1)

-- a number in front of a character that is no digit
pub cut_decimal : (c m n : ℕ) (front back : List ℕ) → (c < 48) ⊎ (57 < c) → m < 2 ^ 64 → n < 2 ^ 64
    → decimal m ++ c ∷ front ≡ decimal n ++ c ∷ back → (m ≡ n) × (front ≡ back)
cut_decimal c m n front back other hm hn e =
    let parts = cut c (decimal m) (decimal n) front back (decimal_lacks c m other hm) (decimal_lacks c n other hn) e in
    (decimal_injective m n hm hn parts.0, parts.1)

-- bytes with the same digits
pub one_list : (xs ys : List ℕ) → IsBytes xs → IsBytes ys → encode_upper xs ≡ encode_upper ys → xs ≡ ys
one_list xs ys hx hy e =
    ap (λ (r : Result (List ℕ) FromHexError). result_unwrap_or r [])
    (sym (decode_of-encode_upper xs hx) ∙ ap decode_of e ∙ decode_of-encode_upper ys hy)

-- one byte is a list of bytes
pub one_byte : (b : ℕ) → b < 256 → IsBytes (b ∷ [])
one_byte b h zero = h
one_byte b h (suc i) = omega arith
