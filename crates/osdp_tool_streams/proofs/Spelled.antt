-- Digits in pairs and the bytes that they spell.
use Rattle.osdp_tool_streams.proofs.Common.{◌≡◌, ◌⊎◌, inl, inr, ℕ, ◌+◌, ◌*◌, ◌/◌, ◌%◌, ◌<◌, ◌==◌, cond, Bool, true, false, List, [], ◌∷◌, length, Option, Some, None, Result, Ok, Err, refl, sym, subst, ap, ◌∙◌, arith, eqb-true, result_ok, FromHexError, decode_of-ok, decode_of-even, cons_byte, decode_pairs-ok_pair, said, IsComment, SpellsBytes}
use Rattle.hex.specs.Hex.{decode_of, decode_pairs, hex_digit_value, digit_or_error, value_at, pair_value, ◌>>=◌}

bound : {A B : Type 0} (r : Result A FromHexError) (f : A → Result B FromHexError) (y : B) → (r >>= f) ≡ Ok y → (x : A) × (r ≡ Ok x) × (f x ≡ Ok y)
bound (Ok x) f y h = (x, refl, h)
bound (Err e) f y h = cc

read_digit : (c i : ℕ) (o : Option ℕ) (v : ℕ) → digit_or_error c i o ≡ Ok v → o ≡ Some v
read_digit c i (Some w) v h = cc
read_digit c i None v h = cc

pub small : (c v : ℕ) → hex_digit_value c ≡ Some v → v < 16
small c v h = grind (arith)

-- what is decoded was spelled
pub pairs_spell : (i : ℕ) (digits bytes : List ℕ) → decode_pairs i digits ≡ Ok bytes → SpellsBytes digits bytes
unfolding decode_pairs
pairs_spell i [] bytes h = let none : bytes ≡ [] = cc in subst (SpellsBytes []) (sym none) tt
pairs_spell i (high ∷ []) bytes h = cc
pairs_spell i (high ∷ low ∷ rest) bytes h =
    let pair = bound (pair_value high low i) _ bytes h in
    let first = bound (value_at high i) _ pair.0 pair.1 in
    let second = bound (value_at low (i + 1)) _ pair.0 first.2 in
    let tail = bound (decode_pairs (i + 2) rest) _ bytes pair.2 in
    let whole : pair.0 ∷ tail.0 ≡ bytes = cc in
    let byte : first.0 * 16 + second.0 ≡ pair.0 = cc in
    let a = read_digit high i (hex_digit_value high) first.0 first.1 in
    let b = read_digit low (i + 1) (hex_digit_value low) second.0 second.1 in
    let x = small high first.0 a in
    let y = small low second.0 b in
    let top : first.0 ≡ pair.0 / 16 = omega arith in
    let bottom : second.0 ≡ pair.0 % 16 = omega arith in
    subst (SpellsBytes (high ∷ low ∷ rest)) whole (a ∙ ap Some top, b ∙ ap Some bottom, pairs_spell (i + 2) rest tail.0 tail.1)

-- what is spelled is decoded
pub spelled_pairs : (i : ℕ) (digits bytes : List ℕ) → SpellsBytes digits bytes → decode_pairs i digits ≡ Ok bytes
unfolding decode_pairs
spelled_pairs i [] [] s = refl
spelled_pairs i [] (b ∷ bytes) s = absurd s
spelled_pairs i (high ∷ []) bytes s = absurd s
spelled_pairs i (high ∷ low ∷ rest) [] s = absurd s
spelled_pairs i (high ∷ low ∷ rest) (b ∷ bytes) s =
    let a = s.0 in
    let c = s.1 in
    let pair : pair_value high low i ≡ Ok (b / 16 * 16 + b % 16) = rw (a, c) refl in
    let byte : b / 16 * 16 + b % 16 ≡ b = omega arith in
    decode_pairs-ok_pair i high low (b / 16 * 16 + b % 16) rest pair ∙ ap (cons_byte (b / 16 * 16 + b % 16)) (spelled_pairs (i + 2) rest bytes s.2)
    ∙ ap (λ n. Ok (n ∷ bytes)) byte

spelled_even : (digits bytes : List ℕ) → SpellsBytes digits bytes → length digits % 2 ≡ 0
spelled_even [] [] s = refl
spelled_even [] (b ∷ bytes) s = absurd s
spelled_even (high ∷ []) bytes s = absurd s
spelled_even (high ∷ low ∷ rest) [] s = absurd s
spelled_even (high ∷ low ∷ rest) (b ∷ bytes) s = let e = spelled_even rest bytes s.2 in omega arith

pub result_is : (r : Result (List ℕ) FromHexError) (bytes : List ℕ) → result_ok r ≡ Some bytes → r ≡ Ok bytes
result_is (Ok x) bytes h = cc
result_is (Err e) bytes h = cc

no_digit : (c v : ℕ) → c ≡ 35 → hex_digit_value c ≡ Some v → ⊥
no_digit c v e h = cc (sym h ∙ ap hex_digit_value e)

pub said_is : (characters bytes : List ℕ) → said characters ≡ Some bytes → (IsComment characters × (bytes ≡ [])) ⊎ SpellsBytes characters bytes
said_is [] bytes h = let none : bytes ≡ [] = cc in inr (subst (SpellsBytes []) (sym none) tt)
said_is (c ∷ rest) bytes h = go (c == 35) refl h
  where
    go : (t : Bool) → (c == 35) ≡ t → cond t (Some []) (result_ok (decode_of (c ∷ rest))) ≡ Some bytes → (IsComment (c ∷ rest) × (bytes ≡ [])) ⊎ SpellsBytes (c ∷ rest) bytes
    go true is e = let none : bytes ≡ [] = cc in inl (eqb-true c 35 is, none)
    go false is e =
        let ok = result_is (decode_of (c ∷ rest)) bytes e in
        inr (pairs_spell 0 (c ∷ rest) bytes (sym (decode_of-even (c ∷ rest) (decode_of-ok (c ∷ rest) bytes ok).0) ∙ ok))

pub is_said : (characters bytes : List ℕ) → (IsComment characters × (bytes ≡ [])) ⊎ SpellsBytes characters bytes → said characters ≡ Some bytes
is_said [] [] s = refl
is_said [] (b ∷ bytes) s = elim s [ inl comment ↦ absurd comment.0 | inr spelled ↦ absurd spelled ]
is_said (c ∷ rest) bytes s = elim s [ inl comment ↦ by_comment comment.0 comment.1 | inr spelled ↦ by_digits (c == 35) refl spelled ]
  where
    by_comment : c ≡ 35 → bytes ≡ [] → cond (c == 35) (Some []) (result_ok (decode_of (c ∷ rest))) ≡ Some bytes
    by_comment is none = ap (λ n. cond (n == 35) (Some []) (result_ok (decode_of (c ∷ rest)))) is ∙ ap Some (sym none)

    first_digit : (digits : List ℕ) → SpellsBytes (c ∷ digits) bytes → (v : ℕ) × (hex_digit_value c ≡ Some v)
    first_digit digits spelled = digit_of bytes digits spelled
      where
        digit_of : (bs ds : List ℕ) → SpellsBytes (c ∷ ds) bs → (v : ℕ) × (hex_digit_value c ≡ Some v)
        digit_of bs [] sp = absurd sp
        digit_of [] (d ∷ ds) sp = absurd sp
        digit_of (b ∷ bs) (d ∷ ds) sp = (b / 16, sp.0)

    by_digits : (t : Bool) → (c == 35) ≡ t → SpellsBytes (c ∷ rest) bytes → cond t (Some []) (result_ok (decode_of (c ∷ rest))) ≡ Some bytes
    by_digits true is spelled = let d = first_digit rest spelled in absurd (no_digit c d.0 (eqb-true c 35 is) d.1)
    by_digits false is spelled =
        ap result_ok (decode_of-even (c ∷ rest) (spelled_even (c ∷ rest) bytes spelled) ∙ spelled_pairs 0 (c ∷ rest) bytes spelled)
