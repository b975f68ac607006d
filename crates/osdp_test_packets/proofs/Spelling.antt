-- Which bytes a text spells, as the decoder answers it.
use Rattle.std.proofs.Common.{◌≡◌, ℕ, ◌/◌, ◌<◌, ◌≤◌, Bool, true, false, List, length, Result, Ok, Err, refl, sym, ◌∙◌, arith}
use Rattle.std.specs.Prelude.{MatchResult}
use Rattle.std.specs.Result.{is_err}
use Rattle.std.specs.Str.{bytes_eq}
use Rattle.std.proofs.lemmas.Slice.Eq.{bytes_eq-Decides}
use Rattle.hex.specs.Hex.{decode_of, decode_sized}
use Rattle.hex.specs.declared.error.FromHexError.{FromHexError}
use Rattle.hex.proofs.HexLemmas.{decode_of-ok, decode_sized-ok, decode_sized-twice}
use Rattle.osdp_test_packets.specs.Spelled.{Spells, SpellsFew, digits_of}

-- what decoding into room for n bytes answered, and what it wrote
abbrev Decodes : Result (List ℕ) FromHexError → Result Unit FromHexError → List ℕ → Type 0
Decodes decoded answer out = MatchResult decoded (λ bytes. (answer ≡ Ok tt) × (out ≡ bytes)) (λ e. answer ≡ Err e)

good_answer : (decoded : Result (List ℕ) FromHexError) (answer : Result Unit FromHexError) (out : List ℕ)
    → Decodes decoded answer out → is_err answer ≡ false → decoded ≡ Ok out
good_answer (Ok bytes) answer out h good = rw h.1 refl
good_answer (Err e) answer out h good =
    let bad : is_err answer ≡ true = rw h refl in
    cc

bad_answer : (decoded : Result (List ℕ) FromHexError) (bytes : List ℕ) (answer : Result Unit FromHexError) (out : List ℕ)
    → Decodes decoded answer out → is_err answer ≡ true → decoded ≡ Ok bytes → ⊥
bad_answer (Ok other) bytes answer out h bad e =
    let good : is_err answer ≡ false = rw h.0 refl in
    cc
bad_answer (Err error) bytes answer out h bad e = cc

pub taken : (text digits out : List ℕ) (n : ℕ) (answer : Result Unit FromHexError) → digits ≡ digits_of text → n ≤ 32
    → Decodes (decode_sized digits n) answer out → is_err answer ≡ false → SpellsFew text out
taken text digits out n answer given room h good =
    let sized = good_answer (decode_sized digits n) answer out h good in
    let twice = decode_sized-ok digits n out sized in
    let whole = sym (decode_sized-twice digits n twice) ∙ sized in
    let parts = decode_of-ok digits out whole in
    (rw given at whole, omega (arith, parts.2))

pub refused : (text digits out : List ℕ) (n : ℕ) (answer : Result Unit FromHexError) → digits ≡ digits_of text → n ≡ length digits / 2
    → Decodes (decode_sized digits n) answer out → is_err answer ≡ true → (bytes : List ℕ) → Spells text bytes → 32 < length bytes
refused text digits out n answer given half h bad bytes spells =
    let whole : decode_of digits ≡ Ok bytes = rw given spells in
    let parts = decode_of-ok digits bytes whole in
    let sized = decode_sized-twice digits n (omega (arith, parts.2)) ∙ whole in
    absurd (bad_answer (decode_sized digits n) bytes answer out h bad sized)

pub too_many : (text digits : List ℕ) → digits ≡ digits_of text → 32 < length digits / 2 → (bytes : List ℕ) → Spells text bytes → 32 < length bytes
too_many text digits given many bytes spells =
    let whole : decode_of digits ≡ Ok bytes = rw given spells in
    let parts = decode_of-ok digits bytes whole in
    omega (arith, parts.2)

-- bytes that are the very ones of a text
pub same_spelled : (text bytes spelled : List ℕ) (r : Bool) → SpellsFew text spelled → r ≡ bytes_eq bytes spelled
    → (r ≡ true → SpellsFew text bytes) × (SpellsFew text bytes → r ≡ true)
same_spelled text bytes spelled r few e =
    let decided = bytes_eq-Decides bytes spelled in
    (λ same. rw (decided.0 (sym e ∙ same)) few, λ other. e ∙ decided.1 (let o = other.0 in let f = few.0 in cc))
