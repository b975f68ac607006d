-- Hexadecimal words: for which bytes a text stands, as the decoder answers it.
use Rattle.osdp_words.proofs.Common.{◌≡◌, ℕ, ◌+◌, ◌*◌, ◌/◌, ◌<◌, ◌≤◌, inl, inr, Bool, true, false, List, [], ◌∷◌, ◌++◌, length, codes, Option, Some, None, Result, Ok, Err, refl, sym, ap, ◌∙◌, arith, cases_lt, length-map, nil_from_length, then_some, to_ascii_uppercase, IsOk, OnOk, is_err, is_ok, result_ok, str_to_ascii_uppercase, IsBytes, decode_sized, encode_upper, upper_digits, FromHexError, decode_of-even, decode_of-ok, decode_sized-ok, decode_sized-twice, length-encode_with, decode_sized-pairs, ArrayVec, array_vec_len, Reads, StandsFor, bytes}
use Rattle.std.specs.Prelude.{IfSome, ◌⊎◌, ◌↔◌, MatchResult, option_map}
use Rattle.hex.proofs.OnLiterals.{hex_on_literals}
use Rattle.osdp_words.proofs.HexDigits.{digits_from_pairs, pairs_from_digits}

-- one byte or more are written by their digits
pub stands_by_digits : (bs text : List ℕ) → 0 < length bs → str_to_ascii_uppercase text ≡ encode_upper bs → StandsFor (bytes bs) text
stands_by_digits [] text some e = absurd (omega arith)
stands_by_digits (b ∷ bs) text some e = e

pub digits_that_stand : (bs text : List ℕ) → 0 < length bs → StandsFor (bytes bs) text → str_to_ascii_uppercase text ≡ encode_upper bs
digits_that_stand [] text some e = absurd (omega arith)
digits_that_stand (b ∷ bs) text some e = e

pub length_of_digits : (bs text : List ℕ) → str_to_ascii_uppercase text ≡ encode_upper bs → length text ≡ 2 * length bs
length_of_digits bs text e = omega (arith, length-map text to_ascii_uppercase, length-encode_with upper_digits bs, ap length e)

-- what a text that decodes stands for
decoded : (text bs : List ℕ) (n : ℕ) → 0 < n → decode_sized text n ≡ Ok bs → StandsFor (bytes bs) text × (length bs ≡ n) × IsBytes bs
decoded text bs n some e =
    let len = decode_sized-ok text n bs e in
    let whole = sym (decode_sized-twice text n len) ∙ e in
    let parts = decode_of-ok text bs whole in
    let digits = digits_from_pairs 0 text bs (sym (decode_of-even text parts.0) ∙ whole) in
    (stands_by_digits bs text (omega (arith, parts.2)) digits, omega (arith, parts.2), parts.3)

value_decoded : (text : List ℕ) (n : ℕ) (r : Result (List ℕ) FromHexError) → 0 < n → decode_sized text n ≡ r
    → IfSome (result_ok r) (λ bs. StandsFor (bytes bs) text × ((length bs ≡ n) × IsBytes bs))
value_decoded text n (Ok bs) some e = let d = decoded text bs n some e in (d.0, (d.1, d.2))
value_decoded text n (Err e) some h = tt

-- the decoder, told the number of bytes, reads the list of as many bytes
pub sized_reads : (text : List ℕ) (n : ℕ) → 0 < n → Reads bytes (λ bs. (length bs ≡ n) × IsBytes bs) text (result_ok (decode_sized text n))
sized_reads text n some = record {
  value = value_decoded text n (decode_sized text n) some refl;
  only = λ bs allowed stands.
      let digits = digits_that_stand bs text (omega arith) stands in
      let len = length_of_digits bs text digits in
      ap result_ok (decode_sized-pairs text n (omega arith) (omega arith) ∙ pairs_from_digits 0 text bs allowed.1 digits);
}

-- ---- lists of bytes with room for a number of them

-- the bytes of a list that has room for `cap`
abbrev pub ReadsList : ℕ → List ℕ → Option (ArrayVec ℕ) → Type 0
ReadsList cap text r =
    Reads (λ list. bytes list.items) (λ list. (array_vec_len list ≤ cap) × IsBytes list.items) text r

-- `none` is no text of digits
pub no_digits : (bs : List ℕ) → 0 < length bs → IsBytes bs → StandsFor (bytes bs) (codes "none") → ⊥
unfolding hex_on_literals
no_digits bs some fits stands =
    let e = pairs_from_digits 0 (codes "none") bs fits (digits_that_stand bs (codes "none") some stands) in
    cc e

same_empty : (a b : ArrayVec ℕ) → a.items ≡ [] → b.items ≡ [] → a ≡ b
same_empty a b ea eb = ap (λ (xs : List ℕ). let v : ArrayVec ℕ = record { items = xs } in v) (ea ∙ sym eb)

pub none_reads : (cap : ℕ) (text : List ℕ) (list : ArrayVec ℕ) → text ≡ codes "none" → list.items ≡ [] → ReadsList cap text (Some list)
none_reads cap text list e empty = record {
  value = rw (empty, e) (refl, (omega arith, λ k. omega arith));
  only = λ other allowed stands.
      elim (cases_lt 0 (array_vec_len other)) [
        | inl some ↦ absurd (no_digits other.items some allowed.1 (rw e at stands))
        | inr none ↦ ap Some (same_empty list other empty (nil_from_length other.items (omega arith)))
      ];
}

-- how many bytes a text that is not `none` may stand for
counted : (bs text : List ℕ) → (text ≡ codes "none" → ⊥) → StandsFor (bytes bs) text → (length text ≡ 2 * length bs) × (0 < length bs)
counted [] text other e = absurd (other e)
counted (b ∷ bs) text other e = (length_of_digits (b ∷ bs) text e, omega arith)

pub no_room_reads : (cap : ℕ) (text : List ℕ) → (text ≡ codes "none" → ⊥) → (length text / 2 ≡ 0) ⊎ ((length text / 2 ≡ 0 → ⊥) × (cap < length text / 2)) → ReadsList cap text None
no_room_reads cap text other h = record {
  value = tt;
  only = λ list allowed stands.
      let n = counted list.items text other stands in
      absurd (elim h [ inl nothing ↦ omega arith | inr much ↦ omega (arith, much.1) ]);
}

-- what decoding into room for n bytes answered, and what it wrote
abbrev Decodes : List ℕ → ℕ → Result Unit FromHexError → List ℕ → Type 0
Decodes text n d out = MatchResult (decode_sized text n) (λ bs. (d ≡ Ok tt) × (out ≡ bs)) (λ e. d ≡ Err e)

of_decoded : (r : Result (List ℕ) FromHexError) (d : Result Unit FromHexError) (out : List ℕ)
    → MatchResult r (λ bs. (d ≡ Ok tt) × (out ≡ bs)) (λ e. d ≡ Err e) → result_ok r ≡ option_map (λ _. out) (result_ok d)
of_decoded (Ok bs) d out h = rw (h.0) (ap Some (sym h.1))
of_decoded (Err e) d out h = rw h refl

abbrev items_of : ArrayVec ℕ → List ℕ
items_of list = list.items

list_from_items : (r : Option (ArrayVec ℕ)) (list : ArrayVec ℕ) → option_map items_of r ≡ Some list.items → r ≡ Some list
list_from_items (Some found) list e =
    let same : found.items ≡ list.items = cc e in
    ap (λ (xs : List ℕ). let v : ArrayVec ℕ = record { items = xs } in Some v) same
list_from_items None list e = cc e

list_value : (cap : ℕ) (text : List ℕ) (n : ℕ) (r : Option (ArrayVec ℕ)) → n ≤ cap
    → IfSome (option_map items_of r) (λ bs. StandsFor (bytes bs) text × ((length bs ≡ n) × IsBytes bs))
    → IfSome r (λ list. StandsFor (bytes list.items) text × ((array_vec_len list ≤ cap) × IsBytes list.items))
list_value cap text n (Some list) room h = (h.0, (omega (arith, h.1.0), h.1.1))
list_value cap text n None room h = tt

-- the same with a list for its bytes
list_reads : (cap : ℕ) (text : List ℕ) (n : ℕ) (r : Option (ArrayVec ℕ)) → (text ≡ codes "none" → ⊥) → length text / 2 ≡ n → 0 < n → n ≤ cap
    → result_ok (decode_sized text n) ≡ option_map items_of r → ReadsList cap text r
list_reads cap text n r other count some room e =
    let sized = sized_reads text n some in
    let found : IfSome (option_map items_of r) (λ bs. StandsFor (bytes bs) text × ((length bs ≡ n) × IsBytes bs)) = rw e at sized.value in
    record {
      value = list_value cap text n r room found;
      only = λ list allowed stands.
          let len = counted list.items text other stands in
          list_from_items r list (sym e ∙ sized.only list.items (omega arith, allowed.1) stands);
    }

pub refused_reads : (cap : ℕ) (text : List ℕ) (n : ℕ) (d : Result Unit FromHexError) (out : List ℕ) → (text ≡ codes "none" → ⊥)
    → length text / 2 ≡ n → 0 < n → n ≤ cap → Decodes text n d out → result_ok d ≡ None → ReadsList cap text None
refused_reads cap text n d out other count some room h e =
    list_reads cap text n None other count some room (of_decoded (decode_sized text n) d out h ∙ ap (option_map (λ _. out)) e)

pub taken_reads : (cap : ℕ) (text : List ℕ) (n : ℕ) (d : Result Unit FromHexError) (out : List ℕ) (r : Option (ArrayVec ℕ)) → (text ≡ codes "none" → ⊥)
    → length text / 2 ≡ n → 0 < n → n ≤ cap → Decodes text n d out → result_ok d ≡ Some tt
    → option_map items_of r ≡ Some out → ReadsList cap text r
taken_reads cap text n d out r other count some room h e same =
    list_reads cap text n r other count some room (of_decoded (decode_sized text n) d out h ∙ ap (option_map (λ _. out)) e ∙ sym same)

-- what an emptied list holds after bytes that fit it were put into it
pub extended : {E : Type 0} (room : ℕ) (out : List ℕ) (t : Result Unit E) (before after : ArrayVec ℕ) (done : Bool) → before.items ≡ [] → length out ≤ room → done ≡ is_ok t
    → IsOk t ↔ (array_vec_len before + length out ≤ room) → OnOk t (after.items ≡ before.items ++ out) → option_map items_of (then_some done after) ≡ Some out
extended room out (Ok x) before after done empty fits is variant h = rw is (ap Some (h ∙ ap (λ (items : List ℕ). items ++ out) empty))
extended room out (Err e) before after done empty fits is variant h =
    let none : length before.items ≡ 0 = ap length empty in
    let ok = variant.1 (omega (arith, none, fits)) in
    cc ok

-- what a decoder answered
pub was_refused : (d : Result Unit FromHexError) → is_err d ≡ true → result_ok d ≡ None
was_refused (Ok x) e = cc e
was_refused (Err x) e = refl

pub was_decoded : (d : Result Unit FromHexError) → is_err d ≡ false → result_ok d ≡ Some tt
was_decoded (Ok x) e = refl
was_decoded (Err x) e = cc e
