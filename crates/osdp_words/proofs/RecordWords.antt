-- Record words: the numbers read so far, next to the pieces between the colons.
use Rattle.osdp_words.proofs.Common.{◌≡◌, ℕ, suc, ◌+◌, ◌<◌, ◌≤◌, ◌^◌, ◌⊎◌, inl, inr, List, [], ◌∷◌, length, get_or, eqb, eq-eqb, true, false, set, map, Some, None, refl, sym, ap, ◌∙◌, arith, below_more, ◌≢◌, cases_eq, ne_eqb, decimal_injective, digits_decimal, get_or-map, get_or-set_other, get_or-set_same, get_or_read, length-map, length-set, AllZip-get_or, length_all_zip, IsNumeralModel, not_in_digits, numerals_by_value, tells_digits, then_some, decimal, AllByRecursion, LacksByte, AllDigits, digits_value, Reads, AreWithin, StandsFor, number, numbers}
use Rattle.osdp_words.proofs.Joined.{from_pieces, pieces, pieces-join_by}

-- the numbers of the first pieces
pub record HasRead (parts : List (List ℕ)) (limits found : List ℕ) (count n : ℕ) : Type 0 where
  pub room : count ≤ n
  pub len : length found ≡ n
  pub same : (k : ℕ) → k < count → get_or parts k [] ≡ decimal (get_or found k 0)
  pub within : (k : ℕ) → k < count → get_or found k 0 ≤ get_or limits k 0

own : IsNumeralModel (AllDigits 10) (digits_value 10)
own = numerals_by_value (AllDigits 10) tells_digits

pub decimal_lacks : (c n : ℕ) → (c < 48) ⊎ (57 < c) → n < 2 ^ 64 → LacksByte c (decimal n)
decimal_lacks c n h small = λ i lt. not_in_digits own (decimal n) c (digits_decimal own n small) (λ range. omega arith) i lt

-- ---- records and their pieces

-- each limit below 2 ^ 16
abbrev pub AreSmall : List ℕ → Type 0
AreSmall limits = (k : ℕ) → get_or limits k 0 < 2 ^ 16

decimals_lack_colons : (limits ns : List ℕ) → AreSmall limits → AreWithin limits ns → AllByRecursion (λ n. LacksByte 58 (decimal n)) ns
decimals_lack_colons [] [] small h = tt
decimals_lack_colons (limit ∷ limits) [] small h = tt
decimals_lack_colons [] (n ∷ ns) small h = absurd h
decimals_lack_colons (limit ∷ limits) (n ∷ ns) small h =
    let low = small 0 in
    (decimal_lacks 58 n (inr (omega arith)) (omega arith), decimals_lack_colons limits ns (λ k. small (suc k)) h.1)

no_limits : (limits : List ℕ) → 0 < length limits → AreWithin limits [] → ⊥
no_limits [] some h = omega arith
no_limits (limit ∷ limits) some h = h

pub parts_of_record : (text limits ns : List ℕ) → AreSmall limits → AreWithin limits ns → 0 < length limits → StandsFor (numbers ns) text → pieces 58 text ≡ map decimal ns
parts_of_record text limits [] small within some e = absurd (no_limits limits some within)
parts_of_record text limits (n ∷ ns) small within some e =
    rw e (pieces-join_by decimal 58 n ns (decimals_lack_colons limits (n ∷ ns) small within))

-- what stands at each place
part_at : (parts : List (List ℕ)) (limits ns : List ℕ) (i : ℕ) → AreWithin limits ns → parts ≡ map decimal ns → i < length limits
    → (get_or parts i [] ≡ decimal (get_or ns i 0)) × (get_or ns i 0 ≤ get_or limits i 0)
part_at parts limits ns i within e lt =
    let len = length_all_zip (λ n limit. n ≤ limit) ns limits within in
    let lt' : i < length ns = omega arith in
    (rw e (get_or-map decimal ns i 0 [] lt'), AllZip-get_or (λ n limit. n ≤ limit) ns limits i 0 0 within lt')

-- as many pieces as limits
parts_count : (parts : List (List ℕ)) (limits ns : List ℕ) → AreWithin limits ns → parts ≡ map decimal ns → length parts ≡ length limits
parts_count parts limits ns within e = ap length e ∙ length-map ns decimal ∙ length_all_zip (λ n limit. n ≤ limit) ns limits within

-- ---- what the loop shows

-- a text whose pieces are no such numbers
none_record : (text limits : List ℕ) → AreSmall limits → 0 < length limits
    → ((ns : List ℕ) → AreWithin limits ns → pieces 58 text ≡ map decimal ns → ⊥) → Reads numbers (AreWithin limits) text None
none_record text limits small some none = record {
  value = tt;
  only = λ ns within stands. absurd (none ns within (parts_of_record text limits ns small within some stands));
}

-- too few pieces or too many
pub count_differs : (text limits : List ℕ) → AreSmall limits → 0 < length limits → (length (pieces 58 text) ≡ length limits → ⊥)
    → Reads numbers (AreWithin limits) text None
count_differs text limits small some other =
    none_record text limits small some (λ ns within e. other (parts_count (pieces 58 text) limits ns within e))

-- a piece that is no number within 16 bits
pub part_unread : (text limits part : List ℕ) (i : ℕ) → AreSmall limits → i < length limits → part ≡ get_or (pieces 58 text) i part → i < length (pieces 58 text)
    → Reads number (λ n. n < 2 ^ 16) part None → Reads numbers (AreWithin limits) text None
part_unread text limits part i small lt at within unread =
    none_record text limits small (omega arith) (λ ns below e.
    let here = part_at (pieces 58 text) limits ns i below e lt in
    let low = small i in
    let same : part ≡ decimal (get_or ns i 0) = get_or_read (pieces 58 text) i part within at [] ∙ here.0 in
    cc (unread.only (get_or ns i 0) (omega (arith, here.1)) same))

-- a piece that is a number past its limit
pub part_past : (text limits part : List ℕ) (i v : ℕ) → AreSmall limits → i < length limits → part ≡ get_or (pieces 58 text) i part → i < length (pieces 58 text)
    → Reads number (λ n. n < 2 ^ 16) part (Some v) → get_or limits i 0 < v → Reads numbers (AreWithin limits) text None
part_past text limits part i v small lt at within read past =
    none_record text limits small (omega arith) (λ ns below e.
    let here = part_at (pieces 58 text) limits ns i below e lt in
    let low = small i in
    let same : decimal v ≡ decimal (get_or ns i 0) = sym read.value.0 ∙ get_or_read (pieces 58 text) i part within at [] ∙ here.0 in
    let one = decimal_injective v (get_or ns i 0) (omega (arith, read.value.1)) (omega (arith, here.1)) same in
    omega (arith, here.1))

-- one more number
pub reads_more : (text limits found part : List ℕ) (i n v : ℕ) → HasRead (pieces 58 text) limits found i n → i < n → part ≡ get_or (pieces 58 text) i part → i < length (pieces 58 text)
    → Reads number (λ m. m < 2 ^ 16) part (Some v) → v ≤ get_or limits i 0 → HasRead (pieces 58 text) limits (set found i v) (i + 1) n
reads_more text limits found part i n v so_far lt at within read low =
    let room : i < length found = omega arith in
    let here : get_or (pieces 58 text) i [] ≡ decimal v = sym (get_or_read (pieces 58 text) i part within at []) ∙ read.value.0 in
    record {
      room = omega arith;
      len = length-set found i v ∙ so_far.len;
      same = below_more _ _
          (λ k h. let other : k ≢ i = omega arith in rw get_or-set_other (so_far.same k h))
          (rw get_or-set_same here);
      within = below_more _ _
          (λ k h. let other : k ≢ i = omega arith in rw get_or-set_other (so_far.within k h))
          (rw get_or-set_same low);
    }

same_parts : (parts : List (List ℕ)) (found : List ℕ) → length parts ≡ length found
    → ((k : ℕ) → k < length found → get_or parts k [] ≡ decimal (get_or found k 0)) → parts ≡ map decimal found
same_parts [] [] len same = refl
same_parts [] (n ∷ found) len same = absurd (omega arith)
same_parts (part ∷ parts) [] len same = absurd (omega arith)
same_parts (part ∷ parts) (n ∷ found) len same =
    let first = same 0 (omega arith) in
    let rest = same_parts parts found (omega arith) (λ k h. same (suc k) (omega arith)) in
    cc

are_within : (limits found : List ℕ) → length limits ≡ length found
    → ((k : ℕ) → k < length found → get_or found k 0 ≤ get_or limits k 0) → AreWithin limits found
are_within [] [] len low = tt
are_within [] (n ∷ found) len low = absurd (omega arith)
are_within (limit ∷ limits) [] len low = absurd (omega arith)
are_within (limit ∷ limits) (n ∷ found) len low =
    (low 0 (omega arith), are_within limits found (omega arith) (λ k h. low (suc k) (omega arith)))

same_numbers : (limits found ns : List ℕ) → AreSmall limits → AreWithin limits found → AreWithin limits ns → map decimal found ≡ map decimal ns → found ≡ ns
same_numbers limits [] [] small a b e = refl
same_numbers limits [] (n ∷ ns) small a b e = cc e
same_numbers limits (m ∷ found) [] small a b e = cc e
same_numbers [] (m ∷ found) (n ∷ ns) small a b e = absurd a
same_numbers (limit ∷ limits) (m ∷ found) (n ∷ ns) small a b e =
    let low = small 0 in
    let text : decimal m ≡ decimal n = cc e in
    let first = decimal_injective m n (omega (arith, a.0)) (omega (arith, b.0)) text in
    let rest = same_numbers limits found ns (λ k. small (suc k)) a.1 b.1 (cc e) in
    cc

-- all of them
pub all_read : (text limits found : List ℕ) (n : ℕ) → AreSmall limits → length limits ≡ n → 0 < n → length (pieces 58 text) ≡ n → HasRead (pieces 58 text) limits found n n
    → Reads numbers (AreWithin limits) text (Some found)
all_read text limits found n small len some parts so_far =
    let same = same_parts (pieces 58 text) found (omega arith) (λ k h. so_far.same k (omega arith)) in
    let within = are_within limits found (omega arith) (λ k h. so_far.within k (omega arith)) in
    record {
      value = (from_pieces decimal 58 text found same, within);
      only = λ ns below stands.
          ap Some (same_numbers limits found ns small within below (sym same ∙ parts_of_record text limits ns small below (omega arith) stands));
    }

-- the loop's end
pub record_done : (text limits found : List ℕ) (count n : ℕ) → AreSmall limits → length limits ≡ n → 0 < n → HasRead (pieces 58 text) limits found count n
    → count ≡ length (pieces 58 text) → Reads numbers (AreWithin limits) text (then_some (eqb count n) found)
record_done text limits found count n small len some so_far all =
    elim (cases_eq count n) [
      | inl full ↦
          let test : eqb count n ≡ true = eq-eqb count n full in
          rw test (all_read text limits found n small len some (omega arith) (rw full at so_far))
      | inr short ↦
          let test : eqb count n ≡ false = ne_eqb count n short in
          rw test (count_differs text limits small (omega arith) (λ e. short (omega arith)))
    ]

-- ---- for callers: the numbers of a record, each by its place
