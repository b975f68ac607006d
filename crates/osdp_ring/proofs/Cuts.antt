-- Rows that are cut into strings.
use Rattle.osdp_ring.proofs.Common.{◌≡◌, ◌+◌, ◌-◌, ◌<◌, ◌≤◌, ◌&&◌, Bool, true, false, ltb, leb, ℕ, zero, suc, List, [], ◌∷◌, ◌++◌, length, take, drop, Some, None, refl, sym, ap, ◌∙◌, arith, drop-append-le, drop-take, drop_at, length-drop, length-take, take-append-le, slice_get, leb-true, ltb-true, begins, cut, has_first, sum_of, total}
use Rattle.std.proofs.Math.Seq.{take-length}

zero-add : (k : ℕ) → 0 + k ≡ k
zero-add k = omega arith

pub sum_more : (sizes : List ℕ) (size : ℕ) → sum_of (sizes ++ size ∷ []) ≡ sum_of sizes + size
sum_more [] size = omega arith
sum_more (first ∷ sizes) size = let rest = sum_more sizes size in omega arith

-- one more string at the end
pub cut_more : (sizes row own : List ℕ) → sum_of sizes ≡ length row → cut (sizes ++ length own ∷ []) (row ++ own) ≡ cut sizes row ++ own ∷ []
cut_more [] [] own whole = ap (λ (s : List ℕ). s ∷ []) (take-length own)
cut_more [] (b ∷ row) own whole = absurd (omega (arith, whole))
cut_more (n ∷ sizes) row own whole =
    let room : n ≤ length row = omega (arith, whole) in
    let left = length-drop n row in
    ap (λ (s : List ℕ). s ∷ cut (sizes ++ length own ∷ []) (drop n (row ++ own))) (take-append-le n row own room)
    ∙ ap (λ (rest : List ℕ). take n row ∷ cut (sizes ++ length own ∷ []) rest) (drop-append-le n row own room)
    ∙ ap (λ (ss : List (List ℕ)). take n row ∷ ss) (cut_more sizes (drop n row) own (omega (arith, whole, left)))

pub cut_length : (sizes row : List ℕ) → length (cut sizes row) ≡ length sizes
cut_length [] row = refl
cut_length (n ∷ sizes) row = ap (λ k. suc k) (cut_length sizes (drop n row))

pub cut_total : (sizes row : List ℕ) → sum_of sizes ≡ length row → total (cut sizes row) ≡ length row
cut_total [] row whole = whole
cut_total (n ∷ sizes) row whole =
    let left = length-drop n row in
    let rest = cut_total sizes (drop n row) (omega (arith, whole, left)) in
    omega (arith, rest, length-take n row, left, whole)

-- the first string
pub first_none : (sizes row : List ℕ) → slice_get sizes 0 ≡ None → slice_get (cut sizes row) 0 ≡ None
first_none [] row e = refl
first_none (n ∷ sizes) row e = cc

pub first_cut : (sizes row : List ℕ) (n : ℕ) → slice_get sizes 0 ≡ Some n → slice_get (cut sizes row) 0 ≡ Some (take n row)
first_cut [] row n e = cc
first_cut (m ∷ sizes) row n e = let same : m ≡ n = cc in ap (λ (k : ℕ). Some (take k row)) same

pub first_within : (sizes row : List ℕ) (n : ℕ) → slice_get sizes 0 ≡ Some n → sum_of sizes ≡ length row → n ≤ length row
first_within [] row n e whole = cc
first_within (m ∷ sizes) row n e whole = let same : m ≡ n = cc in omega (arith, same, whole)

-- the strings after the first
pub none_after : (sizes row : List ℕ) → slice_get sizes 0 ≡ None → drop 1 (cut sizes row) ≡ []
none_after [] row e = refl
none_after (n ∷ sizes) row e = cc

pub rest_cut : (sizes row : List ℕ) (n : ℕ) → slice_get sizes 0 ≡ Some n → drop 1 (cut sizes row) ≡ cut (drop 1 sizes) (drop n row)
rest_cut [] row n e = cc
rest_cut (m ∷ sizes) row n e = let same : m ≡ n = cc in ap (λ (k : ℕ). cut sizes (drop k row)) same

-- what fits, by the sizes and the row
pub room_of : (sizes row : List ℕ) (gone : ℕ) → gone ≤ length row → sum_of sizes ≡ length row - gone → total (cut sizes (drop gone row)) ≡ length row - gone
room_of sizes row gone within whole =
    let left = length-drop gone row in
    cut_total sizes (drop gone row) (omega (arith, whole, left)) ∙ left

both_true : (a b : Bool) → (a && b) ≡ true → (a ≡ true) × (b ≡ true)
both_true true b e = (refl, e)
both_true false b e = absurd cc

-- a string that fits has a place, and its bytes stay in the room
pub fitting : (size count capacity room used : ℕ) → (ltb count capacity && leb size (room - used)) ≡ true → (count < capacity) × (size ≤ room - used)
fitting size count capacity room used e =
    let both = both_true (ltb count capacity) (leb size (room - used)) e in
    (ltb-true count capacity both.0, leb-true size (room - used) both.1)

-- the second string
pub none_second : (sizes row : List ℕ) → slice_get sizes 0 ≡ None → slice_get (cut sizes row) 1 ≡ None
none_second [] row e = refl
none_second (n ∷ sizes) row e = cc

pub second_none : (sizes row : List ℕ) → slice_get sizes 1 ≡ None → slice_get (cut sizes row) 1 ≡ None
second_none [] row e = refl
second_none (n ∷ []) row e = refl
second_none (n ∷ m ∷ sizes) row e = cc

pub second_cut : (sizes row : List ℕ) (n m : ℕ) → slice_get sizes 0 ≡ Some n → slice_get sizes 1 ≡ Some m → slice_get (cut sizes row) 1 ≡ Some (take m (drop n row))
second_cut [] row n m e f = cc
second_cut (k ∷ []) row n m e f = cc
second_cut (k ∷ l ∷ sizes) row n m e f =
    let one : k ≡ n = cc in
    let two : l ≡ m = cc in
    ap (λ (j : ℕ). Some (take j (drop k row))) two ∙ ap (λ (j : ℕ). Some (take m (drop j row))) one

pub second_within : (sizes row : List ℕ) (n m : ℕ) → slice_get sizes 0 ≡ Some n → slice_get sizes 1 ≡ Some m → sum_of sizes ≡ length row → n + m ≤ length row
second_within [] row n m e f whole = cc
second_within (k ∷ []) row n m e f whole = cc
second_within (k ∷ l ∷ sizes) row n m e f whole =
    let one : k ≡ n = cc in
    let two : l ≡ m = cc in
    omega (arith, one, two, whole)

pub short_same : (ss : List (List ℕ)) → length ss < 2 → take 1 ss ++ drop 2 ss ≡ ss
short_same [] short = refl
short_same (s ∷ []) short = refl
short_same (s ∷ t ∷ ss) short = absurd (omega (arith, short))

drop_nothing : (n : ℕ) → drop {A = ℕ} n [] ≡ []
drop_nothing zero = refl
drop_nothing (suc n) = refl

drop_again : (m n : ℕ) (row : List ℕ) → drop n (drop m row) ≡ drop (m + n) row
drop_again zero n row = ap (λ (k : ℕ). drop k row) (sym (zero-add n))
drop_again (suc m) n [] = drop_nothing n ∙ sym (drop_nothing (suc m + n))
drop_again (suc m) n (b ∷ row) =
    let next : suc (m + n) ≡ suc m + n = omega arith in
    drop_again m n row ∙ ap (λ (k : ℕ). drop k (b ∷ row)) next

-- a row without the second of its strings
pub cut_out_second : (sizes row : List ℕ) (n m : ℕ) → n ≤ length row → cut (n ∷ sizes) (take n row ++ drop (n + m) row) ≡ take n row ∷ cut sizes (drop m (drop n row))
cut_out_second sizes row n m le =
    let len : length (take n row) ≡ n = omega (arith, length-take n row, le) in
    let front : take n (take n row ++ drop (n + m) row) ≡ take n row =
    take-append-le n (take n row) (drop (n + m) row) (omega (arith, len)) ∙ ap (λ (k : ℕ). take k (take n row)) (sym len) ∙ take-length (take n row) in
    let back : drop n (take n row ++ drop (n + m) row) ≡ drop m (drop n row) = drop_at (take n row) (drop (n + m) row) n len ∙ sym (drop_again n m row) in
    ap (λ (s : List ℕ). s ∷ cut sizes (drop n (take n row ++ drop (n + m) row))) front ∙ ap (λ (rest : List ℕ). take n row ∷ cut sizes rest) back

pub without_second : (sizes row : List ℕ) (n m : ℕ) → slice_get sizes 0 ≡ Some n → slice_get (drop 1 sizes) 0 ≡ Some m → sum_of sizes ≡ length row
    → cut (n ∷ drop 1 (drop 1 sizes)) (take n row ++ drop (n + m) row) ≡ take 1 (cut sizes row) ++ drop 2 (cut sizes row)
without_second [] row n m e f whole = cc
without_second (k ∷ []) row n m e f whole = cc
without_second (k ∷ l ∷ sizes) row n m e f whole = by_sizes
  where
    one : k ≡ n
    one = cc

    two : l ≡ m
    two = cc

    by_sizes : cut (n ∷ sizes) (take n row ++ drop (n + m) row) ≡ take k row ∷ cut sizes (drop l (drop k row))
    by_sizes = rw (← one, ← two) (cut_out_second sizes row k l (omega (arith, whole)))

pub two_within : (sizes row : List ℕ) (n m : ℕ) → slice_get sizes 0 ≡ Some n → slice_get (drop 1 sizes) 0 ≡ Some m → sum_of sizes ≡ length row → n + m ≤ length row
two_within [] row n m e f whole = cc
two_within (k ∷ []) row n m e f whole = cc
two_within (k ∷ l ∷ sizes) row n m e f whole =
    let one : k ≡ n = cc in
    let two : l ≡ m = cc in
    omega (arith, one, two, whole)

-- the same of a row in which some bytes are gone
pub drop_without : (row : List ℕ) (gone n m : ℕ) → gone + n ≤ length row
    → drop gone (take (gone + n) row ++ drop (gone + n + m) row) ≡ take n (drop gone row) ++ drop (n + m) (drop gone row)
drop_without row gone n m le =
    let len = length-take (gone + n) row in
    let same : gone + n + m ≡ gone + (n + m) = omega arith in
    drop-append-le gone (take (gone + n) row) (drop (gone + n + m) row) (omega (arith, len, le))
    ∙ ap (λ (s : List ℕ). s ++ drop (gone + n + m) row) (drop-take gone n row)
    ∙ ap (λ (k : ℕ). take n (drop gone row) ++ drop k row) same
    ∙ ap (λ (s : List ℕ). take n (drop gone row) ++ s) (sym (drop_again gone (n + m) row))

-- the strings from a place on
drop_some : (sizes : List ℕ) (k n : ℕ) → slice_get sizes k ≡ Some n → drop k sizes ≡ n ∷ drop (k + 1) sizes
drop_some [] zero n e = cc
drop_some [] (suc k) n e = cc
drop_some (m ∷ sizes) zero n e = let same : m ≡ n = cc in ap (λ (j : ℕ). j ∷ sizes) same
drop_some (m ∷ sizes) (suc k) n e =
    let next : suc (k + 1) ≡ suc k + 1 = omega arith in
    drop_some sizes k n e ∙ ap (λ (j : ℕ). n ∷ drop j (m ∷ sizes)) next

drop_none : (sizes : List ℕ) (k : ℕ) → slice_get sizes k ≡ None → drop k sizes ≡ []
drop_none [] zero e = refl
drop_none [] (suc k) e = refl
drop_none (m ∷ sizes) zero e = cc
drop_none (m ∷ sizes) (suc k) e = drop_none sizes k e

pub size_within : (sizes left : List ℕ) (k n : ℕ) → slice_get sizes k ≡ Some n → sum_of (drop k sizes) ≡ length left → n ≤ length left
size_within sizes left k n e whole =
    let more : sum_of (drop k sizes) ≡ n + sum_of (drop (k + 1) sizes) = ap sum_of (drop_some sizes k n e) in
    omega (arith, more, whole)

pub sizes_left : (sizes left : List ℕ) (k n : ℕ) → slice_get sizes k ≡ Some n → sum_of (drop k sizes) ≡ length left → sum_of (drop (k + 1) sizes) ≡ length (drop n left)
sizes_left sizes left k n e whole =
    let more : sum_of (drop k sizes) ≡ n + sum_of (drop (k + 1) sizes) = ap sum_of (drop_some sizes k n e) in
    omega (arith, more, whole, length-drop n left)

pub one_begins : (byte : ℕ) (sizes left : List ℕ) (k n : ℕ) → slice_get sizes k ≡ Some n → begins byte (take n left) ≡ true → has_first byte (cut (drop k sizes) left) ≡ true
one_begins byte sizes left k n e h = rw (drop_some sizes k n e, h) refl

pub one_does_not : (byte : ℕ) (sizes left : List ℕ) (k n : ℕ) → slice_get sizes k ≡ Some n → begins byte (take n left) ≡ false
    → has_first byte (cut (drop k sizes) left) ≡ has_first byte (cut (drop (k + 1) sizes) (drop n left))
one_does_not byte sizes left k n e h = rw (drop_some sizes k n e, h) refl

pub none_begins : (byte : ℕ) (sizes left : List ℕ) (k : ℕ) → slice_get sizes k ≡ None → has_first byte (cut (drop k sizes) left) ≡ false
none_begins byte sizes left k e = rw (drop_none sizes k e) refl
