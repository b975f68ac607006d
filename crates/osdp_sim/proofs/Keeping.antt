-- Messages that are kept as a row of bytes.
use Rattle.std.proofs.Common.{◌≡◌, ◌+◌, ◌≤◌, ◌&&◌, ℕ, suc, Bool, true, false, leb, List, [], ◌∷◌, ◌++◌, length, take, drop, refl, ap, ◌∙◌, arith, length-append}
use Rattle.osdp_sim.proofs.Common.{zip, take-length, drop-append-le, length-drop, take-append-le, parts, total}
use Rattle.std.proofs.lemmas.Bool.{leb-true}

-- ---- one more

pub total_more : {S : Type 0} (size_of : S → ℕ) (places : List S) (place : S) → total size_of (places ++ place ∷ []) ≡ total size_of places + size_of place
total_more size_of [] place = omega arith
total_more size_of (first ∷ places) place = let rest = total_more size_of places place in omega arith

pub parts_more : {S T : Type 0} (size_of : S → ℕ) (part_of : S → List ℕ → T) (places : List S) (row : List ℕ) (place : S) (own : List ℕ)
    → total size_of places ≡ length row → size_of place ≡ length own
    → parts size_of part_of (places ++ place ∷ []) (row ++ own) ≡ parts size_of part_of places row ++ part_of place own ∷ []
parts_more size_of part_of [] [] place own whole is = rw is (ap (λ (bytes : List ℕ). part_of place bytes ∷ []) (take-length own))
parts_more size_of part_of [] (b ∷ row) place own whole is = absurd (omega (arith, whole))
parts_more size_of part_of (first ∷ places) row place own whole is =
    let n = size_of first in
    let room : n ≤ length row = omega (arith, whole) in
    let left = length-drop n row in
    let rest = parts_more size_of part_of places (drop n row) place own (omega (arith, whole, left)) is in
    ap (λ (bytes : List ℕ). part_of first bytes ∷ parts size_of part_of (places ++ place ∷ []) (drop n (row ++ own))) (take-append-le n row own room)
    ∙ ap (λ (bytes : List ℕ). part_of first (take n row) ∷ parts size_of part_of (places ++ place ∷ []) bytes) (drop-append-le n row own room)
    ∙ ap (λ others. part_of first (take n row) ∷ others) rest

-- so a place and its own bytes that are added, each after the others of its list, are one part more, and the bytes still as many as all have
pub one_more : {S T : Type 0} (size_of : S → ℕ) (part_of : S → List ℕ → T) (places : List S) (row : List ℕ) (place : S) (own : List ℕ) (more : List S) (bytes : List ℕ)
    → total size_of places ≡ length row → size_of place ≡ length own → more ≡ places ++ place ∷ [] → bytes ≡ row ++ own
    → (total size_of more ≡ length bytes) × (parts size_of part_of more bytes ≡ parts size_of part_of places row ++ part_of place own ∷ [])
one_more size_of part_of places row place own more bytes whole is added told =
    rw (added, told) (omega (arith, total_more size_of places place, length-append row own, whole, is), parts_more size_of part_of places row place own whole is)

-- .. and as many as there are places
pub parts_length : {S T : Type 0} (size_of : S → ℕ) (part_of : S → List ℕ → T) (places : List S) (row : List ℕ)
    → length (parts size_of part_of places row) ≡ length places
parts_length size_of part_of [] row = refl
parts_length size_of part_of (place ∷ places) row = ap (λ n. suc n) (parts_length size_of part_of places (drop (size_of place) row))

-- ---- places

pub each_placed : (a b : Bool) → (a && b) ≡ true → (a ≡ true) × (b ≡ true)
each_placed true b e = (refl, e)
each_placed false b e = absurd cc

pub placed : (a b c d : ℕ) → (leb a b && leb c d) ≡ true → (a ≤ b) × (c ≤ d)
placed a b c d e = let p = each_placed (leb a b) (leb c d) e in (leb-true a b p.0, leb-true c d p.1)

-- ---- two lists side by side

pub zip_more : {A B : Type 0} (xs : List A) (ys : List B) (x : A) (y : B) → length xs ≡ length ys → zip (xs ++ x ∷ []) (ys ++ y ∷ []) ≡ zip xs ys ++ (x, y) ∷ []
zip_more [] [] x y same = refl
zip_more [] (b ∷ ys) x y same = absurd (omega (arith, same))
zip_more (a ∷ xs) [] x y same = absurd (omega (arith, same))
zip_more (a ∷ xs) (b ∷ ys) x y same = ap (λ rest. (a, b) ∷ rest) (zip_more xs ys x y (omega (arith, same)))

-- so one more at the end of each is one pair more, and they are as long as each other still
pub both_more : {A B : Type 0} (xs : List A) (ys : List B) (x : A) (y : B) (more : List A) (others : List B) → length xs ≡ length ys → more ≡ xs ++ x ∷ [] → others ≡ ys ++ y ∷ []
    → (length more ≡ length others) × (zip more others ≡ zip xs ys ++ (x, y) ∷ [])
both_more xs ys x y more others same first second =
    rw (first, second) (omega (arith, length-append xs (x ∷ []), length-append ys (y ∷ []), same), zip_more xs ys x y same)

pub zip_length : {A B : Type 0} (xs : List A) (ys : List B) → length xs ≡ length ys → length (zip xs ys) ≡ length xs
zip_length [] ys same = refl
zip_length (a ∷ xs) [] same = absurd (omega (arith, same))
zip_length (a ∷ xs) (b ∷ ys) same = ap (λ n. suc n) (zip_length xs ys (omega (arith, same)))
