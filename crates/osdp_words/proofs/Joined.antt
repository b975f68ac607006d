-- What is joined by a byte that its pieces lack splits into them again.
use Rattle.osdp_words.proofs.Common.{◌≡◌, ℕ, false, List, [], ◌∷◌, ◌++◌, get_or, eq-eqb, eqb, map, refl, sym, ap, ◌∙◌, ne_eqb, append-nil, All-from_get_or, join_with_byte-slice_split, slice_split_at, slice_split_none, All, AllByRecursion, join_by, join_with_byte, slice_split, LacksByte}

-- the pieces between the bytes c
abbrev pub pieces : ℕ → List ℕ → List (List ℕ)
pieces c text = slice_split (λ b. eqb b c) text

-- a list without c passes no test for it
none_passes : (c : ℕ) (bs : List ℕ) → LacksByte c bs → All (λ b. eqb b c ≡ false) bs
none_passes c bs h = All-from_get_or (λ b. eqb b c ≡ false) bs 0 (λ i lt. ne_eqb (get_or bs i 0) c (h i lt))

-- pieces without c, joined by it, are parted at it
pub pieces-join_by : {X : Type 0} (f : X → List ℕ) (c : ℕ) (x : X) (xs : List X) → AllByRecursion (λ y. LacksByte c (f y)) (x ∷ xs)
    → pieces c (join_by f (c ∷ []) (x ∷ xs)) ≡ map f (x ∷ xs)
pieces-join_by f c x [] h =
    rw append-nil (slice_split_none (λ b. eqb b c) (f x) (none_passes c (f x) h.0))
pieces-join_by f c x (y ∷ ys) h =
    slice_split_at (λ b. eqb b c) (f x) c (join_by f (c ∷ []) (y ∷ ys)) (none_passes c (f x) h.0) (eq-eqb c c refl)
    ∙ ap (λ (rest : List (List ℕ)). f x ∷ rest) (pieces-join_by f c y ys h.1)

pub join_by-is : {X : Type 0} (f : X → List ℕ) (c : ℕ) (xs : List X) → join_by f (c ∷ []) xs ≡ join_with_byte c (map f xs)
join_by-is f c [] = refl
join_by-is f c (x ∷ []) = append-nil (f x)
join_by-is f c (x ∷ y ∷ ys) = ap (λ (rest : List ℕ). f x ++ (c ∷ rest)) (join_by-is f c (y ∷ ys))

-- a text is its pieces, joined
pub from_pieces : {X : Type 0} (f : X → List ℕ) (c : ℕ) (text : List ℕ) (xs : List X) → pieces c text ≡ map f xs → text ≡ join_by f (c ∷ []) xs
from_pieces f c text xs e = sym (join_with_byte-slice_split c text) ∙ ap (join_with_byte c) e ∙ sym (join_by-is f c xs)
