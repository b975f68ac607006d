-- A loop that writes each element in place.
use Rattle.std.proofs.Common.{◌≡◌, ℕ, zero, suc, ◌+◌, List, [], ◌∷◌, ◌++◌, drop, map, take, get_or, set, add-one, ap, refl}

abbrev half_done : {A : Type 0} (f : A → A) → List A → ℕ → List A
half_done f xs i = map f (take i xs) ++ drop i xs

written_suc : {A : Type 0} (f : A → A) (xs : List A) (i : ℕ) (v d : A)
    → v ≡ f (get_or (half_done f xs i) i d) → set (half_done f xs i) i v ≡ half_done f xs (suc i)
written_suc f [] zero v d e = refl
written_suc f [] (suc i) v d e = refl
written_suc f (x ∷ xs) zero v d e = ap (λ y. y ∷ xs) e
written_suc f (x ∷ xs) (suc i) v d e = ap (λ ys. f x ∷ ys) (written_suc f xs i v d e)

-- the element at i is written, and all before it have been
pub written : {A : Type 0} (f : A → A) (xs ys : List A) (i : ℕ) (v d : A)
    → ys ≡ map f (take i xs) ++ drop i xs → v ≡ f (get_or ys i d) → set ys i v ≡ map f (take (i + 1) xs) ++ drop (i + 1) xs
written f xs ys i v d e w = rw (e, add-one) (written_suc f xs i v d (rw e at w))
