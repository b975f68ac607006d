-- One place of a list, where another item takes the place of one.
use Rattle.osdp_sim_bus_laws.proofs.Common.{◌≡◌, ◌<◌, ℕ, zero, suc, List, [], ◌∷◌, length, map, Option, Some, None, refl, sym, subst, ap, ◌∙◌, arith, slice_get-map, option_map, slice_get, slice_set, option_map_or}

pub get_set : {A : Type 0} (k : ℕ) (x y : A) (xs : List A) → slice_get xs k ≡ Some x → slice_get (slice_set xs k y) k ≡ Some y
get_set k x y [] at = absurd cc
get_set zero x y (z ∷ xs) at = refl
get_set (suc k) x y (z ∷ xs) at = get_set k x y xs at

get_other : {A : Type 0} (k i : ℕ) (y : A) (xs : List A) → (k ≡ i → ⊥) → slice_get (slice_set xs i y) k ≡ slice_get xs k
get_other k i y [] other = refl
get_other zero zero y (z ∷ xs) other = absurd (other refl)
get_other zero (suc i) y (z ∷ xs) other = refl
get_other (suc k) zero y (z ∷ xs) other = refl
get_other (suc k) (suc i) y (z ∷ xs) other = get_other k i y xs (λ e. other (ap suc e))

pub within : {A : Type 0} (k : ℕ) (x : A) (xs : List A) → slice_get xs k ≡ Some x → k < length xs
within k x [] at = absurd cc
within zero x (z ∷ xs) at = omega arith
within (suc k) x (z ∷ xs) at = omega (arith, within k x xs at)

-- what an item was made from
pub unmapped : {A B : Type 0} (f : A → B) (k : ℕ) (b : B) (xs : List A) → slice_get (map f xs) k ≡ Some b → (a : A) × (slice_get xs k ≡ Some a) × (f a ≡ b)
unmapped f k b [] at = absurd cc
unmapped f zero b (x ∷ xs) at = (x, refl, (let same : f x ≡ b = cc in same))
unmapped f (suc k) b (x ∷ xs) at = unmapped f k b xs at

-- an item is changed, where it is there
abbrev pub changed_at : {A : Type 0} → ℕ → (A → A) → List A → List A
changed_at i change xs = option_map_or (λ x. slice_set xs i (change x)) (slice_get xs i) xs

pub get_changed : {A : Type 0} (k : ℕ) (change : A → A) (x : A) (xs : List A) → slice_get xs k ≡ Some x
    → slice_get (changed_at k change xs) k ≡ Some (change x)
get_changed k change x xs at =
    ap (λ o. slice_get (option_map_or (λ y. slice_set xs k (change y)) o xs) k) at ∙ get_set k x (change x) xs at

-- the item at this place is followed by one to which it is related
abbrev pub StaysAt : {A : Type 0} → (A → A → Type 0) → ℕ → List A → List A → Type 0
StaysAt {A} R k xs ys = (x : A) → slice_get xs k ≡ Some x → (y : A) × (slice_get ys k ≡ Some y) × R x y

module _ {A : Type 0} (R : A → A → Type 0) (same : (x : A) → R x x) where
  pub stays_all : (k : ℕ) (xs : List A) → StaysAt R k xs xs
  stays_all k xs x at = (x, at, same x)

  pub stays_set : (k i : ℕ) (x y : A) (xs : List A) → slice_get xs i ≡ Some x → R x y → StaysAt R k xs (slice_set xs i y)
  stays_set k i x y [] at is z there = absurd cc
  stays_set zero zero x y (v ∷ xs) at is z there =
      let alike : z ≡ x = cc in (y, refl, subst (λ w. R w y) (sym alike) is)
  stays_set (suc k) zero x y (v ∷ xs) at is z there = (z, there, same z)
  stays_set zero (suc i) x y (v ∷ xs) at is z there = (z, there, same z)
  stays_set (suc k) (suc i) x y (v ∷ xs) at is z there = stays_set k i x y xs at is z there

  pub stays_changed : (k i : ℕ) (change : A → A) (xs : List A) → ((x : A) → R x (change x)) → StaysAt R k xs (changed_at i change xs)
  stays_changed k i change xs is = by_found (slice_get xs i) refl
    where
      by_found : (o : Option A) → slice_get xs i ≡ o → StaysAt R k xs (option_map_or (λ x. slice_set xs i (change x)) o xs)
      by_found None at = stays_all k xs
      by_found (Some x) at = stays_set k i x (change x) xs at (is x)

  pub set_other : (k i : ℕ) (y : A) (xs : List A) → (k ≡ i → ⊥) → StaysAt R k xs (slice_set xs i y)
  set_other k i y xs other z there = (z, get_other k i y xs other ∙ there, same z)

  pub other_changed : (k i : ℕ) (change : A → A) (xs : List A) → (k ≡ i → ⊥) → StaysAt R k xs (changed_at i change xs)
  other_changed k i change xs other = by_found (slice_get xs i)
    where
      by_found : (o : Option A) → StaysAt R k xs (option_map_or (λ x. slice_set xs i (change x)) o xs)
      by_found None = stays_all k xs
      by_found (Some x) = set_other k i (change x) xs other

  pub stays_each : (k : ℕ) (change : A → A) (xs : List A) → ((x : A) → R x (change x)) → StaysAt R k xs (map change xs)
  stays_each k change xs is x at = (change x, slice_get-map change xs k ∙ ap (option_map change) at, is x)

module _ {A : Type 0} (R : A → A → Type 0) (both : (x y z : A) → R x y → R y z → R x z) where
  pub stays_then : (k : ℕ) (xs ys zs : List A) → StaysAt R k xs ys → StaysAt R k ys zs → StaysAt R k xs zs
  stays_then k xs ys zs one more x at =
      let y = one x at in let z = more y.0 y.1 in (z.0, z.1, both x y.0 z.0 y.2 z.2)
