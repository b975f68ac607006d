-- One of a list.
use Rattle.osdp_shared_line.proofs.Common.{List, [], ◌∷◌, ◌++◌, ◌⊎◌, inl, inr, Each, lost_at, ℕ, zero, suc, Somewhere}

module _ {A : Type 0} (P : A → Type 0) where
  pub somewhere_front : (xs ys : List A) → Somewhere P xs → Somewhere P (xs ++ ys)
  somewhere_front [] ys is = absurd is
  somewhere_front (x ∷ xs) ys (inl here) = inl here
  somewhere_front (x ∷ xs) ys (inr there) = inr (somewhere_front xs ys there)

  pub somewhere_rest : (xs ys : List A) → Somewhere P ys → Somewhere P (xs ++ ys)
  somewhere_rest [] ys is = is
  somewhere_rest (x ∷ xs) ys is = inr (somewhere_rest xs ys is)

  pub somewhere_split : (xs ys : List A) → Somewhere P (xs ++ ys) → Somewhere P xs ⊎ Somewhere P ys
  somewhere_split [] ys is = inr is
  somewhere_split (x ∷ xs) ys (inl here) = inl (inl here)
  somewhere_split (x ∷ xs) ys (inr there) =
      elim (somewhere_split xs ys there) [ inl before ↦ inl (inr before) | inr after ↦ inr after ]

  -- nowhere is at no place
  pub nowhere : (xs : List A) → (Somewhere P xs → ⊥) → Each (λ x. P x → ⊥) xs
  nowhere [] none = tt
  nowhere (x ∷ xs) none = (λ is. none (inl is), nowhere xs (λ is. none (inr is)))

  -- ---- without one

  pub somewhere_kept : (place : ℕ) (xs : List A) → Somewhere P (lost_at place xs) → Somewhere P xs
  somewhere_kept place [] is = is
  somewhere_kept zero (x ∷ xs) is = inr is
  somewhere_kept (suc place) (x ∷ xs) (inl here) = inl here
  somewhere_kept (suc place) (x ∷ xs) (inr there) = inr (somewhere_kept place xs there)

  pub each_kept : (place : ℕ) (xs : List A) → Each P xs → Each P (lost_at place xs)
  each_kept place [] all = tt
  each_kept zero (x ∷ xs) all = all.1
  each_kept (suc place) (x ∷ xs) all = (all.0, each_kept place xs all.1)
