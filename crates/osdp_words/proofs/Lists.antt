-- For callers: lists of values that have a word each, as records have, taken one after another to a text's end.
use Rattle.osdp_words.proofs.Common.{◌≡◌, ℕ, ◌+◌, ◌<◌, ◌≤◌, List, [], ◌∷◌, ◌++◌, map, Some, refl, sym, ap, ◌∙◌, append_assoc, AllByRecursion, Takes, AllStandFor, StandsFor, Word}

-- one value alone has the word for which a given one stands
abbrev pub HasOneValue : {A : Type 0} → (A → Word) → (A → Type 0) → Type 0
HasOneValue {A} word Allowed =
    (given : List ℕ) (a b : A) → Allowed a → Allowed b → StandsFor (word a) given → StandsFor (word b) given → a ≡ b

-- the values that were taken
pub record HasTakenAll {A : Type 0} (word : A → Word) (Allowed : A → Type 0) (given : List (List ℕ)) (taken : List A) (left : List (List ℕ)) : Type 0 where
  pub front : List (List ℕ)
  pub whole : given ≡ front ++ left
  pub stand : AllStandFor (map word taken) front
  pub allowed : AllByRecursion Allowed taken

module _ {A : Type 0} (word : A → Word) (Allowed : A → Type 0) where
  pub nothing_taken : (given : List (List ℕ)) → HasTakenAll word Allowed given [] given
  nothing_taken given = record { front = []; whole = refl; stand = tt; allowed = tt }

  push_stands : (taken : List A) (a : A) (front first : List (List ℕ)) → AllStandFor (map word taken) front → AllStandFor (word a ∷ []) first
      → AllStandFor (map word (taken ++ a ∷ [])) (front ++ first)
  push_stands [] a [] first h stands = stands
  push_stands [] a (text ∷ front) first h stands = absurd h
  push_stands (x ∷ taken) a [] first h stands = absurd h
  push_stands (x ∷ taken) a (text ∷ front) first h stands = (h.0, push_stands taken a front first h.1 stands)

  push_allowed : (taken : List A) (a : A) → AllByRecursion Allowed taken → Allowed a → AllByRecursion Allowed (taken ++ a ∷ [])
  push_allowed [] a h small = (small, tt)
  push_allowed (x ∷ taken) a h small = (h.0, push_allowed taken a h.1 small)

  pub one_more : (given mid left : List (List ℕ)) (taken : List A) (a : A) → HasTakenAll word Allowed given taken mid
      → Takes (λ x. word x ∷ []) Allowed mid left (Some a) → HasTakenAll word Allowed given (taken ++ a ∷ []) left
  one_more given mid left taken a so_far h = record {
    front = so_far.front ++ h.value.0;
    whole = so_far.whole ∙ ap (λ (rest : List (List ℕ)). so_far.front ++ rest) h.value.1 ∙ sym (append_assoc so_far.front h.value.0 left);
    stand = push_stands taken a so_far.front h.value.0 so_far.stand h.value.2;
    allowed = push_allowed taken a so_far.allowed h.value.3;
  }

-- ---- lists in an `ArrayVec`

-- ---- printing
