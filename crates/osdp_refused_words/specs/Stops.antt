-- The first word that cannot stand where it is, in texts that say something.
use Rattle.std.specs.Prelude.{◌≡◌, ℕ, List, [], ◌∷◌, ◌++◌, length}
use Rattle.osdp_words.specs.Word.{AllStandFor, Word}

-- the words of a value that is allowed
abbrev pub SaysValue : {A : Type 0} → (A → List Word) → (A → Type 0) → List (List ℕ) → Type 0
SaysValue {A} words Allowed given = (a : A) × AllStandFor (words a) given × Allowed a

-- what says something begins with these words
abbrev pub GoesOn : (List (List ℕ) → Type 0) → List (List ℕ) → Type 0
GoesOn Says front = (rest : List (List ℕ)) × Says (front ++ rest)

-- no word is left, or nothing that says something goes on with the next
abbrev pub Stops : (List (List ℕ) → Type 0) → List (List ℕ) → List (List ℕ) → Type 0
Stops Says front [] = Unit {0}
Stops Says front (word ∷ rest) = GoesOn Says (front ++ word ∷ []) → ⊥

-- so many words may stand where they are, and no more
pub record StopsAt (Says : List (List ℕ) → Type 0) (given : List (List ℕ)) (place : ℕ) : Type 0 where
  pub front : List (List ℕ)
  pub back : List (List ℕ)
  pub whole : given ≡ front ++ back
  pub place_is : place ≡ length front
  pub goes_on : GoesOn Says front
  pub stops : Stops Says front back
