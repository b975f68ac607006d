-- What reading gives: the one value that stands after what was given, and none where there is none.
use Rattle.std.specs.Prelude.{◌≡◌, ◌++◌, List, ℕ, Option, Some, IfSome}
use Rattle.osdp_words.specs.Word.{Word, StandsFor, AllStandFor}

-- of the values that are allowed, the one for whose word the given one stands
pub record Reads {A : Type 0} (word : A → Word) (Allowed : A → Type 0) (given : List ℕ) (result : Option A) : Type 0 where
  pub value : IfSome result (λ a. StandsFor (word a) given × Allowed a)
  pub only : (a : A) → Allowed a → StandsFor (word a) given → result ≡ Some a

-- of the values that are allowed, the one for whose words the given ones stand
pub record ReadsWords {A : Type 0} (words : A → List Word) (Allowed : A → Type 0) (given : List (List ℕ)) (result : Option A) : Type 0 where
  pub value : IfSome result (λ a. AllStandFor (words a) given × Allowed a)
  pub only : (a : A) → Allowed a → AllStandFor (words a) given → result ≡ Some a

-- of the values that are allowed, the one for whose words the first given ones stand; it leaves the others
pub record Takes {A : Type 0} (words : A → List Word) (Allowed : A → Type 0) (given left : List (List ℕ)) (result : Option A) : Type 0 where
  pub value : IfSome result (λ a. (first : List (List ℕ)) × (given ≡ first ++ left) × AllStandFor (words a) first × Allowed a)
  pub only : (a : A) (first rest : List (List ℕ)) → Allowed a → given ≡ first ++ rest → AllStandFor (words a) first → (result ≡ Some a) × (left ≡ rest)
