-- What comes one after the other, each by what stands before it.
use Rattle.std.specs.Prelude.{ℕ, List, [], ◌∷◌, ◌++◌}

-- what it leads to
unfoldable pub after_all : {S X : Type 0} → (S → X → S) → S → List X → S
after_all step s [] = s
after_all step s (x ∷ xs) = after_all step (step s x) xs

-- what is printed of it
unfoldable pub report_of_all : {S X : Type 0} → (S → X → S) → (S → X → List ℕ) → S → List X → List ℕ
report_of_all step report s [] = []
report_of_all step report s (x ∷ xs) = report s x ++ report_of_all step report (step s x) xs
