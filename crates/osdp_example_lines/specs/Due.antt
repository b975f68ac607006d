-- Of two moments, each of which may be missing, the one that comes first.
use Rattle.std.specs.Prelude.{◌≡◌, ◌⊎◌, ⊤, ℕ, ◌≤◌, Option, Some, None, min}

-- a moment that doesn't come after another one; none comes after each
abbrev pub IsNoLater : Option ℕ → Option ℕ → Type 0
IsNoLater first None = ⊤
IsNoLater (Some first) (Some other) = first ≤ other
IsNoLater None (Some other) = ⊥

abbrev pub IsFirstOf : Option ℕ → Option ℕ → Option ℕ → Type 0
IsFirstOf one other first = ((first ≡ one) ⊎ (first ≡ other)) × IsNoLater first one × IsNoLater first other

-- of two moments the lesser comes first, and one comes before none
abbrev pub FirstIsLeast : Type 0
FirstIsLeast =
    ((one other : ℕ) (first : Option ℕ) → IsFirstOf (Some one) (Some other) first → first ≡ Some (min one other))
    × ((only first : Option ℕ) → IsFirstOf only None first → first ≡ only)
    × ((only first : Option ℕ) → IsFirstOf None only first → first ≡ only)
