-- What was written where a command stopped before all of its text was.
use Rattle.std.specs.Prelude.{◌≡◌, ℕ, List, ◌++◌, Option, Some, None}
use Rattle.std.specs.Io.KnownBytes.{append_known}

-- what an output has is a beginning of these bytes: none, a part or all of them; it says nothing where they aren't known
abbrev pub IsBeginning : Option (List ℕ) → Option (List ℕ) → Type 0
IsBeginning now None = Unit {0}
IsBeginning None (Some whole) = ⊥
IsBeginning (Some written) (Some whole) = (rest : List ℕ) × (whole ≡ written ++ rest)

-- what an output has now is a beginning of what it had, with this text after it
abbrev pub StopsWithin : Option (List ℕ) → Option (List ℕ) → List ℕ → Type 0
StopsWithin before now text = IsBeginning now (append_known before text)
