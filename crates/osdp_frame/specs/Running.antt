-- Running checks: a state for each sixteen places.
use Rattle.std.specs.Prelude.{◌≡◌, ℕ, ◌+◌, ◌*◌, ◌<◌, ◌≤◌, List, [], ◌∷◌, get_or, slice_range}

-- the first state becomes the last by these bytes, one after the other
abbrev pub GoesOver : {C : Type 0} → (C → List ℕ → C → Type 0) → C → List ℕ → C → Type 0
GoesOver since front [] last = last ≡ front
GoesOver {C} since front (b ∷ bytes) last = (next : C) × since front (b ∷ []) next × GoesOver since next bytes last

-- each state after number `from`, up to number `to`, is the one before it, gone on by the sixteen bytes between them
abbrev pub IsRunning : {C : Type 0} → (C → List ℕ → C → Type 0) → List C → List ℕ → ℕ → ℕ → Type 0
IsRunning {C} since states bytes from to =
    (k : ℕ) (d : C) → from ≤ k → k < to
    → GoesOver since (get_or states k d) (slice_range bytes (16 * k) (16 * (k + 1))) (get_or states (k + 1) d)

-- the state that a check goes on to from another by these bytes
abbrev pub GoesBy : (ℕ → List ℕ → ℕ) → ℕ → List ℕ → ℕ → Type 0
GoesBy go front bytes last = last ≡ go front bytes
