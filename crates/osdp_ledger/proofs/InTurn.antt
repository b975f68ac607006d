-- Steps, one list after the other.
use Rattle.osdp_ledger.proofs.Common.{◌≡◌, List, [], ◌∷◌, ◌++◌, refl, Step, AreAllowed, History, runs, steps_on}

pub runs_then : (xs ys : List Step) (h : History) → runs (xs ++ ys) h ≡ runs ys (runs xs h)
runs_then [] ys h = refl
runs_then (x ∷ xs) ys h = runs_then xs ys (steps_on x h)

pub allowed_both : (xs ys : List Step) (h : History) → AreAllowed xs h → AreAllowed ys (runs xs h) → AreAllowed (xs ++ ys) h
allowed_both [] ys h first second = second
allowed_both (x ∷ xs) ys h first second = (first.0, allowed_both xs ys (steps_on x h) first.1 second)

pub allowed_second : (xs ys : List Step) (h : History) → AreAllowed (xs ++ ys) h → AreAllowed ys (runs xs h)
allowed_second [] ys h all = all
allowed_second (x ∷ xs) ys h all = allowed_second xs ys (steps_on x h) all.1
