-- Schedules, step by step.
use Rattle.osdp_sim.proofs.Common.{◌≡◌, ◌<◌, ◌+◌, ◌-◌, add-one, get_or, suc, ℕ, Bool, true, ◌&&◌, List, [], ◌∷◌, ◌++◌, length, drop, Option, Some, None, is_none, refl, sym, subst, ap, ◌∙◌, drop-cons, append_assoc, length-append, SimStep}
use Rattle.osdp_sim.specs.declared.fault.Cause.{Cause}
use Rattle.osdp_sim.specs.Schedules.{HoldsAlong, is_well, run}

-- the step at a place, and those after it
pub next_step : (steps : List SimStep) (i : ℕ) (step : SimStep) → i < length steps → step ≡ get_or steps i step → drop i steps ≡ step ∷ drop (i + 1) steps
next_step steps i step within is = rw add-one (drop-cons steps i step within ∙ ap (λ y. y ∷ drop (suc i) steps) (sym is))

-- the first step is not refused, and the others aren't
pub first_well : (fault : Option Cause) (rest : Bool) → (is_none fault && rest) ≡ true → (fault ≡ None) × (rest ≡ true)
first_well None rest e = (refl, e)
first_well (Some cause) rest e = absurd cc

all_well : (fault : Option Cause) (rest : Bool) → fault ≡ None → rest ≡ true → (is_none fault && rest) ≡ true
all_well None rest none e = e
all_well (Some cause) rest none e = absurd cc

-- one list of steps after the other
module _ {S : Type 0} (after_step : SimStep → S → S) where
  pub runs_on : (xs ys : List SimStep) (s : S) → run after_step (xs ++ ys) s ≡ run after_step ys (run after_step xs s)
  runs_on [] ys s = refl
  runs_on (x ∷ xs) ys s = runs_on xs ys (after_step x s)

  pub well_on : (fault_of : SimStep → S → Option Cause) (xs ys : List SimStep) (s : S) → is_well after_step fault_of (xs ++ ys) s ≡ true
      → (is_well after_step fault_of xs s ≡ true) × (is_well after_step fault_of ys (run after_step xs s) ≡ true)
  well_on fault_of [] ys s well = (refl, well)
  well_on fault_of (x ∷ xs) ys s well =
      let next = after_step x s in
      let first = first_well (fault_of x s) (is_well after_step fault_of (xs ++ ys) next) well in
      let rest = well_on fault_of xs ys next first.1 in
      (all_well (fault_of x s) (is_well after_step fault_of xs next) first.0 rest.0, rest.1)

  pub holds_on : (Holds : SimStep → S → Type 0) (xs ys : List SimStep) (s : S) → HoldsAlong after_step Holds (xs ++ ys) s
      → HoldsAlong after_step Holds xs s × HoldsAlong after_step Holds ys (run after_step xs s)
  holds_on Holds [] ys s along = (tt, along)
  holds_on Holds (x ∷ xs) ys s along =
      let rest = holds_on Holds xs ys (after_step x s) along.1 in
      ((along.0, rest.0), rest.1)

module _ {S : Type 0} (after_step : SimStep → S → S) (fault_of : SimStep → S → Option Cause) (Holds : SimStep → S → Type 0) where
  -- these steps were taken, and led here
  pub record HasTaken (steps : List SimStep) (start s : S) : Type 0 where
    pub here : s ≡ run after_step steps start
    pub well : is_well after_step fault_of steps start ≡ true
    pub along : HoldsAlong after_step Holds steps start

  well_after : (steps : List SimStep) (step : SimStep) (s : S) → is_well after_step fault_of steps s ≡ true
      → fault_of step (run after_step steps s) ≡ None → is_well after_step fault_of (steps ++ step ∷ []) s ≡ true
  well_after [] step s well none = all_well (fault_of step s) true none refl
  well_after (first ∷ steps) step s well none =
      let next = after_step first s in
      let both = first_well (fault_of first s) (is_well after_step fault_of steps next) well in
      all_well (fault_of first s) _ both.0 (well_after steps step next both.1 none)

  along_after : (steps : List SimStep) (step : SimStep) (s : S) → HoldsAlong after_step Holds steps s
      → Holds step (run after_step steps s) → HoldsAlong after_step Holds (steps ++ step ∷ []) s
  along_after [] step s along then = (then, tt)
  along_after (first ∷ steps) step s along then = (along.0, along_after steps step (after_step first s) along.1 then)

  -- one more
  takes_one : (steps : List SimStep) (step : SimStep) (start here next : S) → HasTaken steps start here
      → fault_of step here ≡ None → Holds step here → next ≡ after_step step here
      → HasTaken (steps ++ step ∷ []) start next
  takes_one steps step start here next taken none holds is = record {
    here = is ∙ ap (after_step step) taken.here ∙ sym (runs_on after_step steps (step ∷ []) start);
    well = well_after steps step start taken.well (subst (λ s. fault_of step s ≡ None) taken.here none);
    along = along_after steps step start taken.along (subst (Holds step) taken.here holds);
  }

  -- so many steps of a schedule were taken, and led here; the others are left
  pub record HasCome (steps : List SimStep) (count : ℕ) (left : List SimStep) (start here : S) : Type 0 where
    pub done : List SimStep
    pub taken : HasTaken done start here
    pub parts : steps ≡ done ++ left
    pub counted : length done ≡ count

  pub begins : (steps : List SimStep) (start : S) → HasCome steps 0 steps start start
  begins steps start = record {
    done = [];
    taken = record { here = refl; well = refl; along = tt };
    parts = refl;
    counted = refl;
  }

  -- the next step is taken
  pub goes_on : (steps : List SimStep) (count : ℕ) (step : SimStep) (old left : List SimStep) (start here next : S)
      → HasCome steps count old start here → old ≡ step ∷ left
      → fault_of step here ≡ None → next ≡ after_step step here → Holds step here
      → HasCome steps (count + 1) left start next
  goes_on steps count step old left start here next come is none led holds = record {
    done = come.done ++ step ∷ [];
    taken = takes_one come.done step start here next come.taken none holds led;
    parts = come.parts ∙ ap (λ l. come.done ++ l) is ∙ sym (append_assoc come.done (step ∷ []) left);
    counted = length-append come.done (step ∷ []) ∙ ap (λ n. n + 1) come.counted;
  }
