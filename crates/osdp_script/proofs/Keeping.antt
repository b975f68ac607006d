-- Lines that are kept as steps and a row of bytes.
use Rattle.osdp_script.proofs.Common.{◌≡◌, ◌==◌, ℕ, Bool, true, IsTrue, List, [], ◌∷◌, length, take, refl, arith, nat_tests, ScriptLine, line_of, lines_kept, own_size}
use Rattle.osdp_script.specs.declared.step.ScriptStep.{ScriptStep}

-- there is no line where there is no step
pub no_lines : (steps : List ScriptStep) (row : List ℕ) (none : Bool) → none ≡ (length steps == 0)
    → (IsTrue none → lines_kept steps row ≡ []) × (lines_kept steps row ≡ [] → IsTrue none)
no_lines [] row none is = (λ empty. refl, λ e. is)
no_lines (step ∷ steps) row none is =
    (λ empty. absurd (not_empty empty), λ e. absurd (some_is_none (line_of step (take (own_size step) row)) _ e))
  where
    not_empty : none ≡ true → ⊥
    not_empty empty = grind (arith, nat_tests)

    some_is_none : (line : ScriptLine) (lines : List ScriptLine) → line ∷ lines ≡ [] → ⊥
    some_is_none line lines e = cc e
