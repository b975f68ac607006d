-- The steps of a list of calls are the calls that the programs make.
use Rattle.osdp_program_days.proofs.Common.{◌≡◌, ◌∙◌, ℕ, Bool, true, false, if◌then◌else◌, List, [], ◌∷◌, ◌++◌, refl, ap, map, Call, Step, DeviceKind, PanelKind, Programs, after_own, all_calls, calls_by, Made, all_at, owns, reads, steps_of}
use Rattle.std.proofs.lemmas.List.{map-append}

module _ {H : Type 0} where
  abbrev Same : List (Step H) → List (Call H) → Type 0
  Same steps calls = map (λ (step : Step H). step.call) steps ≡ calls

  same_first : (some : Bool) (places : List ℕ) (call : Call H) (calls : List (Call H)) → Same (all_at [] calls) calls → Same (all_at places calls) calls
      → Same (if some then record { call = call; places = places } ∷ all_at [] calls else record { call = call; places = [] } ∷ all_at places calls) (call ∷ calls)
  same_first true places call calls none rest = ap (λ more. call ∷ more) none
  same_first false places call calls none rest = ap (λ more. call ∷ more) rest

  same_at : (places : List ℕ) (calls : List (Call H)) → Same (all_at places calls) calls
  same_at places [] = refl
  same_at places (call ∷ calls) = same_first (reads call) places call calls (same_at [] calls) (same_at places calls)

  module _ (P : PanelKind H) (D : DeviceKind H) where
    pub same_calls : (day : List (Made P D)) (w : Programs P D) → map (λ (step : Step H). step.call) (steps_of P D day w) ≡ all_calls P D (owns P D day) w
    same_calls [] w = refl
    same_calls (made ∷ more) w =
        map-append (λ (step : Step H). step.call) (all_at made.places (calls_by P D made.own w)) (steps_of P D more (after_own P D made.own w))
        ∙ ap (λ first. first ++ map (λ (step : Step H). step.call) (steps_of P D more (after_own P D made.own w))) (same_at made.places (calls_by P D made.own w))
        ∙ ap (λ rest. calls_by P D made.own w ++ rest) (same_calls more (after_own P D made.own w))
