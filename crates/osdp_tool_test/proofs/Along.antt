-- What a loop over a list writes and counts.
use Rattle.osdp_tool_test.proofs.Common.{◌≡◌, ℕ, ◌+◌, ◌≤◌, List, [], ◌∷◌, ◌++◌, length, map, drop, flat_map, refl, sym, ◌∙◌, ap, append-nil, drop_all}

pub text_end : {X : Type 0} (lines : X → List ℕ) (before all : List ℕ) (xs : List X) (k : ℕ) → length xs ≤ k → before ++ flat_map lines (drop k xs) ≡ all → before ≡ all
text_end lines before all xs k past so_far =
    sym (append-nil before) ∙ ap (λ t. before ++ t) (sym (ap (flat_map lines) (drop_all k xs past))) ∙ so_far

pub flat_map_of : {X Y : Type 0} (f : X → Y) (lines : Y → List ℕ) (xs : List X) → flat_map (λ x. lines (f x)) xs ≡ flat_map lines (map f xs)
flat_map_of f lines [] = refl
flat_map_of f lines (x ∷ xs) = ap (λ t. lines (f x) ++ t) (flat_map_of f lines xs)
