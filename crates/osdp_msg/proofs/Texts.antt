-- Texts of records.
use Rattle.osdp_msg.proofs.Common.{◌≡◌, ℕ, List, [], ◌∷◌, ◌++◌, codes, map, refl, sym, ap, ◌∙◌, flat_map, flat_map-cons, Word, printed}

-- each record's word after a space
pub flat_map-words : {R : Type 0} (word : R → Word) (rs : List R)
    → flat_map (λ w. codes " " ++ printed w) (map word rs) ≡ flat_map (λ r. 32 ∷ printed (word r)) rs
flat_map-words word [] = refl
flat_map-words {R} word (r ∷ rs) =
    flat_map-cons (λ (w : Word). codes " " ++ printed w) (word r) (map word rs)
    ∙ ap (λ (rest : List ℕ). 32 ∷ printed (word r) ++ rest) (flat_map-words word rs)
    ∙ sym (flat_map-cons (λ (x : R). 32 ∷ printed (word x)) r rs)
