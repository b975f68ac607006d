-- Whether characters are passed over, found from their front.
use Rattle.osdp_script.proofs.Common.{◌≡◌, ℕ, ◌+◌, ◌<◌, ◌≤◌, true, false, List, [], ◌∷◌, length, get_or, drop, eqb, cond, refl, ap, ◌∙◌, drop_all, drop_more}
use Rattle.osdp_script.specs.Words.{is_passed_over}

-- a space in front
front_space : (c : ℕ) (rest : List ℕ) → eqb c 32 ≡ true → is_passed_over (c ∷ rest) ≡ is_passed_over rest
unfolding is_passed_over
front_space c rest e = ap (λ t. cond t (is_passed_over rest) (eqb c 35)) e

front_other : (c : ℕ) (rest : List ℕ) → eqb c 32 ≡ false → is_passed_over (c ∷ rest) ≡ eqb c 35
unfolding is_passed_over
front_other c rest e = ap (λ t. cond t (is_passed_over rest) (eqb c 35)) e

pub none_left : is_passed_over [] ≡ true
unfolding is_passed_over
none_left = refl

pub passes_space : (text : List ℕ) (i : ℕ) → i < length text → eqb (get_or text i 0) 32 ≡ true
    → is_passed_over (drop i text) ≡ is_passed_over (drop (i + 1) text)
passes_space text i lt e = ap is_passed_over (drop_more text i 0 lt) ∙ front_space (get_or text i 0) (drop (i + 1) text) e

pub stops_at : (text : List ℕ) (i : ℕ) → i < length text → eqb (get_or text i 0) 32 ≡ false
    → is_passed_over (drop i text) ≡ eqb (get_or text i 0) 35
stops_at text i lt e = ap is_passed_over (drop_more text i 0 lt) ∙ front_other (get_or text i 0) (drop (i + 1) text) e

pub passes_all : (text : List ℕ) (i : ℕ) → length text ≤ i → is_passed_over (drop i text) ≡ true
passes_all text i le = ap is_passed_over (drop_all i text le) ∙ none_left
