-- The first word that cannot stand where it is: how it is found.
use Rattle.osdp_refused_words.proofs.Common.{◌≡◌, ℕ, suc, List, [], ◌∷◌, ◌++◌, refl, sym, ap, ◌∙◌, append_assoc, GoesOn, Stops, StopsAt}

-- texts that begin alike
pub record SameFronts (Says Others : List (List ℕ) → Type 0) : Type 0 where
  pub to : (front : List (List ℕ)) → GoesOn Says front → GoesOn Others front
  pub from : (front : List (List ℕ)) → GoesOn Others front → GoesOn Says front

module _ (Says : List (List ℕ) → Type 0) where
  -- no word is left
  pub ended : GoesOn Says [] → StopsAt Says [] 0
  ended some = record { front = []; back = []; whole = refl; place_is = refl; goes_on = some; stops = tt }

  -- the first word cannot stand there
  pub first_refused : (word : List ℕ) (rest : List (List ℕ)) → GoesOn Says [] → (GoesOn Says (word ∷ []) → ⊥) → StopsAt Says (word ∷ rest) 0
  first_refused word rest some none = record { front = []; back = word ∷ rest; whole = refl; place_is = refl; goes_on = some; stops = none }

  after_stop : (Others : List (List ℕ) → Type 0) (word : List ℕ) (front back : List (List ℕ)) → SameFronts (λ rest. Says (word ∷ rest)) Others
      → Stops Others front back → Stops Says (word ∷ front) back
  after_stop Others word front [] same h = tt
  after_stop Others word front (next ∷ rest) same h = λ goes. h (same.to (front ++ next ∷ []) goes)

  -- the first word may stand there, and these others after it
  pub after : (Others : List (List ℕ) → Type 0) (word : List ℕ) (rest : List (List ℕ)) (place : ℕ) → SameFronts (λ more. Says (word ∷ more)) Others
      → StopsAt Others rest place → StopsAt Says (word ∷ rest) (suc place)
  after Others word rest place same h = record {
    front = word ∷ h.front;
    back = h.back;
    whole = ap (λ (l : List (List ℕ)). word ∷ l) h.whole;
    place_is = ap (λ (n : ℕ). suc n) h.place_is;
    goes_on = same.from h.front h.goes_on;
    stops = after_stop Others word h.front h.back same h.stops;
  }

-- texts that are the same begin alike
pub same_texts : (Says Others : List (List ℕ) → Type 0) → ((given : List (List ℕ)) → Says given → Others given) → ((given : List (List ℕ)) → Others given → Says given)
    → SameFronts Says Others
same_texts Says Others to from = record {
  to = λ front h. (h.0, to (front ++ h.0) h.1);
  from = λ front h. (h.0, from (front ++ h.0) h.1);
}

-- what stops one text stops one that begins alike
stop_alike : (Says Others : List (List ℕ) → Type 0) (front back : List (List ℕ)) → SameFronts Says Others → Stops Others front back → Stops Says front back
stop_alike Says Others front [] same h = tt
stop_alike Says Others front (word ∷ rest) same h = λ goes. h (same.to (front ++ word ∷ []) goes)

pub stops_alike : (Says Others : List (List ℕ) → Type 0) (given : List (List ℕ)) (place : ℕ) → SameFronts Says Others → StopsAt Others given place → StopsAt Says given place
stops_alike Says Others given place same h = record {
  front = h.front;
  back = h.back;
  whole = h.whole;
  place_is = h.place_is;
  goes_on = same.from h.front h.goes_on;
  stops = stop_alike Says Others h.front h.back same h.stops;
}

-- the same, where the words that stand there alone begin alike
pub stops_alike_there : (Says Others : List (List ℕ) → Type 0) (given : List (List ℕ)) (place : ℕ)
    → ((front more : List (List ℕ)) → given ≡ front ++ more → GoesOn Says front → GoesOn Others front)
    → ((front more : List (List ℕ)) → given ≡ front ++ more → GoesOn Others front → GoesOn Says front) → StopsAt Others given place → StopsAt Says given place
stops_alike_there Says Others given place to from h = record {
  front = h.front;
  back = h.back;
  whole = h.whole;
  place_is = h.place_is;
  goes_on = from h.front h.back h.whole h.goes_on;
  stops = stop h.back h.whole h.stops;
}
  where
    stop : (back : List (List ℕ)) → given ≡ h.front ++ back → Stops Others h.front back → Stops Says h.front back
    stop [] e none = tt
    stop (word ∷ rest) e none = λ goes. none (to (h.front ++ word ∷ []) rest (e ∙ sym (append_assoc h.front (word ∷ []) rest)) goes)
