-- What holds of the first word that cannot stand where it is, in texts that say something.
use Rattle.std.specs.Prelude.{◌≡◌, ℕ, List, ◌∷◌, ◌++◌, length}
use Rattle.osdp_refused_words.specs.Stops.{StopsAt}

-- there is one such place
abbrev pub OnePlace : (List (List ℕ) → Type 0) → Type 0
OnePlace Says = (given : List (List ℕ)) (p q : ℕ) → StopsAt Says given p → StopsAt Says given q → p ≡ q

-- the same word is refused whatever comes after it
abbrev pub StaysRefused : (List (List ℕ) → Type 0) → Type 0
StaysRefused Says = (front rest other : List (List ℕ)) (word : List ℕ)
    → StopsAt Says (front ++ word ∷ rest) (length front) → StopsAt Says (front ++ word ∷ other) (length front)

-- what says something has no such word; where words say nothing, and each may stand where it is, more of them say something
abbrev pub TellsMissingWords : (List (List ℕ) → Type 0) → Type 0
TellsMissingWords Says = (given : List (List ℕ)) (place : ℕ) → StopsAt Says given place
    → (Says given → place ≡ length given)
    × (place ≡ length given → (Says given → ⊥) → (word : List ℕ) × (rest : List (List ℕ)) × Says (given ++ word ∷ rest))
