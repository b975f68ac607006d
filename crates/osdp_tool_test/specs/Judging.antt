-- How the lines of an input are taken.
use Rattle.std.specs.Prelude.{◌≡◌, ◌⊎◌, ℕ, ◌+◌, Bool, true, false, List, [], ◌∷◌, IsUtf8}
use Rattle.osdp_words.specs.Word.{words_in}
use Rattle.osdp_tool_test.specs.Entries.{Told}
use Rattle.osdp_tool_test.specs.Saying.{IsComment}

-- a line was taken, or it is refused and nothing has changed
abbrev pub TakesOr : Type 0 → Type 0 → Type 0 → Bool → Type 0
TakesOr Taken Refused Same true = Taken
TakesOr Taken Refused Same false = Refused × Same

module _ {T : Type 0} (takes : T → List (List ℕ) → T → Type 0) (refuses : List (List ℕ) → Type 0) (found : T → List Told) where
  -- a comment changes nothing, and of any other line its words are taken
  abbrev pub TakesLine : T → List ℕ → T → Type 0
  TakesLine old line new = (IsComment line × (new ≡ old)) ⊎ (IsUtf8 line × takes old (words_in line) new)

  abbrev pub RefusesLine : List ℕ → Type 0
  RefusesLine line = (IsComment line → ⊥) × ((IsUtf8 line → ⊥) ⊎ refuses (words_in line))

  -- all of these lines were taken, one after the other
  abbrev pub TakesAll : T → List (List ℕ) → T → Type 0
  TakesAll old [] new = new ≡ old
  TakesAll old (line ∷ lines) new = (next : T) × TakesLine old line next × TakesAll next lines new

  -- those before a line were taken, which is refused; the first of them has this number
  abbrev pub StopsAt : ℕ → T → List (List ℕ) → ℕ → T → Type 0
  StopsAt first old [] number new = ⊥
  StopsAt first old (line ∷ lines) number new =
      (RefusesLine line × (number ≡ first) × (new ≡ old)) ⊎ ((next : T) × TakesLine old line next × StopsAt (first + 1) next lines number new)

  -- what was found of each rule by lines that were all taken
  abbrev pub Finds : T → List (List ℕ) → List Told → Type 0
  Finds start lines entries = (last : T) × TakesAll start lines last × (entries ≡ found last)

  -- the first of lines that is refused
  abbrev pub Stops : T → List (List ℕ) → ℕ → Type 0
  Stops start lines number = (last : T) × StopsAt 1 start lines number last
