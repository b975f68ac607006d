-- What the words of a line say.
use Rattle.std.specs.Prelude.{ℕ, ◌<◌, ◌≤◌, ◌^◌, List, [], ◌∷◌, Option, Some, None, codes}
use Rattle.arrayvec.specs.ArrayVec.{ArrayVec, array_vec_len}
use Rattle.hex.specs.Hex.{IsBytes}
use Rattle.osdp_words.specs.Reading.{ReadsWords}
use Rattle.osdp_words.specs.Word.{Word, bytes, number, plain}
use Rattle.osdp_example_lines.specs.declared.Line.{Line}
use Rattle.osdp_example_lines.specs.declared.Line.TheVariants.{Turn, Card, Other}

-- a turn is a moment of 64 bits and at most 4,096 bytes
abbrev pub turn_words : ℕ × ArrayVec ℕ → List Word
turn_words x = number x.0 ∷ bytes x.1.items ∷ []

abbrev pub IsTurn : ℕ × ArrayVec ℕ → Type 0
IsTurn x = (x.0 < 2 ^ 64) × (array_vec_len x.1 ≤ 4096) × IsBytes x.1.items

-- a card is its name and at most 4 bytes
abbrev pub card_words : ArrayVec ℕ → List Word
card_words list = plain (codes "card") ∷ bytes list.items ∷ []

abbrev pub IsCard : ArrayVec ℕ → Type 0
IsCard list = (array_vec_len list ≤ 4) × IsBytes list.items

-- the lines that are known, and their words
abbrev pub line_words : Line → List Word
line_words (Turn now list) = turn_words (now, list)
line_words (Card list) = card_words list
line_words Other = []

abbrev pub IsKnown : Line → Type 0
IsKnown (Turn now list) = IsTurn (now, list)
IsKnown (Card list) = IsCard list
IsKnown Other = ⊥

abbrev pub unless_other : Line → Option Line
unless_other (Turn now list) = Some (Turn now list)
unless_other (Card list) = Some (Card list)
unless_other Other = None

-- words are told as the line that is known for whose words they stand, and as `Other` where they are those of none
abbrev pub IsTold : List (List ℕ) → Line → Type 0
IsTold given line = ReadsWords line_words IsKnown given (unless_other line)
