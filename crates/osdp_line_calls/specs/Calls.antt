-- Which call a line is, where calls are words.
use Rattle.std.specs.Prelude.{ℕ, ◌≤◌, List, [], ◌∷◌, length, IsUtf8, Option, Some, None}
use Rattle.hex.specs.Hex.{IsBytes}
use Rattle.osdp_words.specs.Word.{AllStandFor, Word, words_in}
use Rattle.osdp_line_answers.specs.Answers.{heard, longest}

-- the characters of a line are the words of a call
pub record Says {C : Type 0} (words_of : C → List Word) (Fits : C → Type 0) (line : List ℕ) (call : C) : Type 0 where
  pub short : length line ≤ longest
  pub text : IsUtf8 line
  pub words : AllStandFor (words_of call) (words_in line)
  pub fits : Fits call

-- the line is no call
abbrev pub SaysNothing : {C : Type 0} → (C → List Word) → (C → Type 0) → List ℕ → Type 0
SaysNothing {C} words_of Fits line = (call : C) → Says words_of Fits line call → ⊥

-- as many bytes as a line has room for
abbrev pub FitsALine : List ℕ → Type 0
FitsALine list = (length list ≤ 4096) × IsBytes list

module _ {C : Type 0} (words_of : C → List Word) (Fits : C → Type 0) where
  -- a line says this call, or none
  abbrev pub IsSaid : List ℕ → Option C → Type 0
  IsSaid line (Some call) = Says words_of Fits (heard line) call
  IsSaid line None = SaysNothing words_of Fits (heard line)

  abbrev pub AreSaid : List (List ℕ) → List (Option C) → Type 0
  AreSaid [] [] = Unit {0}
  AreSaid (line ∷ lines) (said ∷ more) = IsSaid line said × AreSaid lines more
  AreSaid _ _ = ⊥
