-- What a line of text comes to.
use Rattle.std.specs.Prelude.{◌≡◌, ◌⊎◌, ◌==◌, ℕ, Bool, true, List, [], ◌∷◌, slice_get, slice_index_or}
use Rattle.osdp_words.specs.Word.{AllStandFor, words_in}
use Rattle.osdp_refused_words.specs.Stops.{SaysValue, StopsAt}
use Rattle.osdp_test_script.specs.Texts.{wrong_word_text}
use Rattle.osdp_test_script.specs.Calls.{CallFits, TermFits, call_words, term_words}
use Rattle.osdp_test_script.specs.Runs.{Called, Does, passes_line, refuses_line}
use Rattle.osdp_test_script.specs.declared.call.ScriptCall.{ScriptCall}
use Rattle.osdp_test_script.specs.declared.run.ScriptRun.{ScriptRun}

-- words that say nothing: a blank line, and a comment
abbrev pub is_passed : List (List ℕ) → Bool
is_passed [] = true
is_passed (first ∷ rest) = slice_index_or first 0 0 == 35

-- the words say this
pub record Says (words : List (List ℕ)) (call : ScriptCall) : Type 0 where
  pub stand : AllStandFor (call_words call) words
  pub fits : CallFits call

-- words that say something
abbrev pub SaysLine : List (List ℕ) → Type 0
SaysLine = SaysValue call_words CallFits

abbrev pub SaysNothing : List (List ℕ) → Type 0
SaysNothing words = SaysLine words → ⊥

-- words that say nothing are refused by the first that cannot stand where it is; where each may, the one after the last is missing
pub record IsRefused (words : List (List ℕ)) (s : ScriptRun) (c : Called) : Type 0 where
  pub none : SaysNothing words
  pub place : ℕ
  pub stops : StopsAt SaysLine words place
  pub is : c ≡ refuses_line (wrong_word_text place (slice_get words place)) s

-- what words come to: nothing, what they say, or else they are refused
abbrev pub IsAnsweredBy : List (List ℕ) → ScriptRun → Called → Type 0
IsAnsweredBy words s c =
    ((is_passed words ≡ true) × (c ≡ passes_line s)) ⊎ (((call : ScriptCall) × Says words call × Does call s c) ⊎ IsRefused words s c)

abbrev pub IsAnswered : List ℕ → ScriptRun → Called → Type 0
IsAnswered line = IsAnsweredBy (words_in line)

-- the words after a line's name
abbrev pub SaysLineOf : List ℕ → List (List ℕ) → Type 0
SaysLineOf name more = SaysLine (name ∷ more)

abbrev pub HasNoLine : List ℕ → Type 0
HasNoLine name = (more : List (List ℕ)) → SaysLineOf name more → ⊥

-- until when something is expected
abbrev pub SaysTerm : List (List ℕ) → Type 0
SaysTerm = SaysValue term_words TermFits
