-- How a command runs that judges by lines.
use Rattle.std.specs.Prelude.{◌≡◌, ◌⊎◌, ℕ, Bool, List, [], ◌∷◌, codes, Option, Result, Err}
use Rattle.std.specs.Io.KnownBytes.{Keeps}
use Rattle.osdp_tool_streams.specs.declared.fault.ToolFault.{ToolFault}
use Rattle.osdp_tool_streams.specs.declared.fault.ToolFault.TheVariants.{BadWords}
use Rattle.osdp_tool_test.specs.Ending.{Ends}
use Rattle.osdp_tool_test.specs.Entries.{Told}
use Rattle.osdp_tool_test.specs.declared.report.Form.{Form}
use Rattle.osdp_tool_test.specs.declared.report.Form.TheVariants.{Plain, Tap}

-- the words after the command's name that ask for a form
abbrev pub asking_words : Form → List (List ℕ)
asking_words Plain = []
asking_words Tap = codes "--tap" ∷ []

-- words that ask for a form
abbrev pub AsksForm : List (List ℕ) → Type 0
AsksForm words = (form : Form) × (words ≡ asking_words form)

abbrev pub AsksNone : List (List ℕ) → Type 0
AsksNone words = (form : Form) → words ≡ asking_words form → ⊥

-- bad words: nothing is read, and nothing written
pub record IsRefused (input_before input_after before after : Option (List ℕ)) (result : Result ℕ ToolFault) : Type 0 where
  pub fault : result ≡ Err BadWords
  pub read : Keeps input_before input_after
  pub written : Keeps before after

-- it runs in the form that the words ask for, and is refused where they ask for none
abbrev pub RunsBy : List (List ℕ) → (Form → Type 0) → Type 0 → Type 0
RunsBy words Runs Refused = ((form : Form) × (words ≡ asking_words form) × Runs form) ⊎ (AsksNone words × Refused)

-- how a command ended: its words, what its input and its output had before and after, whether the output has failed, and the answer
abbrev pub CommandEnd : Type 1
CommandEnd = List (List ℕ) → Option (List ℕ) → Option (List ℕ) → Option (List ℕ) → Option (List ℕ) → Bool → Result ℕ ToolFault → Type 0

-- a test of lines, by what these show in a form, and by the first of them that is bad
abbrev pub Tests : (Form → List (List ℕ) → List Told → Type 0) → (List (List ℕ) → ℕ → Type 0) → ℕ → CommandEnd
Tests Shows Stops limit words input_before input_after before after failed result =
    RunsBy words (λ form. Ends (Shows form) Stops limit input_before input_after form before after failed result)
    (IsRefused input_before input_after before after result)
