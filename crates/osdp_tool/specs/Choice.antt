-- What the words after the program's name choose, before `job` is asked.
use Rattle.std.specs.Prelude.{◌≡◌, ◌⊎◌, ◌↔◌, ℕ, Bool, List, [], ◌∷◌, codes, Err, Option, Some, None, if◌then◌else◌, false}
use Rattle.std.specs.List.{list_any}
use Rattle.std.specs.Str.{bytes_eq}
use Rattle.osdp_tool.specs.Job.{Words, job_of, wants_help}
use Rattle.osdp_tool_streams.specs.declared.fault.ToolFault.TheVariants.{BadWords}
use Rattle.osdp_tool.specs.declared.choice.Choice.{Choice}
use Rattle.osdp_tool.specs.declared.choice.Choice.TheVariants.{Help, Version, Show, Check, Monitor, Panel, Reader, Plan, Test, Job}
use Rattle.osdp_tool.specs.declared.choice.Topic.{Topic}
use Rattle.osdp_tool.specs.declared.choice.Topic.TheVariants as topic

-- the help of the command of this name
abbrev pub topic_named : List ℕ → Choice
topic_named name =
    if bytes_eq name (codes "show") then Help topic.Show
    else (if bytes_eq name (codes "monitor") then Help topic.Monitor
    else (if bytes_eq name (codes "check") then Help topic.Check
    else (if bytes_eq name (codes "make") then Help topic.Make
    else (if bytes_eq name (codes "sim") then Help topic.Sim
    else (if bytes_eq name (codes "panel") then Help topic.Panel
    else (if bytes_eq name (codes "reader") then Help topic.Reader
    else (if bytes_eq name (codes "plan") then Help topic.Plan
    else (if bytes_eq name (codes "test") then Help topic.Test else Job))))))))

-- what the words after `help` choose
abbrev pub help_of : Words → Choice
help_of [] = Help topic.Program
help_of (name ∷ []) = topic_named name
help_of (name ∷ more ∷ rest) = Job

-- a word that stands alone
abbrev pub alone : Choice → Words → Choice
alone choice [] = choice
alone choice (word ∷ rest) = Job

-- what the first word chooses, with the words after it
abbrev pub by_first : List ℕ → Words → Choice
by_first first rest =
    if bytes_eq first (codes "help") then help_of rest
    else (if bytes_eq first (codes "show") then Show
    else (if bytes_eq first (codes "check") then Check
    else (if bytes_eq first (codes "monitor") then Monitor
    else (if bytes_eq first (codes "panel") then Panel
    else (if bytes_eq first (codes "reader") then Reader
    else (if bytes_eq first (codes "plan") then Plan
    else (if bytes_eq first (codes "test") then Test
    else (if bytes_eq first (codes "--help") then alone (Help topic.Program) rest
    else (if bytes_eq first (codes "-h") then alone (Help topic.Program) rest
    else (if bytes_eq first (codes "--version") then alone Version rest else Job))))))))))

-- what the words choose: a flag that asks for help, alone after the name of a command, and else the first word
abbrev pub choice_of : Words → Choice
choice_of [] = Help topic.Program
choice_of (first ∷ rest) = if wants_help rest then topic_named first else by_first first rest

-- a word that may stand first
abbrev pub is_known : List ℕ → Bool
is_known word = list_any (λ known. bytes_eq word known)
    (codes "show" ∷ codes "monitor" ∷ codes "check" ∷ codes "make" ∷ codes "sim" ∷ codes "panel" ∷ codes "reader" ∷ codes "plan" ∷ codes "test"
    ∷ codes "help" ∷ codes "--help" ∷ codes "-h" ∷ codes "--version" ∷ [])

abbrev pub unless_known : List ℕ → Option (List ℕ)
unless_known word = if is_known word then None else Some word

-- the word that stands where a command is named, and names none: the one after `help` alone, or else the first
abbrev pub unknown_of : Words → Option (List ℕ)
unknown_of [] = None
unknown_of (first ∷ []) = unless_known first
unknown_of (first ∷ name ∷ []) = unless_known (if bytes_eq first (codes "help") then name else first)
unknown_of (first ∷ name ∷ more ∷ rest) = unless_known first

-- ---- the same, word for word

-- the words that ask for the help of the command of this name
abbrev pub AskOf : List ℕ → Words → Type 0
AskOf command words =
    (words ≡ codes "help" ∷ command ∷ []) ⊎ ((words ≡ command ∷ codes "--help" ∷ []) ⊎ (words ≡ command ∷ codes "-h" ∷ []))

-- the words that ask for the help of a topic
abbrev pub AskForHelp : Topic → Words → Type 0
AskForHelp topic.Program words =
    (words ≡ []) ⊎ ((words ≡ codes "help" ∷ []) ⊎ ((words ≡ codes "--help" ∷ []) ⊎ (words ≡ codes "-h" ∷ [])))
AskForHelp topic.Show words = AskOf (codes "show") words
AskForHelp topic.Monitor words = AskOf (codes "monitor") words
AskForHelp topic.Check words = AskOf (codes "check") words
AskForHelp topic.Make words = AskOf (codes "make") words
AskForHelp topic.Sim words = AskOf (codes "sim") words
AskForHelp topic.Panel words = AskOf (codes "panel") words
AskForHelp topic.Reader words = AskOf (codes "reader") words
AskForHelp topic.Plan words = AskOf (codes "plan") words
AskForHelp topic.Test words = AskOf (codes "test") words

-- the words of a choice; those left to `job` are none of them
abbrev pub IsWordsOf : Choice → Words → Type 0
IsWordsOf (Help asked) words = AskForHelp asked words
IsWordsOf Version words = words ≡ codes "--version" ∷ []
IsWordsOf Show words = (rest : Words) × (words ≡ codes "show" ∷ rest) × (wants_help rest ≡ false)
IsWordsOf Check words = (rest : Words) × (words ≡ codes "check" ∷ rest) × (wants_help rest ≡ false)
IsWordsOf Monitor words = (rest : Words) × (words ≡ codes "monitor" ∷ rest) × (wants_help rest ≡ false)
IsWordsOf Panel words = (rest : Words) × (words ≡ codes "panel" ∷ rest) × (wants_help rest ≡ false)
IsWordsOf Reader words = (rest : Words) × (words ≡ codes "reader" ∷ rest) × (wants_help rest ≡ false)
IsWordsOf Plan words = (rest : Words) × (words ≡ codes "plan" ∷ rest) × (wants_help rest ≡ false)
IsWordsOf Test words = (rest : Words) × (words ≡ codes "test" ∷ rest) × (wants_help rest ≡ false)
IsWordsOf Job words = ⊥

-- words choose what they are the words of, and are left to `job` exactly where they are the words of nothing; `job` takes none of the others
pub record ChoosesByWords (words : Words) : Type 0 where
  pub chosen : (choice : Choice) → ¬ (choice ≡ Job) → (choice_of words ≡ choice) ↔ IsWordsOf choice words
  pub left : (choice_of words ≡ Job) ↔ ((choice : Choice) → ¬ IsWordsOf choice words)
  pub none_taken : ¬ (choice_of words ≡ Job) → job_of words ≡ Err BadWords
