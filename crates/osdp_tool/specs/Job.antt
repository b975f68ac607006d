-- The words after the program's name, and the jobs that they choose.
use Rattle.std.specs.Prelude.{◌≡◌, ◌==◌, ◌&&◌, ◌||◌, ◌↔◌, ℕ, Bool, false, List, [], ◌∷◌, map, length, Result, Ok, Err, if◌then◌else◌, codes}
use Rattle.std.specs.Str.{bytes_eq}
use Rattle.std.specs.Borrow.{Bor}
use Rattle.osdp_tool_streams.specs.declared.fault.ToolFault.{ToolFault}
use Rattle.osdp_tool_streams.specs.declared.fault.ToolFault.TheVariants.{BadWords}
use Rattle.osdp_tool.specs.declared.jobs.Job.{Job}
use Rattle.osdp_tool.specs.declared.jobs.Job.TheVariants.{Make, Sim}

-- words as texts, each of its bytes
abbrev pub Words : Type 0
Words = List (List ℕ)

abbrev pub texts_of : List (Bor (List ℕ)) → Words
texts_of = map (λ word. word.now)

-- a flag that asks for help stands alone
abbrev pub wants_help : Words → Bool
wants_help [] = false
wants_help (word ∷ []) = bytes_eq word (codes "--help") || bytes_eq word (codes "-h")
wants_help (word ∷ more ∷ rest) = false

-- the job that the words choose: `make` with whatever follows it but such a flag, and `sim` where nothing does
abbrev pub job_of : Words → Result Job ToolFault
job_of [] = Err BadWords
job_of (command ∷ rest) =
    if bytes_eq command (codes "make") then (if wants_help rest then Err BadWords else Ok Make)
    else (if bytes_eq command (codes "sim") && length rest == 0 then Ok Sim else Err BadWords)

-- ---- the same, word for word

-- the words of a job
abbrev pub IsWordsOfJob : Job → Words → Type 0
IsWordsOfJob Make words = (rest : Words) × (words ≡ codes "make" ∷ rest) × (wants_help rest ≡ false)
IsWordsOfJob Sim words = words ≡ codes "sim" ∷ []

-- words choose a job exactly where they are its words, and are bad exactly where they are no job's
pub record ChoosesJobByWords (words : Words) : Type 0 where
  pub chosen : (job : Job) → (job_of words ≡ Ok job) ↔ IsWordsOfJob job words
  pub refused : (job_of words ≡ Err BadWords) ↔ ((job : Job) → ¬ IsWordsOfJob job words)
