-- How a script ends, by the lines of its input.
use Rattle.std.specs.Prelude.{◌≡◌, ◌⊎◌, ℕ, ◌≤◌, Bool, true, false, if◌then◌else◌, List, [], ◌++◌, length, take, Option, Some, None, Result, Ok, Err}
use Rattle.std.specs.Io.KnownBytes.{Appends, Consumes, IsAtEnd, Keeps}
use Rattle.osdp_line_answers.specs.Answers.{Speaks}
use Rattle.osdp_line_answers.specs.Ending.{AllAnswered, SomeAnswered}
use Rattle.osdp_line_answers.specs.Steps.{most_reads}
use Rattle.osdp_test_script.specs.Runs.{ends, is_accepted, new_run}
use Rattle.osdp_test_script.specs.declared.run.ScriptRun.{ScriptRun}
use Rattle.osdp_tool_script.specs.Answers.{Tells}
use Rattle.osdp_tool_script.specs.declared.telling.Script.{Script}
use Rattle.osdp_tool_streams.specs.Cut.{ended_lines, lines_of}
use Rattle.osdp_tool_streams.specs.declared.fault.ToolFault.{ToolFault}
use Rattle.osdp_tool_streams.specs.declared.fault.ToolFault.TheVariants.{NotHex, TooLong, BadWords, BadStep, HoldsPacket, NotQuiet, ReadFailed, WriteFailed, NoMemory}

abbrev pub new_script : Script
new_script = record { run = new_run }

-- 0 where each expectation was seen; where a line was refused its number is told
abbrev pub status_of : ScriptRun → Option ℕ → Result ℕ ToolFault
status_of s None = Ok (if is_accepted s then 0 else 1)
status_of s (Some line) = Err (BadStep line)

-- at the end of the input: the counts were written, or a beginning of them
pub record CountsWritten (s : Script) (before after : Option (List ℕ)) : Type 0 where
  pub written : Appends before after (ends s.run).text

pub record CountsBegun (s : Script) (before after : Option (List ℕ)) : Type 0 where
  pub count : ℕ
  pub written : Appends before after (take count (ends s.run).text)

abbrev pub Counts : Script → Option (List ℕ) → Option (List ℕ) → Bool → Bool → Result ℕ ToolFault → Type 0
Counts s before after was_failed failed (Ok status) =
    CountsWritten s before after × (Ok status ≡ status_of (ends s.run).run (ends s.run).run.refused) × (failed ≡ was_failed)
Counts s before after was_failed failed (Err (BadStep line)) =
    CountsWritten s before after × (Err (BadStep line) ≡ status_of (ends s.run).run (ends s.run).run.refused) × (failed ≡ was_failed)
Counts s before after was_failed failed (Err NoMemory) = Keeps before after × (failed ≡ was_failed)
Counts s before after was_failed failed (Err WriteFailed) = CountsBegun s before after × (failed ≡ true)
Counts s before after was_failed failed (Err TooLong) = ⊥
Counts s before after was_failed failed (Err ReadFailed) = ⊥
Counts s before after was_failed failed (Err BadWords) = ⊥
Counts s before after was_failed failed (Err (NotHex number)) = ⊥
Counts s before after was_failed failed (Err (HoldsPacket number)) = ⊥
Counts s before after was_failed failed (Err (NotQuiet number)) = ⊥

module _ (input_before input_after before after : Option (List ℕ)) where
  -- each line of the input was answered, and the counts stand after the answers: all of this was written
  pub record IsRun (result : Result ℕ ToolFault) : Type 0 where
    pub read : List ℕ
    pub taken : Consumes input_before input_after read
    pub at_end : IsAtEnd input_after
    pub text : List ℕ
    pub last : Script
    pub speaks : Speaks Tells new_script (lines_of read) text last
    pub written : Appends before after (text ++ (ends last.run).text)
    pub is : result ≡ status_of (ends last.run).run (ends last.run).run.refused

  -- .. or a beginning of it
  pub record IsPart : Type 0 where
    pub read : List ℕ
    pub taken : Consumes input_before input_after read
    pub text : List ℕ
    pub last : Script
    pub speaks : Speaks Tells new_script (lines_of read) text last
    pub count : ℕ
    pub written : Appends before after (take count (text ++ (ends last.run).text))

  -- the lines that ended before the input failed, or was too long, were answered
  pub record IsStopped : Type 0 where
    pub last : Script
    pub all : AllAnswered Tells ended_lines new_script last input_before input_after before after

  -- By the answer. Where memory is refused or a write fails, what was written is a beginning of the answers, with the counts after them.
  abbrev pub Ends : Bool → Bool → Result ℕ ToolFault → Type 0
  Ends input_failed failed (Ok status) = IsRun (Ok status) × (input_failed ≡ false) × (failed ≡ false)
  Ends input_failed failed (Err (BadStep line)) = IsRun (Err (BadStep line)) × (input_failed ≡ false) × (failed ≡ false)
  Ends input_failed failed (Err ReadFailed) = IsStopped × (input_failed ≡ true)
  Ends input_failed failed (Err TooLong) = (stopped : IsStopped) × (most_reads ≤ length stopped.all.read) × (input_failed ≡ false) × (failed ≡ false)
  Ends input_failed failed (Err NoMemory) =
      SomeAnswered Tells new_script input_before input_after before after NoMemory × (input_failed ≡ false) × (failed ≡ false)
  Ends input_failed failed (Err WriteFailed) =
      (SomeAnswered Tells new_script input_before input_after before after WriteFailed ⊎ IsPart) × (input_failed ≡ false) × (failed ≡ true)
  Ends input_failed failed (Err BadWords) = ⊥
  Ends input_failed failed (Err (NotHex number)) = ⊥
  Ends input_failed failed (Err (HoldsPacket number)) = ⊥
  Ends input_failed failed (Err (NotQuiet number)) = ⊥

  -- words after the command's name: nothing is read, and nothing written
  pub record IsRefused (result : Result ℕ ToolFault) : Type 0 where
    pub fault : result ≡ Err BadWords
    pub read : Keeps input_before input_after
    pub written : Keeps before after

  abbrev pub Runs : List (List ℕ) → Bool → Bool → Result ℕ ToolFault → Type 0
  Runs words input_failed failed result =
      ((words ≡ []) × Ends input_failed failed result) ⊎ ((words ≡ [] → ⊥) × IsRefused result)
