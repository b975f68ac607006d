-- How an input of lines is answered: what was read, and what was written.
use Rattle.std.specs.Prelude.{◌≡◌, ℕ, ◌≤◌, Bool, true, false, List, length, Option, Result, Ok, Err}
use Rattle.std.specs.Io.KnownBytes.{Appends, Consumes, IsAtEnd}
use Rattle.osdp_tool_streams.specs.Cut.{ended_lines, lines_of}
use Rattle.osdp_tool_streams.specs.declared.fault.ToolFault.{ToolFault}
use Rattle.osdp_tool_streams.specs.declared.fault.ToolFault.TheVariants.{NotHex, TooLong, BadWords, BadStep}
use Rattle.osdp_tool_streams.specs.declared.fault.ToolFault.TheVariants.{HoldsPacket, NotQuiet, ReadFailed}
use Rattle.osdp_tool_streams.specs.declared.fault.ToolFault.TheVariants.{WriteFailed, NoMemory}
use Rattle.osdp_line_answers.specs.Answers.{Answering, Speaks}
use Rattle.osdp_line_answers.specs.Steps.{FrontAnswered, most_reads}

-- these lines of what was read were answered, each, and nothing else was written
pub record AllAnswered {M : Type 0} (answers : Answering M) (lines_in : List ℕ → List (List ℕ)) (first last : M)
    (input_before input_after before after : Option (List ℕ)) : Type 0 where
  pub read : List ℕ
  pub taken : Consumes input_before input_after read
  pub text : List ℕ
  pub speaks : Speaks answers first (lines_in read) text last
  pub written : Appends before after text

-- a fault stopped it: what was written is a beginning of the answers to the lines of what was read
pub record SomeAnswered {M : Type 0} (answers : Answering M) (first : M) (input_before input_after before after : Option (List ℕ)) (fault : ToolFault) : Type 0 where
  pub read : List ℕ
  pub taken : Consumes input_before input_after read
  pub stops : FrontAnswered answers first (lines_of read) before after fault

-- By the answer: all lines of the input; at a failed read, and where the input is too long, those lines that ended before it.
-- It is too long where at least as many bytes were read as reads are made at most.
abbrev pub Ends : {M : Type 0} → Answering M → M → M → Option (List ℕ) → Option (List ℕ) → Bool
    → Option (List ℕ) → Option (List ℕ) → Bool → Result (Unit {0}) ToolFault → Type 0
Ends answers first last input_before input_after input_failed before after failed (Ok done) =
    AllAnswered answers lines_of first last input_before input_after before after × IsAtEnd input_after × (input_failed ≡ false) × (failed ≡ false)
Ends answers first last input_before input_after input_failed before after failed (Err ReadFailed) =
    AllAnswered answers ended_lines first last input_before input_after before after × (input_failed ≡ true)
Ends answers first last input_before input_after input_failed before after failed (Err TooLong) =
    (all : AllAnswered answers ended_lines first last input_before input_after before after) × (most_reads ≤ length all.read)
    × (input_failed ≡ false) × (failed ≡ false)
Ends answers first last input_before input_after input_failed before after failed (Err NoMemory) =
    SomeAnswered answers first input_before input_after before after NoMemory × (input_failed ≡ false) × (failed ≡ false)
Ends answers first last input_before input_after input_failed before after failed (Err WriteFailed) =
    SomeAnswered answers first input_before input_after before after WriteFailed × (input_failed ≡ false) × (failed ≡ true)
Ends answers first last input_before input_after input_failed before after failed (Err BadWords) = ⊥
Ends answers first last input_before input_after input_failed before after failed (Err (NotHex number)) = ⊥
Ends answers first last input_before input_after input_failed before after failed (Err (BadStep number)) = ⊥
Ends answers first last input_before input_after input_failed before after failed (Err (HoldsPacket number)) = ⊥
Ends answers first last input_before input_after input_failed before after failed (Err (NotQuiet number)) = ⊥
