-- How an input of lines is read, byte by byte.
use Rattle.std.specs.Prelude.{◌≡◌, ℕ, ◌-◌, ◌^◌, ◌≤◌, Bool, true, false, List, ◌++◌, length, take, Option, Result, Ok, Err}
use Rattle.std.specs.Io.KnownBytes.{Appends, Consumes, IsAtEnd, Keeps}
use Rattle.osdp_tool_streams.specs.Cut.{ended_lines, unended_line}
use Rattle.osdp_tool_streams.specs.declared.fault.ToolFault.{ToolFault}
use Rattle.osdp_tool_streams.specs.declared.fault.ToolFault.TheVariants.{NotHex, TooLong, BadWords, BadStep}
use Rattle.osdp_tool_streams.specs.declared.fault.ToolFault.TheVariants.{HoldsPacket, NotQuiet, ReadFailed}
use Rattle.osdp_tool_streams.specs.declared.fault.ToolFault.TheVariants.{WriteFailed, NoMemory}
use Rattle.osdp_line_answers.specs.Answers.{Answering, Speaks, heard}

-- ---- the end of a line

-- its answer was written
pub record WroteAnswer {M : Type 0} (answers : Answering M) (old : M) (line : List ℕ) (new : M) (before after : Option (List ℕ)) : Type 0 where
  pub answer : List ℕ
  pub is : answers old line answer new
  pub written : Appends before after answer

-- the write failed: a beginning of its answer was written, or all of it
pub record WrotePart {M : Type 0} (answers : Answering M) (old : M) (line : List ℕ) (before after : Option (List ℕ)) : Type 0 where
  pub answer : List ℕ
  pub next : M
  pub is : answers old line answer next
  pub count : ℕ
  pub written : Appends before after (take count answer)

abbrev pub EndsLine : {M : Type 0} → Answering M → M → List ℕ → M → Option (List ℕ) → Option (List ℕ) → Bool → Bool → Result (Unit {0}) ToolFault → Type 0
EndsLine answers old line new before after was_failed failed (Ok done) = WroteAnswer answers old line new before after × (failed ≡ was_failed)
EndsLine answers old line new before after was_failed failed (Err NoMemory) = Keeps before after × (failed ≡ was_failed)
EndsLine answers old line new before after was_failed failed (Err WriteFailed) = WrotePart answers old line before after × (failed ≡ true)
EndsLine answers old line new before after was_failed failed (Err ReadFailed) = ⊥
EndsLine answers old line new before after was_failed failed (Err TooLong) = ⊥
EndsLine answers old line new before after was_failed failed (Err BadWords) = ⊥
EndsLine answers old line new before after was_failed failed (Err (NotHex number)) = ⊥
EndsLine answers old line new before after was_failed failed (Err (BadStep number)) = ⊥
EndsLine answers old line new before after was_failed failed (Err (HoldsPacket number)) = ⊥
EndsLine answers old line new before after was_failed failed (Err (NotQuiet number)) = ⊥

-- ---- a byte, or a piece

-- the output has failed since where a write did, and stands as it did else; no read is told here
abbrev pub Step : Bool → Bool → Result (Unit {0}) ToolFault → Type 0
Step was_failed failed (Ok done) = failed ≡ was_failed
Step was_failed failed (Err NoMemory) = failed ≡ was_failed
Step was_failed failed (Err WriteFailed) = failed ≡ true
Step was_failed failed (Err ReadFailed) = ⊥
Step was_failed failed (Err TooLong) = ⊥
Step was_failed failed (Err BadWords) = ⊥
Step was_failed failed (Err (NotHex number)) = ⊥
Step was_failed failed (Err (BadStep number)) = ⊥
Step was_failed failed (Err (HoldsPacket number)) = ⊥
Step was_failed failed (Err (NotQuiet number)) = ⊥

-- after so many bytes read each line that ended was answered, and what is heard of the next is held
pub record HasAnswered {M : Type 0} (answers : Answering M) (first : M) (start : Option (List ℕ)) (read : List ℕ)
    (machine : M) (line : List ℕ) (now : Option (List ℕ)) : Type 0 where
  pub text : List ℕ
  pub speaks : Speaks answers first (ended_lines read) text machine
  pub held : line ≡ heard (unended_line read)
  pub written : Appends start now text

-- these bytes bring what follows an input to what follows it with them
abbrev pub CarriesOn : {M : Type 0} → Answering M → List ℕ → M → List ℕ → Option (List ℕ) → M → List ℕ → Option (List ℕ) → Type 0
CarriesOn {M} answers piece old line before new next after =
    (first : M) (start : Option (List ℕ)) (read : List ℕ) → HasAnswered answers first start read old line before
    → HasAnswered answers first start (read ++ piece) new next after

-- the answers to some of these lines, the first ones, were written: all of them without memory, a beginning of them where the output failed
pub record FrontAnswered {M : Type 0} (answers : Answering M) (first : M) (lines : List (List ℕ)) (before after : Option (List ℕ)) (fault : ToolFault) : Type 0 where
  pub front : List (List ℕ)
  pub others : List (List ℕ)
  pub split : lines ≡ front ++ others
  pub text : List ℕ
  pub last : M
  pub speaks : Speaks answers first front text last
  pub count : ℕ
  pub written : Appends before after (take count text)
  pub whole : fault ≡ NoMemory → Appends before after text

abbrev pub StopsIn : {M : Type 0} → Answering M → List ℕ → M → List ℕ → Option (List ℕ) → Option (List ℕ) → ToolFault → Type 0
StopsIn {M} answers piece old line before after fault =
    (first : M) (start : Option (List ℕ)) (read : List ℕ) → HasAnswered answers first start read old line before
    → FrontAnswered answers first (ended_lines (read ++ piece)) start after fault

-- ---- all pieces

-- how many reads are made at most, of which each brings a byte or more but the last
abbrev pub most_reads : ℕ
most_reads = 2 ^ 64 - 1

-- all that was read, at the end of the input
pub record ReadAll {M : Type 0} (answers : Answering M) (old : M) (line : List ℕ) (new : M) (next : List ℕ)
    (input_before input_after before after : Option (List ℕ)) : Type 0 where
  pub read : List ℕ
  pub taken : Consumes input_before input_after read
  pub goes : CarriesOn answers read old line before new next after

-- a fault stopped it
pub record ReadSome {M : Type 0} (answers : Answering M) (old : M) (line : List ℕ) (input_before input_after before after : Option (List ℕ)) (fault : ToolFault) : Type 0 where
  pub read : List ℕ
  pub taken : Consumes input_before input_after read
  pub stops : StopsIn answers read old line before after fault

abbrev pub Reads : {M : Type 0} → Answering M → M → List ℕ → M → List ℕ → Option (List ℕ) → Option (List ℕ) → Bool
    → Option (List ℕ) → Option (List ℕ) → Bool → Result (Unit {0}) ToolFault → Type 0
Reads answers old line new next input_before input_after input_failed before after failed (Ok done) =
    ReadAll answers old line new next input_before input_after before after × IsAtEnd input_after × (input_failed ≡ false) × (failed ≡ false)
Reads answers old line new next input_before input_after input_failed before after failed (Err ReadFailed) =
    ReadAll answers old line new next input_before input_after before after × (input_failed ≡ true) × (failed ≡ false)
Reads answers old line new next input_before input_after input_failed before after failed (Err TooLong) =
    (all : ReadAll answers old line new next input_before input_after before after) × (most_reads ≤ length all.read)
    × (input_failed ≡ false) × (failed ≡ false)
Reads answers old line new next input_before input_after input_failed before after failed (Err NoMemory) =
    ReadSome answers old line input_before input_after before after NoMemory × (input_failed ≡ false) × (failed ≡ false)
Reads answers old line new next input_before input_after input_failed before after failed (Err WriteFailed) =
    ReadSome answers old line input_before input_after before after WriteFailed × (input_failed ≡ false) × (failed ≡ true)
Reads answers old line new next input_before input_after input_failed before after failed (Err BadWords) = ⊥
Reads answers old line new next input_before input_after input_failed before after failed (Err (NotHex number)) = ⊥
Reads answers old line new next input_before input_after input_failed before after failed (Err (BadStep number)) = ⊥
Reads answers old line new next input_before input_after input_failed before after failed (Err (HoldsPacket number)) = ⊥
Reads answers old line new next input_before input_after input_failed before after failed (Err (NotQuiet number)) = ⊥
