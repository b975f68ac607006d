-- What follows from how a script ends.
use Rattle.std.specs.Prelude.{◌≡◌, ◌⊎◌, ◌↔◌, ℕ, Bool, true, false, List, [], ◌++◌, Some, Result, Ok, Err}
use Rattle.osdp_line_answers.specs.Answers.{Speaks}
use Rattle.osdp_test_script.specs.Runs.{ends}
use Rattle.osdp_tool_script.specs.Answers.{Tells}
use Rattle.osdp_tool_script.specs.Ending.{Runs, new_script, status_of}
use Rattle.osdp_tool_script.specs.declared.telling.Script.{Script}
use Rattle.osdp_tool_streams.specs.Cut.{ended_lines, lines_of}
use Rattle.osdp_tool_streams.specs.declared.fault.ToolFault.{ToolFault}
use Rattle.osdp_tool_streams.specs.declared.fault.ToolFault.TheVariants.{BadWords, BadStep, ReadFailed, WriteFailed}

-- an answer that says how the script ended: a status, or the line that was refused
abbrev pub IsStatus : Result ℕ ToolFault → Type 0
IsStatus (Ok status) = Unit {0}
IsStatus (Err (BadStep line)) = Unit {0}
IsStatus _ = ⊥

-- each line of the input was answered in its turn, the counts stand after the answers, and the answer is by them
pub record IsWhole (all start now : List ℕ) (result : Result ℕ ToolFault) : Type 0 where
  pub text : List ℕ
  pub last : Script
  pub speaks : Speaks Tells new_script (lines_of all) text last
  pub written : now ≡ start ++ (text ++ (ends last.run).text)
  pub is : result ≡ status_of (ends last.run).run (ends last.run).run.refused

-- what is printed is a beginning of the answers to the first lines of what was read, with the counts after them
pub record IsBegun (all start now : List ℕ) : Type 0 where
  pub read : List ℕ
  pub left : List ℕ
  pub taken : all ≡ read ++ left
  pub lines : List (List ℕ)
  pub others : List (List ℕ)
  pub first : (lines_of read ≡ lines ++ others) ⊎ (ended_lines read ≡ lines ++ others)
  pub text : List ℕ
  pub last : Script
  pub speaks : Speaks Tells new_script lines text last
  pub rest : List ℕ
  pub whole : start ++ (text ++ (ends last.run).text) ≡ now ++ rest

-- the words after the command's name are refused, whatever they are; then nothing is read, and nothing printed
pub record IsRefusedWhole (words : List (List ℕ)) (all left start now : List ℕ) (result : Result ℕ ToolFault) : Type 0 where
  pub refused : (result ≡ Err BadWords) ↔ (words ≡ [] → ⊥)
  pub unread : result ≡ Err BadWords → left ≡ all
  pub silent : result ≡ Err BadWords → now ≡ start

-- Else a failed read is told exactly where there was one, and else a failed write exactly where there was one. Where a status is told, or a refused line, all lines were
-- answered; what is printed is a beginning of the answers.
pub record IsToldInTurn (words : List (List ℕ)) (all left start now : List ℕ) (input output : Bool) (result : Result ℕ ToolFault) : Type 0 where
  pub words_are_refused : IsRefusedWhole words all left start now result
  pub read : words ≡ [] → (result ≡ Err ReadFailed) ↔ (input ≡ true)
  pub write : words ≡ [] → (result ≡ Err WriteFailed) ↔ ((input ≡ false) × (output ≡ true))
  pub done : IsStatus result → IsWhole all start now result
  pub printed : words ≡ [] → IsBegun all start now

-- however it ends
abbrev pub EndsInTurn : Type 0
EndsInTurn =
    (words : List (List ℕ)) (all left start now : List ℕ) (input output : Bool) (result : Result ℕ ToolFault)
    → Runs (Some all) (Some left) (Some start) (Some now) words input output result → IsToldInTurn words all left start now input output result
