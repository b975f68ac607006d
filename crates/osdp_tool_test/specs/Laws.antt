-- What follows from how a test of lines ends.
use Rattle.std.specs.Prelude.{◌≡◌, ◌↔◌, ◌⊎◌, ℕ, ◌≤◌, Bool, true, List, [], ◌++◌, length, take, Option, Some, Result, Err}
use Rattle.osdp_tool_streams.specs.Cut.{lines_of}
use Rattle.osdp_tool_streams.specs.declared.fault.ToolFault.{ToolFault}
use Rattle.osdp_tool_streams.specs.declared.fault.ToolFault.TheVariants.{BadWords, ReadFailed, WriteFailed, NoMemory}
use Rattle.osdp_tool_test.specs.Entries.{Told}
use Rattle.osdp_tool_test.specs.Report.{report_text}
use Rattle.osdp_tool_test.specs.Running.{AsksNone, CommandEnd, asking_words}
use Rattle.osdp_tool_test.specs.declared.report.Form.{Form}

-- a stream failed, or memory ran out
abbrev pub WasStopped : Result ℕ ToolFault → Type 0
WasStopped result = (result ≡ Err ReadFailed) ⊎ ((result ≡ Err WriteFailed) ⊎ (result ≡ Err NoMemory))

-- Where no stream fails and memory suffices, the answer, what is printed and what is left of the input are those of the words and of the bytes.
abbrev pub EndsByItsLines : CommandEnd → Type 0
EndsByItsLines Ended =
    (words : List (List ℕ)) (bytes start : List ℕ) (one_left other_left : Option (List ℕ)) (one other : List ℕ) (one_failed other_failed : Bool) (result another : Result ℕ ToolFault)
    → (WasStopped result → ⊥) → (WasStopped another → ⊥)
    → Ended words (Some bytes) one_left (Some start) (Some one) one_failed result
    → Ended words (Some bytes) other_left (Some start) (Some other) other_failed another
    → (result ≡ another) × (one ≡ other) × (one_left ≡ other_left)

module _ (Shows : Form → List (List ℕ) → List Told → Type 0) (limit : ℕ) (words : List (List ℕ)) (bytes start now : List ℕ) (left : Option (List ℕ)) where
  -- the input was read to its end, and a beginning of the report on what its lines show was printed in the form that the words ask for
  pub record IsReportedInPart : Type 0 where
    pub form : Form
    pub asked : words ≡ asking_words form
    pub entries : List Told
    pub shown : Shows form (lines_of bytes) entries
    pub within : length bytes ≤ limit
    pub ended : left ≡ Some []
    pub count : ℕ
    pub written : now ≡ start ++ take count (report_text form entries)

  -- Words that ask for no form are refused, and no others. A failed write is told where there was one, unless something else stopped the command before, and none is told where there was
  -- none. Nothing else is printed than that report; else nothing is, and nothing was read where the words are bad or a write failed.
  pub record IsToldInTurn (failed : Bool) (result : Result ℕ ToolFault) : Type 0 where
    pub refused : (result ≡ Err BadWords) ↔ AsksNone words
    pub write : failed ≡ true → (result ≡ Err WriteFailed) ⊎ ((result ≡ Err NoMemory) ⊎ (result ≡ Err BadWords))
    pub write_told : result ≡ Err WriteFailed → failed ≡ true
    pub told : IsReportedInPart ⊎ ((now ≡ start) × ((result ≡ Err BadWords) ⊎ (result ≡ Err WriteFailed) → left ≡ Some bytes))

-- however it ends
abbrev pub EndsInTurn : (Form → List (List ℕ) → List Told → Type 0) → ℕ → CommandEnd → Type 0
EndsInTurn Shows limit Ended =
    (words : List (List ℕ)) (bytes start now : List ℕ) (left : Option (List ℕ)) (failed : Bool) (result : Result ℕ ToolFault)
    → Ended words (Some bytes) left (Some start) (Some now) failed result
    → IsToldInTurn Shows limit words bytes start now left failed result
