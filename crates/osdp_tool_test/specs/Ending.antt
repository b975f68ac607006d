-- How a test of lines ends.
use Rattle.std.specs.Prelude.{◌≡◌, ◌⊎◌, ℕ, ◌≤◌, ◌==◌, Bool, false, true, if◌then◌else◌, List, [], ◌∷◌, ◌++◌, length, take, Option, Result, Ok, Err}
use Rattle.std.specs.Io.KnownBytes.{Appends, Consumes, IsAtEnd, Keeps}
use Rattle.osdp_tool_streams.specs.Cut.{lines_of}
use Rattle.osdp_tool_streams.specs.declared.fault.ToolFault.{ToolFault}
use Rattle.osdp_tool_streams.specs.declared.fault.ToolFault.TheVariants.{NotHex, TooLong, BadWords, BadStep, HoldsPacket, NotQuiet, ReadFailed, WriteFailed, NoMemory}
use Rattle.osdp_tool_test.specs.Entries.{Told}
use Rattle.osdp_tool_test.specs.Report.{number_of, report_text}
use Rattle.osdp_tool_test.specs.declared.entry.Outcome.TheVariants.{Broken}
use Rattle.osdp_tool_test.specs.declared.report.Form.{Form}

-- 1 where a rule is broken
abbrev pub status_of : List Told → ℕ
status_of entries = if number_of Broken entries == 0 then 0 else 1

-- one byte more than the limit was read
pub record PastLimit (limit : ℕ) (before after : Option (List ℕ)) : Type 0 where
  pub read : List ℕ
  pub byte : ℕ
  pub taken : Consumes before after (read ++ byte ∷ [])
  pub whole : length read ≡ limit

-- the input was read to its end
pub record IsRead (limit : ℕ) (before after : Option (List ℕ)) : Type 0 where
  pub read : List ℕ
  pub taken : Consumes before after read
  pub at_end : IsAtEnd after
  pub within : length read ≤ limit

-- what is found of each rule by lines, and the number of the first one that is bad
module _ (Finds : List (List ℕ) → List Told → Type 0) (Stops : List (List ℕ) → ℕ → Type 0) (limit : ℕ) (input_before input_after : Option (List ℕ)) where
  abbrev pub Judges : Result (List Told) ToolFault → Type 0
  Judges (Ok entries) = (whole : IsRead limit input_before input_after) × Finds (lines_of whole.read) entries
  Judges (Err (BadStep number)) = (whole : IsRead limit input_before input_after) × Stops (lines_of whole.read) number
  Judges (Err TooLong) = PastLimit limit input_before input_after
  Judges (Err ReadFailed) = Unit {0}
  Judges (Err NoMemory) = Unit {0}
  Judges (Err fault) = ⊥

  module _ (form : Form) (before after : Option (List ℕ)) where
    -- the report of what is found was written
    pub record IsReported (status : ℕ) : Type 0 where
      pub whole : IsRead limit input_before input_after
      pub entries : List Told
      pub finds : Finds (lines_of whole.read) entries
      pub written : Appends before after (report_text form entries)
      pub is : status ≡ status_of entries

    -- .. or a beginning of it
    pub record IsPart : Type 0 where
      pub whole : IsRead limit input_before input_after
      pub entries : List Told
      pub finds : Finds (lines_of whole.read) entries
      pub count : ℕ
      pub written : Appends before after (take count (report_text form entries))

    -- By the answer. At a bad line, where the input is too long or can't be read, and without memory, nothing is written. Where a write failed before,
    -- nothing is read.
    abbrev pub Ends : Bool → Result ℕ ToolFault → Type 0
    Ends failed (Ok status) = IsReported status × (failed ≡ false)
    Ends failed (Err (BadStep number)) = Judges (Err (BadStep number)) × Keeps before after × (failed ≡ false)
    Ends failed (Err TooLong) = Judges (Err TooLong) × Keeps before after × (failed ≡ false)
    Ends failed (Err ReadFailed) = Keeps before after × (failed ≡ false)
    Ends failed (Err NoMemory) = Keeps before after
    Ends failed (Err WriteFailed) = (IsPart ⊎ (Keeps input_before input_after × Keeps before after)) × (failed ≡ true)
    Ends failed (Err (NotHex number)) = ⊥
    Ends failed (Err BadWords) = ⊥
    Ends failed (Err (HoldsPacket number)) = ⊥
    Ends failed (Err (NotQuiet number)) = ⊥
