-- How a capture is read to its end.
use Rattle.std.specs.Prelude.{◌≡◌, ◌⊎◌, ℕ, ◌+◌, ◌≤◌, Bool, true, false, if◌then◌else◌, List, ◌++◌, length, take, Option, Some, None, Result, Ok, Err}
use Rattle.std.specs.Io.KnownBytes.{Appends, Consumes, IsAtEnd}
use Rattle.osdp_tool_streams.specs.declared.form.Form.{Form}
use Rattle.osdp_tool_streams.specs.Runs.{runs_of, first_bad, closed_runs}
use Rattle.osdp_tool_show.specs.declared.detail.Detail.{Detail}
use Rattle.osdp_tool_show.specs.Tally.{no_tally}
use Rattle.osdp_tool_show.specs.ToldItems.{after_runs, runs_lines, end_line}
use Rattle.osdp_tool_streams.specs.declared.fault.ToolFault.{ToolFault}
use Rattle.osdp_tool_streams.specs.declared.fault.ToolFault.TheVariants.{NotHex, WriteFailed, NoMemory}
use Rattle.osdp_tool_show.specs.declared.capture.Capture.{Capture}
use Rattle.osdp_tool_show.specs.Machine.{IsSettled, Stands}
use Rattle.osdp_tool_show.specs.Shown.{shown, shown_so_far, is_refused_input}
use Rattle.osdp_tool_show.specs.Written.{StopsWithin}
use Rattle.osdp_tool_show.specs.Capture.{load, HasShown, TookPiece, StopsInPiece}
use Rattle.osdp_tool_show.specs.Ending.{Ends, EndsPartWay, LastPiece, OneMore, Stream}

-- the run has ended, and all that waited is written, with the counts where they are wanted
pub record Closed (old new : Capture) (before written : Option (List ℕ)) : Type 0 where
  pub text : (detail : Detail) (start : Option (List ℕ)) (ended : List (List ℕ)) (open_bytes : List ℕ)
      → Stands detail start ended open_bytes old.framer old.report before
      → Appends start written (runs_lines detail no_tally (closed_runs ended open_bytes)
      ++ end_line detail (after_runs no_tally (closed_runs ended open_bytes)))
  pub tally : (detail : Detail) (start : Option (List ℕ)) (ended : List (List ℕ)) (open_bytes : List ℕ)
      → Stands detail start ended open_bytes old.framer old.report before
      → new.report.tally ≡ after_runs no_tally (closed_runs ended open_bytes)
  pub same : new.ended ≡ old.ended

-- the input has ended after these bytes, and its last line has been told
pub record EndedInput (detail : Detail) (form : Form) (start : Option (List ℕ)) (read : List ℕ) (good : Bool) (capture : Capture) (now : Option (List ℕ)) : Type 0 where
  pub ended : List (List ℕ)
  pub open_bytes : List ℕ
  pub runs : runs_of form read ≡ closed_runs ended open_bytes
  pub bad : first_bad form read ≡ (if good then None else Some capture.ended)
  pub stands : Stands detail start ended open_bytes capture.framer capture.report now

pub record EndsLine (good : Bool) (old new : Capture) (before after : Option (List ℕ)) : Type 0 where
  pub ends : (detail : Detail) (form : Form) (start : Option (List ℕ)) (read : List ℕ)
      → HasShown detail form start read old before → EndedInput detail form start read good new after
  pub settled : IsSettled new.framer
  pub load_is : load new ≤ load old + 5

-- the end of the input
pub record ReadToEnd (limit : ℕ) (old new : Capture) (input_before input_after before after : Option (List ℕ)) : Type 0 where
  pub read : List ℕ
  pub taken : Consumes input_before input_after read
  pub at_end : IsAtEnd input_after
  pub within : length read ≤ limit
  pub took : TookPiece read true old new before after

-- a bad line in the last piece
pub record ReadToBadLine (limit : ℕ) (old new : Capture) (input_before input_after before after : Option (List ℕ)) : Type 0 where
  pub read : LastPiece limit input_before input_after
  pub most : ℕ
  pub mid : Capture
  pub middle : Option (List ℕ)
  pub took_earlier : TookPiece read.earlier true old mid before middle
  pub took : TookPiece (take most read.piece) false mid new middle after

-- the limit, and one byte more
pub record ReadToLimit (limit : ℕ) (old new : Capture) (input_before input_after before after : Option (List ℕ)) : Type 0 where
  pub read : OneMore limit input_before input_after
  pub took : TookPiece read.within true old new before after

-- a failed read
pub record ReadToFailure (limit : ℕ) (old new : Capture) (input_before input_after before after : Option (List ℕ)) : Type 0 where
  pub read : List ℕ
  pub taken : Consumes input_before input_after read
  pub within : length read ≤ limit
  pub took : TookPiece read true old new before after

-- the output or memory failed within a piece
pub record ReadPart (limit : ℕ) (old : Capture) (input_before input_after before now : Option (List ℕ)) : Type 0 where
  pub read : List ℕ
  pub piece : List ℕ
  pub taken : Consumes input_before input_after (read ++ piece)
  pub within : length (read ++ piece) ≤ limit
  pub mid : Capture
  pub middle : Option (List ℕ)
  pub took : TookPiece read true old mid before middle
  pub stops : StopsInPiece piece mid middle now

-- the input ended here, and a call stopped while it told of that: what was written is a beginning of the text of the input, as one that goes
-- on or as one that has ended
abbrev pub StopsAtEnd : Capture → Option (List ℕ) → Option (List ℕ) → Type 0
StopsAtEnd old before now = (detail : Detail) (form : Form) (start : Option (List ℕ)) (read : List ℕ) → HasShown detail form start read old before
    → StopsWithin start now (shown_so_far detail form read) ⊎ StopsWithin start now (shown detail form read)

-- a run was to end here, with the counts after it
abbrev pub StopsClosing : Capture → Option (List ℕ) → Option (List ℕ) → Type 0
StopsClosing old before now = (detail : Detail) (start : Option (List ℕ)) (ended : List (List ℕ)) (open_bytes : List ℕ)
    → Stands detail start ended open_bytes old.framer old.report before
    → StopsWithin start now (runs_lines detail no_tally (closed_runs ended open_bytes) ++ end_line detail (after_runs no_tally (closed_runs ended open_bytes)))

-- the answer at the end of an input, told and written: it holds at whatever the capture followed
abbrev pub Answered : Capture → Result Bool ToolFault → Bool → Bool → Option (List ℕ) → Option (List ℕ) → Type 0
Answered old (Ok refused) was_failed failed before written = (failed ≡ was_failed)
    × ((detail : Detail) (form : Form) (start : Option (List ℕ)) (read : List ℕ) → HasShown detail form start read old before
    → (first_bad form read ≡ None) × (refused ≡ is_refused_input form read) × Appends start written (shown detail form read))
Answered old (Err (NotHex line)) was_failed failed before written = (failed ≡ was_failed)
    × ((detail : Detail) (form : Form) (start : Option (List ℕ)) (read : List ℕ) → HasShown detail form start read old before
    → (first_bad form read ≡ Some line) × Appends start written (shown detail form read))
Answered old (Err WriteFailed) was_failed failed before written = (failed ≡ true) × StopsAtEnd old before written
Answered old (Err NoMemory) was_failed failed before written = (failed ≡ was_failed) × StopsAtEnd old before written
Answered old (Err fault) was_failed failed before written = ⊥

-- how the work ends, before the output is flushed and the answer is settled between the streams: without memory the output may have failed
abbrev pub Works : Detail → Form → ℕ → Stream → Stream → Result Bool ToolFault → Type 0
Works detail form limit input output (Err NoMemory) = (input.failed ≡ false) × EndsPartWay detail form limit input output
Works detail form limit input output result = Ends detail form limit input output result
