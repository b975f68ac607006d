-- A capture that is read, and what has come of it.
use Rattle.std.specs.Prelude.{◌≡◌, ℕ, ◌+◌, ◌*◌, ◌≤◌, Bool, true, false, List, ◌++◌, length, take, Option, Some, None}
use Rattle.osdp_tool_streams.specs.declared.form.Form.{Form}
use Rattle.osdp_tool_streams.specs.declared.form.Form.TheVariants.{Raw, Joined, Apart}
use Rattle.osdp_tool_streams.specs.Cut.{ended_lines, unended_line}
use Rattle.osdp_tool_streams.specs.Line.{kept}
use Rattle.osdp_tool_streams.specs.Runs.{ended_runs, open_run, first_bad_ended}
use Rattle.osdp_tool_show.specs.declared.detail.Detail.{Detail}
use Rattle.osdp_tool_show.specs.Tally.{counted}
use Rattle.osdp_tool_show.specs.declared.capture.Capture.{Capture}
use Rattle.osdp_tool_show.specs.Machine.{Stands, IsSettled}
use Rattle.osdp_tool_show.specs.Shown.{shown_so_far}
use Rattle.osdp_tool_show.specs.Written.{StopsWithin}

-- more than anything that is counted
abbrev pub load : Capture → ℕ
load capture =
    counted capture.report.tally + (5 * length capture.framer.bytes + (5 * length capture.line.items + capture.ended))

-- the lines that have ended are counted, and the characters that count of the one that has not are held
pub record LineStands (read : List ℕ) (capture : Capture) : Type 0 where
  pub line : capture.line.items ≡ kept (unended_line read)
  pub count : capture.ended ≡ length (ended_lines read)

abbrev pub OpenLine : Form → List ℕ → Capture → Type 0
OpenLine Raw read capture = Unit {0}
OpenLine Joined read capture = LineStands read capture
OpenLine Apart read capture = LineStands read capture

-- these bytes have been read, no bad line among them has ended, and the items that they decide have been told
pub record HasShown (detail : Detail) (form : Form) (start : Option (List ℕ)) (read : List ℕ) (capture : Capture) (now : Option (List ℕ)) : Type 0 where
  pub form_is : capture.form ≡ form
  pub stands : Stands detail start (ended_runs form read) (open_run form read) capture.framer capture.report now
  pub open_line : OpenLine form read capture
  pub good : first_bad_ended form read ≡ None

-- a bad line among them has ended, and the items of what stands before it have been told
pub record Stops (detail : Detail) (form : Form) (start : Option (List ℕ)) (read : List ℕ) (capture : Capture) (now : Option (List ℕ)) : Type 0 where
  pub stands : Stands detail start (ended_runs form read) (open_run form read) capture.framer capture.report now
  pub bad : first_bad_ended form read ≡ Some capture.ended

abbrev pub HasShownIf : Bool → Detail → Form → Option (List ℕ) → List ℕ → Capture → Option (List ℕ) → Type 0
HasShownIf true detail form start read capture now = HasShown detail form start read capture now
HasShownIf false detail form start read capture now = Stops detail form start read capture now

-- the capture went on by these bytes; good is whether no bad line ended
pub record TookPiece (piece : List ℕ) (good : Bool) (old new : Capture) (before after : Option (List ℕ)) : Type 0 where
  pub follows : (detail : Detail) (form : Form) (start : Option (List ℕ)) (read : List ℕ)
      → HasShown detail form start read old before → HasShownIf good detail form start (read ++ piece) new after
  pub settled : IsSettled new.framer
  pub form_is : new.form ≡ old.form
  pub load_is : load new ≤ load old + 5 * length piece

-- The capture went on by these bytes, all of them where no bad line ended, else by those to the end of the bad
-- line, and what stands after it changes nothing.
abbrev pub TookPart : List ℕ → Bool → Capture → Capture → Option (List ℕ) → Option (List ℕ) → Type 0
TookPart piece true old new before after = TookPiece piece true old new before after
TookPart piece false old new before after = (most : ℕ) × TookPiece (take most piece) false old new before after

-- a call stopped within a piece: what was written is a beginning of the text of what was read before with a front of the piece
abbrev pub StopsInPiece : List ℕ → Capture → Option (List ℕ) → Option (List ℕ) → Type 0
StopsInPiece piece old before now = (detail : Detail) (form : Form) (start : Option (List ℕ)) (read : List ℕ) → HasShown detail form start read old before
    → (front : List ℕ) × (rest : List ℕ) × (piece ≡ front ++ rest) × StopsWithin start now (shown_so_far detail form (read ++ front))
