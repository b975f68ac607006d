-- How far an input was read and told, whatever the answer is.
use Rattle.std.specs.Prelude.{◌≡◌, ◌↔◌, ◌⊎◌, ℕ, ◌+◌, ◌≤◌, Bool, true, false, List, ◌++◌, length, Option, Some, None, Result, Err}
use Rattle.std.specs.Io.KnownBytes.{Appends}
use Rattle.osdp_tool_streams.specs.declared.form.Form.{Form}
use Rattle.osdp_tool_streams.specs.Runs.{first_bad_ended}
use Rattle.osdp_tool_streams.specs.declared.fault.ToolFault.{ToolFault}
use Rattle.osdp_tool_streams.specs.declared.fault.ToolFault.TheVariants.{NotHex, ReadFailed, WriteFailed}
use Rattle.osdp_tool_show.specs.declared.detail.Detail.{Detail}
use Rattle.osdp_tool_show.specs.Ending.{Ends, EndsWhole, Stream, piece_size, streamed}
use Rattle.osdp_tool_show.specs.Shown.{shown, shown_so_far}
use Rattle.osdp_tool_show.specs.Written.{StopsWithin}

-- a failed read is told exactly where the input failed, and a failed write exactly where the output alone did
pub record TellsFailures (input output : Stream) (result : Result Bool ToolFault) : Type 0 where
  pub read : (result ≡ Err ReadFailed) ↔ (input.failed ≡ true)
  pub write : (result ≡ Err WriteFailed) ↔ ((input.failed ≡ false) × (output.failed ≡ true))

-- what was written is a beginning of the text of these bytes, as of an input that goes on, or of one that has ended
abbrev pub TellsSome : Detail → Form → List ℕ → Stream → Type 0
TellsSome detail form front output =
    StopsWithin output.before output.after (shown_so_far detail form front) ⊎ StopsWithin output.before output.after (shown detail form front)

-- Of these bytes a front was read, no more than the limit and one byte, and the rest is left. What was written tells of a front of it and of nothing else. After the
-- piece in which a bad line ended nothing was read. Where a read failed, what was read until then is told, unless the output failed too.
pub record IsReadInTurn (detail : Detail) (form : Form) (limit : ℕ) (bytes : List ℕ) (input output : Stream) (result : Result Bool ToolFault) : Type 0 where
  pub read : List ℕ
  pub rest : List ℕ
  pub whole : bytes ≡ read ++ rest
  pub left : input.after ≡ Some rest
  pub within : length read ≤ limit + 1
  pub told : (front : List ℕ) × (more : List ℕ) × (read ≡ front ++ more) × TellsSome detail form front output
  pub soon : (line : ℕ) → result ≡ Err (NotHex line)
      → (earlier : List ℕ) × (piece : List ℕ) × (read ≡ earlier ++ piece) × (length piece ≤ piece_size) × (first_bad_ended form earlier ≡ None)
  pub failed : result ≡ Err ReadFailed
      → (first_bad_ended form read ≡ None) × (output.failed ≡ false → Appends output.before output.after (shown_so_far detail form read))

-- however a call ends
abbrev pub EndsByItsBytes : Type 0
EndsByItsBytes = (detail : Detail) (form : Form) (limit : ℕ) (before after : Option (List ℕ)) (failed : Bool) (output : Stream) (result : Result Bool ToolFault)
    → Ends detail form limit (streamed before after failed) output result → EndsWhole detail form limit (streamed before after failed) output result

abbrev pub EndsInTurn : Type 0
EndsInTurn = (detail : Detail) (form : Form) (limit : ℕ) (bytes : List ℕ) (after : Option (List ℕ)) (failed : Bool) (output : Stream) (result : Result Bool ToolFault)
    → let input = streamed (Some bytes) after failed in
    Ends detail form limit input output result → TellsFailures input output result × IsReadInTurn detail form limit bytes input output result
