-- How show and check end: what they answer, what was read and what was printed.
use Rattle.std.specs.Prelude.{◌≡◌, ◌⊎◌, ℕ, ◌+◌, ◌≤◌, Bool, true, false, List, [], ◌∷◌, ◌++◌, length, Option, Some, None, Result, Ok, Err, IfSome}
use Rattle.std.specs.Io.KnownBytes.{Appends, Consumes, IsAtEnd}
use Rattle.osdp_tool_streams.specs.declared.form.Form.{Form}
use Rattle.osdp_tool_streams.specs.Runs.{first_bad, first_bad_ended}
use Rattle.osdp_tool_streams.specs.declared.fault.ToolFault.{ToolFault}
use Rattle.osdp_tool_streams.specs.declared.fault.ToolFault.TheVariants.{NotHex, TooLong, ReadFailed, WriteFailed, NoMemory}
use Rattle.osdp_tool_streams.specs.declared.watch.Watched.{Watched}
use Rattle.osdp_tool_streams.specs.Watched.{has_failed, inner_of}
use Rattle.osdp_tool_show.specs.declared.detail.Detail.{Detail}
use Rattle.osdp_tool_show.specs.Shown.{shown, shown_so_far, is_refused_input, limited_text, limited_answer}
use Rattle.osdp_tool_show.specs.Written.{StopsWithin}

-- a stream as the call found it and as it left it: the bytes that it has, where they are known, and
-- whether a call on it has failed in the end
pub record Stream : Type 0 where
  pub before : Option (List ℕ)
  pub after : Option (List ℕ)
  pub failed : Bool

abbrev pub streamed : Option (List ℕ) → Option (List ℕ) → Bool → Stream
streamed before after failed = record { before = before; after = after; failed = failed }

-- a watched stream before and after a call; `bytes` tells what bytes a stream has
abbrev pub watched : {S : Type 0} → (S → Option (List ℕ)) → Watched S → Watched S → Stream
watched bytes old new = streamed (bytes (inner_of old)) (bytes (inner_of new)) (has_failed new)

-- at most so many bytes are asked for at once
abbrev pub piece_size : ℕ
piece_size = 65536

-- what was read of the input, in its last piece and before that
pub record LastPiece (limit : ℕ) (before after : Option (List ℕ)) : Type 0 where
  pub earlier : List ℕ
  pub piece : List ℕ
  pub taken : Consumes before after (earlier ++ piece)
  pub within : length (earlier ++ piece) ≤ limit
  pub one_piece : length piece ≤ piece_size

-- as many bytes as the limit were read, and one more
pub record OneMore (limit : ℕ) (before after : Option (List ℕ)) : Type 0 where
  pub within : List ℕ
  pub byte : ℕ
  pub taken : Consumes before after (within ++ byte ∷ [])
  pub whole : length within ≡ limit

-- the input was read to its end, and all of it is shown
pub record EndsAtEnd (detail : Detail) (form : Form) (limit : ℕ) (input output : Stream) (refused : Bool) : Type 0 where
  pub read : List ℕ
  pub taken : Consumes input.before input.after read
  pub at_end : IsAtEnd input.after
  pub within : length read ≤ limit
  pub good : first_bad form read ≡ None
  pub answer : refused ≡ is_refused_input form read
  pub text : Appends output.before output.after (shown detail form read)
  pub input_well : input.failed ≡ false
  pub output_well : output.failed ≡ false

-- A bad line ended the input, and what stands before it is shown. It has ended, at a line feed or with the
-- input, and nothing was read after the piece in which it did.
pub record EndsAtBadLine (detail : Detail) (form : Form) (limit : ℕ) (input output : Stream) (line : ℕ) : Type 0 where
  pub read : LastPiece limit input.before input.after
  pub good : first_bad_ended form read.earlier ≡ None
  pub bad : first_bad form (read.earlier ++ read.piece) ≡ Some line
  pub ended : (first_bad_ended form (read.earlier ++ read.piece) ≡ Some line) ⊎ IsAtEnd input.after
  pub text : Appends output.before output.after (shown detail form (read.earlier ++ read.piece))
  pub input_well : input.failed ≡ false
  pub output_well : output.failed ≡ false

-- one byte more than the limit was read; the items that those within it decide are shown
pub record EndsPastLimit (detail : Detail) (form : Form) (limit : ℕ) (input output : Stream) : Type 0 where
  pub read : OneMore limit input.before input.after
  pub good : first_bad_ended form read.within ≡ None
  pub text : Appends output.before output.after (shown_so_far detail form read.within)
  pub input_well : input.failed ≡ false
  pub output_well : output.failed ≡ false

-- the input failed; the items that the bytes read decide are shown, or a beginning of their text where the output failed too
pub record EndsAtFailedRead (detail : Detail) (form : Form) (limit : ℕ) (input output : Stream) : Type 0 where
  pub read : List ℕ
  pub taken : Consumes input.before input.after read
  pub within : length read ≤ limit
  pub good : first_bad_ended form read ≡ None
  pub text : output.failed ≡ false → Appends output.before output.after (shown_so_far detail form read)
  pub part : StopsWithin output.before output.after (shown_so_far detail form read)
  pub input_failed : input.failed ≡ true

-- the output failed or memory ran out: what was written is a beginning of the text of the first bytes that were read, as those of an input that
-- goes on or of one that has ended
pub record EndsPartWay (detail : Detail) (form : Form) (limit : ℕ) (input output : Stream) : Type 0 where
  pub read : List ℕ
  pub more : List ℕ
  pub taken : Consumes input.before input.after (read ++ more)
  pub within : length (read ++ more) ≤ limit + 1
  pub text : StopsWithin output.before output.after (shown_so_far detail form read) ⊎ StopsWithin output.before output.after (shown detail form read)

-- by the answer
abbrev pub Ends : Detail → Form → ℕ → Stream → Stream → Result Bool ToolFault → Type 0
Ends detail form limit input output (Ok refused) = EndsAtEnd detail form limit input output refused
Ends detail form limit input output (Err (NotHex line)) = EndsAtBadLine detail form limit input output line
Ends detail form limit input output (Err TooLong) = EndsPastLimit detail form limit input output
Ends detail form limit input output (Err ReadFailed) = EndsAtFailedRead detail form limit input output
Ends detail form limit input output (Err WriteFailed) = (input.failed ≡ false) × (output.failed ≡ true) × EndsPartWay detail form limit input output
Ends detail form limit input output (Err NoMemory) = (input.failed ≡ false) × (output.failed ≡ false) × EndsPartWay detail form limit input output
Ends detail form limit input output (Err fault) = ⊥

-- where the bytes of the input are known, neither stream failed and memory did not run out, the answer and
-- the text are those of these bytes, and nothing else is printed
pub record IsWhole (detail : Detail) (form : Form) (limit : ℕ) (bytes : List ℕ) (output : Stream) (result : Result Bool ToolFault) : Type 0 where
  pub answer : result ≡ limited_answer form limit bytes
  pub text : Appends output.before output.after (limited_text detail form limit bytes)

abbrev pub EndsWhole : Detail → Form → ℕ → Stream → Stream → Result Bool ToolFault → Type 0
EndsWhole detail form limit input output result =
    IfSome input.before (λ bytes. input.failed ≡ false → output.failed ≡ false → (result ≡ Err NoMemory → ⊥)
    → IsWhole detail form limit bytes output result)
