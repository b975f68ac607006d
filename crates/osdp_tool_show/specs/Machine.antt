-- The state of a capture that is read, step by step.
use Rattle.std.specs.Prelude.{◌≡◌, ℕ, ◌+◌, ◌*◌, ◌≤◌, Bool, true, false, List, [], ◌++◌, length, drop, string_bytes, Option, None, Result, Ok, Err}
use Rattle.std.specs.Io.KnownBytes.{Appends, append_known}
use Rattle.osdp_frame.specs.Reading.{RunItem, total_size}
use Rattle.osdp_frame.specs.Held.{Held, decided}
use Rattle.osdp_frame.specs.Bytes.{AreBytes}
use Rattle.osdp_frame.specs.Items.{items, left_over}
use Rattle.osdp_tool_streams.specs.Runs.{closed_runs}
use Rattle.osdp_tool_show.specs.declared.detail.Detail.{Detail}
use Rattle.osdp_tool_show.specs.Tally.{tally_after_all, counted}
use Rattle.osdp_tool_show.specs.ToldItems.{shown_lines, tally_so_far, lines_so_far}
use Rattle.osdp_tool_streams.specs.declared.fault.ToolFault.{ToolFault}
use Rattle.osdp_tool_streams.specs.declared.fault.ToolFault.TheVariants.{WriteFailed, NoMemory}
use Rattle.osdp_tool_show.specs.declared.report.Report.{Report}
use Rattle.osdp_tool_show.specs.Written.{StopsWithin}

-- what was written and what waits to be
abbrev pub written_or_held : Option (List ℕ) → Report → Option (List ℕ)
written_or_held contents report = append_known contents (string_bytes report.text)

-- a step went well, or told of its output or of memory; the output fails only where that is told
abbrev pub IsStep : {T : Type 0} → Result T ToolFault → Bool → Bool → Type 0
IsStep (Ok x) before after = after ≡ before
IsStep (Err WriteFailed) before after = after ≡ true
IsStep (Err NoMemory) before after = after ≡ before
IsStep (Err fault) before after = ⊥

-- the report went on by these items
pub record Tells (old new : Report) (before after : Option (List ℕ)) (parts : List RunItem) : Type 0 where
  pub detail : new.detail ≡ old.detail
  pub tally : new.tally ≡ tally_after_all old.tally parts
  pub lines : Appends before after (shown_lines old.detail old.tally parts)

-- what was written changed, and what was told did not
pub record KeepsReport (old new : Report) : Type 0 where
  pub detail : new.detail ≡ old.detail
  pub tally : new.tally ≡ old.tally
  pub text : string_bytes new.text ≡ []

-- the items that the held bytes decide have been told and taken off, and no other is decided
pub record Drained (start now : Held) (old new : Report) (before after : Option (List ℕ)) : Type 0 where
  pub tells : Tells old new before after (items start.ended start.bytes)
  pub held : now ≡ record { bytes = drop (total_size (items start.ended start.bytes)) start.bytes; ended = false }
  pub settled : decided false now.bytes ≡ None
  pub counts : counted new.tally + 5 * length now.bytes ≤ counted old.tally + 5 * length start.bytes

-- a run goes on, and none of the held bytes is decided
pub record IsSettled (held : Held) : Type 0 where
  pub bytes : AreBytes held.bytes
  pub goes_on : held.ended ≡ false
  pub none : decided false held.bytes ≡ None

-- of these runs that have ended and this one that goes on, all items that are decided have been told
pub record Stands (detail : Detail) (start : Option (List ℕ)) (ended : List (List ℕ)) (open_bytes : List ℕ) (held : Held) (report : Report) (now : Option (List ℕ)) : Type 0 where
  pub detail_is : report.detail ≡ detail
  pub tally : report.tally ≡ tally_so_far ended open_bytes
  pub held_is : held ≡ record { bytes = left_over open_bytes; ended = false }
  pub bytes : AreBytes open_bytes
  pub lines : Appends start now (lines_so_far detail ended open_bytes)

-- the run went on by these bytes
pub record Took (bytes : List ℕ) (held next : Held) (old new : Report) (before after : Option (List ℕ)) : Type 0 where
  pub stands : (detail : Detail) (start : Option (List ℕ)) (ended : List (List ℕ)) (open_bytes : List ℕ)
      → Stands detail start ended open_bytes held old before → Stands detail start ended (open_bytes ++ bytes) next new after
  pub settled : IsSettled next
  pub counts : counted new.tally + 5 * length next.bytes ≤ counted old.tally + 5 * (length held.bytes + length bytes)

-- the run ended
pub record EndedRun (held next : Held) (old new : Report) (before after : Option (List ℕ)) : Type 0 where
  pub stands : (detail : Detail) (start : Option (List ℕ)) (ended : List (List ℕ)) (open_bytes : List ℕ)
      → Stands detail start ended open_bytes held old before → Stands detail start (closed_runs ended open_bytes) [] next new after
  pub settled : IsSettled next
  pub counts : counted new.tally + 5 * length next.bytes ≤ counted old.tally + 5 * length held.bytes

-- a call stopped while it told of these bytes of a run: what was written is a beginning of the text that has theirs
abbrev pub StopsIn : List ℕ → Held → Report → Option (List ℕ) → Option (List ℕ) → Type 0
StopsIn bytes held old before now = (detail : Detail) (start : Option (List ℕ)) (ended : List (List ℕ)) (open_bytes : List ℕ)
    → Stands detail start ended open_bytes held old before → StopsWithin start now (lines_so_far detail ended (open_bytes ++ bytes))

-- .. or of the end of a run
abbrev pub StopsAtRunEnd : Held → Report → Option (List ℕ) → Option (List ℕ) → Type 0
StopsAtRunEnd held old before now = (detail : Detail) (start : Option (List ℕ)) (ended : List (List ℕ)) (open_bytes : List ℕ)
    → Stands detail start ended open_bytes held old before → StopsWithin start now (lines_so_far detail (closed_runs ended open_bytes) [])
