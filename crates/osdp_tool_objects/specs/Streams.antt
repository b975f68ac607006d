-- The lines of `monitor` as they are written, and the objects that are written for them.
use Rattle.std.specs.Prelude.{◌≡◌, ◌⊎◌, ◌&&◌, ◌+◌, ◌-◌, not, ℕ, Bool, true, false, if◌then◌else◌, List, [], ◌∷◌, ◌++◌, flat_map, length, map, take, Option, None, Some}
use Rattle.std.specs.Io.KnownBytes.{Appends, Keeps}
use Rattle.std.specs.Str.{bytes_eq}
use Rattle.osdp_tool_streams.specs.Cut.{ended_after, ended_lines, unended_after}
use Rattle.osdp_tool_streams.specs.Watched.{AppendsPart}
use Rattle.osdp_tool_streams.specs.declared.fault.ToolFault.{ToolFault}
use Rattle.osdp_tool_streams.specs.declared.fault.ToolFault.TheVariants.{NoMemory, WriteFailed}
use Rattle.osdp_tool_objects.specs.Objects.{object_of}

-- the objects of lines without a stamp, one after the other
abbrev pub objects_of : List (List ℕ) → List ℕ
objects_of lines = flat_map (object_of []) lines

-- what is written for bytes, after those of a line that had not ended
abbrev pub written_after : List ℕ → List ℕ → List ℕ
written_after held bytes = objects_of (ended_after held bytes)

-- what stands then of a line that has not ended
abbrev pub held_after : List ℕ → List ℕ → List ℕ
held_after held bytes = unended_after held bytes

-- Why not all of a text is written, and how much is: without memory nothing, and no write has failed since. Where a write has, a beginning of it.
abbrev pub StopsWriting : List ℕ → Option (List ℕ) → Option (List ℕ) → Bool → Bool → ToolFault → Type 0
StopsWriting text before after was_failed failed fault =
    ((fault ≡ NoMemory) × Keeps before after × (failed ≡ was_failed)) ⊎ ((fault ≡ WriteFailed) × AppendsPart before after text × (failed ≡ true))

-- How much of the objects of lines is written, by what failed: without memory those of a beginning of the lines, and each of them whole. Where the output has
-- failed, a beginning of the objects. Nothing is written after it.
abbrev pub Writes : Option ToolFault → Bool → Option (List ℕ) → Option (List ℕ) → List ℕ → Type 0
Writes None failed before after lines = Appends before after (objects_of (ended_lines lines)) × (failed ≡ false)
Writes (Some NoMemory) failed before after lines = (count : ℕ) × Appends before after (objects_of (ended_lines (take count lines))) × (failed ≡ false)
Writes (Some WriteFailed) failed before after lines = (count : ℕ) × Appends before after (take count (objects_of (ended_lines lines))) × (failed ≡ true)
Writes (Some fault) failed before after lines = ⊥

-- ---- an output of lines, whose objects are written to another output

-- the bytes that were noted
abbrev pub noted : List (ℕ × Unit {0}) → List ℕ
noted notes = map (λ note. note.0) notes

-- what an output holds at first, in a form that shows where it ends
unfoldable pub marked : Option (List ℕ) → List ℕ
marked None = 0 ∷ []
marked (Some bytes) = (length bytes + 1) ∷ bytes

-- what it holds now is that and these bytes, where it is known
abbrev pub has_appended : Option (List ℕ) → Option (List ℕ) → List ℕ → Bool
has_appended None now bytes = true
has_appended (Some start) None bytes = false
has_appended (Some start) (Some now) bytes = bytes_eq now (start ++ bytes)

-- what it holds now is that and a beginning of these bytes, where it is known
abbrev pub has_appended_part : Option (List ℕ) → Option (List ℕ) → List ℕ → Bool
has_appended_part None now bytes = true
has_appended_part (Some start) None bytes = false
has_appended_part (Some start) (Some now) bytes = bytes_eq now (start ++ take (length now - length start) bytes)

-- Of the lines that were taken the objects were written, and nothing else, and what has not ended of them is held. The bytes whose objects weren't written are lost:
-- without memory none of these was, and where the output has failed, a beginning of them.
abbrev pub is_written : Option ToolFault → Bool → Option (List ℕ) → Option (List ℕ) → List ℕ → List ℕ → List ℕ → Bool
is_written None failed start now held taken lost =
    not failed && (has_appended start now (written_after [] taken) && (bytes_eq held (held_after [] taken) && bytes_eq lost []))
is_written (Some NoMemory) failed start now held taken lost = not failed && has_appended start now (written_after [] taken)
is_written (Some WriteFailed) failed start now held taken lost = failed && has_appended_part start now (written_after [] (taken ++ lost))
is_written (Some fault) failed start now held taken lost = false

-- what it holds as an output of lines: what stood in the other output at first, and the lines that it took, as long as their objects are written so
abbrev pub taken_so : Bool → Option (List ℕ) → List ℕ → Option (List ℕ)
taken_so known start taken = if known then Some (marked start ++ taken) else None
