-- What holds of the objects, in the words of whoever reads them.
use Rattle.std.specs.Prelude.{◌≡◌, ℕ, Bool, List, ◌++◌, Option, Some}
use Rattle.std.specs.Io.KnownBytes.{Appends}
use Rattle.osdp_tool_streams.specs.declared.fault.ToolFault.{ToolFault}
use Rattle.osdp_tool_objects.specs.Streams.{Writes, held_after, is_written, marked, taken_so, written_after}

-- bytes that come in two pieces, and so in any, give the objects that they give in one
abbrev pub PiecesGiveTheSame : Type 0
PiecesGiveTheSame = (held first second : List ℕ)
    → written_after held (first ++ second) ≡ written_after held first ++ written_after (held_after held first) second

-- and hold what one piece holds
abbrev pub PiecesHoldTheSame : Type 0
PiecesHoldTheSame = (held first second : List ℕ) → held_after held (first ++ second) ≡ held_after (held_after held first) second

-- an output of lines that took these has written their objects, or as many as it says by what failed, and nothing else, after what stood in the other output
abbrev pub WritesTheirObjects : Type 0
WritesTheirObjects = (fault : Option ToolFault) (failed : Bool) (first start now : Option (List ℕ)) (held taken lost lines : List ℕ)
    → Appends (Some (marked first)) (taken_so (is_written fault failed start now held taken lost) start (taken ++ lost)) lines → Writes fault failed first now lines
