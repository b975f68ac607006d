use Rattle.osdp_tool_objects.proofs.Common.{◌≡◌, ◌++◌, drop, noted}
use Rattle.osdp_tool_objects.proofs.stream.note.Given as goal

-- what was noted so far, and what is to come
abbrev pub invariant-loop-byte : goal.invariant-loop-byte
invariant-loop-byte l = noted l.notes.items ++ drop l.byte-index l.bytes ≡ noted l.initial.notes.items ++ l.bytes
