use Rattle.osdp_tool_objects.proofs.Common.{◌≡◌, ◌++◌, drop, texts, columns}
use Rattle.osdp_tool_objects.proofs.members.push_columns.Given as goal

-- the members so far, and those to come
abbrev pub invariant-names : goal.invariant-names
invariant-names l =
    l.object.items ++ columns (texts (drop l.name-index l.names)) l.numbers ≡ l.initial.object.items ++ columns (texts l.names) l.initial.numbers
