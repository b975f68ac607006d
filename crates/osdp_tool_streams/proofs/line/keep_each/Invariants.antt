use Rattle.osdp_tool_streams.proofs.Common.{◌≡◌, ◌++◌, drop, kept}
use Rattle.osdp_tool_streams.proofs.line.keep_each.Given as goal

-- what is kept and what is to come are the whole
abbrev pub invariant-loop-byte : goal.invariant-loop-byte
invariant-loop-byte l =
    l.line.items ++ kept (drop l.byte-index l.characters) ≡ l.initial.line.items ++ kept l.characters
