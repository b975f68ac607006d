use Rattle.osdp_tool_inputs.proofs.Common.{◌≡◌, ◌++◌, drop, no_stamp, parts, stamps_below}
use Rattle.osdp_tool_inputs.proofs.times.stamps.Given as goal

-- the stamps so far, and those to come
abbrev pub invariant-loop-line : goal.invariant-loop-line
invariant-loop-line l =
    parts l.found.items ++ stamps_below l.held (parts (drop l.line-index l.lines)) ≡ stamps_below no_stamp (parts l.lines)
