use Rattle.osdp_tool_inputs.proofs.Common.{◌≡◌, ◌++◌, drop, parts, timed_line}
use Rattle.std.specs.Prelude.{flat_map}
use Rattle.osdp_tool_inputs.proofs.times.push_lines.Given as goal

-- the lines so far, and those to come
abbrev pub invariant-loop-line : goal.invariant-loop-line
invariant-loop-line l =
    l.text.items ++ flat_map (timed_line (parts l.stamps)) (parts (drop l.line-index l.lines)) ≡ l.initial.text.items ++ flat_map (timed_line (parts l.stamps)) (parts l.lines)
