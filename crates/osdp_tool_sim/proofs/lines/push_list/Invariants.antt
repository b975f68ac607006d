use Rattle.osdp_tool_sim.proofs.Common.{◌≡◌, ◌++◌, length, string_bytes, lines_text, named}
use Rattle.osdp_tool_sim.proofs.lines.push_list.Given as goal

-- what is written and what is to come are the whole
abbrev pub invariant-lines : goal.invariant-lines
invariant-lines g l =
    string_bytes l.text ++ lines_text (named l.fn.name (g.L.LinesLeft.left l.items))
    ≡ string_bytes l.initial.text ++ lines_text (named l.fn.name (g.L.LinesLeft.left l.initial.items))

abbrev pub decreases-lines : goal.decreases-lines
decreases-lines g l = length (g.L.LinesLeft.left l.items)
