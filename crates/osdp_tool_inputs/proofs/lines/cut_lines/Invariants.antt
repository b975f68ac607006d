use Rattle.std.proofs.Common.{◌-◌, length}
use Rattle.osdp_tool_inputs.proofs.Cutting.{AreCut}
use Rattle.osdp_tool_inputs.proofs.lines.cut_lines.Given as goal

-- the lines so far
abbrev pub invariant-lines : goal.invariant-lines
invariant-lines l = AreCut l.text l.at l.lines.items

abbrev pub decreases-lines : goal.decreases-lines
decreases-lines l = length l.text - l.at
