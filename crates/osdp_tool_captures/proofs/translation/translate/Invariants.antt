use Rattle.std.proofs.Common.{◌-◌, length}
use Rattle.osdp_tool_captures.proofs.Cutting.{Going}
use Rattle.osdp_tool_captures.proofs.translation.translate.Given as goal

-- the lines so far were read
abbrev pub invariant-lines : goal.invariant-lines
invariant-lines l = Going l.tool l.bytes l.at l.number l.text.items

abbrev pub decreases-lines : goal.decreases-lines
decreases-lines l = length l.bytes - l.at
