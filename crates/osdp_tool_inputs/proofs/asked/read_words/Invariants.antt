use Rattle.osdp_tool_inputs.proofs.Common.{◌+◌, ◌-◌, ◌≤◌, length, texts_of}
use Rattle.osdp_tool_inputs.proofs.Fronts.{Tried}
use Rattle.osdp_tool_inputs.proofs.asked.read_words.Given as goal

-- the longer fronts are no options
abbrev pub invariant-fronts : goal.invariant-fronts
invariant-fronts l = Tried l.reads l.format (texts_of l.words) l.count × (l.count ≤ length l.words + 1)

abbrev pub decreases-fronts : goal.decreases-fronts
decreases-fronts l = length l.words + 1 - l.count
