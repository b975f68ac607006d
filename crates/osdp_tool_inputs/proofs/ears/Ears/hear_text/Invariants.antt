use Rattle.osdp_tool_inputs.proofs.Common.{length, left_in}
use Rattle.osdp_tool_inputs.proofs.OneByOne.{IsHearing}
use Rattle.osdp_tool_inputs.proofs.ears.Ears.hear_text.Given as goal

-- the lines so far, and those to come
abbrev pub invariant-lines : goal.invariant-lines
invariant-lines l = IsHearing l.fn.mode l.text l.number l.self l.rest

abbrev pub decreases-lines : goal.decreases-lines
decreases-lines l = length (left_in l.rest)
