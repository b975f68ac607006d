use Rattle.osdp_tool_inputs.proofs.Common.{◌≤◌, length, left_in, IsAt}
use Rattle.osdp_tool_inputs.proofs.places.Place.go_on.Given as goal

-- it comes no further than the run
abbrev pub invariant-lines : goal.invariant-lines
invariant-lines l = record { place : IsAt l.source.text.now l.source.late.now l.self; within : l.self.run ≤ l.run }

abbrev pub decreases-lines : goal.decreases-lines
decreases-lines l = length (left_in l.self.rest)
