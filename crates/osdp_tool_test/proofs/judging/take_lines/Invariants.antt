use Rattle.std.proofs.Common.{◌-◌, length}
use Rattle.osdp_tool_test.proofs.Taking.{Going}
use Rattle.osdp_tool_test.proofs.judging.take_lines.Given as goal

-- the lines so far were taken
abbrev pub invariant-lines : goal.invariant-lines
invariant-lines g l = Going g.T.LineTest.takes g.T.LineTest.refuses g.T.LineTest.found l.initial.test l.bytes l.at l.number l.test

abbrev pub decreases-lines : goal.decreases-lines
decreases-lines g l = length l.bytes - l.at
