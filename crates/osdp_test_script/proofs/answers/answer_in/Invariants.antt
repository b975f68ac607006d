use Rattle.osdp_test_script.proofs.Common.{length, Option, Packet, IsAnswerIn}
use Rattle.osdp_test_script.proofs.answers.answer_in.Given as goal

-- the answer in the rest is the answer in all
abbrev pub invariant-items : goal.invariant-items
invariant-items l = (answer : Option Packet) → IsAnswerIn l.fn.last l.rest answer → IsAnswerIn l.fn.last l.fn.run answer

abbrev pub decreases-items : goal.decreases-items
decreases-items l = length l.rest
