use Rattle.osdp_script.proofs.Common.{length, plan_of}
use Rattle.osdp_script.proofs.Lines.{HasRead}
use Rattle.osdp_script.proofs.reading.read_lines.Given as goal

abbrev pub invariant-lines : goal.invariant-lines
invariant-lines l = HasRead l.fn.bytes l.rest l.count (plan_of l.draft)

abbrev pub decreases-lines : goal.decreases-lines
decreases-lines l = length l.rest
