use Rattle.std.proofs.Common.{sym, ◌∙◌, arith}
use Rattle.osdp_script.proofs.Passing.{passes_all}
use Rattle.osdp_script.proofs.line.is_passed_over.Goals as goal

pub returns : goal.returns
returns c = sym (passes_all c.args.characters.now c.loop-byte.byte-index (let last = c.loop-byte-test.false in omega arith)) ∙ c.loop-byte.invariant
