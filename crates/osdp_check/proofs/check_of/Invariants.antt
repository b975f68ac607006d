use Rattle.std.proofs.Common.{take}
use Rattle.osdp_check.proofs.check_of.Given as goal

abbrev pub invariant-loop-byte : goal.invariant-loop-byte
invariant-loop-byte g l = g.C.Check.Took l.check (take l.byte-index l.bytes)
