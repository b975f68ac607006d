use Rattle.osdp_frame.proofs.Common.{take, GoesOver}
use Rattle.osdp_frame.proofs.buffer.gone_over.Given as goal

abbrev pub invariant-loop-byte : goal.invariant-loop-byte
invariant-loop-byte g l = GoesOver g.C.Check.TookSince l.fn.front (take l.byte-index l.bytes) l.state
