use Rattle.std.proofs.Common.{◌≡◌, ◌++◌, take, vec_capacity}
use Rattle.osdp_ring.proofs.ring.put.Given as goal

-- the bytes so far are added, in the same block
abbrev pub invariant-loop-byte : goal.invariant-loop-byte
invariant-loop-byte l = (l.row.items ≡ l.initial.row.items ++ take l.byte-index l.own) × (vec_capacity l.row ≡ vec_capacity l.initial.row)
