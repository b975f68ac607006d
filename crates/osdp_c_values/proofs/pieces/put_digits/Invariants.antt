use Rattle.osdp_c_values.proofs.Common.{take, flat_map, IsAt, two_digits}
use Rattle.osdp_c_values.proofs.pieces.put_digits.Given as goal

-- the bytes before the place have been put
abbrev pub invariant-loop-byte : goal.invariant-loop-byte
invariant-loop-byte l = IsAt l.initial.at l.initial.out l.end l.out (flat_map two_digits (take l.byte-index l.list))
