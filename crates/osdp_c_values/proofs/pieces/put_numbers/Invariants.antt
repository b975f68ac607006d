use Rattle.osdp_c_values.proofs.Common.{◌++◌, take, decimal, flat_map, IsAt}
use Rattle.osdp_c_values.proofs.pieces.put_numbers.Given as goal

-- the numbers before the place have been put
abbrev pub invariant-loop-one : goal.invariant-loop-one
invariant-loop-one l = IsAt l.initial.at l.initial.out l.end l.out (flat_map (λ n. l.before ++ decimal n) (take l.one-index l.numbers))
