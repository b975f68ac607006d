use Rattle.osdp_ring.proofs.Common.{◌≡◌, drop, length, cut, has_first, sum_of}
use Rattle.osdp_ring.proofs.ring.has_first_in.Given as goal

-- the strings that are left tell what all of them do
abbrev pub invariant-loop-i : goal.invariant-loop-i
invariant-loop-i l = record {
  first : has_first l.byte (cut (drop l.i l.sizes.items) l.left) ≡ has_first l.byte (cut (drop l.from l.sizes.items) l.row);
  whole : sum_of (drop l.i l.sizes.items) ≡ length l.left;
}
