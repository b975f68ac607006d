use Rattle.std.proofs.Common.{◌≡◌, ◌+◌, length}
use Rattle.osdp_rules.specs.Delays.{nth_from}
use Rattle.osdp_rules.proofs.delays.nth_least.Given as goal

-- the buckets that are left tell what all of them do
abbrev pub invariant-buckets : goal.invariant-buckets
invariant-buckets l = (nth_from l.bucket l.needed l.left ≡ nth_from 0 l.n l.counts) × (l.bucket + length l.left ≡ 1001)

abbrev pub decreases-buckets : goal.decreases-buckets
decreases-buckets l = length l.left
