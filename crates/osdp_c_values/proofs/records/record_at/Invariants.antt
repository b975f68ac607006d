use Rattle.std.proofs.Common.{◌≡◌, length, slice_get}
use Rattle.osdp_c_values.proofs.records.record_at.Given as goal

-- the record that is looked for is the one of those left at the place that is left
abbrev pub invariant-records : goal.invariant-records
invariant-records g l = slice_get l.left l.before ≡ slice_get l.fn.records l.fn.at

abbrev pub decreases-records : goal.decreases-records
decreases-records g l = length l.left
