use Rattle.std.proofs.Common.{◌≡◌, ◌++◌, length}
use Rattle.osdp_reader.proofs.config.keep.Given as goal

-- the records that were kept, and those that are left, are all of them
abbrev pub invariant-records : goal.invariant-records
invariant-records l = l.kept.items ++ l.left ≡ l.fn.records

abbrev pub decreases-records : goal.decreases-records
decreases-records l = length l.left
