use Rattle.std.proofs.Common.{◌≡◌, length}
use Rattle.osdp_device.specs.Status.{are_there}
use Rattle.osdp_device.proofs.status.are_there.Given as goal

-- the records that are left tell what all of them do
abbrev pub invariant-records : goal.invariant-records
invariant-records l = are_there l.count l.left ≡ are_there l.count l.fn.records

abbrev pub decreases-records : goal.decreases-records
decreases-records l = length l.left
