use Rattle.std.proofs.Common.{◌≡◌, length}
use Rattle.osdp_script.specs.Known.{all_known}
use Rattle.osdp_script.proofs.known.are_known.Given as goal

-- the records that are left tell what all of them do
abbrev pub invariant-records : goal.invariant-records
invariant-records l = all_known l.left ≡ all_known l.fn.records

abbrev pub decreases-records : goal.decreases-records
decreases-records l = length l.left
