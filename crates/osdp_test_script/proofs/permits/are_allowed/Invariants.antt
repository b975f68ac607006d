use Rattle.std.proofs.Common.{◌≡◌, length}
use Rattle.osdp_test_script.specs.Permits.{all_allowed}
use Rattle.osdp_test_script.proofs.permits.are_allowed.Given as goal

-- the records that are left tell what all of them do
abbrev pub invariant-records : goal.invariant-records
invariant-records l = all_allowed l.fn.outputs l.left ≡ all_allowed l.fn.outputs l.fn.records

abbrev pub decreases-records : goal.decreases-records
decreases-records l = length l.left
