use Rattle.osdp_script.proofs.Common.{◌≡◌, length, outputs_after}
use Rattle.osdp_script.proofs.outputs.switch_all.Given as goal

-- the records that are left do to the outputs as they are what all of them do to those at first
abbrev pub invariant-records : goal.invariant-records
invariant-records l = outputs_after l.outputs l.left ≡ outputs_after l.fn.outputs l.fn.records

abbrev pub decreases-records : goal.decreases-records
decreases-records l = length l.left
