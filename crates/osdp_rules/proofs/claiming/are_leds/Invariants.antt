use Rattle.std.proofs.Common.{◌≡◌, length}
use Rattle.osdp_rules.specs.Claiming.{are_leds}
use Rattle.osdp_rules.proofs.claiming.are_leds.Given as goal

-- the records that are left tell what all of them do
abbrev pub invariant-records : goal.invariant-records
invariant-records l = are_leds l.count l.left ≡ are_leds l.count l.fn.records

abbrev pub decreases-records : goal.decreases-records
decreases-records l = length l.left
