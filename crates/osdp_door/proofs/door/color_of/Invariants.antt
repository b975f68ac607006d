use Rattle.std.proofs.Common.{◌≡◌, length}
use Rattle.osdp_door.specs.DoorRules.{color_after}
use Rattle.osdp_door.proofs.door.color_of.Given as goal

abbrev pub invariant-records : goal.invariant-records
invariant-records l = color_after l.color l.left ≡ color_after l.fn.color l.fn.records

abbrev pub decreases-records : goal.decreases-records
decreases-records l = length l.left
