use Rattle.std.proofs.Common.{◌≡◌, ◌++◌, drop, map}
use Rattle.osdp_door.specs.DoorRules.{bit}
use Rattle.osdp_door.specs.Outputs.{is_on}
use Rattle.osdp_door.proofs.door.put_states.Given as goal

abbrev pub invariant-loop-output : goal.invariant-loop-output
invariant-loop-output l =
    l.place.items ++ map (λ o. bit (is_on o)) (drop l.output-index l.outputs) ≡ map (λ o. bit (is_on o)) l.outputs
