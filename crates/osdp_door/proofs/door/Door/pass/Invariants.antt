use Rattle.std.proofs.Common.{◌≡◌, ◌++◌, drop, map, take}
use Rattle.osdp_door.specs.Outputs.{passed}
use Rattle.osdp_door.proofs.door.Door.pass.Given as goal

abbrev pub invariant-loop-output : goal.invariant-loop-output
invariant-loop-output l =
    l.output-items
    ≡ map (λ o. passed o l.milliseconds) (take l.output-index l.initial.output-items) ++ drop l.output-index l.initial.output-items
