use Rattle.std.proofs.Common.{◌≡◌, length}
use Rattle.osdp_door.specs.DoorRules.{outputs_after}
use Rattle.osdp_door.proofs.door.Door.switch.Given as goal

abbrev pub invariant-records : goal.invariant-records
invariant-records l = record {
  outputs : outputs_after l.self.outputs l.left ≡ outputs_after l.fn.self.outputs l.fn.records;
  inputs : l.self.inputs ≡ l.fn.self.inputs;
  tamper : l.self.is_tampered ≡ l.fn.self.is_tampered;
  power : l.self.has_no_power ≡ l.fn.self.has_no_power;
  color : l.self.color ≡ l.fn.self.color;
  sounds : l.self.sounds ≡ l.fn.self.sounds;
}

abbrev pub decreases-records : goal.decreases-records
decreases-records l = length l.left
