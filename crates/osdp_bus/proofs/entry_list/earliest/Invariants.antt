use Rattle.osdp_bus.proofs.Common.{take, IsDueFrom, any_due}
use Rattle.osdp_bus.proofs.entry_list.earliest.Given as goal

-- what holds of the devices so far
abbrev pub invariant-loop-device : goal.invariant-loop-device
invariant-loop-device l = IsDueFrom (any_due (take l.device-index l.devices)) l.now l.first
