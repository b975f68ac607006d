use Rattle.osdp_bus.proofs.Common.{◌≡◌, drop, first_from, holds}
use Rattle.osdp_bus.proofs.entry_list.first_holding.Given as goal

-- the devices that are left give what all of them do
abbrev pub invariant-loop-i : goal.invariant-loop-i
invariant-loop-i l = first_from l.i holds (drop l.i l.devices) ≡ first_from 0 holds l.devices
