use Rattle.osdp_bus.proofs.Common.{◌≡◌, drop, first_from, is_at}
use Rattle.osdp_bus.proofs.entry_list.first_at.Given as goal

-- the devices that are left give what all of them do
abbrev pub invariant-loop-i : goal.invariant-loop-i
invariant-loop-i l = first_from l.i (is_at l.address) (drop l.i l.devices) ≡ first_from 0 (is_at l.address) l.devices
