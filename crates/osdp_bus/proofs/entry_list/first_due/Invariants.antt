use Rattle.osdp_bus.proofs.Common.{◌≡◌, ◌+◌, drop, first_from, is_entry_due}
use Rattle.osdp_bus.proofs.entry_list.first_due.Given as goal

-- the devices that are left give what all of them do
abbrev pub invariant-loop-i : goal.invariant-loop-i
invariant-loop-i l = first_from (l.at + l.i) (is_entry_due l.now) (drop l.i l.devices) ≡ first_from l.at (is_entry_due l.now) l.devices
