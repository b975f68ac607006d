use Rattle.osdp_line_calls.proofs.Common.{◌≡◌, drop, first_from, is_at}
use Rattle.osdp_line_calls.proofs.listener.entry_at.Given as goal

-- the devices that are left give what all of them do
abbrev pub invariant-loop-entry : goal.invariant-loop-entry
invariant-loop-entry l = first_from l.entry (is_at l.address) (drop l.entry l.bus.devices.entries) ≡ first_from 0 (is_at l.address) l.bus.devices.entries
