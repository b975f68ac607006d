use Rattle.osdp_panel.proofs.Common.{◌≡◌, drop, late_from}
use Rattle.osdp_panel.proofs.expiry.first_late.Given as goal

-- the entries that are left give what all of them do
abbrev pub invariant-loop-entry : goal.invariant-loop-entry
invariant-loop-entry l = late_from l.entry l.at l.bus (drop l.entry l.orders) ≡ late_from 0 l.at l.bus l.orders
