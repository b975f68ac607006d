use Rattle.osdp_panel.proofs.Common.{◌≡◌, kept_from}
use Rattle.osdp_panel.proofs.Keeping.{so_far}
use Rattle.osdp_panel.proofs.expiry.keep_all.Given as goal

-- those so far and those that are left come to what all of them do
abbrev pub invariant-loop-entry : goal.invariant-loop-entry
invariant-loop-entry l = so_far l.entry l.entry l.bus l.orders ≡ kept_from 0 l.bus l.initial.orders
