use Rattle.osdp_panel.proofs.Common.{drop}
use Rattle.osdp_panel.proofs.Expiring.{IsSoFar, late_in}
use Rattle.osdp_panel.proofs.expiry.first_expiry.Given as goal

abbrev pub invariant-loop-entry : goal.invariant-loop-entry
invariant-loop-entry l = IsSoFar l.now l.first (late_in 0 l.bus l.orders) (late_in l.entry l.bus (drop l.entry l.orders))
