use Rattle.osdp_sim_bus.proofs.Common.{◌≡◌, drop, are_apart}
use Rattle.osdp_sim_bus.proofs.settings.are_apart.Given as goal

-- the readers that are left tell what all of them do
abbrev pub invariant-loop-i : goal.invariant-loop-i
invariant-loop-i g l = are_apart (drop l.i l.readers) ≡ are_apart l.readers
