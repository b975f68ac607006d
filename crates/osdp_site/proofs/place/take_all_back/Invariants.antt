use Rattle.osdp_site.proofs.Common.{◌≡◌, withdraws}
use Rattle.osdp_site.proofs.place.take_all_back.Given as goal

-- so many were taken back
abbrev pub invariant-loop : goal.invariant-loop
invariant-loop l = l.panel ≡ withdraws l.entry l.counter l.initial.panel
