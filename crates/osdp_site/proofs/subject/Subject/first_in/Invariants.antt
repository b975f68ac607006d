use Rattle.osdp_site.proofs.Common.{◌≡◌, drop, first_about}
use Rattle.osdp_site.proofs.subject.Subject.first_in.Given as goal

-- the commands that are left give what all of them do
abbrev pub invariant-loop-i : goal.invariant-loop-i
invariant-loop-i l = first_about l.i l.self (drop l.i l.commands) ≡ first_about 0 l.self l.commands
