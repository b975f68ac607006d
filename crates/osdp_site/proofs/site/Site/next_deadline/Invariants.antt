use Rattle.osdp_site.proofs.Common.{◌≡◌, None, drop, earliest_from}
use Rattle.osdp_site.proofs.site.Site.next_deadline.Given as goal

-- what was found and the entries that are left give what all of them do
abbrev pub invariant-loop-place : goal.invariant-loop-place
invariant-loop-place l = earliest_from l.first (drop l.place-index l.self.places) ≡ earliest_from None l.self.places
