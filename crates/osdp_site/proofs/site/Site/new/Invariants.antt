use Rattle.osdp_site.proofs.Common.{◌≡◌, ◌≤◌, replicate, vec_capacity, new_place}
use Rattle.osdp_site.proofs.site.Site.new.Given as goal

-- so many entries are made, and there is room for the others
abbrev pub invariant-loop : goal.invariant-loop
invariant-loop l = record {
  made : l.places.items ≡ replicate l.counter (new_place l.config.room l.config.bytes l.now);
  room : l.entries ≤ vec_capacity l.places;
}
