use Rattle.osdp_site.proofs.Common.{◌≡◌, ◌+◌, drop, submits}
use Rattle.osdp_site.proofs.place.Place.refresh.Given as goal

-- what is left is submitted as all that was due is; of the entry nothing but the count of what is done changes
abbrev pub invariant-loop-at : goal.invariant-loop-at
invariant-loop-at l = record {
  count : l.at + (submits l.entry (drop l.at l.initial.self-inside.wanted.items) l.panel).count
      ≡ l.initial.self-inside.done + (submits l.entry (drop l.initial.self-inside.done l.initial.self-inside.wanted.items) l.initial.panel).count;
  panel : (submits l.entry (drop l.at l.initial.self-inside.wanted.items) l.panel).panel
      ≡ (submits l.entry (drop l.initial.self-inside.done l.initial.self-inside.wanted.items) l.initial.panel).panel;
  wanted : l.self-inside.wanted ≡ l.initial.self-inside.wanted;
  room : l.self-inside.room ≡ l.initial.self-inside.room;
  bytes : l.self-inside.bytes ≡ l.initial.self-inside.bytes;
  presence : l.self-inside.presence ≡ l.initial.self-inside.presence;
  begins : l.self-inside.begins ≡ l.initial.self-inside.begins;
  done : l.self-inside.done ≡ l.at;
}
