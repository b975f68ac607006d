use Rattle.osdp_site.proofs.Common.{◌≡◌, Both, acts_first}
use Rattle.osdp_site.proofs.site.Site.act.Given as goal

-- the first so many entries have acted
abbrev pub invariant-loop-entry : goal.invariant-loop-entry
invariant-loop-entry l =
    ◌≡◌ {A = Both}
    (record { site = record { pause = l.self-inside.pause; places = l.self-inside.places.items }; panel = l.panel })
    (acts_first l.entry l.now (record { site = record { pause = l.initial.self-inside.pause; places = l.initial.self-inside.places.items }; panel = l.initial.panel }))
