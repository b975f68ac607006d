use Rattle.std.proofs.Common.{rules}
use Rattle.osdp_site.proofs.Common.{◌≡◌, ◌<◌, Both, Some, length, place_of, refl, slice_get_read}
use Rattle.osdp_site.proofs.Stepping.{stepped}
use Rattle.osdp_site.proofs.site.Site.act.Goals as goal

pub loop-entry-preserved : goal.loop-entry-preserved
loop-entry-preserved c =
    let x : Both = record { site = record { pause = c.loop-entry.self-inside.pause; places = c.loop-entry.self-inside.places.items }; panel = c.loop-entry.panel } in
    let init : Both = record { site = record { pause = c.self.inside.pause; places = c.self.inside.places.items }; panel = c.args.panel.now } in
    let p = c.index_mut.result.now in
    let entry = c.loop-entry.entry in
    let within : entry < length x.site.places = search rules in
    let there : place_of entry x.site ≡ Some p = slice_get_read x.site.places (length x.site.places) entry p refl within c.index_mut.ensures.value in
    stepped entry c.args.now x init p c.act.new.self c.act.new.panel c.loop-entry.invariant there (search rules) (search rules)
