use Rattle.osdp_site.proofs.Common.{◌≡◌, ◌∙◌, ◌<◌, ap, sym, Some, length, refl, arith, slice_get_read, slice_set, SiteState, place_of}
use Rattle.osdp_site.proofs.Wanting.{wants_back}
use Rattle.osdp_site.proofs.site.Site.wants.Goals as goal

pub returns-clause-site : goal.returns-clause-site
returns-clause-site c =
    let entry = c.args.entry in
    let s : SiteState = record { pause = c.self.inside.pause; places = c.self.inside.places.items } in
    let p = c.index_mut.result.now in
    let within : entry < length s.places = omega (arith, c.len.ensures, c.if-entry-len.false) in
    let there : place_of entry s ≡ Some p = slice_get_read s.places (length s.places) entry p refl within c.index_mut.ensures.value in
    rw (sym c.self.view_is) (ap (λ q. record s { places = slice_set s.places entry q }) c.wants.ensures.place
    ∙ wants_back s entry c.args.command.now p there)
