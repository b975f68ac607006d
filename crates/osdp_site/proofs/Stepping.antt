-- One entry acts after those before it.
use Rattle.osdp_site.proofs.Common.{◌≡◌, ◌∙◌, ap, sym, arith, ℕ, suc, ◌+◌, Some, option_map_or, slice_set, BusState, Acted, acts_at, PlaceState, Both, acts_first, place_of, put_back}
use Rattle.osdp_site.specs.Sites.{acts_on}

pub stepped : (k now : ℕ) (x init : Both) (p q : PlaceState) (b : BusState) → x ≡ acts_first k now init → place_of k x.site ≡ Some p
    → q ≡ (acts_at k now (record { place = p; panel = x.panel })).place → b ≡ (acts_at k now (record { place = p; panel = x.panel })).panel
    → record { site = record { pause = x.site.pause; places = slice_set x.site.places k q }; panel = b } ≡ acts_first (k + 1) now init
stepped k now x init p q b before there is_place is_panel =
    let next : k + 1 ≡ suc k = omega arith in
    let acted : Acted = acts_at k now (record { place = p; panel = x.panel }) in
    ap (λ (r : PlaceState). put_back k x.site (record { place = r; panel = b })) is_place
    ∙ ap (λ (c : BusState). put_back k x.site (record { place = acted.place; panel = c })) is_panel
    ∙ sym (ap (λ o. option_map_or (λ r. put_back k x.site (acts_at k now (record { place = r; panel = x.panel }))) o x) there)
    ∙ ap (acts_on k now) before
    ∙ sym (ap (λ (n : ℕ). acts_first n now init) next)
