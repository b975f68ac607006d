-- A reader by its place.
use Rattle.osdp_sim_bus.proofs.Common.{◌≡◌, ℕ, ◌<◌, ◌-◌, ◌&&◌, nat_le, Bool, true, false, arith, List, length, get_or, Some, refl, sym, ap, ◌∙◌, option_map, slice_get, slice_set, option_map_or, leb-true, length-map, map-set, slice_get-get_or, slice_get-map, site_of, sites_of, ReaderSite, changed_site}
use Rattle.osdp_sim_bus.specs.declared.site.ReaderSite as declared

-- the one at a place is changed
pub changed_there : {H : Type 0} (change : ReaderSite H → ReaderSite H) (sites : List (declared.ReaderSite H)) (place : ℕ) (default next : declared.ReaderSite H)
    → place < length sites → site_of next ≡ change (site_of (get_or sites place default))
    → sites_of (slice_set sites place next) ≡ changed_site place change (sites_of sites)
changed_there change sites place default next within is =
    let there : slice_get (sites_of sites) place ≡ Some (site_of (get_or sites place default)) =
    slice_get-map site_of sites place ∙ ap (option_map site_of) (slice_get-get_or sites place default within) in
    map-set site_of sites place next ∙ ap (slice_set (sites_of sites) place) is
    ∙ sym (ap (λ o. option_map_or (λ site. slice_set (sites_of sites) place (change site)) o (sites_of sites)) there)

pub both : (a b : Bool) → (a && b) ≡ true → (a ≡ true) × (b ≡ true)
both true b e = (refl, e)
both false b e = absurd cc

-- readers count from 1
pub there_within : {H : Type 0} (number : ℕ) (sites : List (declared.ReaderSite H)) → (nat_le 1 number && nat_le number (length (sites_of sites))) ≡ true
    → number - 1 < length sites
there_within number sites there =
    let parts = both (nat_le 1 number) (nat_le number (length (sites_of sites))) there in
    omega (arith, leb-true 1 number parts.0, leb-true number (length (sites_of sites)) parts.1, length-map sites site_of)
