-- A state that an entry is asked for: where it is refused, the entry is put back as it was.
use Rattle.osdp_site.proofs.Common.{◌≡◌, ◌∙◌, ap, sym, ℕ, zero, suc, List, [], ◌∷◌, Option, Some, None, refl, slice_get, slice_set, option_map_or, Command, SiteFault, PlaceState, after_wants, changed_unless, wants_refusal, SiteState, place_of, wants_at, wants_refusal_at}
use Rattle.osdp_site.specs.declared.fault.SiteFault.TheVariants.{NoEntry}

put_back : {X : Type 0} (xs : List X) (i : ℕ) (x : X) → slice_get xs i ≡ Some x → slice_set xs i x ≡ xs
put_back [] i x at = absurd cc
put_back (y ∷ ys) zero x at = ap (λ z. z ∷ ys) (let e : x ≡ y = cc in e)
put_back (y ∷ ys) (suc i) x at = ap (λ zs. y ∷ zs) (put_back ys i x at)

-- the site with the entry in its place
abbrev with_place : ℕ → PlaceState → SiteState → SiteState
with_place entry p s = record s { places = slice_set s.places entry p }

by_refusal : (r : Option SiteFault) (s : SiteState) (entry : ℕ) (c : Command) (p : PlaceState) → slice_get s.places entry ≡ Some p
    → with_place entry (changed_unless r p (after_wants c p)) s ≡ changed_unless r s (with_place entry (after_wants c p) s)
by_refusal (Some fault) s entry c p at = ap (λ ps. record s { places = ps }) (put_back s.places entry p at)
by_refusal None s entry c p at = refl

pub wants_back : (s : SiteState) (entry : ℕ) (c : Command) (p : PlaceState) → place_of entry s ≡ Some p
    → with_place entry (changed_unless (wants_refusal c p) p (after_wants c p)) s ≡ changed_unless (wants_refusal_at entry c s) s (wants_at entry c s)
wants_back s entry c p at =
    by_refusal (wants_refusal c p) s entry c p at
    ∙ sym (ap (λ o. changed_unless (option_map_or (wants_refusal c) o (Some NoEntry)) s (option_map_or (λ q. with_place entry (after_wants c q) s) o s)) at)
