-- When sessions are due.
use Rattle.osdp_site.proofs.Common.{◌≡◌, ◌∙◌, ap, sym, subst, inl, inr, ℕ, zero, suc, ◌<◌, Bool, true, false, ◌||◌, List, [], ◌∷◌, length, Option, Some, None, refl, arith, ◌⊎◌, ◌≢◌, if◌then◌else◌, min, nat_le, slice_get, slice_set, All, list_any, leb-false, leb-true, slice_get_within, option_map_or, Report, Acted, acts_at, begins_anew, begins_due, submits, submitted, IsFirstBegin, NoEnd, NoneIsDue, WaitsForThePause, heeds_all, is_end, PlaceState, after_pause, due_of, heeds, is_due, is_online, is_reached, Both, SiteState, acts_first, earlier, earliest_from, place_of, put_back}
use Rattle.osdp_controller.specs.declared.report.Report.TheVariants as report

-- ---- after the end of a session

ended : (pause now : ℕ) (r : Report) (p : PlaceState) → is_end r ≡ true → (heeds pause now r p).begins ≡ Some (after_pause pause now)
ended pause now (report.Moved command answered) p is = refl
ended pause now (report.Lost cause command) p is = refl
ended pause now _ p is = absurd cc

still : (pause now : ℕ) (r : Report) (p : PlaceState) → is_end r ≡ false → (heeds pause now r p).begins ≡ p.begins
still pause now (report.Moved command answered) p unlike = absurd cc
still pause now (report.Lost cause command) p unlike = absurd cc
still pause now _ p unlike = refl

stays : (pause : ℕ) (hs : List (Report × ℕ)) (p : PlaceState) → All NoEnd hs → (heeds_all pause hs p).begins ≡ p.begins
stays pause [] p none = refl
stays pause ((r, now) ∷ hs) p none =
    stays pause hs (heeds pause now r p) (λ k d less. none (suc k) d (omega arith)) ∙ still pause now r p (none 0 (r, now) (omega arith))

pub waits : (pause ended_at : ℕ) (r : Report) (after : List (Report × ℕ)) (p : PlaceState) → WaitsForThePause pause r ended_at after p
waits pause ended_at r after p is none at =
    ap (is_reached at) (stays pause after (heeds pause ended_at r p) none ∙ ended pause ended_at r p is)

-- ---- once all have acted

begins_if : (due : Bool) (entry now : ℕ) (x : Acted) → is_due now x.place ≡ due
    → is_due now (if due then record { place = record x.place { begins = None }; panel = begins_anew entry now x.panel } else x).place ≡ false
begins_if true entry now x is = refl
begins_if false entry now x is = is

refreshed_if : (online : Bool) (entry now : ℕ) (x y : Acted) → y.place.begins ≡ x.place.begins → is_due now x.place ≡ false
    → is_due now (if online then y else x).place ≡ false
refreshed_if true entry now x y same unlike = ap (is_reached now) same ∙ unlike
refreshed_if false entry now x y same unlike = unlike

acted : (entry now : ℕ) (x : Acted) → is_due now (acts_at entry now x).place ≡ false
acted entry now x =
    let y = begins_due entry now x in
    refreshed_if (is_online y.place.presence) entry now y (submitted y.place (submits entry (due_of y.place) y.panel)) refl (begins_if (is_due now x.place) entry now x refl)

-- at the place stands the new entry, elsewhere what stood there
abbrev IsAt : List PlaceState → ℕ → PlaceState → ℕ → PlaceState → Type 0
IsAt ps i q j f = ((j ≡ i) × (f ≡ q)) ⊎ ((j ≢ i) × (slice_get ps j ≡ Some f))

at_next : (ps : List PlaceState) (x : PlaceState) (i : ℕ) (q : PlaceState) (j : ℕ) (f : PlaceState) → IsAt ps i q j f → IsAt (x ∷ ps) (suc i) q (suc j) f
at_next ps x i q j f (inl (same, is)) = inl (ap suc same, is)
at_next ps x i q j f (inr (other, there)) = inr ((λ h. other (let e : suc j ≡ suc i = h in omega arith)), there)

replaced : (ps : List PlaceState) (i : ℕ) (q : PlaceState) (j : ℕ) (f : PlaceState) → slice_get (slice_set ps i q) j ≡ Some f → IsAt ps i q j f
replaced [] i q j f at = absurd cc
replaced (x ∷ ps) zero q zero f at = inl (refl, cc)
replaced (x ∷ ps) zero q (suc j) f at = inr ((λ h. omega arith), at)
replaced (x ∷ ps) (suc i) q zero f at = inr ((λ h. omega arith), at)
replaced (x ∷ ps) (suc i) q (suc j) f at = at_next ps x i q j f (replaced ps i q j f at)

set_length : (ps : List PlaceState) (i : ℕ) (q : PlaceState) → length (slice_set ps i q) ≡ length ps
set_length [] i q = refl
set_length (x ∷ ps) zero q = refl
set_length (x ∷ ps) (suc i) q = ap suc (set_length ps i q)

-- of the first so many entries none is due
abbrev NoneBelow : ℕ → ℕ → SiteState → Type 0
NoneBelow n now s = (entry : ℕ) (p : PlaceState) → entry < n → place_of entry s ≡ Some p → is_due now p ≡ false

abbrev on_place : ℕ → ℕ → Both → Option PlaceState → Both
on_place entry now x o = option_map_or (λ p. put_back entry x.site (acts_at entry now (record { place = p; panel = x.panel }))) o x

none_at : (o : Option PlaceState) (n now : ℕ) (x : Both) → place_of n x.site ≡ o → NoneBelow n now x.site → NoneBelow (suc n) now (on_place n now x o).site
none_at None n now x is below entry p less at = below entry p (omega (arith, less, other)) at
  where
    other : entry ≢ n
    other same = let e : Some p ≡ None = sym at ∙ ap (λ k. place_of k x.site) same ∙ is in absurd cc
none_at (Some q) n now x is below entry p less at =
    by_place (replaced x.site.places n (acts_at n now (record { place = q; panel = x.panel })).place entry p at)
  where
    by_place : IsAt x.site.places n (acts_at n now (record { place = q; panel = x.panel })).place entry p → is_due now p ≡ false
    by_place (inl (same, new)) = subst (λ f. is_due now f ≡ false) (sym new) (acted n now (record { place = q; panel = x.panel }))
    by_place (inr (other, there)) = below entry p (omega (arith, less, other)) there

none_below : (n now : ℕ) (x : Both) → NoneBelow n now (acts_first n now x).site
none_below zero now x = λ entry p less at. absurd (omega arith)
none_below (suc n) now x = let y = acts_first n now x in none_at (place_of n y.site) n now y refl (none_below n now x)

-- there are as many entries as before
same_count : (o : Option PlaceState) (n now : ℕ) (x : Both) → length (on_place n now x o).site.places ≡ length x.site.places
same_count None n now x = refl
same_count (Some q) n now x = set_length x.site.places n (acts_at n now (record { place = q; panel = x.panel })).place

count_first : (n now : ℕ) (x : Both) → length (acts_first n now x).site.places ≡ length x.site.places
count_first zero now x = refl
count_first (suc n) now x = let y = acts_first n now x in same_count (place_of n y.site) n now y ∙ count_first n now x

pub none_is_due : (now : ℕ) (x : Both) → NoneIsDue now x
none_is_due now x entry p at =
    let count = length x.site.places in
    let within = slice_get_within (acts_first count now x).site.places entry p at in
    none_below count now x entry p (let less : entry < count = omega (arith, within, count_first count now x) in less) at

-- ---- the first of them

or_nothing : (b : Bool) → (b || false) ≡ b
or_nothing true = refl
or_nothing false = refl

reached_either : (now : ℕ) (a b : Option ℕ) → is_reached now (earlier a b) ≡ (is_reached now a || is_reached now b)
reached_either now None b = refl
reached_either now (Some a) None = sym (or_nothing (nat_le a now))
reached_either now (Some a) (Some b) = by (nat_le a now) (nat_le b now) (nat_le (min a b) now) refl refl refl
  where
    by : (p q r : Bool) → nat_le a now ≡ p → nat_le b now ≡ q → nat_le (min a b) now ≡ r → r ≡ (p || q)
    by true q true a_is b_is is = refl
    by false true true a_is b_is is = refl
    by false false false a_is b_is is = refl
    by true q false a_is b_is is = absurd (let h = leb-true a now a_is in let g = leb-false (min a b) now is in omega arith)
    by false true false a_is b_is is = absurd (let h = leb-true b now b_is in let g = leb-false (min a b) now is in omega arith)
    by false false true a_is b_is is = absurd (let h = leb-false a now a_is in let k = leb-false b now b_is in let g = leb-true (min a b) now is in omega arith)

or_on : (a b c : Bool) → ((a || b) || c) ≡ (a || (b || c))
or_on true b c = refl
or_on false b c = refl

first_from : (now : ℕ) (first : Option ℕ) (ps : List PlaceState) → (is_reached now first || list_any (is_due now) ps) ≡ is_reached now (earliest_from first ps)
first_from now first [] = or_nothing (is_reached now first)
first_from now first (p ∷ ps) =
    sym (or_on (is_reached now first) (is_due now p) (list_any (is_due now) ps))
    ∙ sym (ap (λ t. t || list_any (is_due now) ps) (reached_either now first p.begins))
    ∙ first_from now (earlier first p.begins) ps

pub first_begin : (now : ℕ) (s : SiteState) → IsFirstBegin now s
first_begin now s = first_from now None s.places
