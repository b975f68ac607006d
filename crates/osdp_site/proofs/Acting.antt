-- In each call of a site the sessions that are due begin anew, whatever the other entries do.
use Rattle.osdp_site.proofs.Common.{◌≡◌, ◌∙◌, ap, sym, subst, ℕ, zero, suc, ◌<◌, ◌≤◌, arith, Bool, true, false, List, [], ◌∷◌, length, Option, Some, None, refl, if◌then◌else◌, ◌≢◌, slice_get_within, option_map_or, Command, BusState, after_submit_at, order_refusal_at, Acted, Submitted, acts_at, begins_anew, begins_due, submits, submitted, unless_refused, PlaceState, due_of, is_due, is_online, Both, acts_first, place_of, put_back}
use Rattle.std.specs.Prelude.{nat_eq}
use Rattle.std.proofs.lemmas.Bool.{eqb-true, eqb-false}
use Rattle.osdp_bus.specs.declared.fault.BusFault.{BusFault}
use Rattle.osdp_bus.specs.Buses.{device_of}
use Rattle.osdp_bus.specs.Machine.{entry_submits}
use Rattle.osdp_site.specs.Acting.{refreshes}
use Rattle.osdp_site.specs.Beginning.{AllBeginAnew, HasBegunAnew, IsAwaited, IsClosed, LeavesOthers, is_closed_in, waiting_in}
use Rattle.osdp_site.proofs.Beginning.{begins_so, changed_device, nothing, set_elsewhere, follows}

-- ---- what an entry does leaves the others

submitted_unless : (r : Option BusFault) (entry : ℕ) (b : BusState) (more : Submitted) → LeavesOthers entry b more.panel → LeavesOthers entry b (unless_refused r b more).panel
submitted_unless (Some fault) entry b more left = nothing entry b
submitted_unless None entry b more left = left

submitted_all : (entry : ℕ) (cs : List Command) (b : BusState) → LeavesOthers entry b (submits entry cs b).panel
submitted_all entry [] b = nothing entry b
submitted_all entry (c ∷ cs) b =
    let after = after_submit_at entry c b in
    submitted_unless (order_refusal_at entry c b) entry b (submits entry cs after)
    (follows entry b after (submits entry cs after).panel (changed_device (device_of entry b) entry (entry_submits c) b) (submitted_all entry cs after))

refreshed_if : (online : Bool) (entry : ℕ) (x : Acted) → LeavesOthers entry x.panel (if online then submitted x.place (submits entry (due_of x.place) x.panel) else x).panel
refreshed_if true entry x = submitted_all entry (due_of x.place) x.panel
refreshed_if false entry x = nothing entry x.panel

begun_if : (due : Bool) (entry now : ℕ) (x : Acted)
    → LeavesOthers entry x.panel (if due then record { place = record x.place { begins = None }; panel = begins_anew entry now x.panel } else x).panel
begun_if true entry now x = (begins_so entry now x.panel).others
begun_if false entry now x = nothing entry x.panel

acted : (entry now : ℕ) (x : Acted) → LeavesOthers entry x.panel (acts_at entry now x).panel
acted entry now x =
    let y = begins_due entry now x in
    follows entry x.panel y.panel (acts_at entry now x).panel (begun_if (is_due now x.place) entry now x) (refreshed_if (is_online y.place.presence) entry y)

-- what one entry of a site does
abbrev on_place : ℕ → ℕ → Both → Option PlaceState → Both
on_place entry now x o = option_map_or (λ p. put_back entry x.site (acts_at entry now (record { place = p; panel = x.panel }))) o x

one_acts : (o : Option PlaceState) (entry now : ℕ) (x : Both) → LeavesOthers entry x.panel (on_place entry now x o).panel
one_acts None entry now x = nothing entry x.panel
one_acts (Some p) entry now x = acted entry now (record { place = p; panel = x.panel })

place_stays : (o : Option PlaceState) (entry other now : ℕ) (x : Both) → other ≢ entry → place_of other (on_place entry now x o).site ≡ place_of other x.site
place_stays None entry other now x unlike = refl
place_stays (Some p) entry other now x unlike =
    set_elsewhere x.site.places entry other (acts_at entry now (record { place = p; panel = x.panel })).place unlike

-- ---- before an entry acts, and after it

record IsUntouched (entry n now : ℕ) (x : Both) : Type 0 where
  place : place_of entry (acts_first n now x).site ≡ place_of entry x.site
  device : device_of entry (acts_first n now x).panel ≡ device_of entry x.panel

untouched : (n entry now : ℕ) (x : Both) → n ≤ entry → IsUntouched entry n now x
untouched zero entry now x before = record { place = refl; device = refl }
untouched (suc n) entry now x before =
    let y = acts_first n now x in
    let h = untouched n entry now x (omega arith) in
    let left = one_acts (place_of n y.site) n now y in
    let unlike : entry ≢ n = λ same. omega arith in
    record {
      place = place_stays (place_of n y.site) n entry now y unlike ∙ h.place;
      device = left.devices entry unlike ∙ h.device;
    }

still_begun : (entry n : ℕ) (b after : BusState) → entry ≢ n → LeavesOthers n b after → HasBegunAnew entry b → HasBegunAnew entry after
still_begun entry n b after unlike left h =
    let device = left.devices entry unlike in
    record { begun = ap is_closed_in device ∙ h.begun; none_waits = ap waiting_in device ∙ h.none_waits }

abbrev begun : ℕ → ℕ → Acted → Acted
begun entry now x = record { place = record x.place { begins = None }; panel = begins_anew entry now x.panel }

due_begins : (due online : Bool) (entry now : ℕ) (x : Acted) → is_due now x.place ≡ due → is_online x.place.presence ≡ online → due ≡ true → online ≡ false
    → (acts_at entry now x).panel ≡ begins_anew entry now x.panel
due_begins false online entry now x due_is online_is due offline = absurd cc
due_begins true true entry now x due_is online_is due offline = absurd cc
due_begins true false entry now x due_is online_is due offline =
    ap (λ t. (refreshes entry (if t then begun entry now x else x)).panel) due_is
    ∙ ap (λ t. (if t then submitted (begun entry now x).place (submits entry (due_of x.place) (begins_anew entry now x.panel)) else begun entry now x).panel) online_is

-- the entry itself acts
begins_here : (o : Option PlaceState) (entry now : ℕ) (p : PlaceState) (x : Both) → o ≡ Some p → is_due now p ≡ true → is_online p.presence ≡ false → IsClosed entry x.panel
    → HasBegunAnew entry (on_place entry now x o).panel
begins_here None entry now p x is due offline closed = absurd cc
begins_here (Some q) entry now p x is due offline closed =
    let same : q ≡ p = cc in
    let y : Acted = record { place = q; panel = x.panel } in
    let is_begun : (acts_at entry now y).panel ≡ begins_anew entry now x.panel =
    due_begins (is_due now q) (is_online q.presence) entry now y refl refl (ap (is_due now) same ∙ due) (ap (λ r. is_online r.presence) same ∙ offline) in
    subst (HasBegunAnew entry) (sym is_begun) ((begins_so entry now x.panel).anew closed)

begun_first : (n entry now : ℕ) (x : Both) → entry < n → IsAwaited entry now x → IsClosed entry x.panel → HasBegunAnew entry (acts_first n now x).panel
begun_first zero entry now x less awaited closed = absurd (omega arith)
begun_first (suc n) entry now x less awaited closed = by (nat_eq entry n) refl (λ earlier. begun_first n entry now x earlier awaited closed)
  where
    by : (b : Bool) → nat_eq entry n ≡ b → (entry < n → HasBegunAnew entry (acts_first n now x).panel) → HasBegunAnew entry (acts_first (suc n) now x).panel
    by true is before =
        let y = acts_first n now x in
        let same : entry ≡ n = eqb-true entry n is in
        let h = untouched n entry now x (omega (arith, same)) in
        let there : place_of n y.site ≡ Some awaited.place = ap (λ k. place_of k y.site) (sym same) ∙ h.place ∙ awaited.there in
        let still : IsClosed n y.panel = subst (λ k. IsClosed k y.panel) same (ap is_closed_in h.device ∙ closed) in
        subst (λ k. HasBegunAnew k (acts_first (suc n) now x).panel) (sym same)
        (begins_here (place_of n y.site) n now awaited.place y there awaited.due awaited.offline still)
    by false is before =
        let y = acts_first n now x in
        let unlike = eqb-false entry n is in
        let earlier : entry < n = omega (arith, less, unlike) in
        still_begun entry n y.panel (acts_first (suc n) now x).panel unlike (one_acts (place_of n y.site) n now y) (before earlier)

pub all_begin_anew : (now : ℕ) (x : Both) → AllBeginAnew now x
all_begin_anew now x entry awaited closed =
    let within = slice_get_within x.site.places entry awaited.place awaited.there in
    begun_first (length x.site.places) entry now x (let less : entry < length x.site.places = omega (arith, within) in less) awaited closed
