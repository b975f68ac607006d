-- What a session that begins takes back, and that nothing else changes.
use Rattle.osdp_site.proofs.Common.{◌≡◌, ◌∙◌, ap, ℕ, zero, suc, arith, Bool, true, false, List, [], ◌∷◌, length, drop, Option, Some, None, refl, if◌then◌else◌, ◌≢◌, is_some, slice_get, slice_set, option_map_or, BusState, Acted, begins_anew, withdraws, is_due}
use Rattle.std.specs.Prelude.{◌-◌, max, option_map, unwrap_or}
use Rattle.osdp_controller.specs.declared.state.State.{State}
use Rattle.osdp_controller.specs.declared.state.State.TheVariants.{Closed}
use Rattle.osdp_controller.specs.Held.{on_its_way}
use Rattle.osdp_controller.specs.Machine.{refused_unless_closed}
use Rattle.osdp_controller.specs.States.{is_closed}
use Rattle.osdp_bus.specs.declared.entry.Entry.{Entry}
use Rattle.osdp_bus.specs.declared.fault.BusFault.{BusFault}
use Rattle.osdp_bus.specs.Buses.{device_of, seen}
use Rattle.osdp_bus.specs.Machine.{after_begin_at, after_withdraw_at, begin_refusal_at, begin_refusal_of, bus_fault, changed_unless, entry_begins, entry_withdraws}
use Rattle.osdp_site.specs.Acting.{emptied, refreshes, waiting_at}
use Rattle.osdp_site.specs.Beginning.{BeginsAnew, HasBegunAnew, LeavesOthers, is_closed_in, waiting_in}

-- ---- an item of a list

pub set_here : {X : Type 0} (xs : List X) (i : ℕ) (x y : X) → slice_get xs i ≡ Some x → slice_get (slice_set xs i y) i ≡ Some y
set_here [] i x y at = absurd cc
set_here (z ∷ xs) zero x y at = refl
set_here (z ∷ xs) (suc i) x y at = set_here xs i x y at

pub set_elsewhere : {X : Type 0} (xs : List X) (i j : ℕ) (y : X) → j ≢ i → slice_get (slice_set xs i y) j ≡ slice_get xs j
set_elsewhere [] i j y other = refl
set_elsewhere (x ∷ xs) zero zero y other = absurd (other refl)
set_elsewhere (x ∷ xs) zero (suc j) y other = refl
set_elsewhere (x ∷ xs) (suc i) zero y other = refl
set_elsewhere (x ∷ xs) (suc i) (suc j) y other = set_elsewhere xs i j y (λ same. other (ap suc same))

-- ---- of other entries

pub nothing : (entry : ℕ) (b : BusState) → LeavesOthers entry b b
nothing entry b = record { devices = λ other unlike. refl; report = refl; remembered = refl }

pub follows : (entry : ℕ) (a b c : BusState) → LeavesOthers entry a b → LeavesOthers entry b c → LeavesOthers entry a c
follows entry a b c first next = record {
  devices = λ other unlike. next.devices other unlike ∙ first.devices other unlike;
  report = next.report ∙ first.report;
  remembered = next.remembered ∙ first.remembered;
}

-- the bus with the device of an entry changed, where there is one
abbrev pub changed_by : Option Entry → ℕ → (Entry → Entry) → BusState → BusState
changed_by o entry change b = option_map_or (λ d. record b { devices = record b.devices { entries = slice_set b.devices.entries entry (change d) } }) o b

pub changed_device : (o : Option Entry) (entry : ℕ) (change : Entry → Entry) (b : BusState) → LeavesOthers entry b (changed_by o entry change b)
changed_device None entry change b = nothing entry b
changed_device (Some d) entry change b = record {
  devices = λ other unlike. set_elsewhere b.devices.entries entry other (change d) unlike;
  report = refl;
  remembered = refl;
}

withdrawn : (n entry : ℕ) (b : BusState) → LeavesOthers entry b (withdraws entry n b)
withdrawn zero entry b = nothing entry b
withdrawn (suc n) entry b =
    let c = withdraws entry n b in
    follows entry b c (after_withdraw_at entry c) (withdrawn n entry b) (changed_device (device_of entry c) entry entry_withdraws c)

others_stay : (entry now : ℕ) (b : BusState) → LeavesOthers entry b (begins_anew entry now b)
others_stay entry now b = by (begin_refusal_at entry b)
  where
    by : (r : Option BusFault) → LeavesOthers entry b (changed_unless r b (emptied entry (after_begin_at entry now b)))
    by (Some fault) = nothing entry b
    by None =
        let c = after_begin_at entry now b in
        let h = changed_device (device_of entry b) entry (entry_begins (max b.greatest now)) (seen now b) in
        follows entry b c (emptied entry c) (record { devices = h.devices; report = h.report; remembered = h.remembered }) (withdrawn (waiting_at entry c) entry c)

-- ---- what is taken back

changed_here : (o : Option Entry) (entry : ℕ) (change : Entry → Entry) (b : BusState) (d : Entry) → device_of entry b ≡ Some d → o ≡ Some d
    → device_of entry (changed_by o entry change b) ≡ Some (change d)
changed_here None entry change b d at is = absurd cc
changed_here (Some e) entry change b d at is =
    set_here b.devices.entries entry d (change e) at ∙ ap (λ f. Some (change f)) (let same : e ≡ d = cc in same)

device_then : (entry : ℕ) (b : BusState) (d : Entry) → device_of entry b ≡ Some d → device_of entry (after_withdraw_at entry b) ≡ Some (entry_withdraws d)
device_then entry b d at = changed_here (device_of entry b) entry entry_withdraws b d at at

one_fewer : {X : Type 0} (xs : List X) → length (drop 1 xs) ≡ length xs - 1
one_fewer [] = refl
one_fewer (x ∷ xs) = omega arith

-- a device of which no order is on its way
abbrev IsStill : Entry → Type 0
IsStill d = is_some (on_its_way d.controller.session.state) ≡ false

taken_one : (d : Entry) → IsStill d → length (entry_withdraws d).controller.waiting ≡ length d.controller.waiting - 1
taken_one d still =
    let ws = d.controller.waiting in
    ap (λ t. length (if t then ws else drop 1 ws)) still ∙ one_fewer ws

-- .. when so many were taken back
record TakenBack (entry n : ℕ) (b : BusState) (d : Entry) (e : Entry) : Type 0 where
  there : device_of entry (withdraws entry n b) ≡ Some e
  session : e.controller.session ≡ d.controller.session
  left : length e.controller.waiting ≡ length d.controller.waiting - n

taken_back : (n entry : ℕ) (b : BusState) (d : Entry) → device_of entry b ≡ Some d → IsStill d → (e : Entry) × TakenBack entry n b d e
taken_back zero entry b d at still = (d, record { there = at; session = refl; left = omega arith })
taken_back (suc n) entry b d at still = by (taken_back n entry b d at still)
  where
    by : ((e : Entry) × TakenBack entry n b d e) → (e : Entry) × TakenBack entry (suc n) b d e
    by (e, t) =
        let same : IsStill e = ap (λ s. is_some (on_its_way s.state)) t.session ∙ still in (
          entry_withdraws e,
          record {
            there = device_then entry (withdraws entry n b) e t.there;
            session = t.session;
            left = omega (arith, taken_one e same, t.left);
          },
        )

empty : {X : Type 0} (xs : List X) → length xs ≡ 0 → xs ≡ []
empty [] is = refl
empty (x ∷ xs) is = absurd (omega arith)

no_refusal : (s : State) → is_closed s ≡ true → refused_unless_closed s ≡ None
no_refusal Closed is = refl
no_refusal _ is = absurd cc

-- nothing is on its way as a session begins, so all that waits is taken back
all_back : (entry : ℕ) (b : BusState) (d : Entry) → device_of entry b ≡ Some d → IsStill d → is_closed d.controller.session.state ≡ false → HasBegunAnew entry (emptied entry b)
all_back entry b d at still stands = by (taken_back (waiting_at entry b) entry b d at still)
  where
    all : waiting_at entry b ≡ length d.controller.waiting
    all = ap (λ o. unwrap_or (option_map (λ e. length e.controller.waiting) o) 0) at

    by : ((e : Entry) × TakenBack entry (waiting_at entry b) b d e) → HasBegunAnew entry (emptied entry b)
    by (e, t) =
        let none : e.controller.waiting ≡ [] = empty e.controller.waiting (omega (arith, t.left, all)) in
        record {
          begun = ap is_closed_in t.there ∙ ap (λ s. is_closed s.state) t.session ∙ stands;
          none_waits = ap waiting_in t.there ∙ none;
        }

begun_device : (o : Option Entry) (entry now : ℕ) (b : BusState) → device_of entry b ≡ o → is_closed_in o ≡ true → HasBegunAnew entry (begins_anew entry now b)
begun_device None entry now b at closed = absurd cc
begun_device (Some d) entry now b at closed = by (begin_refusal_at entry b) may
  where
    may : begin_refusal_at entry b ≡ None
    may = ap begin_refusal_of at ∙ ap (option_map bus_fault) (no_refusal d.controller.session.state closed)

    by : (r : Option BusFault) → r ≡ None → HasBegunAnew entry (changed_unless r b (emptied entry (after_begin_at entry now b)))
    by (Some fault) is = absurd cc
    by None is =
        all_back entry (after_begin_at entry now b) (entry_begins (max b.greatest now) d)
        (changed_here (device_of entry b) entry (entry_begins (max b.greatest now)) (seen now b) d at at) refl refl

-- ---- where a session stands

refused : (s : State) → is_closed s ≡ false → is_some (refused_unless_closed s) ≡ true
refused Closed stands = absurd cc
refused _ stands = refl

some_fault : {X Y : Type 0} (f : X → Y) (o : Option X) → is_some (option_map f o) ≡ is_some o
some_fault f None = refl
some_fault f (Some x) = refl

not_begun : (o : Option Entry) → is_closed_in o ≡ false → is_some (begin_refusal_of o) ≡ true
not_begun None stands = refl
not_begun (Some d) stands = some_fault bus_fault (refused_unless_closed d.controller.session.state) ∙ refused d.controller.session.state stands

as_it_was : (r : Option BusFault) (old new : BusState) → is_some r ≡ true → changed_unless r old new ≡ old
as_it_was (Some fault) old new is = refl
as_it_was None old new is = absurd cc

stays_open : (entry now : ℕ) (b : BusState) → is_closed_in (device_of entry b) ≡ false → begins_anew entry now b ≡ b
stays_open entry now b stands =
    as_it_was (begin_refusal_at entry b) b (emptied entry (after_begin_at entry now b)) (not_begun (device_of entry b) stands)

undue_if : (due : Bool) (entry now : ℕ) (x : Acted) → due ≡ false
    → refreshes entry (if due then record { place = record x.place { begins = None }; panel = begins_anew entry now x.panel } else x) ≡ refreshes entry x
undue_if true entry now x none = absurd cc
undue_if false entry now x none = refl

pub begins_so : (entry now : ℕ) (b : BusState) → BeginsAnew entry now b
begins_so entry now b = record {
  anew = λ closed. begun_device (device_of entry b) entry now b refl closed;
  stays = stays_open entry now b;
  others = others_stay entry now b;
  undue = λ p none. undue_if (is_due now p) entry now (record { place = p; panel = b }) none;
}
