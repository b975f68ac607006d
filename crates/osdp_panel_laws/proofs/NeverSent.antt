-- An order that has expired never went out: those that wait leave in front, and so do those that have no end.
use Rattle.std.proofs.Common.{◌≡◌, ◌∙◌, ap, sym, subst, refl, arith, ℕ, zero, suc, ◌+◌, ◌≤◌, Bool, true, false, max, List, [], ◌∷◌, ◌++◌, drop, length, Option, Some, None}
use Rattle.std.proofs.lemmas.Bool.{eqb-false, eqb-true}
use Rattle.std.proofs.lemmas.List.{length-append}
use Rattle.std.specs.Prelude.{◌==◌, if◌then◌else◌, is_some, option_to_list, slice_get, slice_set}
use Rattle.osdp_msg.specs.declared.command.Command.{Command}
use Rattle.osdp_controller.specs.declared.report.Report.{Report}
use Rattle.osdp_controller.specs.Held.{on_its_way}
use Rattle.osdp_controller_laws.specs.Commands.{asked_in}
use Rattle.osdp_bus.specs.declared.entry.Entry.{Entry}
use Rattle.osdp_bus.specs.Buses.{BusState, Devices, device_of, has_report, seen}
use Rattle.osdp_bus.specs.Machine.{add_refusal, after_add, after_begin_at, after_retarget_at, after_submit_at, after_withdraw_at, begin_refusal_at, changed_unless, changes_entry, entry_begins, entry_retargets, entry_submits, entry_withdraws, new_device, retarget_refusal_at, submit_refusal_at}
use Rattle.osdp_bus_laws.specs.Calls as bus
use Rattle.osdp_bus_laws.proofs.Calling.{sound_call}
use Rattle.osdp_bus_laws.proofs.OneDevice.{pending}
use Rattle.osdp_bus_laws.proofs.Sound.{SoundBus, sound_seen}
use Rattle.osdp_panel.specs.declared.fault.PanelFault.{PanelFault}
use Rattle.osdp_panel.specs.Giving.{give_refusal, give_refusal_of, late_at}
use Rattle.osdp_panel.specs.Orders.{Orders, PanelState, orders_at}
use Rattle.osdp_panel_laws.specs.Calls.{Call, Add, Retarget, Begin, Submit, Withdraw, Hear, Silence, NextReport, Tick, Write, after_call, after_calls, bus_calls, submits, withdraws}
use Rattle.osdp_panel_laws.specs.Outcome.{accepted_as, accepted_in, along}
use Rattle.osdp_panel_laws.proofs.Ahead.{Leaves, leaves_bytes, leaves_run, leaves_tick, out_in, pending_at, pending_in, set_other, set_same, tells_at}
use Rattle.osdp_panel_laws.proofs.Calling.{one_call}
use Rattle.osdp_panel_laws.proofs.Outcome.{still_sound}
use Rattle.osdp_panel_laws.proofs.Standing.{set_to}

-- ---- how many orders wait

abbrev pub waiting_in : Option Entry → ℕ
waiting_in None = 0
waiting_in (Some d) = length d.controller.waiting

abbrev pub waiting_at : ℕ → List Entry → ℕ
waiting_at k ds = waiting_in (slice_get ds k)

-- those that have no end are the one that is on its way, and those that wait
pub parts : (o : Option Entry) → length (pending_in o) ≡ length (out_in o) + waiting_in o
parts None = refl
parts (Some d) = length-append (option_to_list (asked_in d.controller.session.state)) d.controller.waiting

-- at most so many more of either
pub record Grows (k more : ℕ) (ds es : List Entry) : Type 0 where
  pub pend : length (pending_at k es) ≤ length (pending_at k ds) + more
  pub wait : waiting_at k es ≤ waiting_at k ds + more

same_grows : (k : ℕ) (ds : List Entry) → Grows k 0 ds ds
same_grows k ds = record { pend = omega arith; wait = omega arith }

-- ---- each call of the bus

from_line : (k : ℕ) (ds es : Devices) → Leaves k ds es → Grows k 0 ds.entries es.entries
from_line k ds es leaves = by_report ds.report refl
  where
    by_report : (o : Option (ℕ × Report)) → ds.report ≡ o → Grows k 0 ds.entries es.entries
    by_report None none =
        let pend : length (pending_at k ds.entries) ≡ length (tells_at k es.report ++ pending_at k es.entries) = ap length (leaves.arises none) in
        let size = length-append (tells_at k es.report) (pending_at k es.entries) in
        let out = leaves.out_arises none in
        let a = parts (slice_get ds.entries k) in
        let b = parts (slice_get es.entries k) in
        record { pend = omega (arith, pend, size); wait = omega (arith, pend, size, out, a, b) }
    by_report (Some told) some =
        let still : is_some ds.report ≡ true = ap (λ (o : Option (ℕ × Report)). is_some o) some in
        let pend : length (pending_at k es.entries) ≡ length (pending_at k ds.entries) = ap length (leaves.stays still) in
        let out = leaves.out_stays still in
        let a = parts (slice_get ds.entries k) in
        let b = parts (slice_get es.entries k) in
        record { pend = omega (arith, pend); wait = omega (arith, pend, out, a, b) }

-- a device of an entry changes
one_changes : (k entry more : ℕ) (change : Entry → Entry) (b : BusState)
    → ((d : Entry) → (length (pending (change d).controller) ≤ length (pending d.controller) + more) × (length (change d).controller.waiting ≤ length d.controller.waiting + more))
    → Grows k (if entry == k then more else 0) b.devices.entries (changes_entry entry change b).devices.entries
one_changes k entry more change b fits = by_device (device_of entry b) refl
  where
    some_more : (x : Bool) (ds : List Entry) → Grows k (if x then more else 0) ds ds
    some_more true ds = record { pend = omega arith; wait = omega arith }
    some_more false ds = record { pend = omega arith; wait = omega arith }

    by_place : (d : Entry) → device_of entry b ≡ Some d → (x : Bool) → (entry == k) ≡ x
        → Grows k (if x then more else 0) b.devices.entries (slice_set b.devices.entries entry (change d))
    by_place d at true here =
        let place : entry ≡ k = eqb-true entry k here in
        let was : slice_get b.devices.entries k ≡ Some d = ap (slice_get b.devices.entries) (sym place) ∙ at in
        let now : slice_get (slice_set b.devices.entries entry (change d)) k ≡ Some (change d) =
        ap (slice_get (slice_set b.devices.entries entry (change d))) (sym place) ∙ set_same b.devices.entries entry d (change d) at in
        let p : length (pending_at k b.devices.entries) ≡ length (pending d.controller) = ap (λ o. length (pending_in o)) was in
        let q : length (pending_at k (slice_set b.devices.entries entry (change d))) ≡ length (pending (change d).controller) = ap (λ o. length (pending_in o)) now in
        let v : waiting_at k b.devices.entries ≡ length d.controller.waiting = ap waiting_in was in
        let w : waiting_at k (slice_set b.devices.entries entry (change d)) ≡ length (change d).controller.waiting = ap waiting_in now in
        let first = (fits d).0 in
        let second = (fits d).1 in
        record { pend = omega (arith, p, q, first); wait = omega (arith, v, w, second) }
    by_place d at false other =
        let same : slice_get (slice_set b.devices.entries entry (change d)) k ≡ slice_get b.devices.entries k = set_other b.devices.entries entry k (change d) (eqb-false entry k other) in
        let p : length (pending_at k (slice_set b.devices.entries entry (change d))) ≡ length (pending_at k b.devices.entries) = ap (λ o. length (pending_in o)) same in
        let w : waiting_at k (slice_set b.devices.entries entry (change d)) ≡ waiting_at k b.devices.entries = ap waiting_in same in
        record { pend = omega (arith, p); wait = omega (arith, w) }

    by_device : (o : Option Entry) → device_of entry b ≡ o → Grows k (if entry == k then more else 0) b.devices.entries (set_to entry change b o).devices.entries
    by_device None at = some_more (entry == k) b.devices.entries
    by_device (Some d) at = by_place d at (entry == k) refl

none_more : (k : ℕ) (x : Bool) (ds es : List Entry) → Grows k (if x then 0 else 0) ds es → Grows k 0 ds es
none_more k true ds es is = is
none_more k false ds es is = is

unless : {F : Type 0} (k more : ℕ) (f : Option F) (b c : BusState) → Grows k more b.devices.entries c.devices.entries
    → Grows k more b.devices.entries (changed_unless f b c).devices.entries
unless k more None b c is = is
unless k more (Some fault) b c is = record { pend = omega arith; wait = omega arith }

pushed_same : (k : ℕ) (ds : List Entry) (d : Entry) → pending d.controller ≡ [] → length d.controller.waiting ≡ 0 → Grows k 0 ds (ds ++ d ∷ [])
pushed_same zero [] d none empty = let size : length (pending d.controller) ≡ 0 = ap length none in record { pend = omega (arith, size); wait = omega (arith, empty) }
pushed_same (suc k) [] d none empty = record { pend = omega arith; wait = omega arith }
pushed_same zero (x ∷ ds) d none empty = record { pend = omega arith; wait = omega arith }
pushed_same (suc k) (x ∷ ds) d none empty = let is = pushed_same k ds d none empty in record { pend = is.pend; wait = is.wait }

drop_less : (xs : List Command) → length (drop 1 xs) ≤ length xs
drop_less [] = omega arith
drop_less (x ∷ xs) = omega arith

withdraws_less : (d : Entry) → (length (pending (entry_withdraws d).controller) ≤ length (pending d.controller) + 0) × (length (entry_withdraws d).controller.waiting ≤ length d.controller.waiting + 0)
withdraws_less d = by_way (is_some (on_its_way d.controller.session.state))
  where
    by_way : (x : Bool) → (length (option_to_list (asked_in d.controller.session.state) ++ (if x then d.controller.waiting else drop 1 d.controller.waiting)) ≤ length (pending d.controller) + 0)
        × (length (if x then d.controller.waiting else drop 1 d.controller.waiting) ≤ length d.controller.waiting + 0)
    by_way true = (omega arith, omega arith)
    by_way false =
        let less = drop_less d.controller.waiting in
        let a = length-append (option_to_list (asked_in d.controller.session.state)) (drop 1 d.controller.waiting) in
        let b = length-append (option_to_list (asked_in d.controller.session.state)) d.controller.waiting in
        (omega (arith, less, a, b), omega (arith, less))

abbrev given_by : ℕ → bus.Call → ℕ
given_by k (bus.Submit entry command) = if entry == k then 1 else 0
given_by k call = 0

one_call_grows : (k : ℕ) (call : bus.Call) (b : BusState) → SoundBus b → Grows k (given_by k call) b.devices.entries (bus.after_call call b).devices.entries
one_call_grows k (bus.Add address) b sound =
    unless k 0 (add_refusal address b) b (after_add address b) (pushed_same k b.devices.entries (new_device address b.config) refl refl)
one_call_grows k (bus.Begin entry now) b sound =
    unless k 0 (begin_refusal_at entry b) b (after_begin_at entry now b)
    (none_more k (entry == k) b.devices.entries (after_begin_at entry now b).devices.entries
    (one_changes k entry 0 (entry_begins (max b.greatest now)) (seen now b)
    (λ d. let a = length-append (option_to_list (asked_in d.controller.session.state)) d.controller.waiting in (omega (arith, a), omega arith))))
one_call_grows k (bus.Submit entry command) b sound =
    unless k (if entry == k then 1 else 0) (submit_refusal_at entry command b) b (after_submit_at entry command b)
    (one_changes k entry 1 (entry_submits command) b
    (λ d.
    let a = length-append (option_to_list (asked_in d.controller.session.state)) d.controller.waiting in
    let c = length-append (option_to_list (asked_in d.controller.session.state)) (d.controller.waiting ++ command ∷ []) in
    let e = length-append d.controller.waiting (command ∷ []) in
    (omega (arith, a, c, e), omega (arith, e))))
one_call_grows k (bus.Withdraw entry) b sound =
    none_more k (entry == k) b.devices.entries (after_withdraw_at entry b).devices.entries (one_changes k entry 0 entry_withdraws b withdraws_less)
one_call_grows k (bus.Retarget entry address) b sound =
    unless k 0 (retarget_refusal_at entry address b) b (after_retarget_at entry address b)
    (none_more k (entry == k) b.devices.entries (after_retarget_at entry address b).devices.entries
    (one_changes k entry 0 (entry_retargets address) b (λ d. (omega arith, omega arith))))
one_call_grows k (bus.OnBytes bytes now) b sound = from_line k b.devices (bus.after_call (bus.OnBytes bytes now) b).devices (leaves_bytes k bytes now b sound)
one_call_grows k (bus.OnSilence now) b sound =
    from_line k b.devices (bus.after_call (bus.OnSilence now) b).devices (leaves_run k (seen now b) (sound_seen now b sound))
one_call_grows k (bus.Tick now) b sound = from_line k b.devices (bus.after_call (bus.Tick now) b).devices (leaves_tick k now b sound)
one_call_grows k bus.NextReport b sound = same_grows k b.devices.entries

-- ---- each call of a panel

abbrev bus_given : ℕ → List bus.Call → ℕ
bus_given k [] = 0
bus_given k (call ∷ calls) = given_by k call + bus_given k calls

calls_grow : (k : ℕ) (calls : List bus.Call) (b : BusState) → SoundBus b → Grows k (bus_given k calls) b.devices.entries (bus.after_calls calls b).devices.entries
calls_grow k [] b sound = same_grows k b.devices.entries
calls_grow k (call ∷ calls) b sound =
    let c = bus.after_call call b in
    let first = one_call_grows k call b sound in
    let rest = calls_grow k calls c (sound_call call b sound) in
    let fp = first.pend in
    let fw = first.wait in
    let rp = rest.pend in
    let rw = rest.wait in
    record { pend = omega (arith, fp, rp); wait = omega (arith, fw, rw) }

-- the calls of the bus give no more orders than `submit` accepts
accepted_size : (x : Bool) (r : Option PanelFault) (o : Option Orders) (entry : ℕ) (command : Command) (until : ℕ) (b : BusState)
    → give_refusal_of entry command o b ≡ r → (k : ℕ) → (entry == k) ≡ x
    → bus_given k (submits r entry command) ≡ length (if x then accepted_as r o command until else [])
accepted_size true None None entry command until b is k here = absurd cc
accepted_size true None (Some o) entry command until b is k here = ap (λ (x : Bool). (if x then 1 else 0) + 0) here
accepted_size false None o entry command until b is k other = ap (λ (x : Bool). (if x then 1 else 0) + 0) other
accepted_size true (Some fault) o entry command until b is k here = refl
accepted_size false (Some fault) o entry command until b is k other = refl

withdraws_none : (k : ℕ) (late : Option ℕ) → bus_given k (withdraws late) ≡ 0
withdraws_none k None = refl
withdraws_none k (Some entry) = refl

given_size : (k : ℕ) (call : Call) (p : PanelState) → bus_given k (bus_calls call p) ≡ length (accepted_in k call p)
given_size k (Submit entry command until) p =
    accepted_size (entry == k) (give_refusal entry command p) (orders_at entry p) entry command until p.bus refl k refl
given_size k NextReport p = by_report (has_report p.bus)
  where
    by_report : (x : Bool) → bus_given k (if x then bus.NextReport ∷ [] else withdraws (late_at p.bus.greatest p)) ≡ 0
    by_report true = refl
    by_report false = withdraws_none k (late_at p.bus.greatest p)
given_size k (Tick now) p = by_held (Rattle.osdp_panel.specs.Sending.holds_back now p)
  where
    by_held : (x : Bool) → bus_given k ((if x then bus.OnBytes [] now else bus.Tick now) ∷ []) ≡ 0
    by_held true = refl
    by_held false = refl
given_size k (Add address next) p = refl
given_size k (Retarget entry address) p = refl
given_size k (Begin entry now) p = refl
given_size k (Withdraw entry) p = refl
given_size k (Hear bytes now) p = refl
given_size k (Silence now) p = refl
given_size k (Write now) p = refl

step_grows : (k : ℕ) (call : Call) (p : PanelState) → SoundBus p.bus → Grows k (length (accepted_in k call p)) p.bus.devices.entries (after_call call p).bus.devices.entries
step_grows k call p sound =
    subst (λ (b : BusState). Grows k (length (accepted_in k call p)) p.bus.devices.entries b.devices.entries) (sym (one_call call p))
    (subst (λ n. Grows k n p.bus.devices.entries (bus.after_calls (bus_calls call p) p.bus).devices.entries) (given_size k call p)
    (calls_grow k (bus_calls call p) p.bus sound))

pub list_grows : (k : ℕ) (calls : List Call) (p : PanelState) → SoundBus p.bus
    → Grows k (length (along (accepted_in k) calls p)) p.bus.devices.entries (after_calls calls p).bus.devices.entries
list_grows k [] p sound = same_grows k p.bus.devices.entries
list_grows k (call ∷ calls) p sound =
    let q = after_call call p in
    let first = step_grows k call p sound in
    let rest = list_grows k calls q (still_sound call p sound) in
    let size = length-append (accepted_in k call p) (along (accepted_in k) calls q) in
    let fp = first.pend in
    let fw = first.wait in
    let rp = rest.pend in
    let rw = rest.wait in
    record { pend = omega (arith, fp, rp, size); wait = omega (arith, fw, rw, size) }
