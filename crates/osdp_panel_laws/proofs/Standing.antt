-- What holds of an entry's orders at all times, and what a call of its bus may leave as it is.
use Rattle.std.proofs.Common.{◌≡◌, ◌∙◌, ap, sym, subst, refl, arith, append-nil, ℕ, zero, suc, ◌+◌, Bool, true, false, max, List, [], ◌∷◌, ◌++◌, length, Option, Some, None}
use Rattle.std.proofs.lemmas.Bool.{eqb-false, eqb-true}
use Rattle.std.proofs.lemmas.List.{length-append}
use Rattle.std.specs.Prelude.{◌≢◌, ◌==◌, if◌then◌else◌, is_some, option_map, option_to_list, slice_get, slice_set}
use Rattle.std.specs.Option.{option_map_or}
use Rattle.circular_buffer.specs.Buffer.{keep_last}
use Rattle.osdp_msg.specs.declared.command.Command.{Command}
use Rattle.osdp_controller.specs.declared.report.Report.{Report}
use Rattle.osdp_controller.specs.declared.report.Report.TheVariants as report
use Rattle.osdp_controller.specs.declared.state.State.{State}
use Rattle.osdp_controller.specs.declared.state.State.TheVariants.{Closed, Quiet, Idle, Waiting, Pausing}
use Rattle.osdp_controller.specs.Held.{on_its_way}
use Rattle.osdp_controller.specs.Machine.{refused_unless_closed}
use Rattle.osdp_controller_laws.specs.Commands.{asked_in, told_command}
use Rattle.osdp_bus.specs.declared.config.BusConfig.{BusConfig}
use Rattle.osdp_bus.specs.declared.entry.Entry.{Entry}
use Rattle.osdp_bus.specs.Asking.{orders_of}
use Rattle.osdp_bus.specs.Buses.{BusState, device_of, seen}
use Rattle.osdp_bus.specs.Machine.{add_refusal, after_add, after_begin_at, after_next_report, after_retarget_at, after_submit_at, after_withdraw_at, begin_refusal_at, begin_refusal_of, changed_unless, changes_entry, entry_begins, entry_retargets, entry_submits, entry_withdraws, new_device, retarget_refusal_at, withdrawal_at, withdrawal_of, withdrawn_of}
use Rattle.osdp_bus_laws.proofs.OneDevice.{pending}
use Rattle.osdp_panel.specs.Orders.{Orders, PanelState, kept, kept_from}
use Rattle.osdp_panel.specs.Sending.{sends}
use Rattle.osdp_panel.specs.Telling.{is_of_order, told_by, where_so}
use Rattle.osdp_panel_laws.specs.Calls.{Call}
use Rattle.osdp_panel_laws.specs.Outcome.{AreNumbered, Ended, Order, Shares, accepted_in, added_in, back_in, ended_as, ended_by, told_in, waits_to_be_told}
use Rattle.osdp_panel_laws.proofs.Ahead.{pending_at, pending_in, room_at, room_in, set_count, set_other, set_same}
use Rattle.osdp_panel_laws.proofs.Tallies.{Front, Stands, commands, front_of, keep_all, number_at, numbered_on, size_new, stands_back, stands_new, stands_same, stands_told, untils}

-- ---- lists

pub get_both : {A B : Type 0} (xs : List A) (ys : List B) (k : ℕ) (x : A) → length xs ≡ length ys → slice_get xs k ≡ Some x → (y : B) × (slice_get ys k ≡ Some y)
get_both [] ys k x same at = absurd cc
get_both (a ∷ xs) [] k x same at = absurd (omega (arith, same))
get_both (a ∷ xs) (b ∷ ys) zero x same at = (b, refl)
get_both (a ∷ xs) (b ∷ ys) (suc k) x same at = get_both xs ys k x (omega (arith, same)) at

pub pushed : {A : Type 0} (xs : List A) (k : ℕ) (x y : A) → slice_get xs k ≡ Some x → slice_get (xs ++ y ∷ []) k ≡ Some x
pushed [] k x y at = absurd cc
pushed (a ∷ xs) zero x y at = at
pushed (a ∷ xs) (suc k) x y at = pushed xs k x y at

pub pushed_at : {A B : Type 0} (xs : List A) (ys : List B) (k : ℕ) (x : A) (y z : B) → length xs ≡ length ys → slice_get ys k ≡ None → slice_get (ys ++ y ∷ []) k ≡ Some z
    → (slice_get (xs ++ x ∷ []) k ≡ Some x) × (z ≡ y)
pushed_at [] [] zero x y z same none at = (refl, cc)
pushed_at [] [] (suc k) x y z same none at = absurd cc
pushed_at [] (b ∷ ys) k x y z same none at = absurd (omega (arith, same))
pushed_at (a ∷ xs) [] k x y z same none at = absurd (omega (arith, same))
pushed_at (a ∷ xs) (b ∷ ys) zero x y z same none at = absurd cc
pushed_at (a ∷ xs) (b ∷ ys) (suc k) x y z same none at = pushed_at xs ys k x y z (omega (arith, same)) none at

pub pushed_none : {A : Type 0} (xs : List A) (k : ℕ) (y : A) → slice_get (xs ++ y ∷ []) k ≡ None → slice_get xs k ≡ None
pushed_none [] k y none = refl
pushed_none (a ∷ xs) zero y none = absurd cc
pushed_none (a ∷ xs) (suc k) y none = pushed_none xs k y none

-- ---- the moments of an entry

abbrev pub moments_in : Option Orders → List ℕ
moments_in None = []
moments_in (Some o) = o.moments

abbrev pub moments_at : ℕ → List Orders → List ℕ
moments_at k os = moments_in (slice_get os k)

pub kept_at : (os : List Orders) (k entry n : ℕ) (b : BusState) (o : Orders) → n ≡ entry + k → slice_get os k ≡ Some o
    → slice_get (kept_from entry b os) k ≡ Some (kept (device_of n b) o)
kept_at [] k entry n b o is at = absurd cc
kept_at (x ∷ os) zero entry n b o is at =
    let same : x ≡ o = cc in
    let place : entry ≡ n = omega (arith, is) in
    ap (λ m. Some (kept (device_of m b) x)) place ∙ ap (λ y. Some (kept (device_of n b) y)) same
kept_at (x ∷ os) (suc k) entry n b o is at = kept_at os k (suc entry) n b o (omega (arith, is)) at

pub kept_none : (os : List Orders) (k entry : ℕ) (b : BusState) → slice_get (kept_from entry b os) k ≡ None → slice_get os k ≡ None
kept_none [] k entry b none = refl
kept_none (x ∷ os) zero entry b none = absurd cc
kept_none (x ∷ os) (suc k) entry b none = kept_none os k (suc entry) b none

pub kept_some : (os : List Orders) (k entry : ℕ) (b : BusState) (o : Orders) → slice_get (kept_from entry b os) k ≡ Some o → (x : Orders) × (slice_get os k ≡ Some x)
kept_some [] k entry b o at = absurd cc
kept_some (x ∷ os) zero entry b o at = (x, refl)
kept_some (x ∷ os) (suc k) entry b o at = kept_some os k (suc entry) b o at

pub kept_count : (os : List Orders) (entry : ℕ) (b : BusState) → length (kept_from entry b os) ≡ length os
kept_count [] entry b = refl
kept_count (x ∷ os) entry b = ap suc (kept_count os (suc entry) b)

-- how many orders a device has is how many commands have no end
pub asked_same : (state : State) → asked_in state ≡ on_its_way state
asked_same Closed = refl
asked_same (Quiet until) = refl
asked_same (Idle due) = refl
asked_same (Waiting until sends o) = refl
asked_same (Pausing until o) = refl

one_or_none : (o : Option Command) → length (option_to_list o) ≡ (if is_some o then 1 else 0)
one_or_none None = refl
one_or_none (Some c) = refl

pub orders_are : (d : Entry) → orders_of d ≡ length (pending d.controller)
orders_are d =
    let state = d.controller.session.state in
    let out : length (option_to_list (asked_in state)) ≡ (if is_some (on_its_way state) then 1 else 0) =
    ap (λ o. length (option_to_list o)) (asked_same state) ∙ one_or_none (on_its_way state) in
    omega (arith, out, length-append (option_to_list (asked_in state)) d.controller.waiting)

-- ---- the report that waits

abbrev pub waiting_of : ℕ → Option (ℕ × Report) → ℕ → List Ended
waiting_of k None told = []
waiting_of k (Some (i, r)) told = if i == k then ended_as (where_so (is_of_order r) told) (told_command (Some r)) else []

pub waits_is : (k : ℕ) (p : PanelState) → waits_to_be_told k p ≡ waiting_of k p.bus.devices.report p.told
waits_is k p = by_report p.bus.devices.report
  where
    by_report : (o : Option (ℕ × Report)) → (if is_some o then ended_by k (told_by o p) else []) ≡ waiting_of k o p.told
    by_report None = refl
    by_report (Some (i, r)) = refl

of_order : (r : Report) → is_of_order r ≡ is_some (told_command (Some r))
of_order (report.Settled command reply) = refl
of_order (report.Moved command answered) = refl
of_order (report.Unread command code) = refl
of_order (report.Lost cause command) = refl
of_order (report.Opened id) = refl
of_order (report.Event e) = refl
of_order (report.PollAnswered reply) = refl

ended_none : (n : Option ℕ) → ended_as n None ≡ []
ended_none None = refl
ended_none (Some n) = refl

-- .. ends the order of which its entry tells, or none
pub ends_none : (r : Report) (told : ℕ) → told_command (Some r) ≡ None → ended_as (where_so (is_of_order r) told) (told_command (Some r)) ≡ []
ends_none r told none = ap (ended_as (where_so (is_of_order r) told)) none ∙ ended_none (where_so (is_of_order r) told)

pub ends_one : (r : Report) (told : ℕ) (c : Command) → told_command (Some r) ≡ Some c
    → ended_as (where_so (is_of_order r) told) (told_command (Some r)) ≡ record { number = told; command = c } ∷ []
ends_one r told c some =
    ap (λ b. ended_as (where_so b told) (told_command (Some r))) (of_order r ∙ ap (λ (o : Option Command). is_some o) some)
    ∙ ap (ended_as (Some told)) some

-- ---- what holds of an entry at all times

pub record Tally : Type 0 where
  pub added : List ℕ
  pub accepted : List Order
  pub told : List Ended
  pub back : List Command

-- the entry is there
pub record IsCounted (k : ℕ) (t : Tally) (o : Orders) (ds : List Entry) : Type 0 where
  pub first : ℕ
  pub there : slice_get t.added k ≡ Some first
  pub numbers : AreNumbered first t.accepted
  pub next : o.next ≡ first + length t.accepted
  pub room : o.room ≡ room_at k ds + 1

pub record IsSo (k : ℕ) (t : Tally) (b : BusState) (os : List Orders) (told places : ℕ) : Type 0 where
  pub settings : b.config.room.messages + 1 ≡ places
  pub added : length t.added ≡ length os
  pub entries : length os ≡ length b.devices.entries
  pub stands : Stands t.accepted (t.told ++ waiting_of k b.devices.report told) t.back (pending_at k b.devices.entries) (moments_at k os)
  pub none : slice_get os k ≡ None → t.accepted ≡ []
  pub some : (o : Orders) → slice_get os k ≡ Some o → IsCounted k t o b.devices.entries

abbrev pub Holds : ℕ → Tally → PanelState → Type 0
Holds k t p = IsSo k t p.bus p.orders p.told p.places

-- what a call adds
abbrev pub more : ℕ → Call → PanelState → Tally → Tally
more k call p t = record {
  added = t.added ++ added_in call p;
  accepted = t.accepted ++ accepted_in k call p;
  told = t.told ++ told_in k call p;
  back = t.back ++ back_in k call p;
}

abbrev pub plus_nothing : Tally → Tally
plus_nothing t = record { added = t.added ++ []; accepted = t.accepted ++ []; told = t.told ++ []; back = t.back ++ [] }

pub nothing_more : (t : Tally) → t ≡ plus_nothing t
nothing_more t = (λ i. record {
  added = sym (append-nil t.added) i;
  accepted = sym (append-nil t.accepted) i;
  told = sym (append-nil t.told) i;
  back = sym (append-nil t.back) i;
})

-- ---- what a call of the bus may leave as it is

pub record IsQuiet (k : ℕ) (b c : BusState) : Type 0 where
  pub config : c.config ≡ b.config
  pub report : c.devices.report ≡ b.devices.report
  pub pending : pending_at k c.devices.entries ≡ pending_at k b.devices.entries
  pub room : room_at k c.devices.entries ≡ room_at k b.devices.entries
  pub count : length c.devices.entries ≡ length b.devices.entries

pub as_it_is : (k : ℕ) (b : BusState) → IsQuiet k b b
as_it_is k b = record { config = refl; report = refl; pending = refl; room = refl; count = refl }

-- a device takes the place of one with the same orders
pub quiet_set : (k entry : ℕ) (d e : Entry) (b : BusState) → device_of entry b ≡ Some d → pending e.controller ≡ pending d.controller
    → e.controller.capacity ≡ d.controller.capacity
    → IsQuiet k b (record b { devices = record b.devices { entries = slice_set b.devices.entries entry e } })
quiet_set k entry d e b at same room = by_test (entry == k) refl
  where
    by_test : (t : Bool) → (entry == k) ≡ t → IsQuiet k b (record b { devices = record b.devices { entries = slice_set b.devices.entries entry e } })
    by_test true is =
        let place : entry ≡ k = eqb-true entry k is in
        let was : slice_get b.devices.entries k ≡ Some d = ap (slice_get b.devices.entries) (sym place) ∙ at in
        let now : slice_get (slice_set b.devices.entries entry e) k ≡ Some e =
        ap (slice_get (slice_set b.devices.entries entry e)) (sym place) ∙ set_same b.devices.entries entry d e at in
        record {
          config = refl;
          report = refl;
          pending = ap pending_in now ∙ same ∙ sym (ap pending_in was);
          room = ap room_in now ∙ room ∙ sym (ap room_in was);
          count = set_count b.devices.entries entry e;
        }
    by_test false is =
        let other = set_other b.devices.entries entry k e (eqb-false entry k is) in
        record { config = refl; report = refl; pending = ap pending_in other; room = ap room_in other; count = set_count b.devices.entries entry e }

abbrev pub set_to : ℕ → (Entry → Entry) → BusState → Option Entry → BusState
set_to entry change b o = option_map_or (λ d. record b { devices = record b.devices { entries = slice_set b.devices.entries entry (change d) } }) o b

pub quiet_change : (k entry : ℕ) (change : Entry → Entry) (b : BusState)
    → ((d : Entry) → device_of entry b ≡ Some d → (pending (change d).controller ≡ pending d.controller) × ((change d).controller.capacity ≡ d.controller.capacity))
    → IsQuiet k b (changes_entry entry change b)
quiet_change k entry change b same = by_device (device_of entry b) refl
  where
    by_device : (o : Option Entry) → device_of entry b ≡ o → IsQuiet k b (set_to entry change b o)
    by_device None at = as_it_is k b
    by_device (Some d) at = let both = same d at in quiet_set k entry d (change d) b at both.0 both.1

-- .. of another entry than this one
pub quiet_other : (k entry : ℕ) (change : Entry → Entry) (b : BusState) → entry ≢ k → IsQuiet k b (changes_entry entry change b)
quiet_other k entry change b differ = by_device (device_of entry b)
  where
    by_device : (o : Option Entry) → IsQuiet k b (set_to entry change b o)
    by_device None = as_it_is k b
    by_device (Some d) =
        let other = set_other b.devices.entries entry k (change d) differ in
        record { config = refl; report = refl; pending = ap pending_in other; room = ap room_in other; count = set_count b.devices.entries entry (change d) }

unless_quiet : {F : Type 0} (f : Option F) (k : ℕ) (b c : BusState) → (f ≡ None → IsQuiet k b c) → IsQuiet k b (changed_unless f b c)
unless_quiet None k b c quiet = quiet refl
unless_quiet (Some fault) k b c quiet = as_it_is k b

closed_asks : (state : State) → refused_unless_closed state ≡ None → asked_in state ≡ None
closed_asks Closed none = refl
closed_asks (Quiet until) none = absurd cc
closed_asks (Idle due) none = absurd cc
closed_asks (Waiting until sends o) none = absurd cc
closed_asks (Pausing until o) none = absurd cc

pub none_mapped : {A B : Type 0} (f : A → B) (o : Option A) → option_map f o ≡ None → o ≡ None
none_mapped f None is = refl
none_mapped f (Some x) is = absurd cc

pub quiet_begin : (k entry now : ℕ) (b : BusState) → IsQuiet k b (changed_unless (begin_refusal_at entry b) b (after_begin_at entry now b))
quiet_begin k entry now b = unless_quiet (begin_refusal_at entry b) k b (after_begin_at entry now b) (λ none. begins none)
  where
    begins : begin_refusal_at entry b ≡ None → IsQuiet k b (after_begin_at entry now b)
    begins none =
        let q = quiet_change k entry (entry_begins (max b.greatest now)) (seen now b) (λ d at. (
          let closed = closed_asks d.controller.session.state
              (none_mapped Rattle.osdp_bus.specs.Machine.bus_fault (refused_unless_closed d.controller.session.state) (ap begin_refusal_of (sym at) ∙ none)) in
              sym (ap (λ o. option_to_list o ++ d.controller.waiting) closed),
          refl,
        )) in
        record { config = q.config; report = q.report; pending = q.pending; room = q.room; count = q.count }

pub quiet_retarget : (k entry address : ℕ) (b : BusState) → IsQuiet k b (changed_unless (retarget_refusal_at entry address b) b (after_retarget_at entry address b))
quiet_retarget k entry address b =
    unless_quiet (retarget_refusal_at entry address b) k b (after_retarget_at entry address b)
    (λ none. quiet_change k entry (entry_retargets address) b (λ d at. (refl, refl)))

-- ---- how it goes on

pub stands_by : (accepted : List Order) (told told' : List Ended) (back back' : List Command) (pend pend' : List Command) (moments moments' : List ℕ)
    → told' ≡ told → back' ≡ back → pend' ≡ pend → moments' ≡ moments → Stands accepted told back pend moments → Stands accepted told' back' pend' moments'
stands_by accepted told told' back back' pend pend' moments moments' a z b c s = record {
  ended = s.ended;
  still = s.still;
  whole = s.whole;
  each = subst (λ l. Shares s.ended l back') (sym a) (subst (Shares s.ended told) (sym z) s.each);
  ahead = s.ahead ∙ sym b;
  until = s.until ∙ sym c;
}

pub counted_room : (k : ℕ) (t : Tally) (o : Orders) (ds es : List Entry) → room_at k es ≡ room_at k ds → IsCounted k t o ds → IsCounted k t o es
counted_room k t o ds es same is = record {
  first = is.first;
  there = is.there;
  numbers = is.numbers;
  next = is.next;
  room = is.room ∙ ap (λ n. n + 1) (sym same);
}

pub kept_counted : (k : ℕ) (t : Tally) (d : Option Entry) (o : Orders) (ds : List Entry) → IsCounted k t o ds → IsCounted k t (kept d o) ds
kept_counted k t None o ds is = is
kept_counted k t (Some d) o ds is = record { first = is.first; there = is.there; numbers = is.numbers; next = is.next; room = is.room }

pub quiet_so : (k : ℕ) (t : Tally) (b c : BusState) (os : List Orders) (told places : ℕ) → IsQuiet k b c → IsSo k t b os told places → IsSo k t c os told places
quiet_so k t b c os told places q is = record {
  settings = ap (λ (x : BusConfig). x.room.messages + 1) q.config ∙ is.settings;
  added = is.added;
  entries = is.entries ∙ sym q.count;
  stands = stands_by t.accepted (t.told ++ waiting_of k b.devices.report told) (t.told ++ waiting_of k c.devices.report told) t.back t.back
      (pending_at k b.devices.entries) (pending_at k c.devices.entries) (moments_at k os) (moments_at k os)
      (ap (λ r. t.told ++ waiting_of k r told) q.report) refl q.pending refl is.stands;
  none = is.none;
  some = λ o at. counted_room k t o b.devices.entries c.devices.entries q.room (is.some o at);
}

-- as many moments stay as an entry has orders
pub kept_moments : (k : ℕ) (os : List Orders) (c : BusState) → length os ≡ length c.devices.entries
    → moments_at k (kept_from 0 c os) ≡ keep_last (length (pending_at k c.devices.entries)) (moments_at k os)
kept_moments k os c same = by_orders (slice_get os k) refl
  where
    none_kept : (xs : List Orders) (j entry : ℕ) → slice_get xs j ≡ None → slice_get (kept_from entry c xs) j ≡ None
    none_kept [] j entry none = refl
    none_kept (x ∷ xs) zero entry none = absurd cc
    none_kept (x ∷ xs) (suc j) entry none = none_kept xs j (suc entry) none

    by_orders : (o : Option Orders) → slice_get os k ≡ o
        → moments_at k (kept_from 0 c os) ≡ keep_last (length (pending_at k c.devices.entries)) (moments_at k os)
    by_orders None at =
        ap moments_in (none_kept os k 0 at) ∙ sym (keep_all [] (length (pending_at k c.devices.entries)) (omega arith))
        ∙ ap (λ o. keep_last (length (pending_at k c.devices.entries)) (moments_in o)) (sym at)
    by_orders (Some o) at =
        let d = get_both os c.devices.entries k o same at in
        let has : device_of k c ≡ Some d.0 = d.1 in
        let size : orders_of d.0 ≡ length (pending_at k c.devices.entries) = orders_are d.0 ∙ ap (λ e. length (pending_in e)) (sym has) in
        ap moments_in (kept_at os k 0 k c o (omega arith) at) ∙ ap (λ e. (kept e o).moments) has ∙ ap (λ n. keep_last n o.moments) size
        ∙ ap (λ e. keep_last (length (pending_at k c.devices.entries)) (moments_in e)) (sym at)

-- the parts that no report changes
module _ (k : ℕ) (t : Tally) (b c : BusState) (os : List Orders) (told places : ℕ) (is : IsSo k t b os told places)
    (config : c.config ≡ b.config) (room : room_at k c.devices.entries ≡ room_at k b.devices.entries) (count : length c.devices.entries ≡ length b.devices.entries) where
  pub within : length os ≡ length c.devices.entries
  within = is.entries ∙ sym count

  -- .. and the orders of this entry, as they stand
  pub kept_so : (told' : ℕ) (told_list : List Ended) (back : List Command)
      → Stands t.accepted (told_list ++ waiting_of k c.devices.report told') back (pending_at k c.devices.entries) (keep_last (length (pending_at k c.devices.entries)) (moments_at k os))
      → IsSo k (record t { told = told_list; back = back }) c (kept_from 0 c os) told' places
  kept_so told' told_list back stands = record {
    settings = ap (λ (x : BusConfig). x.room.messages + 1) config ∙ is.settings;
    added = is.added ∙ sym (kept_count os 0 c);
    entries = kept_count os 0 c ∙ within;
    stands = subst (λ l. Stands t.accepted (told_list ++ waiting_of k c.devices.report told') back (pending_at k c.devices.entries) l)
        (sym (kept_moments k os c within)) stands;
    none = λ none. is.none (kept_none os k 0 c none);
    some = λ o at. by_kept o at;
  }
    where
      by_kept : (o : Orders) → slice_get (kept_from 0 c os) k ≡ Some o → IsCounted k (record t { told = told_list; back = back }) o c.devices.entries
      by_kept o at =
          let x = kept_some os k 0 c o at in
          let same : kept (device_of k c) x.0 ≡ o = (let e = sym (kept_at os k 0 k c x.0 (omega arith) x.1) ∙ at in cc) in
          let counted = is.some x.0 x.1 in
          let here : IsCounted k (record t { told = told_list; back = back }) x.0 b.devices.entries = record {
            first = counted.first;
            there = counted.there;
            numbers = counted.numbers;
            next = counted.next;
            room = counted.room;
          } in
          subst (λ y. IsCounted k (record t { told = told_list; back = back }) y c.devices.entries) same
          (kept_counted k (record t { told = told_list; back = back }) (device_of k c) x.0 c.devices.entries
          (counted_room k (record t { told = told_list; back = back }) x.0 b.devices.entries c.devices.entries room here))

  -- the entry of an order that has no end is there
  pub there_is : (told_list : List Ended) (back : List Command) (c' : Command) (rest : List Command)
      → Stands t.accepted told_list back (c' ∷ rest) (moments_at k os) → (o : Orders) × (slice_get os k ≡ Some o)
  there_is told_list back c' rest s = by_orders (slice_get os k) refl
    where
      by_orders : (o : Option Orders) → slice_get os k ≡ o → (x : Orders) × (slice_get os k ≡ Some x)
      by_orders (Some o) at = (o, at)
      by_orders None at =
          let f = front_of t.accepted told_list back c' rest (moments_at k os) s in
          let some : t.accepted ≡ (s.ended ++ f.order ∷ []) ++ f.later =
          Rattle.osdp_panel_laws.proofs.Tallies.whole_is t.accepted told_list back c' rest (moments_at k os) s f in
          let size : length t.accepted ≡ length ((s.ended ++ f.order ∷ []) ++ f.later) = ap length some in
          let none : length t.accepted ≡ 0 = ap length (is.none at) in
          absurd (omega (arith, size, none, length-append (s.ended ++ f.order ∷ []) f.later, length-append s.ended (f.order ∷ [])))
