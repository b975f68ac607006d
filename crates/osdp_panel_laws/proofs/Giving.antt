-- What becomes of an entry's orders where one is accepted, is taken back, or has expired.
use Rattle.std.proofs.Common.{◌≡◌, ◌∙◌, ap, sym, subst, inl, inr, refl, arith, append_assoc, append-nil, ℕ, ◌+◌, ◌-◌, ◌≤◌, Bool, true, false, List, [], ◌∷◌, ◌++◌, length, Option, Some, None, Result, Ok, Err}
use Rattle.std.proofs.lemmas.Bool.{eq-eqb, eqb-false, eqb-true}
use Rattle.std.proofs.lemmas.List.{length-append}
use Rattle.std.specs.Prelude.{◌⊎◌, ◌≢◌, ◌==◌, if◌then◌else◌, option_to_list, slice_get, slice_set}
use Rattle.osdp_msg.specs.declared.command.Command.{Command}
use Rattle.osdp_controller_laws.specs.Commands.{asked_in}
use Rattle.osdp_bus.specs.declared.entry.Entry.{Entry}
use Rattle.osdp_bus.specs.declared.fault.BusFault.{BusFault}
use Rattle.osdp_bus.specs.Buses.{BusState, device_of, seen}
use Rattle.osdp_bus.specs.Machine.{after_submit_at, after_withdraw_at, changed_unless, entry_submits, entry_withdraws, withdrawal_at, withdrawal_of}
use Rattle.osdp_bus_laws.proofs.OneDevice.{pending}
use Rattle.osdp_bus_laws.proofs.Sound.{SoundBus}
use Rattle.osdp_panel.specs.declared.fault.PanelFault.{PanelFault}
use Rattle.osdp_panel.specs.Giving.{after_give, after_withdraw, give_refusal, give_refusal_of, given, gives_in}
use Rattle.osdp_panel.specs.Orders.{Orders, PanelState, orders_at}
use Rattle.osdp_panel.specs.Telling.{expired_of, front_number}
use Rattle.osdp_panel_laws.specs.Calls.{Call, Submit, Withdraw}
use Rattle.osdp_panel_laws.specs.Outcome.{Ended, Order, accepted_as, accepted_in, added_in, back_in, ended_as, ended_by, taken_back, told_in}
use Rattle.osdp_panel_laws.proofs.Ahead.{pending_at, pending_in, room_at, room_in, set_count, set_other, set_same}
use Rattle.osdp_panel_laws.proofs.Standing.{Holds, IsCounted, IsQuiet, IsSo, Tally, as_it_is, get_both, moments_at, moments_in, more, orders_are, quiet_other, quiet_set, quiet_so, set_to, stands_by, waiting_of}
use Rattle.osdp_panel_laws.proofs.Tallies.{Stands, keep_all, numbered_on, size_new, stands_new}
use Rattle.osdp_panel_laws.proofs.FromLine.{Gives, gives, kept_quiet, leaves_back, leaves_late}

-- ---- a call that adds nothing

pub no_more : (k : ℕ) (call : Call) (p q : PanelState) (t : Tally) → added_in call p ≡ [] → accepted_in k call p ≡ [] → told_in k call p ≡ [] → back_in k call p ≡ []
    → Holds k t q → Holds k (more k call p t) q
no_more k call p q t a b c d is =
    let same : ◌≡◌ {A = Tally} t (more k call p t) = (λ i. record {
      added = (sym (append-nil t.added) ∙ ap (λ l. t.added ++ l) (sym a)) i;
      accepted = (sym (append-nil t.accepted) ∙ ap (λ l. t.accepted ++ l) (sym b)) i;
      told = (sym (append-nil t.told) ∙ ap (λ l. t.told ++ l) (sym c)) i;
      back = (sym (append-nil t.back) ∙ ap (λ l. t.back ++ l) (sym d)) i;
    }) in
    subst (λ (u : Tally). Holds k u q) same is

pub seen_quiet : (k now : ℕ) (b : BusState) → IsQuiet k b (seen now b)
seen_quiet k now b = record { config = refl; report = refl; pending = refl; room = refl; count = refl }

-- ---- orders

-- orders of other entries change
pub other_orders : (k : ℕ) (t : Tally) (b : BusState) (os os' : List Orders) (told places : ℕ) → slice_get os' k ≡ slice_get os k → length os' ≡ length os
    → IsSo k t b os told places → IsSo k t b os' told places
other_orders k t b os os' told places same count is = record {
  settings = is.settings;
  added = is.added ∙ sym count;
  entries = count ∙ is.entries;
  stands = subst (λ (o : Option Orders). Stands t.accepted (t.told ++ waiting_of k b.devices.report told) t.back (pending_at k b.devices.entries) (moments_in o)) (sym same) is.stands;
  none = λ none. is.none (sym same ∙ none);
  some = λ o at. is.some o (sym same ∙ at);
}

-- an order of this entry is accepted
module _ (k : ℕ) (t : Tally) (b : BusState) (os : List Orders) (told places : ℕ) (is : IsSo k t b os told places) (command : Command) (until : ℕ)
    (o : Orders) (at : slice_get os k ≡ Some o) (d : Entry) (has : device_of k b ≡ Some d) where
  abbrev order : Order
  order = record { number = o.next; command = command; until = until }

  abbrev added_to : BusState
  added_to = record b { devices = record b.devices { entries = slice_set b.devices.entries k (entry_submits command d) } }

  submitted : SoundBus added_to → IsSo k (record t { accepted = t.accepted ++ order ∷ [] }) added_to (slice_set os k (given until o)) told places
  submitted sound =
      let c = added_to in
      let os' = slice_set os k (given until o) in
      let now : device_of k c ≡ Some (entry_submits command d) = set_same b.devices.entries k d (entry_submits command d) has in
      let mine : slice_get os' k ≡ Some (given until o) = set_same os k o (given until o) at in
      let counted = is.some o at in
      let all = t.told ++ waiting_of k b.devices.report told in
      let machine = (sound.devices.devices k (entry_submits command d) now).machine in
      let pend : pending_at k c.devices.entries ≡ pending_at k b.devices.entries ++ command ∷ [] =
      ap pending_in now ∙ sym (append_assoc (option_to_list (asked_in d.controller.session.state)) d.controller.waiting (command ∷ []))
      ∙ ap (λ e. pending_in e ++ command ∷ []) (sym has) in
      let was : moments_at k os ≡ o.moments = ap moments_in at in
      let sizes : length (moments_at k os ++ until ∷ []) ≡ length (pending_at k b.devices.entries ++ command ∷ []) =
      size_new t.accepted all t.back (pending_at k b.devices.entries) (moments_at k os) is.stands order in
      let fits : length (o.moments ++ until ∷ []) ≤ o.room =
      let room : o.room ≡ d.controller.capacity + 1 = counted.room ∙ ap (λ e. room_in e + 1) has in
      let within : length (d.controller.waiting ++ command ∷ []) ≤ d.controller.capacity = machine.room in
      let before : length (o.moments ++ until ∷ []) ≡ length (pending d.controller ++ command ∷ []) =
      ap (λ l. length (l ++ until ∷ [])) (sym was) ∙ sizes ∙ ap (λ e. length (pending_in e ++ command ∷ [])) has in
      let out : length (option_to_list (asked_in d.controller.session.state)) ≤ 1 = at_most_one (asked_in d.controller.session.state) in
      omega (arith, room, within, before, out, length-append (pending d.controller) (command ∷ []), length-append (option_to_list (asked_in d.controller.session.state)) d.controller.waiting, length-append d.controller.waiting (command ∷ [])) in
      let moments : moments_at k os' ≡ moments_at k os ++ until ∷ [] =
      ap moments_in mine ∙ keep_all (o.moments ++ until ∷ []) o.room fits ∙ ap (λ l. l ++ until ∷ []) (sym was) in
      record {
        settings = is.settings;
        added = is.added ∙ sym (set_count os k (given until o));
        entries = set_count os k (given until o) ∙ is.entries ∙ sym (set_count b.devices.entries k (entry_submits command d));
        stands = stands_by (t.accepted ++ order ∷ []) all all t.back t.back (pending_at k b.devices.entries ++ command ∷ []) (pending_at k c.devices.entries)
            (moments_at k os ++ until ∷ []) (moments_at k os') refl refl pend moments
            (stands_new t.accepted all t.back (pending_at k b.devices.entries) (moments_at k os) is.stands order);
        none = λ none. absurd (let e = sym mine ∙ none in cc);
        some = λ x there.
            let same : given until o ≡ x = (let e = sym mine ∙ there in cc) in
            subst (λ y. IsCounted k (record t { accepted = t.accepted ++ order ∷ [] }) y c.devices.entries) same (record {
              first = counted.first;
              there = counted.there;
              numbers = numbered_on counted.first t.accepted order counted.numbers counted.next;
              next = let n = counted.next in omega (arith, n, length-append t.accepted (order ∷ []));
              room = counted.room ∙ ap (λ e. room_in e + 1) has ∙ ap (λ e. room_in e + 1) (sym now);
            });
      }
    where
      at_most_one : (x : Option Command) → length (option_to_list x) ≤ 1
      at_most_one None = omega arith
      at_most_one (Some c) = omega arith

-- the state of a line whose orders are as they were
accepts_one : (r : Option PanelFault) (o : Option Orders) (command : Command) (until : ℕ) (x : Orders) → r ≡ None → o ≡ Some x
    → accepted_as r o command until ≡ record { number = x.next; command = command; until = until } ∷ []
accepts_one r o command until x none some = ap (λ y. accepted_as y o command until) none ∙ ap (λ y. accepted_as None y command until) some

submits_here : (k : ℕ) (t : Tally) (p : PanelState) (command : Command) (until : ℕ) (o : Orders) → orders_at k p ≡ Some o → give_refusal k command p ≡ None
    → SoundBus (after_give k command until p).bus → Holds k t p → Holds k (more k (Submit k command until) p t) (after_give k command until p)
submits_here k t p command until o at none sound is =
    let d = get_both p.orders p.bus.devices.entries k o is.entries at in
    let c : BusState = record p.bus { devices = record p.bus.devices { entries = slice_set p.bus.devices.entries k (entry_submits command d.0) } } in
    let bus_is : after_submit_at k command p.bus ≡ c = ap (set_to k (entry_submits command) p.bus) d.1 in
    let new : Order = record { number = o.next; command = command; until = until } in
    let accepted : accepted_in k (Submit k command until) p ≡ new ∷ [] =
    ap (λ (x : Bool). if x then accepted_as (give_refusal k command p) (orders_at k p) command until else []) (eq-eqb k k refl)
    ∙ accepts_one (give_refusal k command p) (orders_at k p) command until o none at in
    let so = submitted k t p.bus p.orders p.told p.places is command until o at d.0 d.1 (subst SoundBus bus_is sound) in
    let tally : ◌≡◌ {A = Tally} (record t { accepted = t.accepted ++ new ∷ [] }) (more k (Submit k command until) p t) = (λ i. record {
      added = (sym (append-nil t.added)) i;
      accepted = (ap (λ l. t.accepted ++ l) (sym accepted)) i;
      told = (sym (append-nil t.told)) i;
      back = (sym (append-nil t.back)) i;
    }) in
    let there : IsSo k (record t { accepted = t.accepted ++ new ∷ [] }) (after_submit_at k command p.bus) (gives_in k until (orders_at k p) p.orders) p.told p.places =
    subst (λ (b : BusState). IsSo k (record t { accepted = t.accepted ++ new ∷ [] }) b (gives_in k until (orders_at k p) p.orders) p.told p.places) (sym bus_is)
    (subst (λ (os : List Orders). IsSo k (record t { accepted = t.accepted ++ new ∷ [] }) c os p.told p.places) (ap (λ r. gives_in k until r p.orders) (sym at)) so) in
    subst (λ (u : Tally). Holds k u (after_give k command until p)) tally there

gives_elsewhere : (k entry until : ℕ) (r : Option Orders) (os : List Orders) → entry ≢ k
    → (slice_get (gives_in entry until r os) k ≡ slice_get os k) × (length (gives_in entry until r os) ≡ length os)
gives_elsewhere k entry until None os differ = (refl, refl)
gives_elsewhere k entry until (Some o) os differ = (set_other os entry k (given until o) differ, set_count os entry (given until o))

some_orders : (o : Option Orders) (entry : ℕ) (command : Command) (b : BusState) → give_refusal_of entry command o b ≡ None → (x : Orders) × (o ≡ Some x)
some_orders None entry command b none = absurd cc
some_orders (Some x) entry command b none = (x, refl)

pub submits_so : (k : ℕ) (t : Tally) (p : PanelState) (entry : ℕ) (command : Command) (until : ℕ) (r : Option PanelFault) → give_refusal entry command p ≡ r
    → SoundBus (changed_unless r p (after_give entry command until p)).bus → Holds k t p
    → Holds k (more k (Submit entry command until) p t) (changed_unless r p (after_give entry command until p))
submits_so k t p entry command until (Some fault) refused sound is =
    no_more k (Submit entry command until) p p t refl (nothing (entry == k)) refl refl is
  where
    nothing : (x : Bool) → (if x then accepted_as (give_refusal entry command p) (orders_at entry p) command until else []) ≡ []
    nothing true = ap (λ r. accepted_as r (orders_at entry p) command until) refused
    nothing false = refl
submits_so k t p entry command until None fine sound is = by_place (entry == k) refl
  where
    by_place : (x : Bool) → (entry == k) ≡ x → Holds k (more k (Submit entry command until) p t) (after_give entry command until p)
    by_place true here =
        let place : k ≡ entry = sym (eqb-true entry k here) in
        let o = some_orders (orders_at entry p) entry command p.bus fine in
        subst (λ (e : ℕ). Holds k (more k (Submit e command until) p t) (after_give e command until p)) place
        (submits_here k t p command until o.0 (ap (λ e. orders_at e p) place ∙ o.1) (ap (λ e. give_refusal e command p) place ∙ fine)
        (subst (λ (e : ℕ). SoundBus (after_give e command until p).bus) (sym place) sound) is)
    by_place false other =
        let differ = eqb-false entry k other in
        let elsewhere = gives_elsewhere k entry until (orders_at entry p) p.orders differ in
        no_more k (Submit entry command until) p (after_give entry command until p) t refl
        (ap (λ (x : Bool). if x then accepted_as (give_refusal entry command p) (orders_at entry p) command until else []) other) refl refl
        (quiet_so k t p.bus (after_submit_at entry command p.bus) (gives_in entry until (orders_at entry p) p.orders) p.told p.places
        (quiet_other k entry (entry_submits command) p.bus differ)
        (other_orders k t p.bus p.orders (gives_in entry until (orders_at entry p) p.orders) p.told p.places elsewhere.0 elsewhere.1 is))

-- ---- orders that are taken back, or have expired

-- what an entry whose order may leave has before and after
record Withdrawn (k : ℕ) (b : BusState) (cmd : Command) : Type 0 where
  gone : withdrawal_at k b ≡ Ok (Some cmd)
  config : (after_withdraw_at k b).config ≡ b.config
  room : room_at k (after_withdraw_at k b).devices.entries ≡ room_at k b.devices.entries
  count : length (after_withdraw_at k b).devices.entries ≡ length b.devices.entries
  report : (after_withdraw_at k b).devices.report ≡ b.devices.report
  pend : pending_at k b.devices.entries ≡ cmd ∷ pending_at k (after_withdraw_at k b).devices.entries

-- .. or nothing of this entry leaves
abbrev Withdraws : ℕ → ℕ → BusState → Type 0
Withdraws k entry b =
    (IsQuiet k b (after_withdraw_at entry b) × ((entry ≡ k) → taken_back (withdrawal_at k b) ≡ [])) ⊎ ((entry ≡ k) × (cmd : Command) × Withdrawn k b cmd)

withdraws_is : (k entry : ℕ) (b : BusState) → Withdraws k entry b
withdraws_is k entry b = by_place (entry == k) refl
  where
    here : (o : Option Entry) → device_of k b ≡ o → Withdraws k k b
    here None at =
        inl (
          subst (λ (c : BusState). IsQuiet k b c) (sym (ap (set_to k entry_withdraws b) at)) (as_it_is k b),
          λ same. ap (λ o. taken_back (withdrawal_of o)) at,
        )
    here (Some d) at = by_gone (gives d)
      where
        is : after_withdraw_at k b ≡ set_to k entry_withdraws b (Some d)
        is = ap (set_to k entry_withdraws b) at

        by_gone : Gives d → Withdraws k k b
        by_gone (inl none) =
            inl (
              subst (λ (c : BusState). IsQuiet k b c) (sym is) (quiet_set k k d (entry_withdraws d) b at none.1 refl),
              λ same. ap (λ o. taken_back (withdrawal_of o)) at ∙ ap (λ o. taken_back (Ok o)) none.0,
            )
        by_gone (inr (cmd, back)) =
            let e = entry_withdraws d in
            let set = slice_set b.devices.entries k e in
            let now : slice_get set k ≡ Some e = set_same b.devices.entries k d e at in
            inr (
              refl,
              cmd,
              record {
                gone = ap withdrawal_of at ∙ ap Ok back.is;
                config = ap (λ (c : BusState). c.config) is;
                room = ap (λ (c : BusState). room_at k c.devices.entries) is ∙ ap room_in now ∙ sym (ap room_in at);
                count = ap (λ (c : BusState). length c.devices.entries) is ∙ set_count b.devices.entries k e;
                report = ap (λ (c : BusState). c.devices.report) is;
                pend = ap pending_in at ∙ back.front ∙ ap (λ o. cmd ∷ pending_in o) (sym now) ∙ ap (λ (c : BusState). cmd ∷ pending_at k c.devices.entries) (sym is);
              },
            )

    by_place : (x : Bool) → (entry == k) ≡ x → Withdraws k entry b
    by_place true same =
        let place : k ≡ entry = sym (eqb-true entry k same) in
        subst (λ (e : ℕ). Withdraws k e b) place (here (device_of k b) refl)
    by_place false other =
        let differ = eqb-false entry k other in inl (quiet_other k entry entry_withdraws b differ, λ same. absurd (differ same))

pub withdraws_so : (k : ℕ) (t : Tally) (p : PanelState) (entry : ℕ) → Holds k t p → Holds k (more k (Withdraw entry) p t) (after_withdraw entry p)
withdraws_so k t p entry is = by_gone (withdraws_is k entry p.bus)
  where
    none_back : (x : Bool) → (entry == k) ≡ x → ((entry ≡ k) → taken_back (withdrawal_at k p.bus) ≡ []) → (if x then taken_back (withdrawal_at entry p.bus) else []) ≡ []
    none_back true same none = let place = eqb-true entry k same in ap (λ e. taken_back (withdrawal_at e p.bus)) place ∙ none place
    none_back false other none = refl

    by_gone : Withdraws k entry p.bus → Holds k (more k (Withdraw entry) p t) (after_withdraw entry p)
    by_gone (inl (quiet, none)) =
        no_more k (Withdraw entry) p (after_withdraw entry p) t refl refl refl (none_back (entry == k) refl none)
        (kept_quiet k t p.bus (after_withdraw_at entry p.bus) p.orders p.told p.places quiet is)
    by_gone (inr (place, cmd, w)) =
        let so = leaves_back k t p.bus (after_withdraw_at k p.bus) p.orders p.told p.places cmd is w.config w.room w.count w.report w.pend in
        let back : back_in k (Withdraw k) p ≡ cmd ∷ [] =
        ap (λ (x : Bool). if x then taken_back (withdrawal_at k p.bus) else []) (eq-eqb k k refl) ∙ ap taken_back w.gone in
        let tally : ◌≡◌ {A = Tally} (record t { back = t.back ++ cmd ∷ [] }) (more k (Withdraw k) p t) = (λ i. record {
          added = (sym (append-nil t.added)) i;
          accepted = (sym (append-nil t.accepted)) i;
          told = (sym (append-nil t.told)) i;
          back = (ap (λ l. t.back ++ l) (sym back)) i;
        }) in
        subst (λ (e : ℕ). Holds k (more k (Withdraw e) p t) (after_withdraw e p)) (sym place)
        (subst (λ (u : Tally). Holds k u (after_withdraw k p)) tally so)

-- ---- reports

no_late : (k entry : ℕ) (x : Bool) → (entry == k) ≡ x → (p : PanelState) → ((entry ≡ k) → taken_back (withdrawal_at k p.bus) ≡ [])
    → ended_by k (expired_of entry (withdrawal_at entry p.bus) p) ≡ []
no_late k entry true same p none = by_gone (withdrawal_at entry p.bus) (ap (λ e. taken_back (withdrawal_at e p.bus)) place ∙ none place)
  where
    place : entry ≡ k
    place = eqb-true entry k same

    by_gone : (r : Result (Option Command) BusFault) → taken_back r ≡ [] → ended_by k (expired_of entry r p) ≡ []
    by_gone (Ok None) is = refl
    by_gone (Ok (Some c)) is = absurd cc
    by_gone (Err fault) is = refl
no_late k entry false other p none = by_gone (withdrawal_at entry p.bus)
  where
    by_gone : (r : Result (Option Command) BusFault) → ended_by k (expired_of entry r p) ≡ []
    by_gone (Ok None) = refl
    by_gone (Ok (Some c)) =
        ap (λ (x : Bool). if x then ended_as (Some (front_number (device_of entry p.bus) (orders_at entry p))) (Some c) else []) other
    by_gone (Err fault) = refl

-- an order that is late is told, and is gone
pub late_so : (k : ℕ) (t : Tally) (p : PanelState) (entry : ℕ) → p.bus.devices.report ≡ None → Holds k t p
    → Holds k (record t { told = t.told ++ ended_by k (expired_of entry (withdrawal_at entry p.bus) p) }) (after_withdraw entry p)
late_so k t p entry quiet is = by_gone (withdraws_is k entry p.bus)
  where
    by_gone : Withdraws k entry p.bus → Holds k (record t { told = t.told ++ ended_by k (expired_of entry (withdrawal_at entry p.bus) p) }) (after_withdraw entry p)
    by_gone (inl (same, none)) =
        let told : t.told ≡ t.told ++ ended_by k (expired_of entry (withdrawal_at entry p.bus) p) =
        sym (append-nil t.told) ∙ ap (λ l. t.told ++ l) (sym (no_late k entry (entry == k) refl p none)) in
        subst (λ (l : List Ended). Holds k (record t { told = l }) (after_withdraw entry p)) told
        (kept_quiet k t p.bus (after_withdraw_at entry p.bus) p.orders p.told p.places same is)
    by_gone (inr (place, cmd, w)) =
        let number = front_number (device_of k p.bus) (orders_at k p) in
        let numbers : (o : Orders) → slice_get p.orders k ≡ Some o → number ≡ o.next - length (pending_at k p.bus.devices.entries) =
        λ o at.
        let d = get_both p.orders p.bus.devices.entries k o is.entries at in
        ap (λ e. front_number e (orders_at k p)) d.1 ∙ ap (λ x. front_number (Some d.0) x) at
        ∙ ap (λ n. o.next - n) (orders_are d.0 ∙ ap (λ e. length (pending_in e)) (sym d.1)) in
        let so = leaves_late k t p.bus (after_withdraw_at k p.bus) p.orders p.told p.places number cmd is w.config w.room w.count w.report quiet w.pend numbers in
        let told : record { number = number; command = cmd } ∷ [] ≡ ended_by k (expired_of k (withdrawal_at k p.bus) p) =
        sym (ap (λ r. ended_by k (expired_of k r p)) w.gone ∙ ap (λ (x : Bool). if x then ended_as (Some number) (Some cmd) else []) (eq-eqb k k refl)) in
        subst (λ (e : ℕ). Holds k (record t { told = t.told ++ ended_by k (expired_of e (withdrawal_at e p.bus) p) }) (after_withdraw e p)) (sym place)
        (subst (λ (l : List Ended). Holds k (record t { told = t.told ++ l }) (after_withdraw k p)) told so)
