-- After each call what is noted of the entries agrees with what is noted along the moves that the call comes to.
use Rattle.std.proofs.Common.{◌≡◌, ◌≢◌, ℕ, zero, suc, max, Bool, true, false, cond, List, [], ◌∷◌, ◌++◌, map, Option, Some, None, refl, sym, subst, ap, ◌∙◌, inl, inr, is_some}
use Rattle.osdp_calls.proofs.Common.{eqb_tells, option_map_or, ◌==◌, ◌&&◌, slice_get, slice_set, Room, Command, comset_of, ControllerConfig, State, Closed, BusState, device_of, seen, changed_unless, changes_entry, new_device, BusConfig, Entry, BusFault, is_false, is_true, Each, Answer, Net, NetMove, RestartPanel, Retarget, Site, Submit, address_of, is_command_accepted, is_retarget_accepted, site_at, Note, also_at, noted_at, two_addresses, at_changed, some_same, Call, NewPanel, OfPanel, all_forget, begun_of, change_at, changes_at, is_to_begin, panel_made_anew, InUse, Station, noted_of, notes_after}
use Rattle.osdp_bus.specs.Entries as devices
use Rattle.osdp_bus.specs.Machine as bus
use Rattle.osdp_bus_laws.specs.Calls as panel
use Rattle.osdp_calls.proofs.Accepting.{command_accepted, retarget_accepted}
use Rattle.osdp_calls.proofs.Agreeing.{AllAgree, address_same, at_entry}
use Rattle.osdp_calls.proofs.Along.{notes_along, still_along}
use Rattle.osdp_calls.proofs.Losing.{IsStill}
use Rattle.osdp_calls.proofs.Noticing.{Agrees, got_new, got_other}
use Rattle.osdp_calls.proofs.Same.{IsNetOf}
use Rattle.osdp_calls.proofs.Lasting.{change_keeps, forget_keeps}
use Rattle.osdp_calls.proofs.Matching.{IsOurs}
use Rattle.osdp_calls.proofs.Places.{station_other}

-- ---- the entries of a bus of which one changes

pub data ChangedAt (k : ℕ) (change : Entry → Entry) (b : BusState) (j : ℕ) (next : Entry) : Type 0 where
  AsBefore : j ≢ k → device_of j b ≡ Some next → ChangedAt k change b j next
  IsChanged : j ≡ k → (d : Entry) → device_of k b ≡ Some d → change d ≡ next → ChangedAt k change b j next

pub changed_at : (k : ℕ) (change : Entry → Entry) (b : BusState) (j : ℕ) (next : Entry) → device_of j (changes_entry k change b) ≡ Some next
    → ChangedAt k change b j next
changed_at k change b j next at = by_device (device_of k b) refl
  where
    by_device : (q : Option Entry) → device_of k b ≡ q → ChangedAt k change b j next
    by_device None none =
        let was : device_of j b ≡ Some next = sym (ap (λ o. device_of j (option_map_or (λ (d : Entry). record b {
          devices = record b.devices { entries = slice_set b.devices.entries k (change d) };
        }) o b)) none) ∙ at in
        AsBefore (λ same. let there = subst (λ i. device_of i b ≡ Some next) same was in absurd (let f = sym none ∙ there in cc)) was
    by_device (Some d) there =
        let set : slice_get (slice_set b.devices.entries k (change d)) j ≡ Some next =
        sym (ap (λ o. device_of j (option_map_or (λ (e : Entry). record b {
          devices = record b.devices { entries = slice_set b.devices.entries k (change e) };
        }) o b)) there) ∙ at in
        elim (eqb_tells j k) [
          | inl equal ↦
              IsChanged equal.1 d there (some_same (change d) next (sym (got_new k (change d) d b.devices.entries there)
              ∙ subst (λ i. slice_get (slice_set b.devices.entries k (change d)) i ≡ Some next) equal.1 set))
          | inr differs ↦ AsBefore differs.1 (sym (got_other j k (change d) b.devices.entries differs.1) ∙ set)
        ]

pub new_at : (config : BusConfig) (k : ℕ) (d : Entry) (xs : List ℕ) → slice_get (map (λ a. new_device a config) xs) k ≡ Some d
    → (a : ℕ) × (site_at k xs ≡ Some a) × (d ≡ new_device a config)
new_at config k d [] is = absurd (let e = is in cc)
new_at config zero d (a ∷ xs) is = (a, refl, some_same d (new_device a config) (sym is))
new_at config (suc k) d (a ∷ xs) is = new_at config k d xs is

-- more addresses are noted of both
with_more : (more : List ℕ) (o : Option ℕ) (state : State) (x y : Note) → Agrees o state x y → Agrees o state (also_at more x) (also_at more y)
with_more more o state x y old =
    record { addresses = ap (λ xs. more ++ xs) old.addresses; begun = old.begun; opening = old.opening }

module _ {H : Type 0} where
  -- ---- entries from before a call, with what is noted of them since

  pub record Carried (call : Call H) (l next : InUse H) (notes noted noted2 : ℕ → Note) (j : ℕ) (e : Entry) : Type 0 where
    pub device : Entry
    pub was : device_of j l.bus ≡ Some device
    pub agrees : Agrees (begun_of (site_at j l.stations)) device.controller.session.state (notes j) (noted j)
        → Agrees (begun_of (site_at j next.stations)) e.controller.session.state (noted_of j (Some device) call l (notes j)) (noted2 j)

  pub all_carried : (call : Call H) (l next : InUse H) (notes noted noted2 : ℕ → Note) → AllAgree l notes noted
      → ((j : ℕ) → is_some (site_at j next.stations) ≡ is_some (site_at j l.stations))
      → ((j : ℕ) (e : Entry) → IsOurs j l.stations → device_of j next.bus ≡ Some e → Carried call l next notes noted noted2 j e)
      → AllAgree next (notes_after call l notes) noted2
  all_carried call l next notes noted noted2 agree keeps each j e still at =
      let own = sym (keeps j) ∙ still in
      let c = each j e own at in
      subst (λ x. Agrees (begun_of (site_at j next.stations)) e.controller.session.state x (noted2 j))
      (sym (ap (λ o. noted_of j o call l (notes j)) c.was)) (c.agrees (agree j c.device own c.was))

  -- of one of which nothing is noted
  pub as_it_was : (call : Call H) (l next : InUse H) (notes noted noted2 : ℕ → Note) (j : ℕ) (d e : Entry) → device_of j l.bus ≡ Some d
      → d.controller.session.state ≡ e.controller.session.state → begun_of (site_at j next.stations) ≡ begun_of (site_at j l.stations)
      → noted_of j (Some d) call l (notes j) ≡ notes j → noted2 j ≡ noted j → Carried call l next notes noted noted2 j e
  as_it_was call l next notes noted noted2 j d e was state begun mine its = record {
    device = d;
    was = was;
    agrees = λ old. subst (λ (q : Option ℕ × State × Note × Note). Agrees q.0 q.1 q.2 q.3) (λ i. (sym begun i, state i, sym mine i, sym its i)) old;
  }

  -- of one of which more addresses are noted
  pub also_noted : (call : Call H) (l next : InUse H) (notes noted noted2 : ℕ → Note) (j : ℕ) (d e : Entry) (more : List ℕ) → device_of j l.bus ≡ Some d
      → d.controller.session.state ≡ e.controller.session.state → begun_of (site_at j next.stations) ≡ begun_of (site_at j l.stations)
      → noted_of j (Some d) call l (notes j) ≡ also_at more (notes j) → noted2 j ≡ also_at more (noted j) → Carried call l next notes noted noted2 j e
  also_noted call l next notes noted noted2 j d e more was state begun mine its = record {
    device = d;
    was = was;
    agrees = λ old. subst (λ (q : Option ℕ × State × Note × Note). Agrees q.0 q.1 q.2 q.3) (λ i. (sym begun i, state i, sym mine i, sym its i))
        (with_more more (begun_of (site_at j l.stations)) d.controller.session.state (notes j) (noted j) old);
  }

  module _ (answer_of : H → Command → Answer) (after : H → Command → H) where
    -- ---- calls of devices, and others that change no entry and note nothing

    pub rests_agree : (call : Call H) (l next : InUse H) (n : Net H) (notes noted : ℕ → Note) (moves : List (NetMove H)) → Each IsStill moves
        → next.bus.devices.entries ≡ l.bus.devices.entries
        → ((j : ℕ) → begun_of (site_at j next.stations) ≡ begun_of (site_at j l.stations))
        → ((j : ℕ) (d : Entry) → noted_of j (Some d) call l (notes j) ≡ notes j)
        → ((j : ℕ) → is_some (site_at j next.stations) ≡ is_some (site_at j l.stations))
        → AllAgree l notes noted → AllAgree next (notes_after call l notes) (notes_along answer_of after moves n noted)
    rests_agree call l next n notes noted moves still entries begun mine keeps agree =
        all_carried call l next notes noted (notes_along answer_of after moves n noted) agree keeps (λ j e own at.
        as_it_was call l next notes noted (notes_along answer_of after moves n noted) j e e (sym (ap (λ es. slice_get es j) entries) ∙ at) refl (begun j) (mine j e)
        (λ i. still_along answer_of after moves n noted still i j))

    -- ---- a command is taken back

    pub withdraw_agrees : (k : ℕ) (l : InUse H) (n : Net H) (notes noted : ℕ → Note) (moves : List (NetMove H)) → Each IsStill moves → AllAgree l notes noted
        → AllAgree (record l {
          bus = bus.after_withdraw_at k l.bus;
        }) (notes_after (OfPanel (panel.Withdraw k)) l notes) (notes_along answer_of after moves n noted)
    withdraw_agrees k l n notes noted moves still agree =
        let call : Call H = OfPanel (panel.Withdraw k) in
        let next : InUse H = record l { bus = bus.after_withdraw_at k l.bus } in
        let noted2 = notes_along answer_of after moves n noted in
        all_carried call l next notes noted noted2 agree (λ j. refl)
        (λ j e own at. elim (changed_at k bus.entry_withdraws l.bus j e at) [
          | AsBefore other was ↦
              as_it_was call l next notes noted noted2 j e e was refl refl refl (λ i. still_along answer_of after moves n noted still i j)
          | IsChanged same d was becomes ↦
              as_it_was call l next notes noted noted2 j d e (subst (λ i. device_of i l.bus ≡ Some d) (sym same) was)
              (ap (λ (f : Entry). f.controller.session.state) becomes) refl refl (λ i. still_along answer_of after moves n noted still i j)
        ])

    -- ---- a session is begun

    begins_at : (k moment : ℕ) (t : Station H) (ts : List (Station H)) → site_at k ts ≡ Some t → begun_of (site_at k (change_at k (is_to_begin moment) ts)) ≡ Some moment
    begins_at k moment t ts there =
        ap (λ o. begun_of (site_at k (changes_at k (is_to_begin moment) o ts))) there ∙ ap begun_of (at_changed k (is_to_begin moment t) t ts there)

    pub begin_agrees : (k now : ℕ) (l : InUse H) (n m : Net H) (notes noted : ℕ → Note) (moves : List (NetMove H)) → IsNetOf l m → Each IsStill moves
        → AllAgree l notes noted → AllAgree (record l {
          bus = changed_unless (bus.begin_refusal_at k l.bus) l.bus (bus.after_begin_at k now l.bus);
          stations = changed_unless (bus.begin_refusal_at k l.bus) l.stations (change_at k (is_to_begin (max l.bus.greatest now)) l.stations);
        }) (notes_after (OfPanel (panel.Begin k now)) l notes) (notes_along answer_of after moves n noted)
    begin_agrees k now l n m notes noted moves h still agree = by_fault (bus.begin_refusal_at k l.bus) refl
      where
        its : (j : ℕ) → notes_along answer_of after moves n noted j ≡ noted j
        its j = (λ i. still_along answer_of after moves n noted still i j)

        mine : (f : Option BusFault) → bus.begin_refusal_at k l.bus ≡ f → (j : ℕ) (d : Entry)
            → noted_of j (Some d) (OfPanel (panel.Begin k now)) l (notes j) ≡ cond (k == j) (changed_unless f (notes j) (record (notes j) { begun = true })) (notes j)
        mine f is j d = ap (λ o. cond (k == j) (changed_unless o (notes j) (record (notes j) { begun = true })) (notes j)) is

        either : (b : Bool) (note : Note) → cond b note note ≡ note
        either true note = refl
        either false note = refl

        by_fault : (f : Option BusFault) → bus.begin_refusal_at k l.bus ≡ f → AllAgree (record l {
          bus = changed_unless f l.bus (bus.after_begin_at k now l.bus);
          stations = changed_unless f l.stations (change_at k (is_to_begin (max l.bus.greatest now)) l.stations);
        }) (notes_after (OfPanel (panel.Begin k now)) l notes) (notes_along answer_of after moves n noted)
        by_fault (Some fault) is =
            rests_agree (OfPanel (panel.Begin k now)) l l n notes noted moves still refl (λ j. refl)
            (λ j d. mine (Some fault) is j d ∙ either (k == j) (notes j)) (λ j. refl) agree
        by_fault None is =
            let moment = max l.bus.greatest now in
            let next : InUse H = record l { bus = bus.after_begin_at k now l.bus; stations = change_at k (is_to_begin moment) l.stations } in
            let noted2 = notes_along answer_of after moves n noted in
            all_carried (OfPanel (panel.Begin k now)) l next notes noted noted2 agree (λ j. change_keeps j k (is_to_begin moment) l.stations) (λ j e own at.
            elim (changed_at k (bus.entry_begins moment) (seen now l.bus) j e at) [
              | AsBefore other was ↦
                  as_it_was (OfPanel (panel.Begin k now)) l next notes noted noted2 j e e was refl (ap begun_of (station_other j k (is_to_begin moment) l.stations other))
                  (mine None is j e ∙ ap (λ b. cond b (record (notes j) { begun = true }) (notes j)) (is_false k j (λ f. other (sym f)))) (its j)
              | IsChanged same d was becomes ↦
                  let there : device_of j l.bus ≡ Some d = subst (λ i. device_of i l.bus ≡ Some d) (sym same) was in
                  let entry = at_entry k d l m h (subst (λ i. IsOurs i l.stations) same own) was in
                  let begun : begun_of (site_at j next.stations) ≡ Some moment =
                  subst (λ i. begun_of (site_at i next.stations) ≡ Some moment) (sym same) (begins_at k moment entry.station l.stations entry.there) in
                  let note : noted_of j (Some d) (OfPanel (panel.Begin k now)) l (notes j) ≡ record (notes j) { begun = true } =
                  mine None is j d ∙ ap (λ b. cond b (record (notes j) { begun = true }) (notes j)) (is_true k j (sym same)) in
                  record {
                    device = d;
                    was = there;
                    agrees = λ old. subst (λ (q : Option ℕ × State × Note × Note). Agrees q.0 q.1 q.2 q.3)
                        (λ i. (sym begun i, ap (λ (f : Entry). f.controller.session.state) becomes i, sym note i, sym (its j) i))
                        (record { addresses = old.addresses; begun = refl; opening = λ b. tt });
                  }
            ])

    -- ---- a command

    pub submit_agrees : (k : ℕ) (command : Command) (l : InUse H) (n : Net H) (notes noted : ℕ → Note) → IsNetOf l n
        → bus.submit_refusal_at k command l.bus ≡ None → AllAgree l notes noted
        → AllAgree (record l { bus = bus.after_submit_at k command l.bus })
        (notes_after (OfPanel (panel.Submit k command)) l notes) (notes_along answer_of after (Submit k command ∷ []) n noted)
    submit_agrees k command l n notes noted h none agree =
        let call : Call H = OfPanel (panel.Submit k command) in
        let next : InUse H = record l { bus = bus.after_submit_at k command l.bus } in
        let noted2 = notes_along answer_of after (Submit k command ∷ []) n noted in
        all_carried call l next notes noted noted2 agree (λ j. refl)
        (λ j e own at. elim (changed_at k (bus.entry_submits command) l.bus j e at) [
          | AsBefore other was ↦
              as_it_was call l next notes noted noted2 j e e was refl refl
              (ap (λ b. cond b (changed_unless (bus.submit_refusal_at k command l.bus) (notes j)
              (also_at (two_addresses (devices.address_of e) (comset_of command)) (notes j))) (notes j)) (is_false k j (λ f. other (sym f))))
              (unnoted j (site_at j n.sites) (λ f. other (sym f)))
          | IsChanged same d was becomes ↦
              let it = at_entry k d l n h (subst (λ i. IsOurs i l.stations) same own) was in
              let more = two_addresses (devices.address_of d) (comset_of command) in
              also_noted call l next notes noted noted2 j d e more (subst (λ i. device_of i l.bus ≡ Some d) (sym same) was)
              (ap (λ (f : Entry). f.controller.session.state) becomes) refl
              (ap (λ b. cond b (changed_unless (bus.submit_refusal_at k command l.bus) (notes j) (also_at more (notes j))) (notes j)) (is_true k j (sym same))
              ∙ ap (λ f. changed_unless f (notes j) (also_at more (notes j))) none)
              (subst (λ i. noted2 i ≡ also_at more (noted i)) (sym same)
              (noted_so it.site it.at (command_accepted answer_of after k command d it.station it.site l n h was it.is none)
              ∙ ap (λ a. also_at (two_addresses a (comset_of command)) (noted k)) (address_same k d l it.station it.site it.is)))
        ])
      where
        unnoted : (j : ℕ) (o : Option (Site H)) → k ≢ j → noted_at j o (Submit k command) n (noted j) ≡ noted j
        unnoted j None other = refl
        unnoted j (Some s) other =
            ap (λ b. cond (b && is_command_accepted k command s n.sites)
            (also_at (two_addresses (address_of s) (comset_of command)) (noted j)) (noted j)) (is_false k j other)

        noted_so : (s : Site H) → site_at k n.sites ≡ Some s → is_command_accepted k command s n.sites ≡ true
            → notes_along answer_of after (Submit k command ∷ []) n noted k ≡ also_at (two_addresses (address_of s) (comset_of command)) (noted k)
        noted_so s there accepted =
            ap (λ o. noted_at k o (Submit k command) n (noted k)) there
            ∙ ap (λ b. cond (b && is_command_accepted k command s n.sites)
            (also_at (two_addresses (address_of s) (comset_of command)) (noted k)) (noted k)) (is_true k k refl)
            ∙ ap (λ b. cond b (also_at (two_addresses (address_of s) (comset_of command)) (noted k)) (noted k)) accepted

    -- ---- another address

    pub retarget_agrees : (k address : ℕ) (l : InUse H) (n : Net H) (notes noted : ℕ → Note) → IsNetOf l n
        → bus.retarget_refusal_at k address l.bus ≡ None → AllAgree l notes noted
        → AllAgree (record l { bus = bus.after_retarget_at k address l.bus }) (notes_after (OfPanel (panel.Retarget k address)) l notes)
        (notes_along answer_of after (Retarget k address ∷ []) n noted)
    retarget_agrees k address l n notes noted h none agree =
        let call : Call H = OfPanel (panel.Retarget k address) in
        let next : InUse H = record l { bus = bus.after_retarget_at k address l.bus } in
        let noted2 = notes_along answer_of after (Retarget k address ∷ []) n noted in
        all_carried call l next notes noted noted2 agree (λ j. refl) (λ j e own at. elim (changed_at k (bus.entry_retargets address) l.bus j e at) [
          | AsBefore other was ↦
              as_it_was call l next notes noted noted2 j e e was refl refl
              (ap (λ b. cond b (changed_unless (bus.retarget_refusal_at k address l.bus) (notes j) (also_at (devices.address_of e ∷ []) (notes j))) (notes j))
              (is_false k j (λ f. other (sym f))))
              (unnoted j (site_at j n.sites) (λ f. other (sym f)))
          | IsChanged same d was becomes ↦
              let it = at_entry k d l n h (subst (λ i. IsOurs i l.stations) same own) was in
              let more = devices.address_of d ∷ [] in
              also_noted call l next notes noted noted2 j d e more (subst (λ i. device_of i l.bus ≡ Some d) (sym same) was)
              (ap (λ (f : Entry). f.controller.session.state) becomes) refl
              (ap (λ b. cond b (changed_unless (bus.retarget_refusal_at k address l.bus) (notes j) (also_at more (notes j))) (notes j)) (is_true k j (sym same))
              ∙ ap (λ f. changed_unless f (notes j) (also_at more (notes j))) none)
              (subst (λ i. noted2 i ≡ also_at more (noted i)) (sym same)
              (noted_so it.site it.at (retarget_accepted answer_of after k address d it.station it.site l n h was it.is none)
              ∙ ap (λ a. also_at (a ∷ []) (noted k)) (address_same k d l it.station it.site it.is)))
        ])
      where
        unnoted : (j : ℕ) (o : Option (Site H)) → k ≢ j → noted_at j o (Retarget k address) n (noted j) ≡ noted j
        unnoted j None other = refl
        unnoted j (Some s) other =
            ap (λ b. cond (b && is_retarget_accepted k address s n.sites)
            (also_at (address_of s ∷ []) (noted j)) (noted j)) (is_false k j other)

        noted_so : (s : Site H) → site_at k n.sites ≡ Some s → is_retarget_accepted k address s n.sites ≡ true
            → notes_along answer_of after (Retarget k address ∷ []) n noted k ≡ also_at (address_of s ∷ []) (noted k)
        noted_so s there accepted =
            ap (λ o. noted_at k o (Retarget k address) n (noted k)) there
            ∙ ap (λ b. cond (b && is_retarget_accepted k address s n.sites)
            (also_at (address_of s ∷ []) (noted k)) (noted k)) (is_true k k refl)
            ∙ ap (λ b. cond b (also_at (address_of s ∷ []) (noted k)) (noted k)) accepted

    -- ---- the panel is made anew

    forgotten : (k : ℕ) (d : Entry) (ds : List Entry) (ts : List (Station H)) → slice_get ds k ≡ Some d → begun_of (site_at k (all_forget ds ts)) ≡ None
    forgotten k d [] ts is = absurd (let e = is in cc)
    forgotten k d (e ∷ ds) [] is = refl
    forgotten zero d (e ∷ ds) (t ∷ ts) is = refl
    forgotten (suc k) d (e ∷ ds) (t ∷ ts) is = forgotten k d ds ts is

    pub panel_agrees : (config : BusConfig) (xs : List ℕ) (settings : ℕ → ControllerConfig × Room) (l : InUse H) (n : Net H) (notes noted : ℕ → Note) → IsNetOf l n
        → ((k a : ℕ) → IsOurs k l.stations → site_at k xs ≡ Some a → (d : Entry) × (device_of k l.bus ≡ Some d)) → AllAgree l notes noted
        → AllAgree (panel_made_anew config xs l) (notes_after (NewPanel config xs) l notes) (notes_along answer_of after (RestartPanel settings ∷ []) n noted)
    panel_agrees config xs settings l n notes noted h has agree =
        let call : Call H = NewPanel config xs in
        let next : InUse H = panel_made_anew config xs l in
        let noted2 = notes_along answer_of after (RestartPanel settings ∷ []) n noted in
        all_carried call l next notes noted noted2 agree (λ j. forget_keeps j l.bus.devices.entries l.stations) (λ j e own at.
        let made = new_at config j e xs at in
        let old = has j made.0 own made.1 in
        let it = at_entry j old.0 l n h own old.1 in
        let closed : e.controller.session.state ≡ Closed = ap (λ (f : Entry). f.controller.session.state) made.2 in
        let note : noted2 j ≡ also_at (devices.address_of old.0 ∷ []) (noted j) =
        ap (λ o. noted_at j o (RestartPanel settings) n (noted j)) it.at ∙ ap (λ a. also_at (a ∷ []) (noted j)) (address_same j old.0 l it.station it.site it.is) in
        record {
          device = old.0;
          was = old.1;
          agrees = λ was. subst (λ (q : Option ℕ × State × Note). Agrees q.0 q.1 (also_at (devices.address_of old.0 ∷ []) (notes j)) q.2)
              (λ i. (sym (forgotten j old.0 l.bus.devices.entries l.stations old.1) i, sym closed i, sym note i))
              (record { addresses = ap (λ ys. devices.address_of old.0 ∷ ys) was.addresses; begun = tt; opening = λ b. tt });
        })
