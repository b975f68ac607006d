-- The calls of a panel's program that read nothing: sessions, commands and addresses.
use Rattle.std.proofs.Common.{◌≡◌, ◌||◌, ◌&&◌, ◌-◌, ◌*◌, ℕ, zero, suc, ◌+◌, max, Bool, true, false, cond, List, [], ◌++◌, length, take, drop, Option, Some, None, refl, sym, subst, ap, ◌∙◌, arith, inl, inr}
use Rattle.osdp_calls.proofs.Common.{option_map_or, is_some, nat_le, nat_lt, option_map, option_to_list, slice_get, slice_set, Packet, CommandFits, most_data, Command, Poll, Communication, has_comset, comset_of, Machine, begin_refusal, bytes_waiting, command_size, retarget_refusal, submit_refusal, Closed, BusState, seen, reserved_for, after_begin_at, after_submit_at, begin_refusal_at, bus_fault, changed_unless, changes_entry, entry_begins, submit_refusal_at, Entry, BusFault, Answer, HasNoOther, Sets, Somewhere, outstanding_command, Net, NetMove, Retarget, Site, Submit, Withdraw, after_net, changed, site_at, OfPanel, begun_of, change_at, changes_at, is_to_begin, withdrawn, InUse, Station, IsAsked, IsNoOthers, IsSaid, IsThere, MayBeAt, or_parts}
use Rattle.osdp_controller.specs.Machine as controllers
use Rattle.osdp_controller.specs.Held.{on_its_way}
use Rattle.osdp_controller.specs.declared.fault.ControllerFault.{ControllerFault}
use Rattle.osdp_controller.specs.declared.fault.ControllerFault.TheVariants.{Full}
use Rattle.osdp_bus.specs.Entries as devices
use Rattle.osdp_bus.specs.Machine as bus
use Rattle.osdp_bus.specs.declared.fault.BusFault.TheVariants.{AddressTaken}
use Rattle.osdp_bus_laws.specs.Calls as panel
use Rattle.osdp_link_laws.specs.Link as link
use Rattle.osdp_shared_line.specs.Addresses as addresses
use Rattle.osdp_shared_line.specs.Line as line
use Rattle.osdp_calls.proofs.Controllers.{closed_of, config_same, is_to_open, retargeted_same, submitted_same, taken_back_same, waiting_same, withdrawn_same}
use Rattle.osdp_calls.proofs.Matching.{And, Done, FoundAt, Match, Nobody, Somebody, changed_same, found, set, set_other, set_same}
use Rattle.osdp_calls.proofs.Panel.{at_seen}
use Rattle.osdp_calls.proofs.Same.{Controls, IsNetOf, IsSame, IsToOpen, controlled_so, sites_so}
use Rattle.osdp_calls.proofs.Stations.{Makes, OfSite, Sites, make_move, make_none, of_site}
use Rattle.osdp_calls.proofs.Steps.{Made, MadeByPanel, StepsTo, by_other, by_own, by_plain, by_refusal}
use Rattle.osdp_bus_laws.proofs.Calling.{map_none}

-- no session of it was begun where its controller is closed
pub not_begun : (o : Option ℕ) (top : ℕ) (m c : Machine) → Controls o top m c → m.session.state ≡ Closed → o ≡ None
not_begun None top m c is shut = refl
not_begun (Some began) top m c is shut = absurd (let e = sym is.quiet ∙ shut in cc)

or_assoc : (a b c : Bool) → (a || b) || c ≡ a || (b || c)
or_assoc true b c = refl
or_assoc false b c = refl

pub asked_same : (o : Option ℕ) (top : ℕ) (m c : Machine) → Controls o top m c → option_to_list (outstanding_command c.session.state) ≡ option_to_list (outstanding_command m.session.state)
asked_same None top m c is = ap (λ (x : Machine). option_to_list (outstanding_command x.session.state)) is.same
asked_same (Some began) top m c is = ap (λ (x : Machine). option_to_list (outstanding_command x.session.state)) is.same ∙ sym (ap (λ st. option_to_list (outstanding_command st)) is.quiet)

-- the same command is on its way
sent_same : (o : Option ℕ) (top : ℕ) (m c : Machine) → Controls o top m c → on_its_way c.session.state ≡ on_its_way m.session.state
sent_same None top m c is = ap (λ (x : Machine). on_its_way x.session.state) is.same
sent_same (Some began) top m c is = ap (λ (x : Machine). on_its_way x.session.state) is.same ∙ sym (ap on_its_way is.quiet)

submit_alike : (command : Command) (m c : Machine) → c.waiting ≡ m.waiting → c.capacity ≡ m.capacity → c.room ≡ m.room
    → on_its_way c.session.state ≡ on_its_way m.session.state → submit_refusal command c ≡ submit_refusal command m
submit_alike Poll m c waiting places room sent = refl
submit_alike command m c waiting places room sent =
    (λ i. cond (nat_lt (length (waiting i)) (places i)
    && nat_le (command_size command) (room i - (cond (nat_le (places i * (1 + most_data)) (room i)) 0 (option_map_or command_size (sent i) 0) + bytes_waiting (waiting i))))
    None (Some Full))

-- a bus whose entry at this place changes, where this is that entry, if there is one
abbrev changed_bus : ℕ → (Entry → Entry) → BusState → Option Entry → BusState
changed_bus k change b o = option_map_or (λ (d : Entry). record b { devices = record b.devices { entries = slice_set b.devices.entries k (change d) } }) o b

module _ {H : Type 0} where
  -- an entry without a station changes
  other_changes : (k : ℕ) (change : Entry → Entry) (l : InUse H) (n : Net H) → IsNetOf l n → site_at k l.stations ≡ None
      → IsNetOf (record l { bus = changes_entry k change l.bus }) n
  other_changes k change l n h none = by_entry (slice_get l.bus.devices.entries k) refl
    where
      by_entry : (o : Option Entry) → slice_get l.bus.devices.entries k ≡ o → IsNetOf (record l { bus = changes_entry k change l.bus }) n
      by_entry None is = subst (λ q. IsNetOf (record l { bus = changed_bus k change l.bus q }) n) (sym is) h
      by_entry (Some d) is =
          subst (λ q. IsNetOf (record l { bus = changed_bus k change l.bus q }) n) (sym is)
          (sites_so h (set_other (Sites l) k (change d) l.bus.devices.entries l.stations n.sites none h.sites))

  -- ---- addresses that are taken

  taken_less : (l : InUse H) (i a : ℕ) (ds : List Entry) (ts : List (Station H)) (ss : List (Site H)) → Match (Sites l) i ds ts ss
      → devices.is_taken a ds ≡ false → line.is_taken a ss ≡ false
  taken_less l i a ds1 ts1 ss1 (Done i1 ds) free = refl
  taken_less l i a ds1 ts1 ss1 (And i1 d t s ds ts ss is rest) free =
      let both = or_parts (devices.takes_up a d) (devices.is_taken a ds) free in
      (λ x. (sym up ∙ both.0) x || taken_less l (suc i) a ds ts ss rest both.1 x)
    where
      up : devices.takes_up a d ≡ line.takes_up a s
      up =
          (λ x. (Rattle.std.specs.Prelude.◌==◌ (sym (ap (λ (c : _). c.address) (config_same t.begun l.bus.greatest d.controller s.controller is.controller)) x) a)
          || line.is_reserved a (sym is.reserved x))

  beside_less : (l : InUse H) (i k a : ℕ) (ds : List Entry) (ts : List (Station H)) (ss : List (Site H)) → Match (Sites l) i ds ts ss
      → devices.is_taken a (take k ds) || devices.is_taken a (drop (suc k) ds) ≡ false → line.is_taken_beside k a ss ≡ false
  beside_less l i zero a ds1 ts1 ss1 (Done i1 ds) free = refl
  beside_less l i (suc k) a ds1 ts1 ss1 (Done i1 ds) free = refl
  beside_less l i zero a ds1 ts1 ss1 (And i1 d t s ds ts ss is rest) free = taken_less l (suc i) a ds ts ss rest free
  beside_less l i (suc k) a ds1 ts1 ss1 (And i1 d t s ds ts ss is rest) free =
      let first = or_parts (devices.takes_up a d) (devices.is_taken a (take k ds) || devices.is_taken a (drop (suc k) ds))
      (sym (or_assoc (devices.takes_up a d) (devices.is_taken a (take k ds)) (devices.is_taken a (drop (suc k) ds))) ∙ free) in
      (λ x. (sym up ∙ first.0) x || beside_less l (suc i) k a ds ts ss rest first.1 x)
    where
      up : devices.takes_up a d ≡ line.takes_up a s
      up =
          (λ x. (Rattle.std.specs.Prelude.◌==◌ (sym (ap (λ (c : _). c.address) (config_same t.begun l.bus.greatest d.controller s.controller is.controller)) x) a)
          || line.is_reserved a (sym is.reserved x))

  -- what is free for the bus is free for the net
  pub beside_free : (k a : ℕ) (l : InUse H) (n : Net H) → IsNetOf l n
      → devices.is_taken_beside k a l.bus.devices.entries ≡ false → line.is_taken_beside k a n.sites ≡ false
  beside_free k a l n h free =
      let next : k + 1 ≡ suc k = omega arith in
      beside_less l 0 k a l.bus.devices.entries l.stations n.sites h.sites
      (sym (ap (λ m. devices.is_taken a (take k l.bus.devices.entries) || devices.is_taken a (drop m l.bus.devices.entries)) next) ∙ free)

  -- ---- no other device is there

  pub no_other : (k address : ℕ) (l : InUse H) (n : Net H) → IsNetOf l n → IsNoOthers k address l → HasNoOther k address n
  no_other k address l n h none j s other at may = none j other (by_may (of_site j s l n h at) may)
    where
      by_may : OfSite j s l → addresses.MayComeTo address j s → MayBeAt address j l
      by_may it (addresses.IsThere there) = IsThere it.station it.there (sym (ap (λ (r : _). r.config.address) it.is.reader) ∙ there)
      by_may it (addresses.IsAsked asked) =
          let control = it.is.controller in
          IsAsked it.station it.device it.there it.entry (subst (Somewhere (Sets address))
          (λ i. asked_same it.station.begun l.bus.greatest it.device.controller s.controller control i
          ++ waiting_same it.station.begun l.bus.greatest it.device.controller s.controller control i) asked)
      by_may it (addresses.IsSaid said) =
          IsSaid it.station it.there (subst (Somewhere (λ (q : ℕ × Packet). (q.0 ≡ j) × addresses.SetsReader address q.1)) it.is.coming said)

  module _ (answer_of : H → Command → Answer) (after : H → Command → H) where
    -- ---- a session is to begin

    pub beginning : (entry now : ℕ) (l : InUse H) (n : Net H) → IsNetOf l n → Makes answer_of after (λ moves. moves ≡ []) n (record l {
      bus = changed_unless (begin_refusal_at entry l.bus) l.bus (after_begin_at entry now l.bus);
      stations = changed_unless (begin_refusal_at entry l.bus) l.stations (change_at entry (is_to_begin (max l.bus.greatest now)) l.stations);
    })
    beginning entry now l n h = by_fault (begin_refusal_at entry l.bus) refl
      where
        by_fault : (f : Option BusFault) → begin_refusal_at entry l.bus ≡ f → Makes answer_of after (λ moves. moves ≡ []) n (record l {
          bus = changed_unless f l.bus (after_begin_at entry now l.bus);
          stations = changed_unless f l.stations (change_at entry (is_to_begin (max l.bus.greatest now)) l.stations);
        })
        by_fault (Some fault) is = make_none answer_of after (λ moves. moves ≡ []) l n refl h
        by_fault None is = by_found (found (Sites l) entry l.bus.devices.entries l.stations n.sites h.sites)
          where
            by_found : FoundAt (Sites l) entry entry l.bus.devices.entries l.stations n.sites → Makes answer_of after (λ moves. moves ≡ []) n (record l {
              bus = after_begin_at entry now l.bus;
              stations = change_at entry (is_to_begin (max l.bus.greatest now)) l.stations;
            })
            by_found (Nobody o a b c) =
                make_none answer_of after (λ moves. moves ≡ []) (record l { bus = after_begin_at entry now l.bus; stations = change_at entry (is_to_begin (max l.bus.greatest now)) l.stations }) n refl
                (subst (λ q. IsNetOf (record l { bus = after_begin_at entry now l.bus; stations = changes_at entry (is_to_begin (max l.bus.greatest now)) q l.stations }) n) (sym b)
                (other_changes entry (entry_begins (max l.bus.greatest now)) (record l { bus = seen now l.bus }) n (at_seen now l n h) b))
            by_found (Somebody d t s a b c has) =
                let moment = max l.bus.greatest now in
                let l1 = record l { bus = seen now l.bus } in
                let h1 = at_seen now l n h in
                let shut : d.controller.session.state ≡ Closed =
                closed_of d.controller.session.state (map_none (begin_refusal d.controller) (sym (ap bus.begin_refusal_of a) ∙ is)) in
                let begun : t.begun ≡ None = not_begun t.begun l.bus.greatest d.controller s.controller has.controller shut in
                let control : IsSame l.bus.greatest d.controller s.controller = subst (λ o. Controls o l.bus.greatest d.controller s.controller) begun has.controller in
                let e : Entry = entry_begins moment d in
                let u : Station H = is_to_begin moment t in
                subst (Makes answer_of after (λ moves. moves ≡ []) n) (λ i. record l1 {
                  bus = changed_bus entry (entry_begins moment) l1.bus (sym a i);
                  stations = changes_at entry (is_to_begin moment) (sym b i) l.stations;
                })
                (make_none answer_of after (λ moves. moves ≡ []) (record l1 {
                  bus = record l1.bus { devices = record l1.bus.devices { entries = slice_set l.bus.devices.entries entry e } };
                  stations = changed entry u l.stations;
                }) n refl (sites_so h1
                (subst (λ ss. Match (Sites l1) 0 (slice_set l.bus.devices.entries entry e) (changed entry u l.stations) ss) (changed_same entry s n.sites c)
                (set (Sites l1) entry e u s l.bus.devices.entries l.stations n.sites h1.sites
                (controlled_so has (is_to_open l.bus.greatest moment d.controller s.controller (omega arith) shut control) has.reserved)))))

    -- ---- a command

    pub refused_free : (o : Option Communication) (k : ℕ) (d : Entry) (t : Station H) (s : Site H) (l : InUse H) (n : Net H) → IsNetOf l n → Sites l k d t s
        → bus.is_comset_refused o k d l.bus ≡ false → line.is_comset_refused k o s n.sites ≡ false
    refused_free None k d t s l n h is free = refl
    refused_free (Some asked) k d t s l n h is free =
        let both = or_parts (devices.is_taken_beside k asked.address l.bus.devices.entries) (is_some d.reserved) free in
        (λ i. beside_free k asked.address l n h both.0 i || (ap is_some is.reserved ∙ both.1) i)

    reserves_same : (o : Option Communication) (r : Option ℕ) → line.asked_for o r ≡ reserved_for o r
    reserves_same None r = refl
    reserves_same (Some asked) r = refl

    pub unrefused : (x : Bool) (o : Option ControllerFault) → cond x (Some AddressTaken) (option_map bus_fault o) ≡ None → (x ≡ false) × (o ≡ None)
    unrefused true o is = absurd cc
    unrefused false o is = (refl, map_none o is)

    pub refusal_same : (command : Command) (o : Option ℕ) (top : ℕ) (m c : Machine) → Controls o top m c → submit_refusal command c ≡ submit_refusal command m
    refusal_same command None top m c is =
        submit_alike command m c (ap (λ (x : Machine). x.waiting) is.same) (ap (λ (x : Machine). x.capacity) is.same) (ap (λ (x : Machine). x.room) is.same) (sent_same None top m c is)
    refusal_same command (Some began) top m c is =
        submit_alike command m c (ap (λ (x : Machine). x.waiting) is.same) (ap (λ (x : Machine). x.capacity) is.same) (ap (λ (x : Machine). x.room) is.same) (sent_same (Some began) top m c is)

    pub submitting : (k : ℕ) (command : Command) (l : InUse H) (n : Net H) → IsNetOf l n → CommandFits command
        → ((t : Station H) → site_at k l.stations ≡ Some t → submit_refusal_at k command l.bus ≡ None → (asked : Communication) → comset_of command ≡ Some asked
        → IsNoOthers k asked.address l)
        → StepsTo answer_of after (OfPanel (panel.Submit k command)) l n (record l {
          bus = changed_unless (submit_refusal_at k command l.bus) l.bus (after_submit_at k command l.bus);
        })
    submitting k command l n h fits addresses = by_fault (submit_refusal_at k command l.bus) refl
      where
        by_found : submit_refusal_at k command l.bus ≡ None → FoundAt (Sites l) k k l.bus.devices.entries l.stations n.sites
            → StepsTo answer_of after (OfPanel (panel.Submit k command)) l n (record l { bus = after_submit_at k command l.bus })
        by_found is (Nobody o a b c) =
            by_other answer_of after k command l n (record l { bus = after_submit_at k command l.bus }) c is fits
            (other_changes k (bus.entry_submits command) l n h b)
        by_found is (Somebody d t s a b c has) =
            let taken = bus.is_comset_refused (comset_of command) k d l.bus in
            let accepted = unrefused taken (submit_refusal command d.controller) (sym (ap (λ o. bus.submit_refusal_of k command o l.bus) a) ∙ is) in
            let control = has.controller in
            let same : submit_refusal command s.controller ≡ None = refusal_same command t.begun l.bus.greatest d.controller s.controller control ∙ accepted.1 in
            let s1 : Site H = record s { controller = controllers.after_submit command s.controller; reserved = line.asked_for (comset_of command) s.reserved } in
            let next : after_net answer_of after (Submit k command) n ≡ record n { sites = changed k s1 n.sites } =
            ap (λ o. line.change_unless (λ u. line.is_comset_refused k (comset_of command) u n.sites) k o (line.submits answer_of after command) n) c
            ∙ ap (λ x. cond x n (record n { sites = changed k (line.submits answer_of after command s) n.sites }))
            (refused_free (comset_of command) k d t s l n h has accepted.0)
            ∙ ap (λ f. record n {
              sites = changed k (line.keeping (line.reserved_unless f (line.asked_for (comset_of command) s.reserved) s.reserved)
                  (line.left_by s (link.submits f command (line.link_of s [] [])))) n.sites;
            }) same in
            let e : Entry = bus.entry_submits command d in
            let l1 : InUse H = record l { bus = record l.bus { devices = record l.bus.devices { entries = slice_set l.bus.devices.entries k e } } } in
            subst (λ q. StepsTo answer_of after (OfPanel (panel.Submit k command)) l n (record l { bus = changed_bus k (bus.entry_submits command) l.bus q })) (sym a)
            (by_own answer_of after (OfPanel (panel.Submit k command)) (Submit k command) l n l1 refl (inr (is, refl))
            (fits, λ s2 asked at2 ok moves. no_other k asked.address l n h (addresses t b is asked moves))
            (subst (IsNetOf l1) (sym next) (sites_so h
            (subst (λ ts. Match (Sites l1) 0 (slice_set l.bus.devices.entries k e) ts (changed k s1 n.sites)) (changed_same k t l.stations b)
            (set (Sites l) k e t s1 l.bus.devices.entries l.stations n.sites h.sites
            (controlled_so has (submitted_same t.begun l.bus.greatest command d.controller s.controller control)
            (ap (line.asked_for (comset_of command)) has.reserved ∙ reserves_same (comset_of command) d.reserved)))))))

        by_fault : (f : Option BusFault) → submit_refusal_at k command l.bus ≡ f → StepsTo answer_of after (OfPanel (panel.Submit k command)) l n (record l {
          bus = changed_unless f l.bus (after_submit_at k command l.bus);
        })
        by_fault (Some fault) is = by_refusal answer_of after k command fault l n is h
        by_fault None is = by_found is (found (Sites l) k l.bus.devices.entries l.stations n.sites h.sites)

    -- ---- a command is taken back

    frees_same : (o : Option Command) (r : Option ℕ) → line.freed_without o r ≡ bus.reserved_without o r
    frees_same None r = refl
    frees_same (Some command) r = refl

    pub withdrawing : (k : ℕ) (l : InUse H) (n : Net H) → IsNetOf l n → StepsTo answer_of after (OfPanel (panel.Withdraw k)) l n (record l { bus = bus.after_withdraw_at k l.bus })
    withdrawing k l n h = by_found (found (Sites l) k l.bus.devices.entries l.stations n.sites h.sites)
      where
        by_site : (d : Entry) (t : Station H) (s : Site H) → slice_get l.bus.devices.entries k ≡ Some d → site_at k l.stations ≡ Some t
            → site_at k n.sites ≡ Some s → Sites l k d t s → StepsTo answer_of after (OfPanel (panel.Withdraw k)) l n (record l {
              bus = record l.bus { devices = record l.bus.devices { entries = slice_set l.bus.devices.entries k (bus.entry_withdraws d) } };
            })
        by_site d t s a b c has =
            let e : Entry = bus.entry_withdraws d in
            let same : controllers.withdrawn_in s.controller.session.state s.controller.waiting ≡ bus.withdrawn_of d =
            taken_back_same t.begun l.bus.greatest d.controller s.controller has.controller in
            let next : InUse H = record l { bus = record l.bus { devices = record l.bus.devices { entries = slice_set l.bus.devices.entries k e } } } in
            let s1 : Site H = line.withdraws answer_of after s in
            by_own answer_of after (OfPanel (panel.Withdraw k)) (Withdraw k) l n next refl refl tt
            (subst (IsNetOf next) (sym (ap (λ o. line.change_at k o (line.withdraws answer_of after) n) c)) (sites_so h
            (subst (λ ts. Match (Sites next) 0 (slice_set l.bus.devices.entries k e) ts (changed k s1 n.sites)) (changed_same k t l.stations b)
            (set (Sites l) k e t s1 l.bus.devices.entries l.stations n.sites h.sites (controlled_so has
            (withdrawn_same t.begun l.bus.greatest d.controller s.controller has.controller)
            ((λ i. line.freed_without (same i) (has.reserved i)) ∙ frees_same (bus.withdrawn_of d) d.reserved))))))

        by_found : FoundAt (Sites l) k k l.bus.devices.entries l.stations n.sites
            → StepsTo answer_of after (OfPanel (panel.Withdraw k)) l n (record l { bus = bus.after_withdraw_at k l.bus })
        by_found (Nobody o a b c) =
            let next : InUse H = record l { bus = bus.after_withdraw_at k l.bus } in
            by_own answer_of after (OfPanel (panel.Withdraw k)) (Withdraw k) l n next refl refl tt
            (subst (IsNetOf next) (sym (ap (λ q. line.change_at k q (line.withdraws answer_of after) n) c))
            (other_changes k bus.entry_withdraws l n h b))
        by_found (Somebody d t s a b c has) =
            subst (λ q. StepsTo answer_of after (OfPanel (panel.Withdraw k)) l n (record l { bus = changed_bus k bus.entry_withdraws l.bus q })) (sym a) (by_site d t s a b c has)

    -- ---- another address

    pub or_taken_none : (o : Option ControllerFault) (x : Bool) → bus.or_taken (option_map bus_fault o) x ≡ None → (o ≡ None) × (x ≡ false)
    or_taken_none None false is = (refl, refl)
    or_taken_none None true is = absurd cc
    or_taken_none (Some fault) x is = absurd cc

    pub no_device_none : (o : Option ControllerFault) (address : ℕ) → controllers.or_no_device o address ≡ None → o ≡ None
    no_device_none None address is = refl
    no_device_none (Some fault) address is = absurd cc

    abbrev Retargeted : ℕ → ℕ → InUse H → List (NetMove H) → Type 0
    Retargeted k address l moves = MadeByPanel (panel.Retarget k address) l moves

    pub retargeting : (k address : ℕ) (l : InUse H) (n : Net H) → IsNetOf l n
        → ((t : Station H) → site_at k l.stations ≡ Some t → bus.retarget_refusal_at k address l.bus ≡ None → IsNoOthers k address l)
        → Makes answer_of after (Retargeted k address l) n (record l { bus = changed_unless (bus.retarget_refusal_at k address l.bus) l.bus (bus.after_retarget_at k address l.bus) })
    retargeting k address l n h free = by_fault (bus.retarget_refusal_at k address l.bus) refl
      where
        by_found : bus.retarget_refusal_at k address l.bus ≡ None → FoundAt (Sites l) k k l.bus.devices.entries l.stations n.sites
            → Makes answer_of after (Retargeted k address l) n (record l { bus = bus.after_retarget_at k address l.bus })
        by_found is (Nobody o a b c) =
            let next : InUse H = record l { bus = bus.after_retarget_at k address l.bus } in
            make_move answer_of after (Retargeted k address l) (Retarget k address) next n (inr (is, refl)) tt
            (λ s2 at2 ok. absurd (let e = sym c ∙ at2 in cc))
            (subst (IsNetOf next) (sym (ap (λ q. line.change_unless (λ u. line.is_retarget_refused k address u n.sites) k q (line.retargets answer_of after address) n) c))
            (other_changes k (bus.entry_retargets address) l n h b))
        by_found is (Somebody d t s a b c has) =
            let taken = devices.is_taken_beside k address l.bus.devices.entries || has_comset d.controller.waiting in
            let accepted = or_taken_none (retarget_refusal address d.controller) taken (sym (ap (λ o. bus.retarget_refusal_of k address o l.bus) a) ∙ is) in
            let shut : d.controller.session.state ≡ Closed =
            closed_of d.controller.session.state (no_device_none (controllers.refused_unless_closed d.controller.session.state) address accepted.0) in
            let begun : t.begun ≡ None = not_begun t.begun l.bus.greatest d.controller s.controller has.controller shut in
            let control : IsSame l.bus.greatest d.controller s.controller = subst (λ o. Controls o l.bus.greatest d.controller s.controller) begun has.controller in
            let same : retarget_refusal address s.controller ≡ None = ap (retarget_refusal address) control.same ∙ accepted.0 in
            let taken_too : line.is_retarget_refused k address s n.sites ≡ false =
            (let free = or_parts (devices.is_taken_beside k address l.bus.devices.entries) (has_comset d.controller.waiting) accepted.1 in
            (λ i. beside_free k address l n h free.0 i || (ap (λ (x : Machine). has_comset x.waiting) control.same ∙ free.1) i)) in
            let s1 : Site H = record s { controller = controllers.after_retarget address s.controller; reserved = None } in
            let next : after_net answer_of after (Retarget k address) n ≡ record n { sites = changed k s1 n.sites } =
            ap (λ o. line.change_unless (λ u. line.is_retarget_refused k address u n.sites) k o (line.retargets answer_of after address) n) c
            ∙ ap (λ x. cond x n (record n { sites = changed k (line.retargets answer_of after address s) n.sites })) taken_too
            ∙ ap (λ f. record n {
              sites = changed k (line.keeping (line.reserved_unless f None s.reserved) (line.left_by s (link.retargets f address (line.link_of s [] [])))) n.sites;
            }) same in
            let e : Entry = bus.entry_retargets address d in
            let l1 : InUse H = record l { bus = record l.bus { devices = record l.bus.devices { entries = slice_set l.bus.devices.entries k e } } } in
            subst (λ q. Makes answer_of after (Retargeted k address l) n (record l { bus = changed_bus k (bus.entry_retargets address) l.bus q })) (sym a)
            (make_move answer_of after (Retargeted k address l) (Retarget k address) l1 n (inr (is, refl)) tt (λ s2 at2 ok. no_other k address l n h (free t b is))
            (subst (IsNetOf l1) (sym next) (sites_so h
            (subst (λ ts. Match (Sites l1) 0 (slice_set l.bus.devices.entries k e) ts (changed k s1 n.sites)) (changed_same k t l.stations b)
            (set (Sites l) k e t s1 l.bus.devices.entries l.stations n.sites h.sites (controlled_so has
            (subst (λ o. Controls o l.bus.greatest e.controller s1.controller) (sym begun) (retargeted_same l.bus.greatest address d.controller s.controller control))
            refl))))))

        by_fault : (f : Option BusFault) → bus.retarget_refusal_at k address l.bus ≡ f
            → Makes answer_of after (Retargeted k address l) n (record l { bus = changed_unless f l.bus (bus.after_retarget_at k address l.bus) })
        by_fault (Some fault) is = make_none answer_of after (Retargeted k address l) l n (inl (fault, is, refl)) h
        by_fault None is = by_found is (found (Sites l) k l.bus.devices.entries l.stations n.sites h.sites)
