-- Calls that keep the premises of any calls keep these: the line beside the panel's own bus differs by the turn alone.
use Rattle.std.proofs.Common.{◌≡◌, ◌⊎◌, ℕ, true, false, cond, is_some, List, [], ◌∷◌, ◌++◌, map, option_map, Option, Some, None, refl, sym, subst, ap, ◌∙◌, inl, inr}
use Rattle.osdp_entry_numbers.proofs.Common.{option_map_or, Packet, Command, BusState, device_of, after_begin_at, after_retarget_at, after_submit_at, begin_refusal_of, changed_unless, entry_withdraws, retarget_refusal_of, submit_refusal_of, BusConfig, Entry, sound_call, SoundBus, each_of, Each, Answer, site_at, Call, NewDevice, NewPanel, Next, OfPanel, Step, after_call, after_next, after_panel, asked_at, begins_with, begun_of, change_at, is_to_begin, last_of, noted, panel_says, read_by, said_at, said_for, CanStand, Burst, InUse, Station, AllKeep, AreInOrder, IsAsked, IsFreeFor, IsNoOthers, IsOfOthers, IsSaid, IsThere, Keeps, MayBeAt, PanelInRange, said_bus, AnyCallsKeep, as_they_stand, same_step, IsNewPanel, has_entry, named, renumbered, turn_of, AllOwnKeep, LeavesAlone, OwnKeeps, OwnLine, after_own, asked_in, next_bus}
use Rattle.osdp_bus_laws.specs.Calls as bus
use Rattle.osdp_entry_numbers.specs.Numbers.{is_of_line}
use Rattle.osdp_entry_numbers.proofs.NewPanels.{has_turn, new_sound}
use Rattle.osdp_entry_numbers.proofs.Panels.{IsNoAdd, max_zero}
use Rattle.osdp_entry_numbers.proofs.Turning.{asked_to, call_to, retarget_first, same_numbers, sent_to, submit_first, turned_to}

-- ---- in order, whatever others are

order_so : (P Q : Packet → Type 0) → ((p : Packet) → P p → Q p) → (said : List Burst) (ps : List Packet) (places : List ℕ) (before : ℕ)
    → AreInOrder P said ps places before → AreInOrder Q said ps places before
order_so P Q f said [] [] before all = tt
order_so P Q f said [] (i ∷ places) before all = absurd all
order_so P Q f said (p ∷ ps) [] before all = (f p all.0, order_so P Q f said ps [] before all.1)
order_so P Q f said (p ∷ ps) (i ∷ places) before (inl ours) = inl (ours.0, ours.1, ours.2, ours.3, order_so P Q f said ps places i ours.4)
order_so P Q f said (p ∷ ps) (i ∷ places) before (inr others) = inr (f p others.0, order_so P Q f said ps (i ∷ places) before others.1)

same_call : (call : bus.Call) → renumbered as_they_stand.ordered call ≡ call
same_call (bus.Add address) = refl
same_call _ = refl

reads_none : (call : bus.Call) (k : ℕ) (b : BusState) → named call ≡ Some k → read_by call b ≡ []
reads_none (bus.Begin i now) k b is = refl
reads_none (bus.Submit i command) k b is = refl
reads_none (bus.Withdraw i) k b is = refl
reads_none (bus.Retarget i address) k b is = refl
reads_none _ k b is = absurd (let e = is in cc)

in_line : (call : bus.Call) (b : BusState) → IsNoAdd call → is_of_line call b ≡ has_entry (named call) b
in_line (bus.Add address) b added = absurd added
in_line _ b added = refl

same_panel : (config : BusConfig) (xs : List ℕ) → CanStand {H = ℕ} (NewPanel config xs) → IsNewPanel config xs xs as_they_stand
same_panel config xs stands = record { settings = stands.0; none_refused = stands.1; numbers = same_numbers; sorted = λ i a at. at }

module _ {H : Type 0} where
  -- ---- a line with another turn

  abbrev on_turn : ℕ → InUse H → InUse H
  on_turn first l = record l { bus = turned_to first l.bus }

  abbrev beside : ℕ → InUse H → OwnLine H
  beside first l = record { bus = l.bus; numbers = as_they_stand; line = on_turn first l }

  may_be : (first a j : ℕ) (l : InUse H) → MayBeAt a j (on_turn first l) → MayBeAt a j l
  may_be first a j l (IsThere t there is) = IsThere t there is
  may_be first a j l (IsAsked t d there entry asked) = IsAsked t d there entry asked
  may_be first a j l (IsSaid t there said) = IsSaid t there said

  no_others : (first k a : ℕ) (l : InUse H) → IsNoOthers k a l → IsNoOthers k a (on_turn first l)
  no_others first k a l none j other may = none j other (may_be first a j l may)

  of_others : (first : ℕ) (l : InUse H) (p : Packet) → IsOfOthers l p → IsOfOthers (on_turn first l) p
  of_others first l p is = record { to_one = is.to_one; entries = is.entries; devices = λ j may. is.devices j (may_be first p.address j l may) }

  says_first : (first : ℕ) (o : Option ℕ) (p : Option Packet) (m : InUse H) → panel_says o p (on_turn first m) ≡ on_turn first (panel_says o p m)
  says_first first None p m = refl
  says_first first (Some k) None m = refl
  says_first first (Some k) (Some p) m = by_begun (begun_of (site_at k m.stations))
    where
      said : List Burst
      said = m.said ++ said_for k p (site_at k m.stations)

      by_begun : (o : Option ℕ) → record (begins_with k p o (on_turn first m)) { said = said } ≡ on_turn first (record (begins_with k p o m) { said = said })
      by_begun None = refl
      by_begun (Some moment) = refl

  said_first : (call : bus.Call) (first : ℕ) (b : BusState) (m : InUse H) → said_at call b (on_turn first m) ≡ on_turn first (said_at call b m)
  said_first (bus.Tick now) first b m = says_first first (asked_at now b) (Rattle.osdp_bus.specs.Ticking.bus_ticks now b).sent m
  said_first _ first b m = refl

  next_first : (answer_of : H → Command → Answer) (after : H → Command → H) (i : ℕ) (ps : List ℕ) (o : Option (Station H)) (first : ℕ) (l : InUse H)
      → after_next answer_of after i ps o (on_turn first l) ≡ on_turn first (after_next answer_of after i ps o l)
  next_first answer_of after i ps None first l = refl
  next_first answer_of after i ps (Some t) first l = refl

  -- ---- what a call of the panel comes to

  -- the line after the call, and with another turn
  module _ (first : ℕ) (l : InUse H) (sound : (f : ℕ) → SoundBus (turned_to f l.bus)) where
    abbrev turn_at : bus.Call → ℕ
    turn_at call = turn_of (option_map as_they_stand.ordered (asked_in call l.bus)) first

    notes_same : (call : bus.Call) → noted call (turned_to (turn_at call) l.bus) l.stations ≡ noted call l.bus l.stations
    notes_same (bus.Begin k moment) = refl
    notes_same _ = refl

    says_same : (call : bus.Call) (m : InUse H) → said_at call (turned_to (turn_at call) l.bus) m ≡ said_at call l.bus m
    says_same (bus.Tick moment) m =
        let turn = has_turn (bus.Tick moment) as_they_stand l.bus first in
        let f = turn_at (bus.Tick moment) in
        (λ i. panel_says (asked_to moment f l.bus (sound f) turn i) (sent_to moment f l.bus (sound f) turn i) m)
    says_same _ m = refl

    pub record PanelTo (call : bus.Call) (ps : List ℕ) : Type 0 where
      pub next : ℕ
      pub same : after_panel call ps (on_turn (turn_at call) l) ≡ on_turn next (after_panel call ps l)
      pub read : read_by call (turned_to (turn_at call) l.bus) ≡ read_by call l.bus

    panel_to : (call : bus.Call) (ps : List ℕ) → IsNoAdd call → PanelTo call ps
    panel_to call ps added =
        let f = turn_at call in
        let x = call_to call f l.bus (sound f) added (has_turn call as_they_stand l.bus first) in
        let m : InUse H = record l { bus = bus.after_call call l.bus; stations = noted call l.bus l.stations; place = last_of ps l.place } in
        record {
          next = x.next;
          same = (λ i. said_at call (turned_to f l.bus) (record l { bus = x.same i; stations = notes_same call i; place = last_of ps l.place }))
              ∙ says_same call (on_turn x.next m) ∙ said_first call x.next l.bus m;
          read = x.read;
        }

  -- ---- a call that names an entry that the panel doesn't have

  absent_same : (call : bus.Call) (k : ℕ) (ps : List ℕ) (l : InUse H) → named call ≡ Some k → device_of k l.bus ≡ None
      → after_panel call ps l ≡ record l { place = last_of ps l.place }
  absent_same (bus.Begin i now) k ps l is none =
      let here : device_of i l.bus ≡ None = ap (λ j. device_of j l.bus) (let e : i ≡ k = cc in e) ∙ none in
      (λ j. record l {
        bus = changed_unless (begin_refusal_of (here j)) l.bus (after_begin_at i now l.bus);
        stations = changed_unless (begin_refusal_of (here j)) l.stations (change_at i (is_to_begin (Rattle.std.proofs.Common.max l.bus.greatest now)) l.stations);
        place = last_of ps l.place;
      })
  absent_same (bus.Submit i command) k ps l is none =
      let here : device_of i l.bus ≡ None = ap (λ j. device_of j l.bus) (let e : i ≡ k = cc in e) ∙ none in
      (λ j. record l {
        bus = changed_unless (submit_refusal_of i command (here j) l.bus) l.bus (after_submit_at i command l.bus);
        place = last_of ps l.place;
      })
  absent_same (bus.Withdraw i) k ps l is none =
      let here : device_of i l.bus ≡ None = ap (λ j. device_of j l.bus) (let e : i ≡ k = cc in e) ∙ none in
      (λ j. record l {
        bus = option_map_or (λ (e : Entry). record l.bus {
          devices = record l.bus.devices { entries = Rattle.std.specs.Prelude.slice_set l.bus.devices.entries i (entry_withdraws e) };
        }) (here j) l.bus;
        place = last_of ps l.place;
      })
  absent_same (bus.Retarget i address) k ps l is none =
      let here : device_of i l.bus ≡ None = ap (λ j. device_of j l.bus) (let e : i ≡ k = cc in e) ∙ none in
      (λ j. record l {
        bus = changed_unless (retarget_refusal_of i address (here j) l.bus) l.bus (after_retarget_at i address l.bus);
        place = last_of ps l.place;
      })
  absent_same _ k ps l is none = absurd (let e = is in cc)

  leaves_same : (call : bus.Call) (first : ℕ) (l : InUse H) → IsNoAdd call → LeavesAlone (OfPanel call) (beside first l)
  leaves_same (bus.Add address) first l added = absurd added
  leaves_same (bus.Submit k command) first l added = λ accepted. submit_first k command first l.bus ∙ accepted
  leaves_same (bus.Retarget k address) first l added = λ accepted. retarget_first k address first l.bus ∙ accepted
  leaves_same _ first l added = tt

  module _ (answer_of : H → Command → Answer) (after : H → Command → H) where
    no_add : (call : bus.Call) → PanelInRange answer_of after call → IsNoAdd call
    no_add (bus.Add address) range = range
    no_add _ range = tt

    -- the premises of a call of the panel, with another turn
    panel_keeps : (call : bus.Call) (ps : List ℕ) (first : ℕ) (l : InUse H) → read_by call (turned_to first l.bus) ≡ read_by call l.bus
        → Keeps answer_of after (record { call = OfPanel call; places = ps }) l → Keeps answer_of after (record { call = OfPanel call; places = ps }) (on_turn first l)
    panel_keeps call ps first l read k = record {
      in_order = subst (λ xs. AreInOrder (IsOfOthers (on_turn first l)) l.said xs ps l.place) (sym read)
          (order_so (IsOfOthers l) (IsOfOthers (on_turn first l)) (of_others first l) l.said (read_by call l.bus) ps l.place k.in_order);
      quiet_opening = k.quiet_opening;
      addresses = by_call call k.addresses;
      in_range = k.in_range;
    }
      where
        by_call : (call : bus.Call) → Rattle.osdp_calls.specs.Premises.PanelAddresses call l → Rattle.osdp_calls.specs.Premises.PanelAddresses call (on_turn first l)
        by_call (bus.Submit i command) free = λ t at goes asked comset. no_others first i asked.address l (free t at (sym (submit_first i command first l.bus) ∙ goes) asked comset)
        by_call (bus.Retarget i address) free = λ t at goes. no_others first i address l (free t at (sym (retarget_first i address first l.bus) ∙ goes))
        by_call _ free = tt

    -- what one call of each kind comes to
    pub record Beside (step : Step H) (first : ℕ) (l : InUse H) : Type 0 where
      pub keeps : OwnKeeps answer_of after (same_step step) (beside first l)
      pub next : ℕ
      pub same : after_own answer_of after (same_step step) (beside first l) ≡ beside next (after_call answer_of after step.call step.places l)
      pub sound : SoundBus (after_call answer_of after step.call step.places l).bus

    turned_sound : (l : InUse H) → SoundBus l.bus → (f : ℕ) → SoundBus (turned_to f l.bus)
    turned_sound l sound f = record { config = sound.config; devices = sound.devices }

    -- a call that is nobody's, by its names
    by_panel : (call : bus.Call) (ps : List ℕ) (first : ℕ) (l : InUse H) → SoundBus l.bus → Keeps answer_of after (record { call = OfPanel call; places = ps }) l
        → Beside (record { call = OfPanel call; places = ps }) first l
    by_panel call ps first l sound k = by_named (named call) refl
      where
        added : IsNoAdd call
        added = no_add call k.in_range

        own_bus : bus.after_call call l.bus ≡ (after_panel call ps l).bus
        own_bus = sym (said_bus call l.bus (record l { bus = bus.after_call call l.bus; stations = noted call l.bus l.stations; place = last_of ps l.place }))

        after_sound : SoundBus (after_panel call ps l).bus
        after_sound = subst SoundBus own_bus (sound_call call l.bus sound)

        f : ℕ
        f = turn_of (option_map as_they_stand.ordered (asked_in call l.bus)) first

        as_it_is : has_entry (named call) l.bus ≡ true → Beside (record { call = OfPanel call; places = ps }) first l
        as_it_is has =
            let is : cond (is_of_line call l.bus) (renumbered as_they_stand.ordered call) (bus.OnBytes [] 0) ≡ call =
            ap (λ x. cond x (renumbered as_they_stand.ordered call) (bus.OnBytes [] 0)) (in_line call l.bus added ∙ has) ∙ same_call call in
            let x = panel_to first l (turned_sound l sound) call ps added in
            record {
              keeps = record {
                keeps = subst (λ c. Keeps answer_of after (record { call = OfPanel c; places = ps }) (on_turn f l)) (sym is) (panel_keeps call ps f l x.read k);
                fits = tt;
                leaves = leaves_same call first l added;
              };
              next = x.next;
              same = (λ i. record { bus = own_bus i; numbers = as_they_stand; line = (ap (λ c. after_panel c ps (on_turn f l)) is ∙ x.same) i });
              sound = after_sound;
            }

        by_entry : (i : ℕ) → named call ≡ Some i → (o : Option Entry) → device_of i l.bus ≡ o → Beside (record { call = OfPanel call; places = ps }) first l
        by_entry i names (Some d) at = as_it_is (ap (λ x. has_entry x l.bus) names ∙ ap (λ (o : Option Entry). is_some o) at)
        by_entry i names None none =
            let lost : has_entry (named call) l.bus ≡ false = ap (λ x. has_entry x l.bus) names ∙ ap (λ (o : Option Entry). is_some o) none in
            let is : cond (is_of_line call l.bus) (renumbered as_they_stand.ordered call) (bus.OnBytes [] 0) ≡ bus.OnBytes [] 0 =
            ap (λ x. cond x (renumbered as_they_stand.ordered call) (bus.OnBytes [] 0)) (in_line call l.bus added ∙ lost) in
            let plain = absent_same call i ps l names none in
            record {
              keeps = record {
                keeps = subst (λ c. Keeps answer_of after (record { call = OfPanel c; places = ps }) (on_turn f l)) (sym is) (record {
                  in_order = order_so (IsOfOthers l) (IsOfOthers (on_turn f l)) (of_others f l) l.said [] ps l.place
                      (subst (λ xs. AreInOrder (IsOfOthers l) l.said xs ps l.place) (reads_none call i l.bus names) k.in_order);
                  quiet_opening = k.quiet_opening;
                  addresses = tt;
                  in_range = tt;
                });
                fits = tt;
                leaves = leaves_same call first l added;
              };
              next = f;
              same = (λ j. record {
                bus = own_bus j;
                numbers = as_they_stand;
                line = (ap (λ c. after_panel c ps (on_turn f l)) is
                    ∙ (λ x. record l { bus = record (turned_to f l.bus) { greatest = max_zero l.bus.greatest x }; place = last_of ps l.place })
                    ∙ ap (on_turn f) (sym plain)) j;
              });
              sound = after_sound;
            }

        by_named : (o : Option ℕ) → named call ≡ o → Beside (record { call = OfPanel call; places = ps }) first l
        by_named None is = as_it_is (ap (λ x. has_entry x l.bus) is)
        by_named (Some i) is = by_entry i is (device_of i l.bus) refl

    -- a call of a device
    by_device : (call : Call H) (ps : List ℕ) (first : ℕ) (l : InUse H) → SoundBus l.bus → OwnKeeps answer_of after (same_step (record { call = call; places = ps })) (beside first l)
        → after_own answer_of after (same_step (record { call = call; places = ps })) (beside first l) ≡ beside first (after_call answer_of after call ps l)
        → l.bus ≡ (after_call answer_of after call ps l).bus → Beside (record { call = call; places = ps }) first l
    by_device call ps first l sound keeps same bus_is = record { keeps = keeps; next = first; same = same; sound = subst SoundBus bus_is sound }

    one_step : (call : Call H) (ps : List ℕ) (first : ℕ) (l : InUse H) → SoundBus l.bus → CanStand call → Keeps answer_of after (record { call = call; places = ps }) l
        → Beside (record { call = call; places = ps }) first l
    one_step (OfPanel call) ps first l sound stands k = by_panel call ps first l sound k
    one_step (NewPanel config xs) ps first l sound stands k = record {
      keeps = record {
        keeps = record {
          in_order = k.in_order;
          quiet_opening = k.quiet_opening;
          addresses = record { own = k.addresses.own; there = k.addresses.there; said = k.addresses.said };
          in_range = k.in_range;
        };
        fits = same_panel config xs stands;
        leaves = tt;
      };
      next = 0;
      same = refl;
      sound = new_sound config xs xs as_they_stand (same_panel config xs stands);
    }
    one_step (Next i) ps first l sound stands k =
        let o = site_at i l.stations in
        by_device (Next i) ps first l sound (record {
          keeps = record { in_order = by_station o k.in_order; quiet_opening = k.quiet_opening; addresses = tt; in_range = k.in_range };
          fits = tt;
          leaves = tt;
        })
        (λ j. record { bus = sym (next_bus answer_of after i ps o l) j; numbers = as_they_stand; line = next_first answer_of after i ps o first l j })
        (sym (next_bus answer_of after i ps o l))
      where
        by_station : (o : Option (Station H)) → Rattle.osdp_calls.specs.Premises.NextInOrder l ps o → Rattle.osdp_calls.specs.Premises.NextInOrder (on_turn first l) ps o
        by_station None order = tt
        by_station (Some t) order =
            order_so (IsOfOthers l) (IsOfOthers (on_turn first l)) (of_others first l) l.said
            (Rattle.osdp_calls.specs.Calls.read_up_to t.reader (Rattle.osdp_device.specs.Telling.items_of t.line.held)) ps t.place order
    one_step (NewDevice i config handler room gap) ps first l sound stands k =
        by_device (NewDevice i config handler room gap) ps first l sound (record {
          keeps = record { in_order = tt; quiet_opening = tt; addresses = λ t at. by_place t (k.addresses t at); in_range = k.in_range };
          fits = tt;
          leaves = tt;
        }) refl refl
      where
        by_place : (t : Station H) → (t.reader.config.address ≡ config.address) ⊎ IsFreeFor i config.address t l
            → (t.reader.config.address ≡ config.address) ⊎ IsFreeFor i config.address t (on_turn first l)
        by_place t (inl there) = inl there
        by_place t (inr free) = inr (record { entries = free.entries; devices = no_others first i config.address l free.devices; said = free.said })
    one_step call ps first l sound stands k =
        by_device call ps first l sound (record { keeps = record { in_order = tt; quiet_opening = tt; addresses = tt; in_range = tt }; fits = tt; leaves = tt }) refl refl

    all_beside : (steps : List (Step H)) (first : ℕ) (l : InUse H) → SoundBus l.bus → Each (λ (step : Step H). CanStand step.call) steps → AllKeep answer_of after steps l
        → AllOwnKeep answer_of after (map same_step steps) (beside first l)
    all_beside [] first l sound stands keep = tt
    all_beside (step ∷ steps) first l sound stands keep =
        let x = one_step step.call step.places first l sound stands.0 keep.0 in (
          x.keeps,
          subst (AllOwnKeep answer_of after (map same_step steps)) (sym x.same)
              (all_beside steps x.next (after_call answer_of after step.call step.places l) x.sound stands.1 keep.1),
        )

    pub any_keep : AnyCallsKeep answer_of after
    any_keep l steps config xs up settings is none_refused stands keep =
        let new : IsNewPanel config xs xs as_they_stand = record { settings = settings; none_refused = none_refused; numbers = same_numbers; sorted = λ i a at. at } in (
          record { up = up; config = config; addresses = xs; ordered = xs; panel = new; own = is; same = is },
          all_beside steps l.bus.first l (subst SoundBus (sym is) (new_sound config xs xs as_they_stand new))
              (each_of (λ (step : Step H). CanStand step.call) steps stands) keep,
        )
