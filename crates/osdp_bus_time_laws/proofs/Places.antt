-- What a call leaves of the device of an entry, by what each packet that it hears keeps.
use Rattle.osdp_bus_time_laws.proofs.Common.{◌≡◌, ◌∙◌, ap, sym, subst, inl, inr, ℕ, zero, suc, ◌||◌, Bool, true, false, max, List, [], ◌∷◌, ◌++◌, Option, Some, None, refl, ◌⊎◌, ◌≢◌, ◌&&◌, if◌then◌else◌, nat_eq, not, option_map, slice_get, slice_set, option_map_or, eqb-true, eqb-false, items, Packet, Command, begin_refusal, refused_unless_closed, retarget_refusal, is_closed, either_way, Entry, BusFault, BusState, Devices, device_of, has_report, holder, is_silent, seen, entry_hears, entry_ticks, holds, is_entry_due, is_taken_beside, after_bytes, ends_run, ends_silent, hears_items, hears_with, add_refusal, after_add, after_begin_at, after_retarget_at, after_submit_at, begin_refusal_at, begin_refusal_of, bus_fault, changed_unless, changes_entry, entry_begins, entry_retargets, entry_submits, entry_withdraws, new_device, retarget_refusal_at, retarget_refusal_of, submit_refusal_at, BusTicked, bus_ticks, is_due_at, is_held_and_due, next_due, stays, ticks_at, ticks_by, ticks_held, ticks_on, ticks_with, Call, Add, Begin, Submit, Withdraw, Retarget, OnBytes, OnSilence, Tick, NextReport, after_call, Begins, asking, judged, map_none, no_device, or_none, has_one_exchange, items_keep, moments_are_seen, IsNobody, SoundBus, held_items, held_there, nobody, sound_run, sound_seen, sound_silent, still_nobody, stays_silent, due_is_next, set_here, set_other, ends_duty}
use Rattle.osdp_controller.specs.Comsets.{has_comset}
use Rattle.osdp_controller_laws.proofs.Closed.{was_closed}

-- what holds of the device of an entry
abbrev pub AtPlace : ℕ → (Entry → Type 0) → Devices → Type 0
AtPlace entry Q ds = (d : Entry) × (slice_get ds.entries entry ≡ Some d) × Q d

pub one_device : (o : Option Entry) (d e : Entry) → o ≡ Some d → o ≡ Some e → d ≡ e
one_device o d e is are = let both : Some d ≡ Some e = sym is ∙ are in cc

pub in_front : (ds : List Entry) (e : Entry) (i : ℕ) (d : Entry) → slice_get ds i ≡ Some d → slice_get (ds ++ e ∷ []) i ≡ Some d
in_front [] e i d at = absurd cc
in_front (x ∷ ds) e zero d at = at
in_front (x ∷ ds) e (suc i) d at = in_front ds e i d at

is_true : (b : Bool) → not b ≡ false → b ≡ true
is_true true h = refl
is_true false h = cc

-- ---- calls of the user

module _ (Q : Entry → Type 0) (entry : ℕ) where
  abbrev At : BusState → Type 0
  At b = AtPlace entry Q b.devices

  changed_by : (t : Bool) (change : Entry → Entry) (at : ℕ) (b : BusState) (f : Entry) → nat_eq entry at ≡ t → device_of at b ≡ Some f
      → (entry ≡ at → Q f → Q (change f)) → (e : Entry) → device_of entry b ≡ Some e → Q e
      → At (record b { devices = record b.devices { entries = slice_set b.devices.entries at (change f) } })
  changed_by true change at b f same there changes e here is =
      let place : entry ≡ at = eqb-true entry at same in
      let one : e ≡ f = one_device (device_of at b) e f (sym (ap (λ n. device_of n b) place) ∙ here) there in (
        change f,
        ap (slice_get (slice_set b.devices.entries at (change f))) place ∙ set_here b.devices.entries at f (change f) there,
        changes place (subst Q one is),
      )
  changed_by false change at b f other there changes e here is =
      (e, set_other b.devices.entries at entry (change f) (eqb-false entry at other) ∙ here, is)

  pub changed_place : (change : Entry → Entry) (at : ℕ) (b : BusState) → (entry ≡ at → (d : Entry) → device_of at b ≡ Some d → Q d → Q (change d))
      → At b → At (changes_entry at change b)
  changed_place change at b changes place = by_device (device_of at b) refl
    where
      by_device : (o : Option Entry) → device_of at b ≡ o
          → At (option_map_or (λ d. record b { devices = record b.devices { entries = slice_set b.devices.entries at (change d) } }) o b)
      by_device None none = place
      by_device (Some f) there =
          changed_by (nat_eq entry at) change at b f refl there (λ same is. changes same f there is) place.0 place.1 place.2

  pub unless_place : (f : Option BusFault) (b c : BusState) → At b → (f ≡ None → At c) → At (changed_unless f b c)
  unless_place None b c place after = after refl
  unless_place (Some fault) b c place after = place

  -- the device of the entry is in a session
  abbrev pub Lives : BusState → Type 0
  Lives b = (d : Entry) → device_of entry b ≡ Some d → is_closed d.controller.session.state ≡ false

  pub begin_place : (at now : ℕ) (b : BusState) → Lives b → At b → begin_refusal_at at b ≡ None → At (after_begin_at at now b)
  begin_place at now b lives place accepted =
      changed_place (entry_begins (max b.greatest now)) at (seen now b)
      (λ same d there is. absurd (
      let ok = map_none (begin_refusal d.controller) (sym (ap begin_refusal_of there) ∙ accepted) in
      let closed = ap is_closed (was_closed d.controller.session.state ok) in
      let stands = lives d (ap (λ n. device_of n b) same ∙ there) in
      cc)) place

  pub retarget_place : (at address : ℕ) (b : BusState) → Lives b → At b → retarget_refusal_at at address b ≡ None → At (after_retarget_at at address b)
  retarget_place at address b lives place accepted =
      changed_place (entry_retargets address) at b
      (λ same d there is. absurd (
      let parts = or_none (option_map bus_fault (retarget_refusal address d.controller))
      (is_taken_beside at address b.devices.entries || has_comset d.controller.waiting)
      (sym (ap (λ o. retarget_refusal_of at address o b) there) ∙ accepted) in
      let ok = no_device (refused_unless_closed d.controller.session.state) address (map_none (retarget_refusal address d.controller) parts.0) in
      let closed = ap is_closed (was_closed d.controller.session.state ok) in
      let stands = lives d (ap (λ n. device_of n b) same ∙ there) in
      cc)) place

module _ (g : ℕ) (Q : Entry → Type 0) (heard : (p : Packet) (d : Entry) → Q d → Q (entry_hears p g d)) (entry : ℕ) where
  -- ---- what comes in

  packet_by : (t : Bool) (p : Packet) (i : ℕ) (d : Entry) (ds : Devices) → nat_eq entry i ≡ t → slice_get ds.entries i ≡ Some d → (e : Entry)
      → slice_get ds.entries entry ≡ Some e → Q e → AtPlace entry Q (hears_with p g i (Some d) ds)
  packet_by true p i d ds same at e there is =
      let here : entry ≡ i = eqb-true entry i same in
      let one : e ≡ d = one_device (slice_get ds.entries i) e d (sym (ap (slice_get ds.entries) here) ∙ there) at in (
        entry_hears p g d,
        ap (slice_get (slice_set ds.entries i (entry_hears p g d))) here ∙ set_here ds.entries i d (entry_hears p g d) at,
        heard p d (subst Q one is),
      )
  packet_by false p i d ds other at e there is =
      (e, set_other ds.entries i entry (entry_hears p g d) (eqb-false entry i other) ∙ there, is)

  packet_place : (p : Packet) (i : ℕ) (d : Entry) (ds : Devices) → slice_get ds.entries i ≡ Some d → AtPlace entry Q ds
      → AtPlace entry Q (hears_with p g i (Some d) ds)
  packet_place p i d ds at place = packet_by (nat_eq entry i) p i d ds refl at place.0 place.1 place.2

  items_place : (moment : ℕ) (ended : Bool) (held : List ℕ) (ds : Devices) → moment ≡ g → AtPlace entry Q ds
      → AtPlace entry Q (hears_items moment (items ended held) ds)
  items_place moment ended held ds is place =
      subst (λ (n : ℕ). AtPlace entry Q (hears_items n (items ended held) ds)) (sym is)
      (items_keep g (AtPlace entry Q) packet_place (items ended held) ds place)

  pub run_place : (b : BusState) → b.greatest ≡ g → AtPlace entry Q b.devices → AtPlace entry Q (ends_run b).devices
  run_place b is place = items_place b.greatest true b.held b.devices is place

  abbrev Placed : BusState → Type 0
  Placed b = AtPlace entry Q b.devices

  silent_place : (b : BusState) → b.greatest ≡ g → Placed b → Placed (ends_silent b)
  silent_place b is place = either_way Placed (is_silent b) (ends_run b) b (λ h. run_place b is place) (λ h. place)

  judged_moment : (now : ℕ) (b : BusState) → max b.greatest now ≡ g → (judged now b).greatest ≡ g
  judged_moment now b is = (stays_silent (seen now b)).greatest ∙ is

  judged_place : (now : ℕ) (b : BusState) → max b.greatest now ≡ g → Placed b → Placed (judged now b)
  judged_place now b is place = silent_place (seen now b) is place

  pub asking_place : (now : ℕ) (b : BusState) → max b.greatest now ≡ g → Placed b → Placed (asking now b)
  asking_place now b is place = run_place (judged now b) (judged_moment now b is) (judged_place now b is place)

  pub bytes_place : (bytes : List ℕ) (now : ℕ) (b : BusState) → max b.greatest now ≡ g → Placed b → Placed (after_bytes bytes now b)
  bytes_place [] now b is place = place
  bytes_place (byte ∷ bytes) now b is place =
      let e = judged now b in
      items_place e.greatest false (e.held ++ (byte ∷ bytes)) e.devices (judged_moment now b is) (judged_place now b is place)

  -- what an accepted order leaves
  abbrev pub Submitted : Call → BusState → Type 0
  Submitted call b = (at : ℕ) (command : Command) → call ≡ Submit at command → entry ≡ at → submit_refusal_at at command b ≡ None → (d : Entry)
      → device_of at b ≡ Some d → Q d → Q (entry_submits command d)

  -- .. and a taken back one
  abbrev pub Withdrawn : Call → BusState → Type 0
  Withdrawn call b = (at : ℕ) → call ≡ Withdraw at → entry ≡ at → (d : Entry) → device_of at b ≡ Some d → Q d → Q (entry_withdraws d)

  -- a call that ends no duty: no tick, or one while a report waits
  pub place_then : (call : Call) (b : BusState) → Submitted call b → Withdrawn call b → ends_duty call b ≡ false → (after_call call b).greatest ≡ g → Lives Q entry b → Placed b
      → Placed (after_call call b)
  place_then (Add address) b submitted withdrawn other moment lives place =
      unless_place Q entry (add_refusal address b) b (after_add address b) place
      (λ ok. (place.0, in_front b.devices.entries (new_device address b.config) entry place.0 place.1, place.2))
  place_then (Begin at now) b submitted withdrawn other moment lives place =
      unless_place Q entry (begin_refusal_at at b) b (after_begin_at at now b) place (begin_place Q entry at now b lives place)
  place_then (Submit at command) b submitted withdrawn other moment lives place =
      unless_place Q entry (submit_refusal_at at command b) b (after_submit_at at command b) place
      (λ ok. changed_place Q entry (entry_submits command) at b (λ same d there is. submitted at command refl same ok d there is) place)
  place_then (Withdraw at) b submitted withdrawn other moment lives place =
      changed_place Q entry entry_withdraws at b (λ same d there is. withdrawn at refl same d there is) place
  place_then (Retarget at address) b submitted withdrawn other moment lives place =
      unless_place Q entry (retarget_refusal_at at address b) b (after_retarget_at at address b) place (retarget_place Q entry at address b lives place)
  place_then (OnBytes bytes now) b submitted withdrawn other moment lives place =
      bytes_place bytes now b (sym ((moments_are_seen b).brought (OnBytes bytes now) now refl) ∙ moment) place
  place_then (OnSilence now) b submitted withdrawn other moment lives place =
      run_place (seen now b) (sym ((moments_are_seen b).brought (OnSilence now) now refl) ∙ moment) place
  place_then (Tick now) b submitted withdrawn other moment lives place =
      subst (λ (t : BusTicked). Placed t.bus)
      (sym (ap (λ t. if t then stays (seen now b) else ticks_on (judged now b)) (is_true (has_report b) other))) place
  place_then NextReport b submitted withdrawn other moment lives place = place

  module _ (submitted : (command : Command) (d : Entry) → Q d → Q (entry_submits command d)) where
    pub call_place : (call : Call) (b : BusState) → Withdrawn call b → ends_duty call b ≡ false → (after_call call b).greatest ≡ g → Lives Q entry b → Placed b → Placed (after_call call b)
    call_place call b withdrawn = place_then call b (λ at command is same ok d there q. submitted command d q) withdrawn

  -- ---- a tick while no report waits: an exchange begins; or the device doesn't tick, and holds the line only before it is due; or it holds the line, is due
  -- and ticks
  abbrev pub Outcome : ℕ → BusState → BusTicked → Type 0
  Outcome now b t =
      ((k : ℕ) × Begins (Tick now) k b × (k ≢ entry → Placed t.bus))
      ⊎ ((AtPlace entry (λ d. Q d × (holds d ≡ true → is_entry_due g d ≡ true → ⊥)) t.bus.devices)
      ⊎ ((d : Entry) × Q d × (holds d ≡ true) × (is_entry_due g d ≡ true) × (slice_get t.bus.devices.entries entry ≡ Some (entry_ticks g d))))

  rests : (now : ℕ) (b c : BusState) → Placed c → ((d : Entry) → device_of entry c ≡ Some d → holds d ≡ true → is_entry_due g d ≡ true → ⊥)
      → Outcome now b (stays c)
  rests now b c place never = inr (inl (place.0, place.1, (place.2, λ stands due. never place.0 place.1 stands due)))

  module _ (now : ℕ) (b : BusState) (sound : SoundBus b) (none : has_report b ≡ false) (moment : max b.greatest now ≡ g) (placed : Placed b) where
    abbrev j : BusState
    j = judged now b

    abbrev r : BusState
    r = asking now b

    sound_j : SoundBus j
    sound_j = sound_silent (seen now b) (sound_seen now b sound)

    sound_r : SoundBus r
    sound_r = sound_run j sound_j

    at_r : r.greatest ≡ g
    at_r = judged_moment now b moment

    placed_r : Placed r
    placed_r = asking_place now b moment placed

    -- nobody holds the line
    free_rests : IsNobody r.devices → Outcome now b (stays r)
    free_rests free = rests now b r placed_r (λ d there stands due. free entry d there stands)

    ticks_other : (k : ℕ) → k ≢ entry → Placed (ticks_at (Some k) r).bus
    ticks_other k other = by_device (device_of k r)
      where
        by_device : (o : Option Entry) → Placed (ticks_with k o r).bus
        by_device None = placed_r
        by_device (Some f) =
            (placed_r.0, set_other r.devices.entries k entry (entry_ticks r.greatest f) (λ h. other (sym h)) ∙ placed_r.1, placed_r.2)

    free_by : holder j ≡ None → has_report r ≡ false → (o : Option ℕ) → next_due r ≡ o → Outcome now b (ticks_at o r)
    free_by free left None is = free_rests (still_nobody j.greatest (items true j.held) j.devices (nobody j free))
    free_by free left (Some k) is = inl (
      k,
      record { now = now; tick = refl; free = record { before = none; nobody = free; after = left }; next = due_is_next k r is },
      ticks_other k,
    )

    free_outcome : holder j ≡ None → Outcome now b (ticks_by None j)
    free_outcome free =
        either_way (Outcome now b) (has_report r) (stays r) (ticks_at (next_due r) r)
        (λ h. free_rests (still_nobody j.greatest (items true j.held) j.devices (nobody j free))) (λ left. free_by free left (next_due r) refl)

    -- an entry holds it
    module _ (m : ℕ) (held : holder j ≡ Some m) where
      is_holder : (d : Entry) → device_of entry j ≡ Some d → holds d ≡ true → m ≡ entry
      is_holder d there stands =
          let mine = (has_one_exchange j sound_j).belongs entry (record { device = d; there = there; outstanding = stands }) in
          let both : Some m ≡ Some entry = sym held ∙ mine in cc

      is_holder_then : (d : Entry) → device_of entry r ≡ Some d → holds d ≡ true → m ≡ entry
      is_holder_then d there stands =
          let before = held_items j.greatest (items true j.held) j.devices entry d there stands in is_holder before.0 before.1 before.2

      not_due : is_due_at m j ≡ false → Outcome now b (stays j)
      not_due never =
          rests now b j (judged_place now b moment placed)
          (λ d there stands due.
          let same = is_holder d there stands in
          let is : is_due_at m j ≡ is_entry_due g d =
          ap (λ o. option_map_or (is_entry_due j.greatest) o false) (ap (λ n. device_of n j) same ∙ there)
          ∙ ap (λ n. is_entry_due n d) (judged_moment now b moment) in
          cc)

      still_rests : (has_report r || not (is_held_and_due m r)) ≡ true → Outcome now b (stays r)
      still_rests ended =
          rests now b r placed_r
          (λ d there stands due.
          let same = is_holder_then d there stands in
          let here : device_of m r ≡ Some d = ap (λ n. device_of n r) same ∙ there in
          let due_then : is_entry_due r.greatest d ≡ true = ap (λ n. is_entry_due n d) at_r ∙ due in
          let is : is_held_and_due m r ≡ (holds d && is_entry_due r.greatest d) =
          ap (λ o. option_map_or holds o false && option_map_or (is_entry_due r.greatest) o false) here in
          let yes : (holds d && is_entry_due r.greatest d) ≡ true = ap (λ t. t && is_entry_due r.greatest d) stands ∙ due_then in
          reported (has_report r) (is_held_and_due m r) refl (is ∙ yes) ended d there stands)
        where
          reported : (x y : Bool) → has_report r ≡ x → y ≡ true → (x || not y) ≡ true → (d : Entry) → device_of entry r ≡ Some d → holds d ≡ true → ⊥
          reported true y told holding h d there stands = let free = sound_r.devices.waits told entry d there in cc
          reported false true told holding h d there stands = cc
          reported false false told holding h d there stands = cc

      still_ticks : (has_report r || not (is_held_and_due m r)) ≡ false → Outcome now b (ticks_at (Some m) r)
      still_ticks h = by_same (nat_eq m entry) refl (held_there m r h).1
        where
          by_same : (t : Bool) → nat_eq m entry ≡ t
              → ((d : Entry) × (device_of m r ≡ Some d) × (holds d ≡ true) × (is_entry_due r.greatest d ≡ true)) → Outcome now b (ticks_at (Some m) r)
          by_same true same (d, there, stands, due) =
              let mine : m ≡ entry = eqb-true m entry same in
              let one : placed_r.0 ≡ d = one_device (device_of entry r) placed_r.0 d placed_r.1 (ap (λ n. device_of n r) (sym mine) ∙ there) in
              inr (inr (
                d,
                subst Q one placed_r.2,
                stands,
                ap (λ n. is_entry_due n d) (sym at_r) ∙ due,
                ap (λ o. slice_get (ticks_with m o r).bus.devices.entries entry) there
                    ∙ ap (slice_get (slice_set r.devices.entries m (entry_ticks r.greatest d))) (sym mine)
                    ∙ set_here r.devices.entries m d (entry_ticks r.greatest d) there ∙ ap (λ n. Some (entry_ticks n d)) at_r,
              ))
          by_same false other (d, there, stands, due) =
              let apart : m ≢ entry = eqb-false m entry other in
              let place = ticks_other m apart in
              inr (inl (
                place.0,
                place.1,
                (
                  place.2,
                  λ holds_too due_too. apart (is_holder_then place.0 (sym (unticked d there) ∙ place.1) holds_too),
                ),
              ))
            where
              unticked : (d : Entry) → device_of m r ≡ Some d → slice_get (ticks_at (Some m) r).bus.devices.entries entry ≡ device_of entry r
              unticked d there =
                  ap (λ o. slice_get (ticks_with m o r).bus.devices.entries entry) there
                  ∙ set_other r.devices.entries m entry (entry_ticks r.greatest d) (λ h. eqb-false m entry other (sym h))

      held_outcome : Outcome now b (ticks_by (Some m) j)
      held_outcome =
          either_way (Outcome now b) (is_due_at m j) (ticks_held m r) (stays j)
          (λ due. either_way (Outcome now b) (has_report r || not (is_held_and_due m r)) (stays r) (ticks_at (Some m) r) still_rests still_ticks)
          not_due

    outcome_by : (o : Option ℕ) → holder j ≡ o → Outcome now b (ticks_by o j)
    outcome_by None free = free_outcome free
    outcome_by (Some m) held = held_outcome m held

    pub tick_place : Outcome now b (bus_ticks now b)
    tick_place =
        subst (Outcome now b) (sym (ap (λ t. if t then stays (seen now b) else ticks_on (judged now b)) none)) (outcome_by (holder j) refl)
