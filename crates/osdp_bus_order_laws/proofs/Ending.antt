-- The end of a session is told.
use Rattle.osdp_bus_order_laws.proofs.Common.{◌≡◌, ◌∙◌, ap, sym, subst, inl, inr, refl, ℕ, zero, suc, ◌||◌, Bool, true, false, max, List, [], ◌∷◌, ◌++◌, Option, Some, None, ◌⊎◌, is_some, nat_eq, not, slice_get, slice_set, option_map_or, eqb-true, eqb-false, items, Packet, Report, State, Closed, is_outstanding, is_closed, tells_end, tells_ends, either_way, lives, Entry, BusFault, BusState, Devices, device_of, has_report, holder, is_silent, seen, waiting_after, entry_hears, entry_ticks, holds, step_of, told_of, after_bytes, ends_run, hears_items, hears_with, BusTicked, bus_ticks, is_due_at, is_held_and_due, next_due, stays, ticks_at, ticks_by, ticks_held, ticks_on, ticks_with, judged, has_one_exchange, items_keep, IsAt, is_false, replaced, IsNobody, SoundBus, set_here, set_other, AtPlace, one_device, is_closed_at}
use Rattle.osdp_bus.specs.Machine.{add_refusal, after_add, after_begin_at, after_retarget_at, after_submit_at, begin_refusal_at, changed_unless, changes_entry, entry_begins, entry_retargets, entry_submits, entry_withdraws, new_device, retarget_refusal_at, submit_refusal_at}
use Rattle.osdp_bus_laws.specs.Calls.{Call, Add, Begin, Submit, Withdraw, Retarget, OnBytes, OnSilence, Tick, NextReport, after_call}
use Rattle.osdp_bus_time_laws.proofs.Places.{in_front}
use Rattle.osdp_bus_laws.proofs.OneDevice.{heard_holds, heard_told}
use Rattle.osdp_bus_order_laws.specs.Ended.{EndsAreTold, IsEndTold}
use Rattle.osdp_bus_order_laws.proofs.Calls.{changed_here, changed_there}
use Rattle.osdp_bus_order_laws.proofs.Devices.{closed}

-- ---- one device

-- a session ends exactly where that is told
ends_by : (b : Bool) (o : Option Report) → b ≡ tells_end o → b ≡ true → (r : Report) × (o ≡ Some r) × (tells_end (Some r) ≡ true)
ends_by b None is over = absurd cc
ends_by b (Some r) is over = (r, refl, sym is ∙ over)

heard_end : (p : Packet) (now : ℕ) (d : Entry) → closed d ≡ false → closed (entry_hears p now d) ≡ true
    → (r : Report) × (told_of p now d ≡ Some r) × (tells_end (Some r) ≡ true)
heard_end p now d stands over =
    ends_by (closed (entry_hears p now d)) (told_of p now d)
    ((tells_ends now d.controller.session).closed_by_frame p ∙ ap (λ t. t || tells_end (told_of p now d)) stands) over

ticked_end : (now : ℕ) (d : Entry) → closed d ≡ false → closed (entry_ticks now d) ≡ true
    → (r : Report) × ((step_of now d).report ≡ Some r) × (tells_end (Some r) ≡ true)
ticked_end now d stands over =
    ends_by (closed (entry_ticks now d)) (step_of now d).report
    ((tells_ends now d.controller.session).closed_by_tick d.controller.waiting ∙ ap (λ t. t || tells_end (step_of now d).report) stands) over

over_holds : (state : State) → is_closed state ≡ true → is_outstanding state ≡ true → ⊥
over_holds Closed over out = cc
over_holds _ over out = cc

no_report : (o : Option Report) → is_some o ≡ false → o ≡ None
no_report None h = refl
no_report (Some r) h = cc

-- ---- the devices of a bus

-- one exchange at most is outstanding
abbrev Alone : Devices → Type 0
Alone ds = (i j : ℕ) (d e : Entry) → slice_get ds.entries i ≡ Some d → holds d ≡ true → slice_get ds.entries j ≡ Some e → holds e ≡ true → i ≡ j

module _ (entry : ℕ) where
  abbrev Told : Devices → Type 0
  Told ds = (r : Report) × (ds.report ≡ Some (entry, r)) × (tells_end (Some r) ≡ true)

  -- the session of the entry stands, or it is told ended and no exchange is outstanding
  abbrev Ends : Devices → Type 0
  Ends ds = AtPlace entry (λ d. closed d ≡ false) ds ⊎ (Told ds × IsNobody ds)

  abbrev Both : Devices → Type 0
  Both ds = Alone ds × Ends ds

  -- a packet
  module _ (now : ℕ) (p : Packet) (i : ℕ) (d : Entry) (ds : Devices) (at : slice_get ds.entries i ≡ Some d) where
    abbrev after : Devices
    after = hears_with p now i (Some d) ds

    was_held : (j : ℕ) (f : Entry) → slice_get after.entries j ≡ Some f → holds f ≡ true → (g : Entry) × (slice_get ds.entries j ≡ Some g) × (holds g ≡ true)
    was_held j f there stands = by_place (replaced ds.entries i (entry_hears p now d) j f there)
      where
        by_place : IsAt ds.entries i (entry_hears p now d) j f → (g : Entry) × (slice_get ds.entries j ≡ Some g) × (holds g ≡ true)
        by_place (inl (here, same)) = (d, ap (slice_get ds.entries) here ∙ at, heard_holds p now d (sym (ap holds same) ∙ stands))
        by_place (inr (other, was)) = (f, was, stands)

    still_alone : Alone ds → Alone after
    still_alone alone j k f g there stands here too =
        let first = was_held j f there stands in
        let last = was_held k g here too in
        alone j k first.0 last.0 first.1 first.2 last.1 last.2

    by_told : Told ds × IsNobody ds → Ends after
    by_told (told, nobody) =
        let silent = no_report (told_of p now d) (is_false (is_some (told_of p now d)) (λ tells. nobody i d at (heard_told p now d tells).0)) in
        inr (
          (told.0, ap (λ o. waiting_after i o ds.report) silent ∙ told.1, told.2),
          λ j f there stands. (let before = was_held j f there stands in nobody j before.0 before.1 before.2),
        )

    ends_here : Alone ds → closed d ≡ false → entry ≡ i → (t : Bool) → closed (entry_hears p now d) ≡ t → Ends after
    ends_here alone stands same false on =
        inl (
          entry_hears p now d,
          ap (slice_get (slice_set ds.entries i (entry_hears p now d))) same ∙ set_here ds.entries i d (entry_hears p now d) at,
          on,
        )
    ends_here alone stands same true over =
        let end = heard_end p now d stands over in
        let held : holds d ≡ true = (heard_told p now d (ap (λ o. is_some o) end.1)).0 in
        inr (
          (end.0, ap (λ o. waiting_after i o ds.report) end.1 ∙ ap (λ n. Some (n, end.0)) (sym same), end.2),
          λ j f there so.
              (let before = was_held j f there so in
              let place : i ≡ j = alone i j d before.0 at held before.1 before.2 in
              let one = one_device (slice_get after.entries i) f (entry_hears p now d) (ap (slice_get after.entries) place ∙ there)
              (set_here ds.entries i d (entry_hears p now d) at) in
              over_holds f.controller.session.state (ap closed one ∙ over) so),
        )

    ends_packet : Both ds → Both after
    ends_packet (alone, inr told) = (still_alone alone, by_told told)
    ends_packet (alone, inl (e, there, stands)) = (still_alone alone, by_same (nat_eq entry i) refl)
      where
        by_same : (t : Bool) → nat_eq entry i ≡ t → Ends after
        by_same true is =
            let same : entry ≡ i = eqb-true entry i is in
            let one : e ≡ d = one_device (slice_get ds.entries i) e d (sym (ap (slice_get ds.entries) same) ∙ there) at in
            ends_here alone (sym (ap closed one) ∙ stands) same (closed (entry_hears p now d)) refl
        by_same false other = inl (e, set_other ds.entries i entry (entry_hears p now d) (eqb-false entry i other) ∙ there, stands)

  -- all that comes in
  ends_items : (now : ℕ) (ended : Bool) (held : List ℕ) (ds : Devices) → Both ds → Both (hears_items now (items ended held) ds)
  ends_items now ended held ds both = items_keep now Both (ends_packet now) (items ended held) ds both

  abbrev Of : BusState → Type 0
  Of b = Both b.devices

  run : (b : BusState) → Of b → Of (ends_run b)
  run b both = ends_items b.greatest true b.held b.devices both

  silence : (now : ℕ) (b : BusState) → Of b → Of (judged now b)
  silence now b both = either_way Of (is_silent (seen now b)) (ends_run (seen now b)) (seen now b) (λ h. run (seen now b) both) (λ h. both)

  bytes_end : (bytes : List ℕ) (now : ℕ) (b : BusState) → Of b → Of (after_bytes bytes now b)
  bytes_end [] now b both = both
  bytes_end (byte ∷ bytes) now b both =
      let j = judged now b in ends_items j.greatest false (j.held ++ (byte ∷ bytes)) j.devices (silence now b both)

  -- a tick
  abbrev Ticks : BusTicked → Type 0
  Ticks t = AtPlace entry (λ d. closed d ≡ false) t.bus.devices ⊎ Told t.bus.devices

  rests : (b : BusState) → Of b → Ticks (stays b)
  rests b (alone, inl place) = inl place
  rests b (alone, inr (told, nobody)) = inr told

  untold : (b : BusState) → has_report b ≡ false → Told b.devices → ⊥
  untold b none told = let some = ap (λ o. is_some o) told.1 in let both = sym some ∙ none in cc

  with_device : (k : ℕ) (o : Option Entry) (b : BusState) → device_of k b ≡ o → AtPlace entry (λ d. closed d ≡ false) b.devices → Ticks (ticks_with k o b)
  with_device k None b at place = inl place
  with_device k (Some d) b at (e, there, stands) = by_same (nat_eq entry k) refl
    where
      by_end : entry ≡ k → closed d ≡ false → (t : Bool) → closed (entry_ticks b.greatest d) ≡ t → Ticks (ticks_with k (Some d) b)
      by_end same on false still =
          inl (
            entry_ticks b.greatest d,
            ap (slice_get (slice_set b.devices.entries k (entry_ticks b.greatest d))) same ∙ set_here b.devices.entries k d (entry_ticks b.greatest d) at,
            still,
          )
      by_end same on true over =
          let end = ticked_end b.greatest d on over in
          inr (end.0, ap (λ o. waiting_after k o b.devices.report) end.1 ∙ ap (λ n. Some (n, end.0)) (sym same), end.2)

      by_same : (t : Bool) → nat_eq entry k ≡ t → Ticks (ticks_with k (Some d) b)
      by_same true is =
          let same : entry ≡ k = eqb-true entry k is in
          let one : e ≡ d = one_device (device_of k b) e d (sym (ap (λ n. device_of n b) same) ∙ there) at in
          by_end same (sym (ap closed one) ∙ stands) (closed (entry_ticks b.greatest d)) refl
      by_same false other = inl (e, set_other b.devices.entries k entry (entry_ticks b.greatest d) (eqb-false entry k other) ∙ there, stands)

  ticks_entry : (o : Option ℕ) (b : BusState) → has_report b ≡ false → Of b → Ticks (ticks_at o b)
  ticks_entry None b none both = rests b both
  ticks_entry (Some k) b none (alone, inl place) = with_device k (device_of k b) b refl place
  ticks_entry (Some k) b none (alone, inr (told, nobody)) = absurd (untold b none told)

  by_holder : (o : Option ℕ) (b : BusState) → Of b → Ticks (ticks_by o b)
  by_holder None b both =
      let r = ends_run b in
      either_way Ticks (has_report r) (stays r) (ticks_at (next_due r) r) (λ h. rests r (run b both)) (λ none. ticks_entry (next_due r) r none (run b both))
  by_holder (Some m) b both =
      let r = ends_run b in
      either_way Ticks (is_due_at m b) (ticks_held m r) (stays b)
      (λ h. either_way Ticks (has_report r || not (is_held_and_due m r)) (stays r) (ticks_at (Some m) r) (λ h. rests r (run b both))
      (λ none. ticks_entry (Some m) r (neither (has_report r) (not (is_held_and_due m r)) none) (run b both)))
      (λ h. rests b both)
    where
      neither : (x y : Bool) → (x || y) ≡ false → x ≡ false
      neither false y h = refl
      neither true y h = cc

  tick_end : (now : ℕ) (b : BusState) → Of b → Ticks (bus_ticks now b)
  tick_end now b both =
      either_way Ticks (has_report b) (stays (seen now b)) (ticks_on (judged now b)) (λ h. rests (seen now b) both)
      (λ h. by_holder (holder (judged now b)) (judged now b) (silence now b both))

  -- ---- calls of the user end no session

  abbrev Stands : BusState → Type 0
  Stands b = AtPlace entry (λ d. closed d ≡ false) b.devices

  changed : (change : Entry → Entry) → ((d : Entry) → closed d ≡ false → closed (change d) ≡ false) → (at : ℕ) (b : BusState) → Stands b
      → Stands (changes_entry at change b)
  changed change keeps at b (d, there, stands) = by_same (nat_eq entry at) refl
    where
      by_same : (t : Bool) → nat_eq entry at ≡ t → Stands (changes_entry at change b)
      by_same true same =
          (change d, ap (λ n. device_of entry (changes_entry n change b)) (sym (eqb-true entry at same)) ∙ changed_here entry change d b there, keeps d stands)
      by_same false other = (d, changed_there entry at change b (eqb-false entry at other) ∙ there, stands)

  unless : (f : Option BusFault) (b c : BusState) → Stands b → Stands c → Stands (changed_unless f b c)
  unless None b c before later = later
  unless (Some fault) b c before later = before

  abbrev Result : BusState → Type 0
  Result b = Stands b ⊎ Told b.devices

  of_ends : (b : BusState) → Of b → Result b
  of_ends b (alone, inl place) = inl place
  of_ends b (alone, inr (told, nobody)) = inr told

  call_ends : (call : Call) (b : BusState) → SoundBus b → Stands b → Result (after_call call b)
  call_ends call b sound stands = by_call call
    where
      at_first : Of b
      at_first = (
        λ i j d e there out here too.
            (has_one_exchange b sound).one i j (record { device = d; there = there; outstanding = out }) (record { device = e; there = here; outstanding = too }),
        inl stands,
      )

      by_call : (call : Call) → Result (after_call call b)
      by_call (Add address) =
          inl (unless (add_refusal address b) b (after_add address b) stands
          (stands.0, in_front b.devices.entries (new_device address b.config) entry stands.0 stands.1, stands.2))
      by_call (Begin at now) =
          inl (unless (begin_refusal_at at b) b (after_begin_at at now b) stands
          (changed (entry_begins (max b.greatest now)) (λ d h. refl) at (seen now b) stands))
      by_call (Submit at command) =
          inl (unless (submit_refusal_at at command b) b (after_submit_at at command b) stands (changed (entry_submits command) (λ d h. h) at b stands))
      by_call (Withdraw at) = inl (changed entry_withdraws (λ d h. h) at b stands)
      by_call (Retarget at address) =
          inl (unless (retarget_refusal_at at address b) b (after_retarget_at at address b) stands (changed (entry_retargets address) (λ d h. h) at b stands))
      by_call (OnBytes bytes now) = of_ends (after_bytes bytes now b) (bytes_end bytes now b at_first)
      by_call (OnSilence now) = of_ends (ends_run (seen now b)) (run (seen now b) at_first)
      by_call (Tick now) = tick_end now b at_first
      by_call NextReport = inl stands

end_told : (entry : ℕ) (b : BusState) → Result entry b → is_closed_at entry b ≡ true → IsEndTold entry b
end_told entry b (inl (e, there, stands)) over = absurd (let both = sym (ap (λ o. option_map_or closed o false) there) ∙ over in cc)
end_told entry b (inr (r, waits, ends)) over = record { report = r; waits = waits; ends = ends }

pub ends_are_told : (b : BusState) → SoundBus b → EndsAreTold b
ends_are_told b sound entry call under over =
    let d = under.device in
    end_told entry (after_call call b) (call_ends entry call b sound (d, under.there, lives d.controller.session.state under.under_way)) over
