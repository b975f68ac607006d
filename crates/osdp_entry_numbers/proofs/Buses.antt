-- A bus whose entries have other numbers: each call does to it what it does to the one, up to numbers.
use Rattle.osdp_entry_numbers.proofs.Common.{◌≡◌, ◌≢◌, ℕ, ◌+◌, Bool, true, false, cond, not, ◌&&◌, ◌||◌, List, [], ◌∷◌, ◌++◌, map, slice_get, slice_set, Option, Some, None, refl, sym, subst, ap, ◌∙◌, inl, inr, arith, is_some, leb_tells, map-append, option_map, Report, BusState, Devices, device_of, has_report, holder, is_silent, seen, waiting_after, Remembered, entry_ticks, holds, is_entry_due, step_of, after_bytes, ends_run, ends_silent, hears_bytes, hears_items, BusTicked, asks_free, asks_holder, bus_ticks, is_due_at, is_held_and_due, next_due, stays, ticks_at, ticks_by, ticks_free, ticks_held, ticks_on, ticks_with, Entry, told_by_bytes, told_by_device, told_by_end, told_by_holder, told_by_items, told_by_silence, told_by_tick, told_by_ticking, IsBefore, IsDueEntry, judged, SoundBus, held_there, sound_seen, sound_silent, due_is_next, next_is_due, none_is_due, strictly, asked_at, asked_by_holder, read_at_end, read_at_silence, read_at_tick, read_by_holder, AreNumbers, Numbers, renumbers}
use Rattle.osdp_frame.specs.Items.{items}
use Rattle.osdp_entry_numbers.proofs.Entries.{FromOther, IsEntry, IsIdleOne, first_under, from_other, map_under, own_there, present, set_under}
use Rattle.osdp_entry_numbers.proofs.Hearing.{UnderDevices, idle_due, idle_holds, items_same, told_under, waits_under}

-- the same bus but for its devices, for whose turn it is, and for what is remembered of events
abbrev pub like : BusState → Devices → ℕ → List Remembered → BusState
like b es first ms = record b { devices = es; first = first; remembered = ms }

-- the one is the other by other numbers, and tells the same
pub record SameBus (n : Numbers) (first : ℕ) (ms : List Remembered) (whole part : BusState) (tells others : List (ℕ × Report)) : Type 0 where
  pub devices : Devices
  pub under : UnderDevices n part.devices devices
  pub same : whole ≡ like part devices first ms
  pub told : tells ≡ map (renumbers n.ordered) others

-- a tick of the one and of the other
pub record SameTicked (n : Numbers) (ms : List Remembered) (whole part : BusTicked) (tells others : List (ℕ × Report)) : Type 0 where
  pub devices : Devices
  pub first : ℕ
  pub under : UnderDevices n part.bus.devices devices
  pub same : whole.bus ≡ like part.bus devices first ms
  pub sent : whole.sent ≡ part.sent
  pub told : tells ≡ map (renumbers n.ordered) others

-- the turn is that of the entry that is asked
abbrev pub IsTurn : Numbers → ℕ → Option ℕ → Type 0
IsTurn n turn o = (k : ℕ) → o ≡ Some k → turn ≡ n.ordered k

module _ (n : Numbers) (are : AreNumbers n) (ms : List Remembered) where
  -- ---- what comes in

  pub end_same : (first : ℕ) (b : BusState) (es : Devices) → SoundBus (like b es first ms) → UnderDevices n b.devices es
      → SameBus n first ms (ends_run (like b es first ms)) (ends_run b) (told_by_end (like b es first ms)) (told_by_end b)
  end_same first b es sound u =
      let x = items_same n are b.greatest (items true b.held) b.devices es sound.devices u in
      record { devices = hears_items b.greatest (items true b.held) es; under = x.under; same = refl; told = x.told }

  pub silent_same : (first : ℕ) (b : BusState) (es : Devices) → SoundBus (like b es first ms) → UnderDevices n b.devices es
      → SameBus n first ms (ends_silent (like b es first ms)) (ends_silent b) (told_by_silence (like b es first ms)) (told_by_silence b)
  silent_same first b es sound u = by_test (is_silent b)
    where
      by_test : (x : Bool) → SameBus n first ms (cond x (ends_run (like b es first ms)) (like b es first ms)) (cond x (ends_run b) b)
          (cond x (told_by_end (like b es first ms)) []) (cond x (told_by_end b) [])
      by_test true = end_same first b es sound u
      by_test false = record { devices = es; under = u; same = refl; told = refl }

  after_silent : (first now : ℕ) (b : BusState) (es : Devices) → SoundBus (like b es first ms) → SoundBus (ends_silent (seen now (like b es first ms)))
  after_silent first now b es sound = sound_silent (seen now (like b es first ms)) (sound_seen now (like b es first ms) sound)

  pub bytes_same : (first : ℕ) (bytes : List ℕ) (now : ℕ) (b : BusState) (es : Devices) → SoundBus (like b es first ms) → UnderDevices n b.devices es
      → SameBus n first ms (after_bytes bytes now (like b es first ms)) (after_bytes bytes now b)
      (told_by_bytes bytes (seen now (like b es first ms))) (told_by_bytes bytes (seen now b))
  bytes_same first [] now b es sound u = record { devices = es; under = u; same = refl; told = refl }
  bytes_same first (byte ∷ bytes) now b es sound u =
      let given = byte ∷ bytes in
      let quiet = silent_same first (seen now b) es (sound_seen now (like b es first ms) sound) u in
      let c = ends_silent (seen now b) in
      let parts = items false (c.held ++ given) in
      let x = items_same n are c.greatest parts c.devices quiet.devices (subst SoundBus quiet.same (after_silent first now b es sound)).devices quiet.under in
      record {
        devices = hears_items c.greatest parts quiet.devices;
        under = x.under;
        same = ap (hears_bytes given) quiet.same;
        told = (λ i. quiet.told i ++ (ap (λ (v : BusState). told_by_items v.greatest (items false (v.held ++ given)) v.devices) quiet.same ∙ x.told) i)
            ∙ sym (map-append (renumbers n.ordered) (told_by_silence (seen now b)) (told_by_items c.greatest parts c.devices));
      }

  -- ---- who ticks

  some_map : (o : Option (ℕ × Report)) → is_some (option_map (renumbers n.ordered) o) ≡ is_some o
  some_map None = refl
  some_map (Some said) = refl

  waits_same : (first : ℕ) (b : BusState) (es : Devices) → UnderDevices n b.devices es → has_report (like b es first ms) ≡ has_report b
  waits_same first b es u = ap (λ (o : Option (ℕ × Report)). is_some o) u.report ∙ some_map b.devices.report

  due_same : (first k : ℕ) (b : BusState) (es : Devices) → UnderDevices n b.devices es → is_due_at (n.ordered k) (like b es first ms) ≡ is_due_at k b
  due_same first k b es u =
      map_under (is_entry_due b.greatest) (idle_due b.greatest) (slice_get b.devices.entries k) (slice_get es.entries (n.ordered k)) (u.entries k)

  asks_same : (first k : ℕ) (b : BusState) (es : Devices) → UnderDevices n b.devices es
      → is_held_and_due (n.ordered k) (like b es first ms) ≡ is_held_and_due k b
  asks_same first k b es u =
      (λ i. map_under holds idle_holds (slice_get b.devices.entries k) (slice_get es.entries (n.ordered k)) (u.entries k) i && due_same first k b es u i)

  holder_under : (first : ℕ) (b : BusState) (es : Devices) → SoundBus (like b es first ms) → UnderDevices n b.devices es
      → holder (like b es first ms) ≡ option_map n.ordered (holder b)
  holder_under first b es sound u = first_under n are b.devices.entries es.entries u.entries holds idle_holds sound.devices.one

  rests_same : (first : ℕ) (b : BusState) (es : Devices) → UnderDevices n b.devices es → SameTicked n ms (stays (like b es first ms)) (stays b) [] []
  rests_same first b es u = record { devices = es; first = first; under = u; same = refl; sent = refl; told = refl }

  -- an entry that is there
  abbrev IsThere : Option ℕ → BusState → Type 0
  IsThere None b = Unit {0}
  IsThere (Some k) b = (d : Entry) × (device_of k b ≡ Some d)

  ticked_at : (first : ℕ) (o : Option ℕ) (b : BusState) (es : Devices) → UnderDevices n b.devices es → IsThere o b
      → SameTicked n ms (ticks_at (option_map n.ordered o) (like b es first ms)) (ticks_at o b)
      (told_by_ticking (option_map n.ordered o) (like b es first ms)) (told_by_ticking o b)
  ticked_at first None b es u there = rests_same first b es u
  ticked_at first (Some k) b es u (d, at) =
      subst (λ (q : Option Entry × Option Entry). SameTicked n ms (ticks_with (n.ordered k) q.1 (like b es first ms)) (ticks_with k q.0 b)
      (told_by_device (n.ordered k) q.1 (like b es first ms)) (told_by_device k q.0 b))
      (λ i. (sym at i, sym (present d (slice_get b.devices.entries k) (slice_get es.entries (n.ordered k)) at (u.entries k)) i)) (record {
        devices = record {
          entries = slice_set es.entries (n.ordered k) (entry_ticks b.greatest d);
          report = waiting_after (n.ordered k) (step_of b.greatest d).report es.report;
        };
        first = n.ordered k + 1;
        under = record {
          entries = set_under n are b.devices.entries es.entries u.entries k d (entry_ticks b.greatest d) at;
          report = waits_under n k (step_of b.greatest d).report b.devices.report es.report u.report;
        };
        same = refl;
        sent = refl;
        told = told_under n k (step_of b.greatest d).report;
      })

  -- nobody holds the line: it is the turn of the entry that is asked
  due_there : (first k : ℕ) (b : BusState) (es : Devices) → UnderDevices n b.devices es → IsDueEntry k b → IsDueEntry (n.ordered k) (like b es first ms)
  due_there first k b es u is = record {
    device = is.device;
    there = present is.device (slice_get b.devices.entries k) (slice_get es.entries (n.ordered k)) is.there (u.entries k);
    due = is.due;
  }

  due_back : (first k : ℕ) (b : BusState) (es : Devices) → UnderDevices n b.devices es → IsDueEntry k (like b es first ms) → IsDueEntry (n.own k) b
  due_back first k b es u is =
      by_other (from_other is.device (slice_get b.devices.entries (n.own k)) (slice_get es.entries k) is.there (own_there n are b.devices.entries es.entries u.entries k))
    where
      by_other : FromOther (slice_get b.devices.entries (n.own k)) is.device → IsDueEntry (n.own k) b
      by_other (IsEntry at) = record { device = is.device; there = at; due = is.due }
      by_other (IsIdleOne none idle) = absurd (let off = idle_due b.greatest is.device idle in let on : is_entry_due b.greatest is.device ≡ true = is.due in cc)

  before_all : (i j : ℕ) → j ≢ i → IsBefore i i j
  before_all i j other = elim (leb_tells i j) [
    | inl above ↦ inl (omega arith, strictly i j above.1 other)
    | inr below ↦ inr (inr (below.1, omega arith))
  ]

  pub next_same : (first : ℕ) (b : BusState) (es : Devices) → UnderDevices n b.devices es → IsTurn n first (next_due b)
      → next_due (like b es first ms) ≡ option_map n.ordered (next_due b)
  next_same first b es u turn = by_next (next_due b) refl
    where
      nobody : next_due b ≡ None → (o : Option ℕ) → next_due (like b es first ms) ≡ o → o ≡ None
      nobody none None is = refl
      nobody none (Some k) is = absurd (none_is_due b none (n.own k) (due_back first k b es u (due_is_next k (like b es first ms) is).due))

      by_next : (o : Option ℕ) → next_due b ≡ o → next_due (like b es first ms) ≡ option_map n.ordered o
      by_next None none = nobody none (next_due (like b es first ms)) refl
      by_next (Some k) is =
          next_is_due (n.ordered k) (like b es first ms) (record {
            due = due_there first k b es u (due_is_next k b is).due;
            first = λ j due other. subst (λ x. IsBefore x (n.ordered k) j) (sym (turn k is)) (before_all (n.ordered k) j other);
          })

  next_there : (o : Option ℕ) (b : BusState) → next_due b ≡ o → IsThere o b
  next_there None b is = tt
  next_there (Some k) b is = let next = due_is_next k b is in (next.due.device, next.due.there)

  free_same : (first : ℕ) (b : BusState) (es : Devices) → UnderDevices n b.devices es → IsTurn n first (asks_free None (λ asked. asked) b)
      → SameTicked n ms (ticks_free (like b es first ms)) (ticks_free b)
      (asks_free [] (λ k. told_by_ticking k (like b es first ms)) (like b es first ms)) (asks_free [] (λ k. told_by_ticking k b) b)
  free_same first b es u turn =
      subst (λ x. SameTicked n ms (cond x (stays c) (ticks_at (next_due c) c)) (ticks_free b) (cond x [] (told_by_ticking (next_due c) c))
      (asks_free [] (λ k. told_by_ticking k b) b)) (sym (waits_same first b es u)) (by_test (has_report b) turn)
    where
      c : BusState
      c = like b es first ms

      by_test : (x : Bool) → IsTurn n first (cond x None (next_due b))
          → SameTicked n ms (cond x (stays c) (ticks_at (next_due c) c)) (cond x (stays b) (ticks_at (next_due b) b))
          (cond x [] (told_by_ticking (next_due c) c)) (cond x [] (told_by_ticking (next_due b) b))
      by_test true turn = rests_same first b es u
      by_test false turn =
          subst (λ o. SameTicked n ms (ticks_at o c) (ticks_at (next_due b) b) (told_by_ticking o c) (told_by_ticking (next_due b) b))
          (sym (next_same first b es u turn)) (ticked_at first (next_due b) b es u (next_there (next_due b) b refl))

  -- an entry holds it
  holder_same : (first k : ℕ) (b : BusState) (es : Devices) → UnderDevices n b.devices es
      → SameTicked n ms (ticks_held (n.ordered k) (like b es first ms)) (ticks_held k b)
      (asks_holder [] (λ o. told_by_ticking o (like b es first ms)) (n.ordered k) (like b es first ms)) (asks_holder [] (λ o. told_by_ticking o b) k b)
  holder_same first k b es u =
      subst (λ x. SameTicked n ms (cond x (stays c) (ticks_at (Some (n.ordered k)) c)) (ticks_held k b) (cond x [] (told_by_ticking (Some (n.ordered k)) c))
      (asks_holder [] (λ o. told_by_ticking o b) k b)) (λ i. sym (waits_same first b es u) i || not (sym (asks_same first k b es u) i))
      (by_test (has_report b || not (is_held_and_due k b)) refl)
    where
      c : BusState
      c = like b es first ms

      by_test : (x : Bool) → has_report b || not (is_held_and_due k b) ≡ x
          → SameTicked n ms (cond x (stays c) (ticks_at (Some (n.ordered k)) c)) (cond x (stays b) (ticks_at (Some k) b))
          (cond x [] (told_by_ticking (Some (n.ordered k)) c)) (cond x [] (told_by_ticking (Some k) b))
      by_test true is = rests_same first b es u
      by_test false is = let there = held_there k b is in ticked_at first (Some k) b es u (there.1.0, there.1.1)

  -- what is told as a run ends, and then
  then_ticked : (whole part : BusTicked) (xs ys tells more : List (ℕ × Report)) → tells ≡ map (renumbers n.ordered) xs → SameTicked n ms whole part more ys
      → SameTicked n ms whole part (tells ++ more) (xs ++ ys)
  then_ticked whole part xs ys tells more first x = record {
    devices = x.devices;
    first = x.first;
    under = x.under;
    same = x.same;
    sent = x.sent;
    told = (λ i. first i ++ x.told i) ∙ sym (map-append (renumbers n.ordered) xs ys);
  }

  -- by who holds it, once the run has ended
  by_holder_same : (first : ℕ) (o : Option ℕ) (b : BusState) (es : Devices) → SoundBus (like b es first ms) → UnderDevices n b.devices es → IsTurn n first (asked_by_holder o b)
      → SameTicked n ms (ticks_by (option_map n.ordered o) (like b es first ms)) (ticks_by o b)
      (told_by_holder (option_map n.ordered o) (like b es first ms)) (told_by_holder o b)
  unfolding items end_same
  by_holder_same first None b es sound u turn =
      let e = end_same first b es sound u in
      let c = like b es first ms in
      then_ticked (ticks_free (ends_run c)) (ticks_free (ends_run b)) (told_by_end b) (asks_free [] (λ k. told_by_ticking k (ends_run b)) (ends_run b)) (told_by_end c)
      (asks_free [] (λ k. told_by_ticking k (ends_run c)) (ends_run c)) e.told (free_same first (ends_run b) e.devices e.under turn)
  by_holder_same first (Some k) b es sound u turn =
      subst (λ x. SameTicked n ms (cond x (ticks_held (n.ordered k) (ends_run c)) (stays c)) (ticks_by (Some k) b)
      (cond x (told_by_end c ++ asks_holder [] (λ o. told_by_ticking o (ends_run c)) (n.ordered k) (ends_run c)) [])
      (told_by_holder (Some k) b)) (sym (due_same first k b es u)) (by_test (is_due_at k b))
    where
      c : BusState
      c = like b es first ms

      by_test : (x : Bool) → SameTicked n ms (cond x (ticks_held (n.ordered k) (ends_run c)) (stays c)) (cond x (ticks_held k (ends_run b)) (stays b))
          (cond x (told_by_end c ++ asks_holder [] (λ o. told_by_ticking o (ends_run c)) (n.ordered k) (ends_run c)) [])
          (cond x (told_by_end b ++ asks_holder [] (λ o. told_by_ticking o (ends_run b)) k (ends_run b)) [])
      by_test true =
          let e = end_same first b es sound u in
          then_ticked (ticks_held (n.ordered k) (ends_run c)) (ticks_held k (ends_run b)) (told_by_end b)
          (asks_holder [] (λ o. told_by_ticking o (ends_run b)) k (ends_run b)) (told_by_end c)
          (asks_holder [] (λ o. told_by_ticking o (ends_run c)) (n.ordered k) (ends_run c)) e.told (holder_same first k (ends_run b) e.devices e.under)
      by_test false = rests_same first b es u

  on_same : (first : ℕ) (b : BusState) (es : Devices) → SoundBus (like b es first ms) → UnderDevices n b.devices es → IsTurn n first (asked_by_holder (holder b) b)
      → SameTicked n ms (ticks_on (like b es first ms)) (ticks_on b)
      (told_by_holder (holder (like b es first ms)) (like b es first ms)) (told_by_holder (holder b) b)
  on_same first b es sound u turn =
      subst (λ o. SameTicked n ms (ticks_by o (like b es first ms)) (ticks_on b) (told_by_holder o (like b es first ms)) (told_by_holder (holder b) b))
      (sym (holder_under first b es sound u)) (by_holder_same first (holder b) b es sound u turn)

  pub tick_same : (first now : ℕ) (b : BusState) (es : Devices) → SoundBus (like b es first ms) → UnderDevices n b.devices es → IsTurn n first (asked_at now b)
      → SameTicked n ms (bus_ticks now (like b es first ms)) (bus_ticks now b) (told_by_tick now (like b es first ms)) (told_by_tick now b)
  tick_same first now b es sound u turn =
      subst (λ x. SameTicked n ms (cond x (stays (seen now c)) (ticks_on (ends_silent (seen now c)))) (bus_ticks now b)
      (cond x [] (told_by_silence (seen now c) ++ told_by_holder (holder (ends_silent (seen now c))) (ends_silent (seen now c)))) (told_by_tick now b))
      (sym (waits_same first b es u)) (by_test (has_report b) turn)
    where
      c : BusState
      c = like b es first ms

      by_test : (x : Bool) → IsTurn n first (cond x None (asked_by_holder (holder (judged now b)) (judged now b)))
          → SameTicked n ms (cond x (stays (seen now c)) (ticks_on (ends_silent (seen now c)))) (cond x (stays (seen now b)) (ticks_on (ends_silent (seen now b))))
          (cond x [] (told_by_silence (seen now c) ++ told_by_holder (holder (ends_silent (seen now c))) (ends_silent (seen now c))))
          (cond x [] (told_by_silence (seen now b) ++ told_by_holder (holder (ends_silent (seen now b))) (ends_silent (seen now b))))
      by_test true turn = rests_same first (seen now b) es u
      by_test false turn =
          let e = silent_same first (seen now b) es (sound_seen now (like b es first ms) sound) u in
          let d = ends_silent (seen now b) in
          let x = subst (λ w. SameTicked n ms (ticks_on w) (ticks_on d) (told_by_holder (holder w) w) (told_by_holder (holder d) d)) (sym e.same)
          (on_same first d e.devices (subst SoundBus e.same (after_silent first now b es sound)) e.under turn) in
          then_ticked (ticks_on (ends_silent (seen now c))) (ticks_on d) (told_by_silence (seen now b)) (told_by_holder (holder d) d) (told_by_silence (seen now c))
          (told_by_holder (holder (ends_silent (seen now c))) (ends_silent (seen now c))) e.told x

  -- ---- who is asked, and what is read

  asked_by_same : (first : ℕ) (o : Option ℕ) (b : BusState) (es : Devices) → SoundBus (like b es first ms) → UnderDevices n b.devices es → IsTurn n first (asked_by_holder o b)
      → asked_by_holder (option_map n.ordered o) (like b es first ms) ≡ option_map n.ordered (asked_by_holder o b)
  unfolding items end_same
  asked_by_same first None b es sound u turn =
      let e = end_same first b es sound u in
      ap (λ x. cond x None (next_due (like (ends_run b) e.devices first ms))) (waits_same first (ends_run b) e.devices e.under)
      ∙ by_test e.devices e.under (has_report (ends_run b)) turn
    where
      by_test : (fs : Devices) → UnderDevices n (ends_run b).devices fs → (x : Bool) → IsTurn n first (cond x None (next_due (ends_run b)))
          → cond x None (next_due (like (ends_run b) fs first ms)) ≡ option_map n.ordered (cond x None (next_due (ends_run b)))
      by_test fs v true turn = refl
      by_test fs v false turn = next_same first (ends_run b) fs v turn
  asked_by_same first (Some k) b es sound u turn =
      let e = end_same first b es sound u in
      (λ i. cond (due_same first k b es u i)
      (cond (waits_same first (ends_run b) e.devices e.under i || not (asks_same first k (ends_run b) e.devices e.under i)) None (Some (n.ordered k))) None)
      ∙ by_tests (is_due_at k b) (has_report (ends_run b) || not (is_held_and_due k (ends_run b)))
    where
      by_tests : (x y : Bool) → cond x (cond y None (Some (n.ordered k))) None ≡ option_map n.ordered (cond x (cond y None (Some k)) None)
      by_tests true true = refl
      by_tests true false = refl
      by_tests false y = refl

  pub asked_same : (first now : ℕ) (b : BusState) (es : Devices) → SoundBus (like b es first ms) → UnderDevices n b.devices es → IsTurn n first (asked_at now b)
      → asked_at now (like b es first ms) ≡ option_map n.ordered (asked_at now b)
  asked_same first now b es sound u turn =
      ap (λ x. cond x None (asked_by_holder (holder (judged now c)) (judged now c))) (waits_same first b es u) ∙ by_test (has_report b) turn
    where
      c : BusState
      c = like b es first ms

      by_test : (x : Bool) → IsTurn n first (cond x None (asked_by_holder (holder (judged now b)) (judged now b)))
          → cond x None (asked_by_holder (holder (judged now c)) (judged now c))
          ≡ option_map n.ordered (cond x None (asked_by_holder (holder (judged now b)) (judged now b)))
      by_test true turn = refl
      by_test false turn =
          let e = silent_same first (seen now b) es (sound_seen now (like b es first ms) sound) u in
          let d = judged now b in
          let s = subst SoundBus e.same (after_silent first now b es sound) in
          ap (λ w. asked_by_holder (holder w) w) e.same
          ∙ ap (λ o. asked_by_holder o (like d e.devices first ms)) (holder_under first d e.devices s e.under)
          ∙ asked_by_same first (holder d) d e.devices s e.under turn

  read_by_same : (first : ℕ) (o : Option ℕ) (b : BusState) (es : Devices) → UnderDevices n b.devices es
      → read_by_holder (option_map n.ordered o) (like b es first ms) ≡ read_by_holder o b
  read_by_same first None b es u = refl
  read_by_same first (Some k) b es u = ap (λ x. cond x (read_at_end b) []) (due_same first k b es u)

  pub tick_read : (first now : ℕ) (b : BusState) (es : Devices) → SoundBus (like b es first ms) → UnderDevices n b.devices es
      → read_at_tick now (like b es first ms) ≡ read_at_tick now b
  tick_read first now b es sound u =
      let e = silent_same first (seen now b) es (sound_seen now (like b es first ms) sound) u in
      let d = judged now b in
      let s = subst SoundBus e.same (after_silent first now b es sound) in
      let rest : read_by_holder (holder (judged now (like b es first ms))) (judged now (like b es first ms)) ≡ read_by_holder (holder d) d =
      ap (λ w. read_by_holder (holder w) w) e.same
      ∙ ap (λ o. read_by_holder o (like d e.devices first ms)) (holder_under first d e.devices s e.under)
      ∙ read_by_same first (holder d) d e.devices e.under in
      (λ i. cond (waits_same first b es u i) [] (read_at_silence (seen now b) ++ rest i))
