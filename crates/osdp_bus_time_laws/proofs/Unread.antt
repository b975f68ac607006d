-- What a call leaves of who holds the line where it reads nothing of it: its exchange stands as it was, or it ticks once it is due.
use Rattle.osdp_bus_time_laws.proofs.Common.{◌≡◌, ◌∙◌, ap, sym, subst, inl, inr, ℕ, ◌≤◌, ◌||◌, Bool, true, false, max, List, [], ◌∷◌, ◌++◌, Option, Some, None, refl, arith, ◌⊎◌, ◌&&◌, if◌then◌else◌, All, is_some, nat_eq, not, slice_get, slice_set, option_map_or, eqb-true, eqb-false, All-cons, All-head, All-nil, All-tail, items, whole_packets, Packet, meaning_of, Heard, hears, hears_in, ignores, is_outstanding, seen_by, is_closed, hears_at_moment, Entry, BusState, Devices, device_of, has_report, holder, is_silent, seen, waiting_after, address_of, entry_hears, entry_ticks, first_from, holds, is_at, is_entry_due, step_of, after_bytes, ends_run, hears_at, hears_item, hears_items, hears_with, add_refusal, after_add, after_begin_at, after_retarget_at, after_submit_at, begin_refusal_at, entry_submits, entry_withdraws, new_device, retarget_refusal_at, submit_refusal_at, BusTicked, bus_ticks, is_due_at, is_held_and_due, stays, ticks_at, ticks_by, ticks_held, ticks_on, ticks_with, Call, Add, Begin, Submit, Withdraw, Retarget, OnBytes, OnSilence, Tick, NextReport, after_call, asking, judged, has_one_exchange, moments_are_seen, is_false, SoundBus, held_there, sound_run, sound_seen, sound_silent, stays_silent, set_here, set_other, ends_duty, IsOfAnother, ReadsNothing, read_by_holder, read_if_silent, read_in, read_to_end, NoneBegins}
use Rattle.osdp_frame.specs.Reading.{RunItem, PacketItem, SkippedItem, RefusedItem}
use Rattle.osdp_bus_laws.specs.Moments.{Brings}
use Rattle.osdp_bus_time_laws.proofs.Devices.{Well}
use Rattle.osdp_bus_time_laws.proofs.Moments.{grows}
use Rattle.osdp_bus_time_laws.proofs.Outstanding.{stands_not_closed}
use Rattle.osdp_bus_time_laws.proofs.Places.{AtPlace, Lives, begin_place, changed_place, in_front, one_device, retarget_place, unless_place}

-- ---- what is read of a list in two parts

front : {X : Type 0} (P : X → Type 0) (xs ys : List X) → All P (xs ++ ys) → All P xs
front P [] ys all = All-nil P
front P (x ∷ xs) ys all = All-cons P x xs (All-head P x (xs ++ ys) all) (front P xs ys (All-tail P x (xs ++ ys) all))

back : {X : Type 0} (P : X → Type 0) (xs ys : List X) → All P (xs ++ ys) → All P ys
back P [] ys all = all
back P (x ∷ xs) ys all = back P xs ys (All-tail P x (xs ++ ys) all)

-- ---- a device that hears a packet of another

-- the same exchange, at whatever moment up to this one
pub record Same (g : ℕ) (d e : Entry) : Type 0 where
  pub state : e.controller.session.state ≡ d.controller.session.state
  pub config : e.controller.session.config ≡ d.controller.session.config
  pub reached : e.controller.session.greatest ≤ g

not_from : (x y z : Bool) → (x && y) ≡ false → (x && y && z) ≡ false
not_from false y z other = refl
not_from true false z other = refl
not_from true true z other = cc

ignored : (p : Packet) (now : ℕ) (e : Entry) → IsOfAnother (address_of e) p → hears p now e.controller.session ≡ ignores (seen_by now e.controller.session)
ignored p now e other =
    let s = e.controller.session in
    ap (λ t. if t then hears_in s.state p.sequence (meaning_of p) (seen_by now s) else ignores (seen_by now s))
    (not_from p.reply (nat_eq p.address s.config.address) (not p.block) other)

module _ (g : ℕ) (d : Entry) where
  same_heard : (p : Packet) (e : Entry) → IsOfAnother (address_of d) p → Same g d e → Same g d (entry_hears p g e)
  same_heard p e other same =
      let s = e.controller.session in
      let address : address_of e ≡ address_of d = ap (λ c. c.address) same.config in
      let is = ignored p g e (ap (λ (n : ℕ). p.reply && nat_eq p.address n) address ∙ other) in
      let moment : (hears p g s).session.greatest ≡ max s.greatest g = hears_at_moment p g s in
      let reached : s.greatest ≤ g = same.reached in
      record {
        state = ap (λ (h : Heard). h.session.state) is ∙ same.state;
        config = ap (λ (h : Heard). h.session.config) is ∙ same.config;
        reached = omega arith;
      }

  module _ (entry : ℕ) where
    abbrev pub Here : Devices → Type 0
    Here ds = AtPlace entry (Same g d) ds

    abbrev Others : List Packet → Type 0
    Others ps = All (IsOfAnother (address_of d)) ps

    packet_by : (t : Bool) (p : Packet) (i : ℕ) (f : Entry) (ds : Devices) → IsOfAnother (address_of d) p → nat_eq entry i ≡ t
        → slice_get ds.entries i ≡ Some f → (e : Entry) → slice_get ds.entries entry ≡ Some e → Same g d e → Here (hears_with p g i (Some f) ds)
    packet_by true p i f ds none same at e there is =
        let here : entry ≡ i = eqb-true entry i same in
        let one : e ≡ f = one_device (slice_get ds.entries i) e f (sym (ap (slice_get ds.entries) here) ∙ there) at in (
          entry_hears p g f,
          ap (slice_get (slice_set ds.entries i (entry_hears p g f))) here ∙ set_here ds.entries i f (entry_hears p g f) at,
          same_heard p f none (subst (Same g d) one is),
        )
    packet_by false p i f ds none other at e there is =
        (e, set_other ds.entries i entry (entry_hears p g f) (eqb-false entry i other) ∙ there, is)

    with_here : (p : Packet) (i : ℕ) (o : Option Entry) (ds : Devices) → IsOfAnother (address_of d) p → slice_get ds.entries i ≡ o → Here ds
        → Here (hears_with p g i o ds)
    with_here p i None ds none at here = here
    with_here p i (Some f) ds none at here = packet_by (nat_eq entry i) p i f ds none refl at here.0 here.1 here.2

    at_here : (p : Packet) (o : Option ℕ) (ds : Devices) → IsOfAnother (address_of d) p → Here ds → Here (hears_at p g o ds)
    at_here p None ds none here = here
    at_here p (Some i) ds none here = with_here p i (slice_get ds.entries i) ds none refl here

    parts_here : (parts : List RunItem) (ds : Devices) → Others (whole_packets parts) → Here ds → Here (hears_items g parts ds)
    parts_here [] ds read here = here
    parts_here (PacketItem p ∷ parts) ds read here =
        parts_here parts (hears_item g (PacketItem p) ds) (All-tail (IsOfAnother (address_of d)) p (whole_packets parts) read)
        (at_here p (first_from 0 (is_at p.address) ds.entries) ds (All-head (IsOfAnother (address_of d)) p (whole_packets parts) read) here)
    parts_here (SkippedItem byte ∷ parts) ds read here = parts_here parts ds read here
    parts_here (RefusedItem fault ∷ parts) ds read here = parts_here parts ds read here

    items_here : (moment : ℕ) (parts : List RunItem) (ds : Devices) → moment ≡ g → Others (whole_packets parts) → Here ds → Here (hears_items moment parts ds)
    items_here moment parts ds is read here =
        subst (λ (n : ℕ). Here (hears_items n parts ds)) (sym is) (parts_here parts ds read here)

    run_here : (b : BusState) → b.greatest ≡ g → Others (read_to_end b) → Here b.devices → Here (ends_run b).devices
    run_here b is read here = items_here b.greatest (items true b.held) b.devices is read here

    silent_by : (t : Bool) (b : BusState) → b.greatest ≡ g → Others (if t then read_to_end b else []) → Here b.devices → Here (if t then ends_run b else b).devices
    silent_by true b is read here = run_here b is read here
    silent_by false b is read here = here

    judged_moment : (now : ℕ) (b : BusState) → max b.greatest now ≡ g → (judged now b).greatest ≡ g
    judged_moment now b is = (stays_silent (seen now b)).greatest ∙ is

    judged_here : (now : ℕ) (b : BusState) → max b.greatest now ≡ g → Others (read_if_silent (seen now b)) → Here b.devices → Here (judged now b).devices
    judged_here now b is read here = silent_by (is_silent (seen now b)) (seen now b) is read here

    bytes_here : (bytes : List ℕ) (now : ℕ) (b : BusState) → max b.greatest now ≡ g → Others (read_in (OnBytes bytes now) b) → Here b.devices
        → Here (after_bytes bytes now b).devices
    bytes_here [] now b is read here = here
    bytes_here (byte ∷ bytes) now b is read here =
        let e = judged now b in
        let parts = items false (e.held ++ (byte ∷ bytes)) in
        let first = read_if_silent (seen now b) in
        items_here e.greatest parts e.devices (judged_moment now b is) (back (IsOfAnother (address_of d)) first (whole_packets parts) read)
        (judged_here now b is (front (IsOfAnother (address_of d)) first (whole_packets parts) read) here)

    -- ---- a tick, while the device holds the line and no report waits: it isn't due, or it ticks

    abbrev pub Ticks : BusTicked → Type 0
    Ticks t =
        AtPlace entry (λ e. Same g d e × (is_entry_due g e ≡ true → ⊥)) t.bus.devices
        ⊎ ((f : Entry) × Same g d f × (is_entry_due g f ≡ true) × (slice_get t.bus.devices.entries entry ≡ Some (entry_ticks g f))
        × (t.bus.devices.report ≡ waiting_after entry (step_of g f).report None))

    no_report : {X : Type 0} (o : Option X) → is_some o ≡ false → o ≡ None
    no_report None none = refl
    no_report (Some x) none = cc

    module _ (now : ℕ) (b : BusState) (sound : SoundBus b) (stands : holds d ≡ true) (none : has_report b ≡ false) (moment : max b.greatest now ≡ g)
        (here : Here b.devices) where
      abbrev j : BusState
      j = judged now b

      abbrev r : BusState
      r = asking now b

      sound_j : SoundBus j
      sound_j = sound_silent (seen now b) (sound_seen now b sound)

      sound_r : SoundBus r
      sound_r = sound_run j sound_j

      still : (e : Entry) → Same g d e → holds e ≡ true
      still e same = ap is_outstanding same.state ∙ stands

      held_judged : Others (read_if_silent (seen now b)) → holder j ≡ Some entry
      held_judged read =
          let at = judged_here now b moment read here in
          (has_one_exchange j sound_j).belongs entry (record { device = at.0; there = at.1; outstanding = still at.0 at.2 })

      not_due : Here j.devices → is_due_at entry j ≡ false → Ticks (stays j)
      not_due at never = inl (
        at.0,
        at.1,
        (
          at.2,
          λ due.
              let is : is_due_at entry j ≡ is_entry_due g at.0 =
              ap (λ o. option_map_or (is_entry_due j.greatest) o false) at.1 ∙ ap (λ n. is_entry_due n at.0) (judged_moment now b moment) in
              cc,
        ),
      )

      rests_by : (e : Entry) → device_of entry r ≡ Some e → Same g d e → (x : Bool) → has_report r ≡ x → (x || not (is_held_and_due entry r)) ≡ true
          → is_entry_due g e ≡ true → ⊥
      rests_by e there same true told h due = let free = sound_r.devices.waits told entry e there in let held = still e same in cc
      rests_by e there same false told h due =
          let due_then : is_entry_due r.greatest e ≡ true = ap (λ n. is_entry_due n e) (judged_moment now b moment) ∙ due in
          let is : is_held_and_due entry r ≡ (holds e && is_entry_due r.greatest e) =
          ap (λ o. option_map_or holds o false && option_map_or (is_entry_due r.greatest) o false) there in
          let yes : (holds e && is_entry_due r.greatest e) ≡ true = ap (λ t. t && is_entry_due r.greatest e) (still e same) ∙ due_then in
          let both : not (is_held_and_due entry r) ≡ false = ap not (is ∙ yes) in
          cc

      ticks_now : Here r.devices → (has_report r || not (is_held_and_due entry r)) ≡ false → Ticks (ticks_at (Some entry) r)
      ticks_now at h =
          let held = held_there entry r h in
          let f = held.1.0 in
          let there : device_of entry r ≡ Some f = held.1.1 in
          let one : at.0 ≡ f = one_device (device_of entry r) at.0 f at.1 there in
          let moment_r : r.greatest ≡ g = judged_moment now b moment in
          let untold = no_report r.devices.report held.0 in
          inr (
            f,
            subst (Same g d) one at.2,
            subst (λ (n : ℕ). is_entry_due n f ≡ true) moment_r held.1.3,
            ap (λ o. slice_get (ticks_with entry o r).bus.devices.entries entry) there ∙ set_here r.devices.entries entry f (entry_ticks r.greatest f) there
                ∙ ap (λ n. Some (entry_ticks n f)) moment_r,
            ap (λ o. (ticks_with entry o r).bus.devices.report) there ∙ ap (λ n. waiting_after entry (step_of n f).report r.devices.report) moment_r
                ∙ ap (waiting_after entry (step_of g f).report) untold,
          )

      held_by : (t : Bool) → Here r.devices → (has_report r || not (is_held_and_due entry r)) ≡ t → Ticks (if t then stays r else ticks_at (Some entry) r)
      held_by true at h = inl (at.0, at.1, (at.2, rests_by at.0 at.1 at.2 (has_report r) refl h))
      held_by false at h = ticks_now at h

      due_by : (t : Bool) → Here j.devices → is_due_at entry j ≡ t → Others (if t then read_to_end j else []) → Ticks (if t then ticks_held entry r else stays j)
      due_by false at never read = not_due at never
      due_by true at due read =
          held_by (has_report r || not (is_held_and_due entry r)) (run_here j (judged_moment now b moment) read at) refl

      read_all : Others (read_in (Tick now) b) → Others (read_if_silent (seen now b) ++ read_by_holder (holder j) j)
      read_all read = subst (λ (t : Bool). Others (if t then [] else read_if_silent (seen now b) ++ read_by_holder (holder j) j)) none read

      read_first : Others (read_in (Tick now) b) → Others (read_if_silent (seen now b))
      read_first read = front (IsOfAnother (address_of d)) (read_if_silent (seen now b)) (read_by_holder (holder j) j) (read_all read)

      pub held_tick : Others (read_in (Tick now) b) → holder j ≡ Some entry
      held_tick read = held_judged (read_first read)

      pub tick_held : Others (read_in (Tick now) b) → Ticks (bus_ticks now b)
      tick_held read =
          let all = read_all read in
          let held = held_tick read in
          let rest : Others (read_by_holder (Some entry) j) =
          subst (λ o. Others (read_by_holder o j)) held (back (IsOfAnother (address_of d)) (read_if_silent (seen now b)) (read_by_holder (holder j) j) all) in
          subst Ticks (sym (ap (λ t. if t then stays (seen now b) else ticks_on j) none ∙ ap (λ o. ticks_by o j) held))
          (due_by (is_due_at entry j) (judged_here now b moment (read_first read) here) refl rest)

-- ---- any call, while the device holds the line

-- its exchange stands, and a tick that ends a duty comes before it is due; or it ticks
abbrev pub Leaves : Call → BusState → ℕ → Entry → Type 0
Leaves call b entry d =
    AtPlace entry (λ e. Same (after_call call b).greatest d e × (ends_duty call b ≡ true → is_entry_due (after_call call b).greatest e ≡ true → ⊥))
    (after_call call b).devices
    ⊎ ((f : Entry) × Same (after_call call b).greatest d f × (is_entry_due (after_call call b).greatest f ≡ true)
    × (device_of entry (after_call call b) ≡ Some (entry_ticks (after_call call b).greatest f))
    × ((after_call call b).devices.report ≡ waiting_after entry (step_of (after_call call b).greatest f).report None))

module _ (b : BusState) (entry : ℕ) (d : Entry) (well : Well b) (there : device_of entry b ≡ Some d) (stands : holds d ≡ true) where
  unreported : has_report b ≡ false
  unreported = is_false (has_report b) (λ told. let free = well.sound.devices.waits told entry d there in cc)

  here_then : (g : ℕ) → b.greatest ≤ g → AtPlace entry (Same g d) b.devices
  here_then g on =
      let reached : d.controller.session.greatest ≤ b.greatest = (well.devices entry d there).reached in
      (d, there, record { state = refl; config = refl; reached = omega arith })

  here : (call : Call) → AtPlace entry (Same (after_call call b).greatest d) b.devices
  here call = here_then (after_call call b).greatest (grows call b)

  lives : (g : ℕ) → Lives (Same g d) entry b
  lives g f at =
      let one = one_device (device_of entry b) d f there at in
      subst (λ (k : Entry). is_closed k.controller.session.state ≡ false) one (stands_not_closed d stands)

  plain : (call : Call) → ends_duty call b ≡ false → AtPlace entry (Same (after_call call b).greatest d) (after_call call b).devices → Leaves call b entry d
  plain call other place = inl (place.0, place.1, (place.2, λ ends due. let both : true ≡ false = sym ends ∙ other in cc))

  moment : (call : Call) (now : ℕ) → Brings call now b → max b.greatest now ≡ (after_call call b).greatest
  moment call now brings = sym ((moments_are_seen b).brought call now brings)

  ticks_leave : (now : ℕ) → Ticks (after_call (Tick now) b).greatest d entry (bus_ticks now b) → Leaves (Tick now) b entry d
  ticks_leave now (inl (e, at, (same, never))) = inl (e, at, (same, λ ends. never))
  ticks_leave now (inr ticks) = inr ticks

  pub leaves : (call : Call) → ReadsNothing entry call b → Leaves call b entry d
  leaves (Add address) nothing =
      let g = (after_call (Add address) b).greatest in
      let at = here (Add address) in
      plain (Add address) refl
      (unless_place (Same g d) entry (add_refusal address b) b (after_add address b) at
      (λ ok. (at.0, in_front b.devices.entries (new_device address b.config) entry at.0 at.1, at.2)))
  leaves (Begin at now) nothing =
      let g = (after_call (Begin at now) b).greatest in
      plain (Begin at now) refl
      (unless_place (Same g d) entry (begin_refusal_at at b) b (after_begin_at at now b) (here (Begin at now))
      (begin_place (Same g d) entry at now b (lives g) (here (Begin at now))))
  leaves (Submit at command) nothing =
      let g = (after_call (Submit at command) b).greatest in
      plain (Submit at command) refl
      (unless_place (Same g d) entry (submit_refusal_at at command b) b (after_submit_at at command b) (here (Submit at command))
      (λ ok. changed_place (Same g d) entry (entry_submits command) at b
      (λ same f is so. record { state = so.state; config = so.config; reached = so.reached }) (here (Submit at command))))
  leaves (Withdraw at) nothing =
      let g = (after_call (Withdraw at) b).greatest in
      plain (Withdraw at) refl
      (changed_place (Same g d) entry entry_withdraws at b (λ same f is so. record { state = so.state; config = so.config; reached = so.reached })
      (here (Withdraw at)))
  leaves (Retarget at address) nothing =
      let g = (after_call (Retarget at address) b).greatest in
      plain (Retarget at address) refl
      (unless_place (Same g d) entry (retarget_refusal_at at address b) b (after_retarget_at at address b) (here (Retarget at address))
      (retarget_place (Same g d) entry at address b (lives g) (here (Retarget at address))))
  leaves (OnBytes bytes now) nothing =
      plain (OnBytes bytes now) refl
      (bytes_here (after_call (OnBytes bytes now) b).greatest d entry bytes now b (moment (OnBytes bytes now) now refl) (nothing d there) (here (OnBytes bytes now)))
  leaves (OnSilence now) nothing =
      plain (OnSilence now) refl
      (run_here (after_call (OnSilence now) b).greatest d entry (seen now b) (moment (OnSilence now) now refl) (nothing d there) (here (OnSilence now)))
  leaves (Tick now) nothing =
      ticks_leave now
      (tick_held (after_call (Tick now) b).greatest d entry now b well.sound stands unreported (moment (Tick now) now refl) (here (Tick now)) (nothing d there))
  leaves NextReport nothing = plain NextReport refl (here NextReport)

  -- and no exchange begins
  pub none_begins : (call : Call) → ReadsNothing entry call b → NoneBegins call b
  none_begins call nothing k begun =
      let now = begun.now in
      let read = subst (λ c. All (IsOfAnother (address_of d)) (read_in c b)) begun.tick (nothing d there) in
      let held : holder (judged now b) ≡ Some entry =
      held_tick (after_call (Tick now) b).greatest d entry now b well.sound stands unreported (moment (Tick now) now refl) (here (Tick now)) read in
      let both : Some entry ≡ None = sym held ∙ begun.free.nobody in cc
