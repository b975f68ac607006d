-- What one call makes of an entry that there is: an exchange of it begins, or none does.
use Rattle.osdp_bus_order_laws.proofs.Common.{◌≡◌, ◌∙◌, ap, sym, subst, inl, inr, refl, ℕ, zero, suc, ◌&&◌, ◌==◌, Bool, true, false, max, List, [], ◌∷◌, ◌++◌, append-nil, Option, Some, None, ◌⊎◌, Result, Ok, if◌then◌else◌, drop, is_none, is_some, nat_eq, option_map, option_map_or, option_to_list, slice_get, slice_set, eqb-true, eqb-false, Command, BusFault, begin_refusal, is_closed, Packet, State, Waiting, Pausing, asked_in, is_outstanding, entry_hears, Entry, BusState, device_of, has_report, seen, add_refusal, after_add, after_begin_at, after_retarget_at, after_submit_at, begin_refusal_at, begin_refusal_of, changed_unless, changes_entry, entry_begins, entry_retargets, entry_submits, entry_withdraws, new_device, retarget_refusal_at, submit_refusal_at, withdrawal_at, withdrawal_of, withdrawn_of, entry_ticks, holds, bus_ticks, BusTicked, stays, ticks_on, ticks_with, Call, Add, Begin, Submit, Withdraw, Retarget, OnBytes, OnSilence, Tick, NextReport, after_call, Begins, asking, judged, begun_ticked, is_false, is_quiet, is_under_way, map_none, stands_after, still_free, set_here, set_other, SoundBus, AtPlace, Outcome, one_device, tick_place, moments_are_seen, accepted_in, given, taken_back_in}
use Rattle.osdp_controller.specs.Held.{on_its_way}
use Rattle.osdp_controller.specs.Machine.{retarget_refusal, refused_unless_closed}
use Rattle.osdp_controller_laws.proofs.Closed.{was_closed}
use Rattle.osdp_bus.specs.Machine.{bus_fault, retarget_refusal_of}
use Rattle.osdp_bus_time_laws.proofs.Asking.{same_next}
use Rattle.osdp_bus_time_laws.proofs.Places.{asking_place, bytes_place, in_front, run_place}
use Rattle.osdp_bus_order_laws.proofs.Devices.{BegunIn, Keeps, holder_waits, keeps_heard, keeps_same, keeps_ticked, next, starts, waits}
use Rattle.osdp_bus_order_laws.proofs.Hearing.{Hears, asked, hears_asking, hears_nothing}

abbrev pub listed : Option Command → List Command
listed o = option_to_list o

-- ---- one device is changed

pub changed_here : (entry : ℕ) (change : Entry → Entry) (d : Entry) (b : BusState) → device_of entry b ≡ Some d → device_of entry (changes_entry entry change b) ≡ Some (change d)
changed_here entry change d b at =
    ap (λ o. device_of entry (option_map_or (λ d. record b { devices = record b.devices { entries = slice_set b.devices.entries entry (change d) } }) o b)) at
    ∙ set_here b.devices.entries entry d (change d) at

pub changed_there : (entry other : ℕ) (change : Entry → Entry) (b : BusState) → (entry ≡ other → ⊥) → device_of entry (changes_entry other change b) ≡ device_of entry b
changed_there entry other change b apart = by_device (device_of other b)
  where
    by_device : (o : Option Entry)
        → device_of entry (option_map_or (λ d. record b { devices = record b.devices { entries = slice_set b.devices.entries other (change d) } }) o b) ≡ device_of entry b
    by_device None = refl
    by_device (Some d) = set_other b.devices.entries other entry (change d) apart

-- ---- none of the entry begins

pub record Goes (entry : ℕ) (d : Entry) (new back : Option Command) (b : BusState) : Type 0 where
  pub device : Entry
  pub there : device_of entry b ≡ Some device
  pub keeps : Keeps d device
  pub place : listed back ++ waits device ≡ waits d ++ listed new

module _ (entry : ℕ) (d : Entry) (b : BusState) (at : device_of entry b ≡ Some d) where
  abbrev Stays : BusState → Type 0
  Stays c = Goes entry d None None c

  still : (e : Entry) (c : BusState) → device_of entry c ≡ Some e → Keeps d e → waits e ≡ waits d → Stays c
  still e c there keeps same = record { device = e; there = there; keeps = keeps; place = same ∙ sym (append-nil (waits d)) }

  same_at : (c : BusState) → device_of entry c ≡ Some d → Stays c
  same_at c there = still d c there (keeps_same d d refl) refl

  adds : (f : Option BusFault) (address : ℕ) → Stays (changed_unless f b (after_add address b))
  adds (Some fault) address = same_at b at
  adds None address = same_at (after_add address b) (in_front b.devices.entries (new_device address b.config) entry d at)

  -- a session that begins had none, and another address changes no session

  begins : (f : Option BusFault) (other now : ℕ) → begin_refusal_at other b ≡ f → Stays (changed_unless f b (after_begin_at other now b))
  begins (Some fault) other now refused = same_at b at
  begins None other now ok = by_same (nat_eq entry other) refl
    where
      change : Entry → Entry
      change = entry_begins (max b.greatest now)

      never : entry ≡ other → is_under_way d.controller.session.state ≡ true → is_quiet (change d).controller.session.state ≡ false
      never same under =
          let refused = map_none (begin_refusal d.controller) (sym (ap begin_refusal_of (ap (λ n. device_of n b) (sym same) ∙ at)) ∙ ok) in
          let over = ap is_under_way (was_closed d.controller.session.state refused) in
          absurd (let both : true ≡ false = sym under ∙ over in cc)

      by_same : (t : Bool) → nat_eq entry other ≡ t → Stays (after_begin_at other now b)
      by_same true same =
          let here : entry ≡ other = eqb-true entry other same in
          still (change d) (after_begin_at other now b)
          (ap (λ n. device_of entry (changes_entry n change (seen now b))) (sym here) ∙ changed_here entry change d (seen now b) at)
          (record { same = (refl, refl); exchange = inr refl; on = never here }) refl
      by_same false apart = same_at (after_begin_at other now b) (changed_there entry other change (seen now b) (eqb-false entry other apart) ∙ at)

  retargets : (f : Option BusFault) (other address : ℕ) → Stays (changed_unless f b (after_retarget_at other address b))
  retargets (Some fault) other address = same_at b at
  retargets None other address = by_same (nat_eq entry other) refl
    where
      change : Entry → Entry
      change = entry_retargets address

      by_same : (t : Bool) → nat_eq entry other ≡ t → Stays (after_retarget_at other address b)
      by_same true same =
          still (change d) (after_retarget_at other address b)
          (ap (λ n. device_of entry (changes_entry n change b)) (sym (eqb-true entry other same)) ∙ changed_here entry change d b at)
          (record { same = (refl, refl); exchange = inl refl; on = (keeps_same d d refl).on }) refl
      by_same false apart = same_at (after_retarget_at other address b) (changed_there entry other change b (eqb-false entry other apart) ∙ at)

  -- an order waits after the others

  submits_unless : (f : Option BusFault) (c : Command) → Goes entry d (if is_none f then Some c else None) None (changed_unless f b (after_submit_at entry c b))
  submits_unless (Some fault) c = same_at b at
  submits_unless None c = record {
    device = entry_submits c d;
    there = changed_here entry (entry_submits c) d b at;
    keeps = keeps_same d (entry_submits c d) refl;
    place = refl;
  }

  unless_there : (f : Option BusFault) (c : BusState) → device_of entry c ≡ Some d → Stays (changed_unless f b c)
  unless_there None c there = same_at c there
  unless_there (Some fault) c there = same_at b at

  submits : (other : ℕ) (c : Command) → Goes entry d (accepted_in entry (Submit other c) b) None (after_call (Submit other c) b)
  submits other c = by_same (other == entry) refl
    where
      by_same : (t : Bool) → (other == entry) ≡ t → Goes entry d (if t && is_none (submit_refusal_at other c b) then Some c else None) None (after_call (Submit other c) b)
      by_same true same =
          subst (λ n. Goes entry d (if is_none (submit_refusal_at n c b) then Some c else None) None (after_call (Submit n c) b)) (sym (eqb-true other entry same))
          (submits_unless (submit_refusal_at entry c b) c)
      by_same false apart =
          unless_there (submit_refusal_at other c b) (after_submit_at other c b)
          (changed_there entry other (entry_submits c) b (λ h. eqb-false other entry apart (sym h)) ∙ at)

  -- the first order is taken back

  first_listed : (stays : Bool) (w : List Command) → listed (if stays then None else slice_get w 0) ++ (if stays then w else drop 1 w) ≡ w
  first_listed true w = refl
  first_listed false [] = refl
  first_listed false (c ∷ rest) = refl

  withdraws_here : Goes entry d None (given (withdrawal_at entry b)) (after_call (Withdraw entry) b)
  withdraws_here =
      subst (λ o. Goes entry d None (given (withdrawal_of o)) (after_call (Withdraw entry) b)) (sym at)
      (record {
        device = entry_withdraws d;
        there = changed_here entry entry_withdraws d b at;
        keeps = keeps_same d (entry_withdraws d) refl;
        place = first_listed (is_some (on_its_way d.controller.session.state)) (waits d) ∙ sym (append-nil (waits d));
      })

  withdraws : (other : ℕ) → Goes entry d None (taken_back_in entry (Withdraw other) b) (after_call (Withdraw other) b)
  withdraws other = by_same (other == entry) refl
    where
      by_same : (t : Bool) → (other == entry) ≡ t → Goes entry d None (if t then given (withdrawal_at other b) else None) (after_call (Withdraw other) b)
      by_same true same = subst (λ n. Goes entry d None (given (withdrawal_at n b)) (after_call (Withdraw n) b)) (sym (eqb-true other entry same)) withdraws_here
      by_same false apart = same_at (after_call (Withdraw other) b) (changed_there entry other entry_withdraws b (λ h. eqb-false other entry apart (sym h)) ∙ at)

  -- what comes in, and ticks

  abbrev pub Kept : Entry → Type 0
  Kept e = Keeps d e × (waits e ≡ waits d)

  pub kept_heard : (g : ℕ) (p : Packet) (e : Entry) → Kept e → Kept (entry_hears p g e)
  kept_heard g p e k = (keeps_heard d e p g k.0, k.1)

  pub kept_first : AtPlace entry Kept b.devices
  kept_first = (d, at, (keeps_same d d refl, refl))

  kept_at : (c : BusState) → AtPlace entry Kept c.devices → Stays c
  kept_at c (e, there, (keeps, same)) = still e c there keeps same

  module _ (sound : SoundBus b) (now : ℕ) (not : Begins (Tick now) entry b → ⊥) where
    abbrev g : ℕ
    g = max b.greatest now

    by_outcome : Outcome g Kept (kept_heard g) entry now b (bus_ticks now b) → AtPlace entry Kept (bus_ticks now b).bus.devices
    by_outcome (inl (k, begun, others)) = by_same (nat_eq k entry) refl
      where
        by_same : (t : Bool) → nat_eq k entry ≡ t → AtPlace entry Kept (bus_ticks now b).bus.devices
        by_same true same = absurd (not (subst (λ n. Begins (Tick now) n b) (eqb-true k entry same) begun))
        by_same false other = others (eqb-false k entry other)
    by_outcome (inr (inl (f, there, (kept, never)))) = (f, there, kept)
    by_outcome (inr (inr (f, kept, stands, due, there))) =
        (entry_ticks g f, there, (keeps_ticked d f g stands kept.0, holder_waits f g stands ∙ kept.1))

    ticks : Stays (after_call (Tick now) b)
    ticks = by_report (has_report b) refl
      where
        by_report : (t : Bool) → has_report b ≡ t → Stays (after_call (Tick now) b)
        by_report true told =
            subst (λ (t : BusTicked). Stays t.bus) (sym (ap (λ t. if t then stays (seen now b) else ticks_on (judged now b)) told))
            (same_at (seen now b) at)
        by_report false none = kept_at (bus_ticks now b).bus (by_outcome (tick_place g Kept (kept_heard g) entry now b sound none refl kept_first))

  pub goes : (call : Call) → SoundBus b → (Begins call entry b → ⊥) → Goes entry d (accepted_in entry call b) (taken_back_in entry call b) (after_call call b)
  goes (Add address) sound not = adds (add_refusal address b) address
  goes (Begin other now) sound not = begins (begin_refusal_at other b) other now refl
  goes (Submit other c) sound not = submits other c
  goes (Withdraw other) sound not = withdraws other
  goes (Retarget other address) sound not = retargets (retarget_refusal_at other address b) other address
  goes (OnBytes bytes now) sound not =
      kept_at (after_call (OnBytes bytes now) b) (bytes_place (max b.greatest now) Kept (kept_heard (max b.greatest now)) entry bytes now b refl kept_first)
  goes (OnSilence now) sound not =
      kept_at (after_call (OnSilence now) b) (run_place (max b.greatest now) Kept (kept_heard (max b.greatest now)) entry (seen now b) refl kept_first)
  goes (Tick now) sound not = ticks sound now not
  goes NextReport sound not = same_at (after_call NextReport b) at

-- ---- one of the entry begins

pub record Asks (entry : ℕ) (call : Call) (d : Entry) (b : BusState) : Type 0 where
  pub now : ℕ
  pub tick : call ≡ Tick now
  pub device : Entry
  pub there : device_of entry (after_call call b) ≡ Some device
  pub stands : holds device ≡ true
  -- no order of it waited for its answer
  pub free : asked d ≡ None
  pub setting : device.controller.session.config.poll_between_orders ≡ d.controller.session.config.poll_between_orders
  pub quiet : Bool
  pub late : is_under_way d.controller.session.state ≡ true → quiet ≡ false
  pub begun : BegunIn quiet (next d) (waits d) device.controller.session (waits device)

pub asks : (entry : ℕ) (call : Call) (d : Entry) (b : BusState) → device_of entry b ≡ Some d → Begins call entry b → Asks entry call d b
asks entry call d b at begun =
    let now = begun.now in
    let m = max b.greatest now in
    let r = asking now b in
    let f = begun.next.due.device in
    let there = begun.next.due.there in
    let placed = asking_place m (Kept entry d b at) (kept_heard entry d b at m) entry now b refl (kept_first entry d b at) in
    let kept = subst (Kept entry d b at) (one_device (device_of entry r) placed.0 f placed.1 there) placed.2 in
    let heard = hears_asking m entry d now b refl (hears_nothing m entry d b.devices at) in
    let one = one_device (device_of entry r) heard.device f heard.there there in
    let free = is_false (holds f) (λ h. still_free now b begun.free entry f there h) in
    let after : after_call call b ≡ (ticks_with entry (Some f) r).bus =
    ap (λ t. after_call t b) begun.tick ∙ ap (λ (t : BusTicked). t.bus) (begun_ticked now entry b begun.free begun.next) in
    let e = entry_ticks r.greatest f in
    let e_there = ap (device_of entry) after ∙ set_here r.devices.entries entry f e there in
    let out = stands_after call entry b begun in
    let started = starts f r.greatest free begun.next.due.due in
    let poll_next : next f ≡ next d = same_next d.controller.session f.controller.session kept.0.same in
    record {
      now = now;
      tick = begun.tick;
      device = e;
      there = e_there;
      stands = ap holds (one_device (device_of entry (after_call call b)) e out.device e_there out.there) ∙ out.outstanding;
      free = none_asked f heard.device one heard.asks free begun.free.after;
      setting = started.setting ∙ kept.0.same.0;
      quiet = is_quiet f.controller.session.state;
      late = kept.0.on;
      begun = subst (λ w. BegunIn (is_quiet f.controller.session.state) (next d) w e.controller.session (waits e)) kept.1
          (subst (λ t. BegunIn (is_quiet f.controller.session.state) t (waits f) e.controller.session (waits e)) poll_next started.begun);
    }
  where
    nothing_asked : (s : State) → is_outstanding s ≡ false → asked_in s ≡ None
    nothing_asked (Waiting until sends o) free = absurd cc
    nothing_asked (Pausing until o) free = absurd cc
    nothing_asked _ free = refl

    none_asked : (f e : Entry) → e ≡ f → (asked e ≡ asked d) ⊎ ((asked e ≡ None) × (is_some (asking begun.now b).devices.report ≡ true)) → holds f ≡ false
        → has_report (asking begun.now b) ≡ false → asked d ≡ None
    none_asked f e one (inl same) free untold = sym same ∙ ap asked one ∙ nothing_asked f.controller.session.state free
    none_asked f e one (inr (none, told)) free untold = absurd (let both : true ≡ false = sym told ∙ untold in cc)
