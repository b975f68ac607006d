-- What becomes of each order, call after call.
use Rattle.std.proofs.Common.{◌≡◌, ◌∙◌, ap, sym, subst, refl, arith, append_assoc, append-nil, ℕ, zero, suc, ◌+◌, Bool, true, false, List, [], ◌∷◌, ◌++◌, length, Option, Some, None}
use Rattle.std.proofs.lemmas.List.{length-append}
use Rattle.std.specs.Prelude.{if◌then◌else◌, is_some, nat_lt, option_to_list, slice_get}
use Rattle.osdp_controller.specs.declared.report.Report.{Report}
use Rattle.osdp_bus.specs.declared.config.BusConfig.{BusConfig}
use Rattle.osdp_bus.specs.declared.entry.Entry.{Entry}
use Rattle.osdp_bus.specs.declared.fault.BusFault.{BusFault}
use Rattle.osdp_bus.specs.Asking.{question}
use Rattle.osdp_bus.specs.Buses.{BusState, has_report, seen}
use Rattle.osdp_bus.specs.Hearing.{after_bytes, after_silence}
use Rattle.osdp_bus.specs.Machine.{add_refusal, after_next_report, changed_unless, new_device, withdrawal_at}
use Rattle.osdp_bus.specs.Ticking.{bus_ticks}
use Rattle.osdp_bus_laws.proofs.OneDevice.{pending}
use Rattle.osdp_bus_laws.proofs.Sound.{SoundBus}
use Rattle.osdp_bus_laws.proofs.Staying.{stays_silent, stays_tick}
use Rattle.osdp_panel.specs.Giving.{after_withdraw, give_refusal, late_at}
use Rattle.osdp_panel.specs.Orders.{Orders, PanelState, brings}
use Rattle.osdp_panel.specs.Panels.{after_add_at, new_orders}
use Rattle.osdp_panel.specs.Sending.{holds_back, polled_by, rests, sends, sends_of, until_by}
use Rattle.osdp_panel.specs.Telling.{expired_at, expires, expired_of, tells, told_by}
use Rattle.osdp_panel_laws.specs.Calls.{Call, Add, Retarget, Begin, Submit, Withdraw, Hear, Silence, NextReport, Tick, Write, after_call, after_calls}
use Rattle.osdp_panel_laws.specs.Outcome.{Ended, Order, accepted_as, accepted_in, added_in, back_in, ended_as, ended_by, numbered, taken_back, told_in, waits_to_be_told}
use Rattle.osdp_panel_laws.proofs.Ahead.{leaves_bytes, leaves_run, leaves_tick, pending_at, pending_in, room_at, room_in}
use Rattle.osdp_panel_laws.proofs.Standing.{Holds, IsCounted, IsQuiet, IsSo, Tally, as_it_is, ends_none, ends_one, get_both, kept_so, moments_at, moments_in, more, orders_are, pushed, pushed_at, pushed_none, quiet_begin, quiet_other, quiet_retarget, quiet_set, quiet_so, set_to, stands_by, there_is, waiting_of, waits_is, within}
use Rattle.osdp_panel_laws.proofs.FromLine.{brings_so}
use Rattle.osdp_bus.specs.Machine.{after_begin_at, after_retarget_at, begin_refusal_at, retarget_refusal_at}
use Rattle.osdp_bus.specs.Settings.{IsBusConfig}
use Rattle.osdp_bus_laws.proofs.Calling.{sound_calls, sound_new}
use Rattle.osdp_bus_laws.proofs.Sound.{sound_seen}
use Rattle.osdp_panel.specs.Panels.{new_panel, panel_config}
use Rattle.osdp_panel_laws.specs.Calls.{bus_calls}
use Rattle.osdp_panel_laws.specs.Outcome.{HasOutcome, OrdersHaveOneOutcome, Shares, along}
use Rattle.osdp_panel_laws.proofs.Calling.{one_call}
use Rattle.osdp_panel_laws.proofs.Giving.{late_so, no_more, seen_quiet, submits_so, withdraws_so}
use Rattle.osdp_panel_laws.proofs.Standing.{asked_same}

-- ---- reports

reports_so : (k : ℕ) (t : Tally) (p : PanelState) (reports : Bool) → has_report p.bus ≡ reports → Holds k t p
    → Holds k (more k NextReport p t) (if reports then record p { bus = after_next_report p.bus; withheld = false } else expires (late_at p.bus.greatest p) p)
reports_so k t p true some is =
    let waits : ended_by k (tells p) ≡ waiting_of k p.bus.devices.report p.told =
    sym (ap (λ (x : Bool). if x then ended_by k (tells p) else []) some) ∙ waits_is k p in
    let told : (t.told ++ ended_by k (tells p)) ++ [] ≡ t.told ++ waiting_of k p.bus.devices.report p.told =
    append-nil (t.told ++ ended_by k (tells p)) ∙ ap (λ l. t.told ++ l) waits in
    let taken : IsSo k (record t { told = t.told ++ ended_by k (tells p) }) (after_next_report p.bus) p.orders p.told p.places = record {
      settings = is.settings;
      added = is.added;
      entries = is.entries;
      stands = stands_by t.accepted (t.told ++ waiting_of k p.bus.devices.report p.told) ((t.told ++ ended_by k (tells p)) ++ []) t.back t.back
          (pending_at k p.bus.devices.entries) (pending_at k p.bus.devices.entries) (moments_at k p.orders) (moments_at k p.orders) told refl refl refl is.stands;
      none = is.none;
      some = λ o at. let c = is.some o at in record { first = c.first; there = c.there; numbers = c.numbers; next = c.next; room = c.room };
    } in
    let tally : ◌≡◌ {A = Tally} (record t { told = t.told ++ ended_by k (tells p) }) (more k NextReport p t) = (λ i. record {
      added = (sym (append-nil t.added)) i;
      accepted = (sym (append-nil t.accepted)) i;
      told = t.told ++ ended_by k (tells p);
      back = (sym (append-nil t.back)) i;
    }) in
    subst (λ (u : Tally). IsSo k u (after_next_report p.bus) p.orders p.told p.places) tally taken
reports_so k t p false none is = by_late (late_at p.bus.greatest p) refl
  where
    quiet : p.bus.devices.report ≡ None
    quiet = no_report p.bus.devices.report none
      where
        no_report : (o : Option (ℕ × Report)) → is_some o ≡ false → o ≡ None
        no_report None h = refl
        no_report (Some told) h = absurd cc

    by_late : (o : Option ℕ) → late_at p.bus.greatest p ≡ o → Holds k (more k NextReport p t) (expires o p)
    by_late None at =
        no_more k NextReport p p t refl refl (ap (λ r. ended_by k (told_by r p)) quiet ∙ ap (λ o. ended_by k (expired_at o p)) at) refl is
    by_late (Some entry) at =
        let told : ended_by k (expired_of entry (withdrawal_at entry p.bus) p) ≡ ended_by k (tells p) =
        sym (ap (λ r. ended_by k (told_by r p)) quiet ∙ ap (λ o. ended_by k (expired_at o p)) at) in
        let tally : ◌≡◌ {A = Tally} (record t { told = t.told ++ ended_by k (expired_of entry (withdrawal_at entry p.bus) p) }) (more k NextReport p t) = (λ i. record {
          added = (sym (append-nil t.added)) i;
          accepted = (sym (append-nil t.accepted)) i;
          told = (ap (λ l. t.told ++ l) told) i;
          back = (sym (append-nil t.back)) i;
        }) in
        subst (λ (u : Tally). Holds k u (after_withdraw entry p)) tally (late_so k t p entry quiet is)

-- ---- ticks

lasts_so : (k : ℕ) (t : Tally) (late : Bool) (until : ℕ) (p : PanelState) → Holds k t p
    → Holds k t (if late then record p { last = None; withheld = true } else record p { last = Some until })
lasts_so k t true until p is = is
lasts_so k t false until p is = is

sends_so : (k : ℕ) (t : Tally) (sent : Bool) (p : PanelState) → Holds k t p → Holds k t (sends sent p)
sends_so k t true p is =
    let until = until_by (question p.bus) p in
    lasts_so k t (nat_lt until p.bus.greatest) until (record p { polled = polled_by (question p.bus) p }) is
sends_so k t false p is = is

ticks_so : (k : ℕ) (t : Tally) (p : PanelState) (held : Bool) (now : ℕ) → SoundBus p.bus → Holds k t p
    → Holds k t (if held then rests now p else sends_of (bus_ticks now p.bus) p)
ticks_so k t p true now sound is = quiet_so k t p.bus (seen now p.bus) p.orders p.told p.places (seen_quiet k now p.bus) is
ticks_so k t p false now sound is =
    let b = (bus_ticks now p.bus).bus in
    sends_so k t (is_some (bus_ticks now p.bus).sent) (record (brings b p) { brought = false })
    (brings_so k t p.bus b p.orders p.told p.places is (leaves_tick k now p.bus sound) (stays_tick now p.bus).config)

-- ---- bytes

bytes_config : (bytes : List ℕ) (now : ℕ) (b : BusState) → (after_bytes bytes now b).config ≡ b.config
bytes_config [] now b = refl
bytes_config (byte ∷ bytes) now b = (stays_silent (seen now b)).config

-- ---- a device is added

-- a device that is added has no order
pushed_pending : (k : ℕ) (ds : List Entry) (d : Entry) → pending d.controller ≡ [] → pending_at k (ds ++ d ∷ []) ≡ pending_at k ds
pushed_pending zero [] d none = none
pushed_pending (suc k) [] d none = refl
pushed_pending zero (x ∷ ds) d none = refl
pushed_pending (suc k) (x ∷ ds) d none = pushed_pending k ds d none

pushed_moments : (k : ℕ) (os : List Orders) (o : Orders) → o.moments ≡ [] → moments_at k (os ++ o ∷ []) ≡ moments_at k os
pushed_moments zero [] o none = none
pushed_moments (suc k) [] o none = refl
pushed_moments zero (x ∷ os) o none = refl
pushed_moments (suc k) (x ∷ os) o none = pushed_moments k os o none

adds_so : (k : ℕ) (t : Tally) (p : PanelState) (address next : ℕ) (r : Option BusFault) → add_refusal address p.bus ≡ r → Holds k t p
    → Holds k (more k (Add address next) p t) (changed_unless r p (after_add_at address next p))
adds_so k t p address next (Some fault) refused is =
    no_more k (Add address next) p p t (ap (λ r. numbered r next) refused) refl refl refl is
adds_so k t p address next None fine is =
    let d = new_device address p.bus.config in
    let o = new_orders p.places next in
    let ds = p.bus.devices.entries in
    let added : added_in (Add address next) p ≡ next ∷ [] = ap (λ r. numbered r next) fine in
    let tally : ◌≡◌ {A = Tally} (record t { added = t.added ++ next ∷ [] }) (more k (Add address next) p t) = (λ i. record {
      added = (ap (λ l. t.added ++ l) (sym added)) i;
      accepted = (sym (append-nil t.accepted)) i;
      told = (sym (append-nil t.told)) i;
      back = (sym (append-nil t.back)) i;
    }) in
    subst (λ (u : Tally). Holds k u (after_add_at address next p)) tally (record {
      settings = is.settings;
      added = let same = is.added in omega (arith, same, length-append t.added (next ∷ []), length-append p.orders (o ∷ []));
      entries = let same = is.entries in omega (arith, same, length-append ds (d ∷ []), length-append p.orders (o ∷ []));
      stands = stands_by t.accepted (t.told ++ waiting_of k p.bus.devices.report p.told) (t.told ++ waiting_of k p.bus.devices.report p.told) t.back t.back
          (pending_at k ds) (pending_at k (ds ++ d ∷ [])) (moments_at k p.orders) (moments_at k (p.orders ++ o ∷ [])) refl refl
          (pushed_pending k ds d refl) (pushed_moments k p.orders o refl) is.stands;
      none = λ none. is.none (pushed_none p.orders k o none);
      some = λ x at. by_orders x at (slice_get p.orders k) refl;
    })
  where
    by_orders : (x : Orders) → slice_get (p.orders ++ new_orders p.places next ∷ []) k ≡ Some x → (o : Option Orders) → slice_get p.orders k ≡ o
        → IsCounted k (record t { added = t.added ++ next ∷ [] }) x (p.bus.devices.entries ++ new_device address p.bus.config ∷ [])
    by_orders x at (Some o) there =
        let same : o ≡ x = (let e = sym (pushed p.orders k o (new_orders p.places next) there) ∙ at in cc) in
        let counted = is.some o there in
        let d = get_both p.orders p.bus.devices.entries k o is.entries there in
        let room : room_at k (p.bus.devices.entries ++ new_device address p.bus.config ∷ []) ≡ room_at k p.bus.devices.entries =
        ap room_in (pushed p.bus.devices.entries k d.0 (new_device address p.bus.config) d.1) ∙ sym (ap room_in d.1) in
        subst (λ (y : Orders). IsCounted k (record t { added = t.added ++ next ∷ [] }) y (p.bus.devices.entries ++ new_device address p.bus.config ∷ [])) same (record {
          first = counted.first;
          there = pushed t.added k counted.first next counted.there;
          numbers = counted.numbers;
          next = counted.next;
          room = counted.room ∙ ap (λ n. n + 1) (sym room);
        })
    by_orders x at None there =
        let mine = pushed_at t.added p.orders k next (new_orders p.places next) x is.added there at in
        let device = pushed_at p.bus.devices.entries p.orders k (new_device address p.bus.config) (new_orders p.places next) x (sym is.entries) there at in
        let none : t.accepted ≡ [] = is.none there in
        let size : length t.accepted ≡ 0 = ap length none in
        subst (λ (y : Orders). IsCounted k (record t { added = t.added ++ next ∷ [] }) y (p.bus.devices.entries ++ new_device address p.bus.config ∷ [])) (sym mine.1) (record {
          first = next;
          there = mine.0;
          numbers = subst (Rattle.osdp_panel_laws.specs.Outcome.AreNumbered next) (sym none) tt;
          next = omega (arith, size);
          room = sym is.settings ∙ ap (λ e. room_in e + 1) (sym device.0);
        })

-- ---- each call

one_step : (k : ℕ) (t : Tally) (call : Call) (p : PanelState) → SoundBus p.bus → SoundBus (after_call call p).bus → Holds k t p
    → Holds k (more k call p t) (after_call call p)
one_step k t (Add address next) p sound after is = adds_so k t p address next (add_refusal address p.bus) refl is
one_step k t (Retarget entry address) p sound after is =
    no_more k (Retarget entry address) p (after_call (Retarget entry address) p) t refl refl refl refl
    (quiet_so k t p.bus (changed_unless (retarget_refusal_at entry address p.bus) p.bus (after_retarget_at entry address p.bus)) p.orders p.told p.places
    (quiet_retarget k entry address p.bus) is)
one_step k t (Begin entry now) p sound after is =
    no_more k (Begin entry now) p (after_call (Begin entry now) p) t refl refl refl refl
    (quiet_so k t p.bus (changed_unless (begin_refusal_at entry p.bus) p.bus (after_begin_at entry now p.bus)) p.orders p.told p.places
    (quiet_begin k entry now p.bus) is)
one_step k t (Submit entry command until) p sound after is = submits_so k t p entry command until (give_refusal entry command p) refl after is
one_step k t (Withdraw entry) p sound after is = withdraws_so k t p entry is
one_step k t (Hear bytes now) p sound after is =
    no_more k (Hear bytes now) p (after_call (Hear bytes now) p) t refl refl refl refl
    (brings_so k t p.bus (after_bytes bytes now p.bus) p.orders p.told p.places is (leaves_bytes k bytes now p.bus sound) (bytes_config bytes now p.bus))
one_step k t (Silence now) p sound after is =
    no_more k (Silence now) p (after_call (Silence now) p) t refl refl refl refl
    (brings_so k t p.bus (after_silence now p.bus) p.orders p.told p.places is (leaves_run k (seen now p.bus) (sound_seen now p.bus sound)) refl)
one_step k t NextReport p sound after is = reports_so k t p (has_report p.bus) refl is
one_step k t (Tick now) p sound after is =
    no_more k (Tick now) p (after_call (Tick now) p) t refl refl refl refl (ticks_so k t p (holds_back now p) now sound is)
one_step k t (Write now) p sound after is =
    no_more k (Write now) p (after_call (Write now) p) t refl refl refl refl
    (quiet_so k t p.bus (seen now p.bus) p.orders p.told p.places (seen_quiet k now p.bus) is)

pub still_sound : (call : Call) (p : PanelState) → SoundBus p.bus → SoundBus (after_call call p).bus
still_sound call p sound = subst SoundBus (sym (one_call call p)) (sound_calls (bus_calls call p) p.bus sound)

-- .. of a list
abbrev pub more_along : ℕ → List Call → PanelState → Tally → Tally
more_along k calls p t = record {
  added = t.added ++ along added_in calls p;
  accepted = t.accepted ++ along (accepted_in k) calls p;
  told = t.told ++ along (told_in k) calls p;
  back = t.back ++ along (back_in k) calls p;
}

pub all_steps : (k : ℕ) (t : Tally) (calls : List Call) (p : PanelState) → SoundBus p.bus → Holds k t p → Holds k (more_along k calls p t) (after_calls calls p)
all_steps k t [] p sound is = subst (λ (u : Tally). Holds k u p) (Rattle.osdp_panel_laws.proofs.Standing.nothing_more t) is
all_steps k t (call ∷ calls) p sound is =
    let q = after_call call p in
    let after = still_sound call p sound in
    let all = all_steps k (more k call p t) calls q after (one_step k t call p sound after is) in
    let tally : ◌≡◌ {A = Tally} (more_along k calls q (more k call p t)) (more_along k (call ∷ calls) p t) = (λ i. record {
      added = (append_assoc t.added (added_in call p) (along added_in calls q)) i;
      accepted = (append_assoc t.accepted (accepted_in k call p) (along (accepted_in k) calls q)) i;
      told = (append_assoc t.told (told_in k call p) (along (told_in k) calls q)) i;
      back = (append_assoc t.back (back_in k call p) (along (back_in k) calls q)) i;
    }) in
    subst (λ (u : Tally). Holds k u (after_calls calls q)) tally all

-- ---- from new on

pub panel_settings : (config : BusConfig) → IsBusConfig config → IsBusConfig (panel_config config)
panel_settings config is =
    let c = is.controllers.config_in_range in
    record {
      controllers = record {
        config_in_range = record {
          address = c.address;
          reply_wait = c.reply_wait;
          poll_interval = c.poll_interval;
          busy_wait = c.busy_wait;
          quiet_wait = c.quiet_wait;
          sends = c.sends;
          busy_limit = c.busy_limit;
        };
        room = is.controllers.room;
        limit = is.controllers.limit;
        bytes = is.controllers.bytes;
      };
      gap = is.gap;
    }

abbrev pub nothing_yet : Tally
nothing_yet = record { added = []; accepted = []; told = []; back = [] }

pub new_holds : (k : ℕ) (config : BusConfig) → Holds k nothing_yet (new_panel config)
new_holds k config = record {
  settings = refl;
  added = refl;
  entries = refl;
  stands = record { ended = []; still = []; whole = refl; each = (refl, refl); ahead = refl; until = refl };
  none = λ none. refl;
  some = λ o at. absurd cc;
}

pub sound_from_new : (config : BusConfig) → IsBusConfig config → SoundBus (new_panel config).bus
sound_from_new config is = sound_new (panel_config config) (panel_settings config is)

pub orders_have_one_outcome : OrdersHaveOneOutcome
orders_have_one_outcome config calls is k o at =
    let p = new_panel config in
    let q = after_calls calls p in
    let h = all_steps k nothing_yet calls p (sound_from_new config is) (new_holds k config) in
    let d = get_both q.orders q.bus.devices.entries k o h.entries at in
    let s = h.stands in
    let counted = h.some o at in (
      d.0,
      d.1,
      record {
        added = counted.first;
        there = counted.there;
        numbers = counted.numbers;
        next = counted.next;
        ended = s.ended;
        still = s.still;
        whole = s.whole;
        each = subst (λ l. Shares s.ended (along (told_in k) calls p ++ l) (along (back_in k) calls p)) (sym (waits_is k q)) s.each;
        ahead = s.ahead ∙ ap pending_in d.1 ∙ ap (λ o. option_to_list o ++ d.0.controller.waiting) (asked_same d.0.controller.session.state);
        moments = s.until ∙ ap moments_in at;
      },
    )
