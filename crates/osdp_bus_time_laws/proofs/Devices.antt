-- What holds of each device of a bus, beside what a bus keeps of them together: its settings are those of the bus but for the address, it has seen no later
-- moment than the bus, and what it waits for lies no further away than its own wait.
use Rattle.osdp_bus_time_laws.proofs.Common.{◌≡◌, ◌∙◌, ap, sym, subst, inl, inr, ℕ, ◌≤◌, ◌||◌, Bool, true, false, max, List, [], ◌∷◌, ◌++◌, length, Option, Some, None, refl, arith, not, slice_get, slice_set, option_map_or, items, Packet, Command, ControllerConfig, State, Closed, Machine, seen_by, either_way, CallOf, TickOf, HearOf, after_call_of, hears_at_moment, IsTimely, WaitsItsTime, tick_at_moment, later_within, stays_timely, BusConfig, Entry, BusFault, BusState, Devices, device_of, has_report, holder, is_silent, new_bus, seen, entry_hears, entry_ticks, after_bytes, ends_run, hears_items, hears_with, add_refusal, after_add, after_begin_at, after_retarget_at, after_submit_at, begin_refusal_at, changed_unless, changes_entry, entry_begins, entry_retargets, entry_submits, entry_withdraws, new_device, retarget_refusal_at, submit_refusal_at, IsBusConfig, controller_config, BusTicked, bus_ticks, is_due_at, is_held_and_due, next_due, stays, ticks_at, ticks_by, ticks_held, ticks_on, ticks_with, Call, Add, Begin, Submit, Withdraw, Retarget, OnBytes, OnSilence, Tick, NextReport, after_call, after_calls, asking, judged, sound_call, sound_new, FirstIs, first_is, items_keep, moments_are_seen, IsAt, added, replaced, SoundBus, stays_begin, stays_call, stays_silent, stays_tick}
use Rattle.osdp_controller_laws.specs.Calls.{address_after}
use Rattle.osdp_controller_laws.proofs.OneCall.{keeps_settings}
use Rattle.osdp_bus_time_laws.proofs.Moments.{grows}

-- ---- what each packet, tick and change of a device keeps holds of all of them after a call

abbrev pub Each : (Entry → Type 0) → Devices → Type 0
Each Q ds = (i : ℕ) (d : Entry) → slice_get ds.entries i ≡ Some d → Q d

module _ (g : ℕ) (Q : Entry → Type 0) (heard : (p : Packet) (d : Entry) → Q d → Q (entry_hears p g d)) (ticked : (d : Entry) → Q d → Q (entry_ticks g d)) where
  put : (ds : Devices) (i : ℕ) (e : Entry) → Q e → Each Q ds → (j : ℕ) (f : Entry) → IsAt ds.entries i e j f → Q f
  put ds i e new all j f (inl (here, same)) = subst Q (sym same) new
  put ds i e new all j f (inr (other, was)) = all j f was

  each_packet : (p : Packet) (i : ℕ) (d : Entry) (ds : Devices) → slice_get ds.entries i ≡ Some d → Each Q ds → Each Q (hears_with p g i (Some d) ds)
  each_packet p i d ds at all =
      λ j f there. put ds i (entry_hears p g d) (heard p d (all i d at)) all j f (replaced ds.entries i (entry_hears p g d) j f there)

  each_items : (moment : ℕ) (ended : Bool) (held : List ℕ) (ds : Devices) → moment ≡ g → Each Q ds → Each Q (hears_items moment (items ended held) ds)
  each_items moment ended held ds is all =
      subst (λ (n : ℕ). Each Q (hears_items n (items ended held) ds)) (sym is) (items_keep g (Each Q) each_packet (items ended held) ds all)

  abbrev Of : BusState → Type 0
  Of b = Each Q b.devices

  each_run : (b : BusState) → b.greatest ≡ g → Of b → Of (ends_run b)
  each_run b is all = each_items b.greatest true b.held b.devices is all

  each_judged : (now : ℕ) (b : BusState) → max b.greatest now ≡ g → Of b → Of (judged now b)
  each_judged now b is all =
      either_way Of (is_silent (seen now b)) (ends_run (seen now b)) (seen now b) (λ h. each_run (seen now b) is all) (λ h. all)

  moment_judged : (now : ℕ) (b : BusState) → max b.greatest now ≡ g → (judged now b).greatest ≡ g
  moment_judged now b is = (stays_silent (seen now b)).greatest ∙ is

  pub each_asking : (now : ℕ) (b : BusState) → max b.greatest now ≡ g → Of b → Of (asking now b)
  each_asking now b is all = each_run (judged now b) (moment_judged now b is) (each_judged now b is all)

  each_bytes : (bytes : List ℕ) (now : ℕ) (b : BusState) → max b.greatest now ≡ g → Of b → Of (after_bytes bytes now b)
  each_bytes [] now b is all = all
  each_bytes (byte ∷ bytes) now b is all =
      let e = judged now b in
      each_items e.greatest false (e.held ++ (byte ∷ bytes)) e.devices (moment_judged now b is) (each_judged now b is all)

  -- ticks

  abbrev Ticks : BusTicked → Type 0
  Ticks t = Of t.bus

  each_with : (k : ℕ) (o : Option Entry) (b : BusState) → device_of k b ≡ o → b.greatest ≡ g → Of b → Ticks (ticks_with k o b)
  each_with k None b at is all = all
  each_with k (Some d) b at is all =
      let new : Q (entry_ticks b.greatest d) = subst (λ (n : ℕ). Q (entry_ticks n d)) (sym is) (ticked d (all k d at)) in
      λ j f there. put b.devices k (entry_ticks b.greatest d) new all j f (replaced b.devices.entries k (entry_ticks b.greatest d) j f there)

  each_at : (o : Option ℕ) (b : BusState) → b.greatest ≡ g → Of b → Ticks (ticks_at o b)
  each_at None b is all = all
  each_at (Some k) b is all = each_with k (device_of k b) b refl is all

  each_by : (o : Option ℕ) (b : BusState) → b.greatest ≡ g → Of b → Ticks (ticks_by o b)
  each_by None b is all =
      let r = ends_run b in
      either_way Ticks (has_report r) (stays r) (ticks_at (next_due r) r) (λ h. each_run b is all) (λ h. each_at (next_due r) r is (each_run b is all))
  each_by (Some m) b is all =
      let r = ends_run b in
      either_way Ticks (is_due_at m b) (ticks_held m r) (stays b)
      (λ h. either_way Ticks (has_report r || not (is_held_and_due m r)) (stays r) (ticks_at (Some m) r) (λ h. each_run b is all)
      (λ h. each_at (Some m) r is (each_run b is all)))
      (λ h. all)

  each_tick : (now : ℕ) (b : BusState) → max b.greatest now ≡ g → Of b → Ticks (bus_ticks now b)
  each_tick now b is all =
      let j = judged now b in
      either_way Ticks (has_report b) (stays (seen now b)) (ticks_on j) (λ h. all) (λ h. each_by (holder j) j (moment_judged now b is) (each_judged now b is all))

  -- calls of the user

  each_changed : (change : Entry → Entry) (at : ℕ) (b : BusState) → ((d : Entry) → Q d → Q (change d)) → Of b → Of (changes_entry at change b)
  each_changed change at b changes all = by_device (device_of at b) refl
    where
      by_device : (o : Option Entry) → device_of at b ≡ o
          → Of (option_map_or (λ d. record b { devices = record b.devices { entries = slice_set b.devices.entries at (change d) } }) o b)
      by_device None none = all
      by_device (Some d) there =
          λ j f here. put b.devices at (change d) (changes d (all at d there)) all j f (replaced b.devices.entries at (change d) j f here)

  each_unless : (f : Option BusFault) (b c : BusState) → Of b → Of c → Of (changed_unless f b c)
  each_unless None b c all after = after
  each_unless (Some fault) b c all after = all

  module _ (begun : (now : ℕ) (d : Entry) → now ≤ g → Q d → Q (entry_begins now d)) (submitted : (command : Command) (d : Entry) → Q d → Q (entry_submits command d))
      (withdrawn : (d : Entry) → Q d → Q (entry_withdraws d)) (retargeted : (address : ℕ) (d : Entry) → Q d → Q (entry_retargets address d)) where
    pub each_call : (call : Call) (b : BusState) → ((address : ℕ) → Q (new_device address b.config)) → (after_call call b).greatest ≡ g → Of b → Of (after_call call b)
    each_call (Add address) b new moment all =
        each_unless (add_refusal address b) b (after_add address b) all
        (λ j f there. put b.devices (length b.devices.entries) (new_device address b.config) (new address) all j f
        (added b.devices.entries (new_device address b.config) j f there))
    each_call (Begin at now) b new moment all = begin_by (begin_refusal_at at b) refl
      where
        begin_by : (f : Option BusFault) → begin_refusal_at at b ≡ f → Of (changed_unless f b (after_begin_at at now b))
        begin_by None ok =
            let is : (after_call (Begin at now) b).greatest ≡ max b.greatest now = (moments_are_seen b).brought (Begin at now) now (ok, refl) in
            each_changed (entry_begins (max b.greatest now)) at (seen now b) (λ d kept. begun (max b.greatest now) d (omega arith) kept) all
        begin_by (Some fault) refused = all
    each_call (Submit at command) b new moment all =
        each_unless (submit_refusal_at at command b) b (after_submit_at at command b) all (each_changed (entry_submits command) at b (submitted command) all)
    each_call (Withdraw at) b new moment all = each_changed entry_withdraws at b withdrawn all
    each_call (Retarget at address) b new moment all =
        each_unless (retarget_refusal_at at address b) b (after_retarget_at at address b) all (each_changed (entry_retargets address) at b (retargeted address) all)
    each_call (OnBytes bytes now) b new moment all =
        each_bytes bytes now b (sym ((moments_are_seen b).brought (OnBytes bytes now) now refl) ∙ moment) all
    each_call (OnSilence now) b new moment all =
        each_run (seen now b) (sym ((moments_are_seen b).brought (OnSilence now) now refl) ∙ moment) all
    each_call (Tick now) b new moment all = each_tick now b (sym ((moments_are_seen b).brought (Tick now) now refl) ∙ moment) all
    each_call NextReport b new moment all = all

-- ---- a device

pub record Kept (c : BusConfig) (g : ℕ) (d : Entry) : Type 0 where
  pub address : ℕ
  pub config : d.controller.session.config ≡ controller_config address c
  pub reached : d.controller.session.greatest ≤ g
  pub timely : IsTimely d.controller

kept_call : (call : CallOf) (c : BusConfig) (g : ℕ) (d e : Entry) → e.controller ≡ after_call_of call d.controller
    → (after_call_of call d.controller).session.greatest ≤ g → Kept c g d → Kept c g e
kept_call call c g d e is near k =
    let m = d.controller in record {
      address = address_after call m;
      config = ap (λ (n : Machine). n.session.config) is ∙ keeps_settings call m
          ∙ ap (λ (s : ControllerConfig). record s { address = address_after call m }) k.config;
      reached = subst (λ (n : Machine). n.session.greatest ≤ g) (sym is) near;
      timely = subst IsTimely (sym is) (stays_timely.later m (call ∷ []) k.timely);
    }

kept_heard : (c : BusConfig) (g : ℕ) (p : Packet) (d : Entry) → Kept c g d → Kept c g (entry_hears p g d)
kept_heard c g p d k =
    let near : (after_call_of (HearOf p g) d.controller).session.greatest ≡ max d.controller.session.greatest g = hears_at_moment p g d.controller.session in
    let reached : d.controller.session.greatest ≤ g = k.reached in
    kept_call (HearOf p g) c g d (entry_hears p g d) refl (omega arith) k

kept_ticked : (c : BusConfig) (g : ℕ) (d : Entry) → Kept c g d → Kept c g (entry_ticks g d)
kept_ticked c g d k =
    let near : (after_call_of (TickOf g) d.controller).session.greatest ≡ max d.controller.session.greatest g = tick_at_moment g d.controller in
    let reached : d.controller.session.greatest ≤ g = k.reached in
    kept_call (TickOf g) c g d (entry_ticks g d) refl (omega arith) k

kept_begun : (c : BusConfig) (g now : ℕ) (d : Entry) → now ≤ g → Kept c g d → Kept c g (entry_begins now d)
kept_begun c g now d near k =
    let reached : d.controller.session.greatest ≤ g = k.reached in record {
      address = k.address;
      config = k.config;
      reached = omega arith;
      timely = later_within d.controller.session.config.quiet_wait (seen_by now d.controller.session);
    }

at_address : (c : ControllerConfig) (address greatest : ℕ) (state : State) → WaitsItsTime c greatest state → WaitsItsTime (record c { address = address }) greatest state
at_address c address greatest Closed w = tt
at_address c address greatest _ w = w

kept_retargeted : (c : BusConfig) (g address : ℕ) (d : Entry) → Kept c g d → Kept c g (entry_retargets address d)
kept_retargeted c g address d k =
    let s = d.controller.session in record {
      address = address;
      config = ap (λ (x : ControllerConfig). record x { address = address }) k.config;
      reached = k.reached;
      timely = at_address s.config address s.greatest s.state k.timely;
    }

kept_same : (c : BusConfig) (g : ℕ) (d e : Entry) → e.controller.session ≡ d.controller.session → Kept c g d → Kept c g e
kept_same c g d e same k = record {
  address = k.address;
  config = ap (λ s. s.config) same ∙ k.config;
  reached = subst (λ s. s.greatest ≤ g) (sym same) k.reached;
  timely = subst (λ s. WaitsItsTime s.config s.greatest s.state) (sym same) k.timely;
}

kept_later : (c : BusConfig) (g next : ℕ) (d : Entry) → g ≤ next → Kept c g d → Kept c next d
kept_later c g next d on k =
    let reached : d.controller.session.greatest ≤ g = k.reached in
    record { address = k.address; config = k.config; reached = omega arith; timely = k.timely }

kept_new : (c : BusConfig) (g address : ℕ) → Kept c g (new_device address c)
kept_new c g address = record { address = address; config = refl; reached = omega arith; timely = tt }

-- ---- a bus

pub record Well (b : BusState) : Type 0 where
  pub sound : SoundBus b
  pub first : FirstIs b
  pub devices : Each (Kept b.config b.greatest) b.devices

bytes_config : (bytes : List ℕ) (now : ℕ) (b : BusState) → (after_bytes bytes now b).config ≡ b.config
bytes_config [] now b = refl
bytes_config (byte ∷ bytes) now b = (stays_silent (seen now b)).config

begin_config : (f : Option BusFault) (at now : ℕ) (b : BusState) → (changed_unless f b (after_begin_at at now b)).config ≡ b.config
begin_config None at now b = (stays_begin at now b).config
begin_config (Some fault) at now b = refl

pub same_config : (call : Call) (b : BusState) → (after_call call b).config ≡ b.config
same_config (Begin at now) b = begin_config (begin_refusal_at at b) at now b
same_config (OnBytes bytes now) b = bytes_config bytes now b
same_config (OnSilence now) b = refl
same_config (Tick now) b = (stays_tick now b).config
same_config NextReport b = refl
same_config call b = (stays_call call b tt).config

pub well_call : (call : Call) (b : BusState) → Well b → Well (after_call call b)
well_call call b w =
    let g = (after_call call b).greatest in
    let c = b.config in
    let before : Each (Kept c g) b.devices = λ i d at. kept_later c b.greatest g d (grows call b) (w.devices i d at) in
    let after : Each (Kept c g) (after_call call b).devices =
    each_call g (Kept c g) (kept_heard c g) (kept_ticked c g) (kept_begun c g) (λ command d k. kept_same c g d (entry_submits command d) refl k)
    (λ d k. kept_same c g d (entry_withdraws d) refl k) (kept_retargeted c g) call b (kept_new c g) refl before in
    record {
      sound = sound_call call b w.sound;
      first = first_is call b w.sound w.first;
      devices = subst (λ (x : BusConfig). Each (Kept x g) (after_call call b).devices) (sym (same_config call b)) after;
    }

-- as the devices are asked at a tick
pub kept_asking : (now : ℕ) (b : BusState) → Well b → Each (Kept b.config (max b.greatest now)) (asking now b).devices
kept_asking now b w =
    let g = max b.greatest now in
    let c = b.config in
    each_asking g (Kept c g) (kept_heard c g) (kept_ticked c g) now b refl (λ i d at. kept_later c b.greatest g d (omega arith) (w.devices i d at))

pub well_calls : (calls : List Call) (b : BusState) → Well b → Well (after_calls calls b)
well_calls [] b w = w
well_calls (call ∷ calls) b w = well_calls calls (after_call call b) (well_call call b w)

pub well_new : (config : BusConfig) → IsBusConfig config → Well (new_bus config)
well_new config is = record { sound = sound_new config is; first = λ n d at h. cc; devices = λ i d at. absurd cc }

pub always_well : (config : BusConfig) (calls : List Call) → IsBusConfig config → Well (after_calls calls (new_bus config))
always_well config calls is = well_calls calls (new_bus config) (well_new config is)
