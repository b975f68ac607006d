-- What a bus keeps of its devices, and a device whose session is to begin.
use Rattle.osdp_calls_time_laws.proofs.Common.{◌≡◌, ◌⊎◌, ◌≤◌, ◌<◌, ◌+◌, ℕ, max, Bool, true, false, cond, List, [], ◌∷◌, Option, Some, None, refl, sym, subst, ap, ◌∙◌, inl, inr, arith, leb-true, ◌^◌, IfSome, min, nat_le, nat_lt, slice_get, Packet, next_sequence, Command, ControllerConfig, Closed, Quiet, Idle, Waiting, Pausing, BusState, Devices, entry_hears, entry_ticks, hears_packet, begin_refusal_at, entry_begins, new_device, BusConfig, Entry, BusFault, moments_are_seen, both, some_same, hears_all, HeardAt, Touched, Untouched, heard_at, WaitsTwice, moment_of}
use Rattle.osdp_controller.proofs.Idling.{idle_way}
use Rattle.osdp_controller.specs.Hearing.{Heard}
use Rattle.osdp_controller.specs.Ticking as ticking
use Rattle.osdp_controller.specs.Ticking.{Ticked, ticks_in}
use Rattle.osdp_controller.specs.declared.exchange.Exchange.TheVariants.{Opening as OpeningExchange, Polling}
use Rattle.osdp_controller.specs.declared.session.Session.{Session}
use Rattle.osdp_controller.specs.declared.state.State.{State}
use Rattle.osdp_controller_laws.specs.Runs.{Tick as TickOf, Hear as HearOf}
use Rattle.osdp_controller_laws.proofs.Kept.{hears_at_moment}
use Rattle.osdp_controller_laws.proofs.OneCall.{keeps_settings}
use Rattle.osdp_time_laws.proofs.Ends.{tick_at_moment}
use Rattle.osdp_bus_laws.specs.Calls.{Call, Add, Begin, Submit, Withdraw, Retarget, OnBytes, OnSilence, Tick, NextReport, after_call}
use Rattle.osdp_bus_time_laws.proofs.Devices.{Each, each_call, same_config}
use Rattle.osdp_bus_time_laws.proofs.Moments.{grows}
use Rattle.osdp_calls.proofs.Controllers.{ignored_quiet}
use Rattle.osdp_calls_time_laws.proofs.Waits.{IsKept, IsOf}
use Rattle.osdp_controller.specs.Sessions as clocks

-- ---- what holds of each device

of_heard : (q g : ℕ) (p : Packet) (d : Entry) → IsOf q g d → IsOf q g (entry_hears p g d)
of_heard q g p d is =
    let near = hears_at_moment p g d.controller.session in
    let le = is.seen in
    record { seen = omega (arith, near, le); waits = ap (λ (k : ControllerConfig). k.quiet_wait) (keeps_settings (HearOf p g) d.controller) ∙ is.waits }

of_ticked : (q g : ℕ) (d : Entry) → IsOf q g d → IsOf q g (entry_ticks g d)
of_ticked q g d is =
    let near = tick_at_moment g d.controller in
    let le = is.seen in
    record { seen = omega (arith, near, le); waits = ap (λ (k : ControllerConfig). k.quiet_wait) (keeps_settings (TickOf g) d.controller) ∙ is.waits }

of_begun : (q g now : ℕ) (d : Entry) → now ≤ g → IsOf q g d → IsOf q g (entry_begins now d)
of_begun q g now d near is = let le = is.seen in record { seen = omega (arith, near, le); waits = is.waits }

pub of_new : (g address : ℕ) (config : BusConfig) → IsOf config.quiet_wait g (new_device address config)
of_new g address config = record { seen = omega arith; waits = refl }

kept_call : (call : Call) (b : BusState) → Each (IsOf b.config.quiet_wait b.greatest) b.devices
    → Each (IsOf (after_call call b).config.quiet_wait (after_call call b).greatest) (after_call call b).devices
kept_call call b all =
    let g = (after_call call b).greatest in
    let q = b.config.quiet_wait in
    let before : Each (IsOf q g) b.devices =
    λ i d at. let is = all i d at in let le = is.seen in let more = grows call b in record { seen = omega (arith, le, more); waits = is.waits } in
    let after : Each (IsOf q g) (after_call call b).devices =
    each_call g (IsOf q g) (of_heard q g) (of_ticked q g) (of_begun q g) (λ command d is. record { seen = is.seen; waits = is.waits })
    (λ d is. record { seen = is.seen; waits = is.waits }) (λ address d is. record { seen = is.seen; waits = is.waits }) call b (λ address. of_new g address b.config)
    refl before in
    subst (λ (x : BusConfig). Each (IsOf x.quiet_wait g) (after_call call b).devices) (sym (same_config call b)) after

-- ---- the moment that is seen after a call

abbrev Sees : Call → BusState → Type 0
Sees call b = ((after_call call b).greatest ≡ b.greatest) ⊎ ((now : ℕ) × (moment_of call ≡ Some now) × ((after_call call b).greatest ≡ max b.greatest now))

sees : (call : Call) (b : BusState) → Sees call b
sees (Add address) b = inl ((moments_are_seen b).kept (Add address) (λ at brings. brings))
sees (Begin entry now) b = begin_sees (begin_refusal_at entry b) refl
  where
    begin_sees : (f : Option BusFault) → begin_refusal_at entry b ≡ f → Sees (Begin entry now) b
    begin_sees None is = inr (now, refl, (moments_are_seen b).brought (Begin entry now) now (is, refl))
    begin_sees (Some fault) is =
        inl ((moments_are_seen b).kept (Begin entry now) (λ at brings. absurd (let e = sym is ∙ brings.0 in cc)))
sees (Submit entry command) b = inl ((moments_are_seen b).kept (Submit entry command) (λ at brings. brings))
sees (Withdraw entry) b = inl ((moments_are_seen b).kept (Withdraw entry) (λ at brings. brings))
sees (Retarget entry address) b = inl ((moments_are_seen b).kept (Retarget entry address) (λ at brings. brings))
sees (OnBytes bytes now) b = inr (now, refl, (moments_are_seen b).brought (OnBytes bytes now) now refl)
sees (OnSilence now) b = inr (now, refl, (moments_are_seen b).brought (OnSilence now) now refl)
sees (Tick now) b = inr (now, refl, (moments_are_seen b).brought (Tick now) now refl)
sees NextReport b = inl ((moments_are_seen b).kept NextReport (λ at brings. brings))

-- what is asked of the moment of a call
abbrev pub InTime : ℕ → ℕ → Call → BusState → Type 0
InTime start at call b = IfSome (moment_of call) (λ now. (start + now ≡ at) × (now + b.config.quiet_wait < 2 ^ 64))

pub kept_bus : (w start now at : ℕ) (call : Call) (b : BusState) → IsKept w start now b → now ≤ at → InTime start at call b → IsKept w start at (after_call call b)
kept_bus w start now at call b k later in_time =
    let both = by_moment (sees call b) in record {
      patient = subst (λ (x : BusConfig). WaitsTwice w x) (sym (same_config call b)) k.patient;
      clock = both.0;
      far = subst (λ (x : BusConfig). (after_call call b).greatest + x.quiet_wait < 2 ^ 64) (sym (same_config call b)) both.1;
      kept = kept_call call b k.kept;
    }
  where
    less_most : (x y q top : ℕ) → x + q < top → y + q < top → max x y + q < top
    less_most x y q top first second = omega (arith, first, second)

    by_moment : Sees call b → (start + (after_call call b).greatest ≤ at) × ((after_call call b).greatest + b.config.quiet_wait < 2 ^ 64)
    by_moment (inl same) =
        let old = k.clock in
        (omega (arith, same, old, later), subst (λ g. g + b.config.quiet_wait < 2 ^ 64) (sym same) k.far)
    by_moment (inr (moment, is, seen)) =
        let old = k.clock in
        let far = k.far in
        let told = subst (λ o. IfSome o (λ m. (start + m ≡ at) × (m + b.config.quiet_wait < 2 ^ 64))) is in_time in
        let then = told.0 in
        let end = told.1 in
        (omega (arith, seen, old, later, then), subst (λ g. g + b.config.quiet_wait < 2 ^ 64) (sym seen) (less_most b.greatest moment b.config.quiet_wait (2 ^ 64) far end))

-- ---- a device whose session is to begin passes over what it hears

pub record QuietAt (k until g : ℕ) (config : ControllerConfig) (ds : Devices) : Type 0 where
  pub device : Entry
  pub there : slice_get ds.entries k ≡ Some device
  pub state : device.controller.session.state ≡ Quiet until
  pub same : device.controller.session.config ≡ config
  pub seen : device.controller.session.greatest ≤ g

one_heard : (k until g : ℕ) (config : ControllerConfig) (p : Packet) (ds : Devices) → QuietAt k until g config ds → QuietAt k until g config (hears_packet p g ds)
one_heard k until g config p ds x = by_entry (heard_at p g k ds)
  where
    by_entry : HeardAt p g k ds → QuietAt k until g config (hears_packet p g ds)
    by_entry (Untouched same notes who) = record { device = x.device; there = same ∙ x.there; state = x.state; same = x.same; seen = x.seen }
    by_entry (Touched e at here next told) =
        let mine : e ≡ x.device = some_same e x.device (sym at ∙ x.there) in
        let ignored = ignored_quiet p g x.device.controller.session until x.state in
        let near = ap (λ (h : Heard). h.session.greatest) ignored in
        let le = x.seen in
        record {
          device = entry_hears p g x.device;
          there = next ∙ ap (λ f. Some (entry_hears p g f)) mine;
          state = ap (λ (h : Heard). h.session.state) ignored ∙ x.state;
          same = ap (λ (h : Heard). h.session.config) ignored ∙ x.same;
          seen = omega (arith, near, le);
        }

pub quiet_heard : (k until g : ℕ) (config : ControllerConfig) (ps : List Packet) (ds : Devices) → QuietAt k until g config ds
    → QuietAt k until g config (hears_all g ps ds)
quiet_heard k until g config [] ds x = x
quiet_heard k until g config (p ∷ ps) ds x = quiet_heard k until g config ps (hears_packet p g ds) (one_heard k until g config p ds x)

-- ---- a tick

-- no tick moves a device
pub ticks_config : (st : State) (s : Session) (ws : List Command) → (ticks_in st s ws).session.config ≡ s.config
ticks_config Closed s ws = refl
ticks_config (Quiet until) s ws =
    both (λ (x : Ticked). x.session.config ≡ s.config) (nat_le until s.greatest) (ticking.begins OpeningExchange 0 s ws) (ticking.stays s ws) refl refl
ticks_config (Idle due) s ws = idle_way (λ (x : Ticked). x.session.config ≡ s.config) due s ws (λ reached. refl) (λ ahead. refl) (λ command rest is. refl)
ticks_config (Waiting until sends o) s ws =
    both (λ (x : Ticked). x.session.config ≡ s.config) (nat_le until s.greatest) (ticking.tries_again sends o s ws) (ticking.stays s ws)
    (both (λ (x : Ticked). x.session.config ≡ s.config) (nat_lt sends s.config.sends) (ticking.sends_frame (sends + 1) o s ws) (ticking.gives_up o s ws) refl refl) refl
ticks_config (Pausing until o) s ws =
    both (λ (x : Ticked). x.session.config ≡ s.config) (nat_le until s.greatest) (ticking.sends_frame 1 o s ws) (ticking.stays s ws) refl refl

abbrev IsTo : ℕ → Ticked → Type 0
IsTo address x = IfSome x.step.frame (λ p. p.address ≡ address)

-- what a controller sends is to its device
pub frames_to : (st : State) (s : Session) (ws : List Command) → IfSome (ticks_in st s ws).step.frame (λ p. p.address ≡ s.config.address)
frames_to Closed s ws = tt
frames_to (Quiet until) s ws =
    both (IsTo s.config.address) (nat_le until s.greatest) (ticking.begins OpeningExchange 0 s ws) (ticking.stays s ws) refl tt
frames_to (Idle due) s ws = idle_way (IsTo s.config.address) due s ws (λ reached. refl) (λ ahead. tt) (λ command rest is. refl)
frames_to (Waiting until sends o) s ws =
    both (IsTo s.config.address) (nat_le until s.greatest) (ticking.tries_again sends o s ws) (ticking.stays s ws)
    (both (IsTo s.config.address) (nat_lt sends s.config.sends) (ticking.sends_frame (sends + 1) o s ws) (ticking.gives_up o s ws) refl tt) tt
frames_to (Pausing until o) s ws =
    both (IsTo s.config.address) (nat_le until s.greatest) (ticking.sends_frame 1 o s ws) (ticking.stays s ws) refl tt

-- a session opens once its quiet wait is over
quiet_due : (until : ℕ) (s : Session) (ws : List Command) (p : Packet) → (ticks_in (Quiet until) s ws).step.frame ≡ Some p → until ≤ s.greatest
quiet_due until s ws p = by_test (nat_le until s.greatest) refl
  where
    by_test : (x : Bool) → nat_le until s.greatest ≡ x → (cond x (ticking.begins OpeningExchange 0 s ws) (ticking.stays s ws)).step.frame ≡ Some p → until ≤ s.greatest
    by_test true is sent = leb-true until s.greatest is
    by_test false is sent = absurd (let e = sent in cc)

pub frame_due : (g until : ℕ) (s : Session) (ws : List Command) (p : Packet) → s.state ≡ Quiet until → (ticks_in s.state (clocks.seen g s) ws).step.frame ≡ Some p
    → until ≤ max s.greatest g
frame_due g until s ws p quiet sent =
    quiet_due until (clocks.seen g s) ws p (sym (ap (λ st. (ticks_in st (clocks.seen g s) ws).step.frame) quiet) ∙ sent)

-- so the wait is whole, where it doesn't come to the end of the clock
pub whole_wait : (m g top q end : ℕ) → max m top ≡ max g top → g ≤ top → top + q ≤ end → min (m + q) end ≤ max g top → m + q ≤ top
whole_wait m g top q end same seen far due = omega (arith, same, seen, far, due)
