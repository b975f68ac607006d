-- The exchange that is outstanding ends in time.
use Rattle.std.proofs.Common.{◌≡◌, ◌∙◌, ◌⊎◌, ap, sym, subst, inl, inr, ℕ, ◌+◌, ◌≤◌, ◌<◌, ◌||◌, Bool, true, false, max, List, [], ◌∷◌, Some, refl, arith}
use Rattle.osdp_bus_time_laws.proofs.Common.{All, is_some, nat_le, All-head, All-tail, Packet, Command, ControllerConfig, Opening, Session, State, Closed, Quiet, Idle, Waiting, Pausing, hears, is_outstanding, seen_by, is_closed, either_way, idle_way, CallOf, HearOf, TickOf, after_call_of, hears_at_moment, longest_exchange, TicksBy, is_tick, IsNotBusy, BeginsOne, Few, begun_tick, one_less, whole, whole_is, Due, due_ahead, due_at, due_kept, due_seen, until_of, tick_at_moment, Holds, Phase, frame_holds, phase_near, phase_passed, phase_seen, still, tick_holds, timely_then, Entry, BusState, device_of, has_report, seen, acts, entry_hears, entry_ticks, holds, is_entry_due, controller_config, BusTicked, bus_ticks, ticks_with, Call, Tick, after_call, IsOutstandingAt, Begins, asking, judged, has_one_exchange, Who, begun_ticked, stands_after, who, moments_are_seen, heard_holds, is_false, SoundBus, sound_run, sound_seen, sound_silent, begins_frame, set_here, still_free, DoneBy, IsOwed, KeepsTime, ends_duty, ExchangesEnd, exchange_of, EndsBy, NoneBegins, OutstandingTakes, TurnsTake}
use Rattle.std.proofs.lemmas.Bool.Decides.{leb_tells}
use Rattle.osdp_msg.specs.ReplyTable as replies
use Rattle.osdp_controller.specs.Ticking.{Ticked, begins, stays, ticks_in}
use Rattle.osdp_time_laws.specs.Instances.{busy}
use Rattle.osdp_time_laws.proofs.Accepted.{phase_now}
use Rattle.osdp_bus_time_laws.proofs.Devices.{Well, kept_asking, same_config, well_call}
use Rattle.osdp_bus_time_laws.proofs.Moments.{acts_held, as_tick, by_tick, done_ticks, grows, ticks_of}
use Rattle.osdp_bus_time_laws.proofs.Places.{AtPlace, Outcome, call_place, one_device, tick_place}

-- ---- the moments of the calls, and a BUSY after them all: so one may always come

abbrev pub endless : List CallOf
endless = HearOf busy 0 ∷ []

pub endless_ended : (limit : ℕ) → TicksBy limit endless
endless_ended limit = (omega arith, λ other. tt)

abbrev pub moments : List Call → BusState → List CallOf
moments calls b = ticks_of endless endless_ended calls b

is_busy : IsNotBusy (HearOf busy 0) → ⊥
unfolding replies.reply_of replies.reply_fault replies.reply_at
is_busy not_busy = cc

pub may_be_busy : (calls : List Call) (b : BusState) → All IsNotBusy (moments calls b) → ⊥
may_be_busy [] b all = is_busy (All-head IsNotBusy (HearOf busy 0) [] all)
may_be_busy (call ∷ calls) b all =
    may_be_busy calls (after_call call b)
    (All-tail IsNotBusy (as_tick (ends_duty call b) (after_call call b).greatest) (moments calls (after_call call b)) all)

or_second : (x y : Bool) → y ≡ true → (x || y) ≡ true
or_second true y h = refl
or_second false y h = h

pub stands_not_closed : (d : Entry) → holds d ≡ true → is_closed d.controller.session.state ≡ false
stands_not_closed d stands = by_state d.controller.session.state stands
  where
    by_state : (state : State) → is_outstanding state ≡ true → is_closed state ≡ false
    by_state Closed h = cc
    by_state (Quiet until) h = cc
    by_state (Idle due) h = cc
    by_state (Waiting until sends o) h = refl
    by_state (Pausing until o) h = refl

-- a device is due from the moment that its state waits for on
pub due_then : (d : Entry) (at : ℕ) → is_closed d.controller.session.state ≡ false → until_of d.controller.session.state ≤ at → is_entry_due at d ≡ true
due_then d at lives reached =
    due_at d.controller.session.state (seen_by at d.controller.session) d.controller.waiting lives (omega arith)

module _ (late e : ℕ) (c : ControllerConfig) (more : ℕ) (many : c.sends ≡ more + 1) where
  abbrev Ph : List CallOf → State → ℕ → Type 0
  Ph l state g = Phase late e c more (Unit {0}) l state g

  -- of a device: where its exchange is outstanding, how far it is
  abbrev pub On : List CallOf → ℕ → Entry → Type 0
  On l g d =
      (d.controller.session.greatest ≤ g) × (holds d ≡ true → (d.controller.session.config ≡ c) × Phase late e c more (Unit {0}) l d.controller.session.state g)

  -- ---- a packet at the moment that is seen

  due_before : (d until g : ℕ) (p : Packet) (l : List CallOf) → Due late d until g l → Due late d until g (HearOf p g ∷ l)
  due_before d until g p l (within, inl ahead) = (within, inl ahead)
  due_before d until g p l (within, inr (ticks, reached)) = (within, inr ((within, λ other. ticks), reached))

  left_before : (q busies g : ℕ) (p : Packet) (l : List CallOf) → (All IsNotBusy l → ⊥) → (busies + q ≡ c.busy_limit) ⊎ All IsNotBusy l
      → (busies + q ≡ c.busy_limit) ⊎ All IsNotBusy (HearOf p g ∷ l)
  left_before q busies g p l some (inl few) = inl few
  left_before q busies g p l some (inr none) = absurd (some none)

  phase_before : (g : ℕ) (p : Packet) (l : List CallOf) → (All IsNotBusy l → ⊥) → (state : State) → Ph l state g → Ph (HearOf p g ∷ l) state g
  phase_before g p l some Closed r = tt
  phase_before g p l some (Quiet until) r =
      record { by_moment = r.by_moment; busies_left = r.busies_left; due = due_before r.by_moment until g p l r.due; near = r.near; left = left_before r.busies_left 0 g p l some r.left; fits = r.fits }
  phase_before g p l some (Idle due) r =
      record { by_moment = r.by_moment; busies_left = r.busies_left; due = due_before r.by_moment due g p l r.due; near = r.near; left = left_before r.busies_left 0 g p l some r.left; fits = r.fits }
  phase_before g p l some (Waiting until sends o) r =
      record { by_moment = r.by_moment; busies_left = r.busies_left; sends_left = r.sends_left; due = due_before r.by_moment until g p l r.due; left = left_before r.busies_left o.busies g p l some r.left; enough = r.enough; fits = r.fits }
  phase_before g p l some (Pausing until o) r =
      record { by_moment = r.by_moment; busies_left = r.busies_left; due = due_before r.by_moment until g p l r.due; near = r.near; left = left_before r.busies_left o.busies g p l some r.left; fits = r.fits }

  seen_max : (s g : ℕ) → s ≤ g → max s g ≡ g
  seen_max s g near = omega arith

  heard_out : (l : List CallOf) (g : ℕ) → (All IsNotBusy l → ⊥) → g ≤ e → (p : Packet) (s : Session) → s.greatest ≤ g → s.config ≡ c → Ph l s.state g
      → is_outstanding (hears p g s).session.state ≡ true
      → ((hears p g s).session.config ≡ c) × Ph l (hears p g s).session.state g
  heard_out l g some near p s reached config phase stands =
      let at = seen_max s.greatest g reached in
      let h : Holds late e c more (Unit {0}) is_outstanding refl l (hears p g s).session =
      frame_holds late e c more (Unit {0}) is_outstanding refl (λ due. refl) p g l s (omega arith) config
      (subst (λ (n : ℕ). Ph (HearOf p g ∷ l) s.state n) (sym at) (phase_before g p l some s.state phase))
      (omega arith, λ so. (config, subst (λ (n : ℕ). Ph l s.state n) (sym at) phase)) in
      ((h.1 stands).0, subst (λ (n : ℕ). Ph l (hears p g s).session.state n) (hears_at_moment p g s ∙ at) (h.1 stands).1)

  heard_on : (l : List CallOf) (g : ℕ) → (All IsNotBusy l → ⊥) → g ≤ e → (p : Packet) (d : Entry) → On l g d → On l g (entry_hears p g d)
  heard_on l g some near p d on = (
    (let reached : d.controller.session.greatest ≤ g = on.0 in
        let is : (hears p g d.controller.session).session.greatest ≡ max d.controller.session.greatest g = hears_at_moment p g d.controller.session in omega arith),
    λ stands. let before = on.1 (heard_holds p g d stands) in heard_out l g some near p d.controller.session on.0 before.0 before.1 stands,
  )

  -- ---- the call is done

  pub kept_on : (ticks : Bool) (g : ℕ) (l : List CallOf) → ticks ≡ false → (d : Entry) → On (as_tick ticks g ∷ l) g d → On l g d
  kept_on ticks g l other d on = (
    on.0,
    λ stands. let before = on.1 stands in (
      before.0,
      phase_passed late e c more (Unit {0}) is_outstanding refl (as_tick ticks g) l d.controller.session.state g
          (λ n due. due_kept late n (until_of d.controller.session.state) g (as_tick ticks g) l (ap (λ t. is_tick (as_tick t g)) other) due) before.1,
    ),
  )

  -- a holder that isn't due
  ahead_by : (d : Entry) (g : ℕ) → holds d ≡ true → (is_entry_due g d ≡ true → ⊥)
      → ((nat_le (until_of d.controller.session.state) g ≡ true) × (until_of d.controller.session.state ≤ g))
      ⊎ ((nat_le (until_of d.controller.session.state) g ≡ false) × (g < until_of d.controller.session.state)) → g < until_of d.controller.session.state
  ahead_by d g stands never (inl (test, reached)) = absurd (never (due_then d g (stands_not_closed d stands) reached))
  ahead_by d g stands never (inr (test, below)) = below

  pub ahead_on : (x : CallOf) (g : ℕ) (l : List CallOf) (d : Entry) → (holds d ≡ true → is_entry_due g d ≡ true → ⊥) → On (x ∷ l) g d → On l g d
  ahead_on x g l d never on = (
    on.0,
    λ stands.
        let before = on.1 stands in
        let below = ahead_by d g stands (never stands) (leb_tells (until_of d.controller.session.state) g) in (
          before.0,
          phase_passed late e c more (Unit {0}) is_outstanding refl x l d.controller.session.state g
              (λ n due. due_ahead late n (until_of d.controller.session.state) g (x ∷ l) l below due) before.1,
        ),
  )

  -- a holder that ticks
  pub ticked_out : (x : CallOf) (g : ℕ) (l : List CallOf) (d : Entry) → g ≤ e → holds d ≡ true → On (x ∷ l) g d → On l g (entry_ticks g d)
  ticked_out x g l d near stands on =
      let s = d.controller.session in
      let before = on.1 stands in
      let at = seen_max s.greatest g on.0 in
      let within : (seen_by g s).greatest ≤ e = (let reached : s.greatest ≤ g = on.0 in omega arith) in
      let phase : Ph (x ∷ l) s.state (seen_by g s).greatest = subst (λ (n : ℕ). Ph (x ∷ l) s.state n) (sym at) before.1 in
      let is : (after_call_of (TickOf g) d.controller).session.greatest ≡ max s.greatest g = tick_at_moment g d.controller in
      let h : Holds late e c more (Unit {0}) is_outstanding refl l (ticks_in s.state (seen_by g s) d.controller.waiting).session =
      tick_holds late e c more (Unit {0}) is_outstanding refl (λ until n o so. tt) many s.state x l (seen_by g s) d.controller.waiting within before.0
      (stands_not_closed d stands) phase
      (λ below. still late e c more (Unit {0}) is_outstanding refl (λ until n o so. tt) many x l (seen_by g s) within before.0 below phase) in (
        (let reached : s.greatest ≤ g = on.0 in omega arith),
        λ so. ((h.1 so).0, subst (λ (n : ℕ). Ph l (ticks_in s.state (seen_by g s) d.controller.waiting).session.state n) (is ∙ at) (h.1 so).1),
      )

  -- ---- one call, while an entry holds the line: how far its exchange is at the moment of the call

  module _ (end : List CallOf) (ended : (limit : ℕ) → TicksBy limit end) (call : Call) (calls : List Call) (b : BusState) (entry : ℕ) (d : Entry) (well : Well b)
      (there : device_of entry b ≡ Some d) (stands : holds d ≡ true) (owed : (at : ℕ) → IsOwed at call b → DoneBy (at + late) (call ∷ calls) b)
      (config : d.controller.session.config ≡ c) (phase : Ph (ticks_of end ended (call ∷ calls) b) d.controller.session.state b.greatest) where
    abbrev at_call : ℕ
    at_call = (after_call call b).greatest

    abbrev calls_on : List CallOf
    calls_on = as_tick (ends_duty call b) at_call ∷ ticks_of end ended calls (after_call call b)

    unreported : has_report b ≡ false
    unreported = is_false (has_report b) (λ told. let free = well.sound.devices.waits told entry d there in cc)

    owed_at : (at : ℕ) → b.greatest ≤ at → at ≤ at_call → until_of d.controller.session.state ≤ at → TicksBy (at + late) calls_on
    owed_at at not_before not_after reached =
        let held = (has_one_exchange b well.sound).belongs entry (record { device = d; there = there; outstanding = stands }) in
        done_ticks end ended (at + late) (call ∷ calls) b (omega arith)
        (owed at (record {
          not_before = not_before;
          not_after = not_after;
          due = or_second (has_report b) (acts at b)
              (acts_held b entry d at unreported held there stands (due_then d (max b.greatest at) (stands_not_closed d stands) (omega arith)));
        }))

    phase_then : Ph calls_on d.controller.session.state at_call
    phase_then =
        phase_seen late e c more (Unit {0}) is_outstanding refl calls_on d.controller.session.state b.greatest at_call
        (λ n due. due_seen late n (until_of d.controller.session.state) b.greatest at_call (as_tick (ends_duty call b) at_call)
        (ticks_of end ended calls (after_call call b)) (grows call b) (λ limit within by. by_tick (ends_duty call b) at_call limit by) owed_at due)
        phase

    pub near_end : at_call ≤ e
    near_end = phase_near late e c more (Unit {0}) is_outstanding refl calls_on d.controller.session.state at_call (stands_not_closed d stands) phase_then

    pub on_then : On calls_on at_call d
    on_then = (
      (let reached : d.controller.session.greatest ≤ b.greatest = (well.devices entry d there).reached in let on = grows call b in omega arith),
      λ so. (config, phase_then),
    )

  -- ---- and after it, whatever it reads

  module _ (call : Call) (calls : List Call) (b : BusState) (entry : ℕ) (d : Entry) (well : Well b) (there : device_of entry b ≡ Some d) (stands : holds d ≡ true)
      (owed : (at : ℕ) → IsOwed at call b → DoneBy (at + late) (call ∷ calls) b) (config : d.controller.session.config ≡ c)
      (phase : Ph (moments (call ∷ calls) b) d.controller.session.state b.greatest) where
    abbrev g : ℕ
    g = (after_call call b).greatest

    abbrev l : List CallOf
    l = moments calls (after_call call b)

    abbrev x : CallOf
    x = as_tick (ends_duty call b) g

    near : g ≤ e
    near = near_end endless endless_ended call calls b entry d well there stands owed config phase

    on_now : On (x ∷ l) g d
    on_now = on_then endless endless_ended call calls b entry d well there stands owed config phase

    hears_on : (p : Packet) (f : Entry) → On (x ∷ l) g f → On (x ∷ l) g (entry_hears p g f)
    hears_on p f on = heard_on (x ∷ l) g (may_be_busy (call ∷ calls) b) near p f on

    abbrev After : Type 0
    After = NoneBegins call b → AtPlace entry (On l g) (after_call call b).devices

    place_other : ends_duty call b ≡ false → After
    place_other other none =
        let place =
        call_place g (On (x ∷ l) g) hears_on entry (λ command f on. on) call b (λ at is same f there on. on) other refl
        (λ f here. let one = one_device (device_of entry b) d f there here in
        subst (λ (k : Entry). is_closed k.controller.session.state ≡ false) one (stands_not_closed d stands))
        (d, there, on_now) in
        (place.0, place.1, kept_on (ends_duty call b) g l other place.0 place.2)

    by_outcome : (now : ℕ) → call ≡ Tick now → Outcome g (On (x ∷ l) g) hears_on entry now b (bus_ticks now b) → After
    by_outcome now is (inl (k, begun, others)) none = absurd (none k (subst (λ t. Begins t k b) (sym is) begun))
    by_outcome now is (inr (inl (f, at, (on, never)))) none =
        (f, ap (λ t. device_of entry (after_call t b)) is ∙ at, ahead_on x g l f never on)
    by_outcome now is (inr (inr (f, on, so, due, at))) none =
        (entry_ticks g f, ap (λ t. device_of entry (after_call t b)) is ∙ at, ticked_out x g l f near so on)

    place_tick : (now : ℕ) → call ≡ Tick now → After
    place_tick now is =
        by_outcome now is
        (tick_place g (On (x ∷ l) g) hears_on entry now b well.sound (unreported endless endless_ended call calls b entry d well there stands owed config phase)
        (sym ((moments_are_seen b).brought (Tick now) now refl) ∙ ap (λ t. (after_call t b).greatest) (sym is)) (d, there, on_now))

  place_by : (call : Call) (calls : List Call) (b : BusState) (entry : ℕ) (d : Entry) (well : Well b) (there : device_of entry b ≡ Some d) (stands : holds d ≡ true)
      (owed : (at : ℕ) → IsOwed at call b → DoneBy (at + late) (call ∷ calls) b) (config : d.controller.session.config ≡ c)
      (phase : Ph (moments (call ∷ calls) b) d.controller.session.state b.greatest) → After call calls b entry d well there stands owed config phase
  place_by (Tick now) calls b entry d well there stands owed config phase = place_tick (Tick now) calls b entry d well there stands owed config phase now refl
  place_by call calls b entry d well there stands owed config phase = place_other call calls b entry d well there stands owed config phase refl

  -- ---- all calls

  pub only_then : (call : Call) (b : BusState) (entry : ℕ) → NoneBegins call b → ((j : ℕ) → IsOutstandingAt j b → j ≡ entry) → Who call b
      → (j : ℕ) → IsOutstandingAt j (after_call call b) → j ≡ entry
  only_then call b entry none only (inl (k, begun)) j out = absurd (none k begun)
  only_then call b entry none only (inr quiet) j out =
      let before = quiet.1 j out.device out.there out.outstanding in
      only j (record { device = before.0; there = before.1; outstanding = before.2 })

  pub ends_by : (calls : List Call) (b : BusState) (entry : ℕ) → Well b → KeepsTime late calls b → ((j : ℕ) → IsOutstandingAt j b → j ≡ entry)
      → AtPlace entry (On (moments calls b) b.greatest) b.devices → EndsBy e calls b
  ends_by [] b entry well in_time only place = tt
  ends_by (call ∷ calls) b entry well in_time only (d, there, on) = λ holding out.
      let same = only holding out in
      let one = one_device (device_of entry b) out.device d (ap (λ n. device_of n b) (sym same) ∙ out.there) there in
      let stands : holds d ≡ true = ap holds (sym one) ∙ out.outstanding in
      let now = on.1 stands in (
        near_end endless endless_ended call calls b entry d well there stands in_time.0 now.0 now.1,
        λ none.
            ends_by calls (after_call call b) entry (well_call call b well) in_time.1 (only_then call b entry none only (who call b well.first))
            (place_by call calls b entry d well there stands in_time.0 now.0 now.1 none),
      )

-- ---- from the beginning of an exchange on

abbrev Began : Ticked → Type 0
Began t = is_some t.step.frame ≡ true → BeginsOne t

began : (state : State) (s : Session) (w : List Command) → is_outstanding state ≡ false → Began (ticks_in state s w)
began Closed s w out = λ h. cc
began (Quiet until) s w out = either_way Began (nat_le until s.greatest) (begins Opening 0 s w) (stays s w) (λ b h. refl) (λ b h. cc)
began (Idle due) s w out = idle_way Began due s w (λ b h. refl) (λ b h. cc) (λ command rest has h. refl)
began (Waiting until sends o) s w out = cc
began (Pausing until o) s w out = cc

sound_asking : (now : ℕ) (b : BusState) → SoundBus b → SoundBus (asking now b)
sound_asking now b sound = sound_run (judged now b) (sound_silent (seen now b) (sound_seen now b sound))

-- how an exchange stands as it begins, where so many BUSY answers are allowed, or none is read
module _ (late q : ℕ) (end : List CallOf) (ended : (limit : ℕ) → TicksBy limit end) (call : Call) (calls : List Call) (b : BusState) (entry : ℕ) (well : Well b)
    (begun : Begins call entry b) where
  abbrev pub begun_device : Entry
  begun_device = begun.next.due.device

  abbrev pub begun_config : ControllerConfig
  begun_config = begun.next.due.device.controller.session.config

  abbrev pub begun_calls : List CallOf
  begun_calls = ticks_of end ended calls (after_call call b)

  pub sends_of : (more : ℕ) × (begun_config.sends ≡ more + 1)
  sends_of =
      one_less begun_config.sends ((sound_asking begun.now b well.sound).devices.devices entry begun_device begun.next.due.there).machine.session.config.sends.0

  pub stands_begun : Few begun_config q begun_calls
      → AtPlace entry
      (On late ((after_call call b).greatest + whole late sends_of.0 q begun_config) begun_config sends_of.0 sends_of.1 begun_calls (after_call call b).greatest)
      (after_call call b).devices
  stands_begun few =
      let r = asking begun.now b in
      let d = begun_device in
      let s = d.controller.session in
      let k = after_call call b in
      let kept = kept_asking begun.now b well entry d begun.next.due.there in
      let device = (sound_asking begun.now b well.sound).devices.devices entry d begun.next.due.there in
      let free = is_false (holds d) (λ h. still_free begun.now b begun.free entry d begun.next.due.there h) in
      let ticked = begun_ticked begun.now entry b begun.free begun.next in
      let after : k ≡ (ticks_with entry (Some d) r).bus = ap (λ t. after_call t b) begun.tick ∙ ap (λ (t : BusTicked). t.bus) ticked in
      let there : device_of entry k ≡ Some (entry_ticks r.greatest d) =
      ap (device_of entry) after ∙ set_here r.devices.entries entry d (entry_ticks r.greatest d) begun.next.due.there in
      let moment : k.greatest ≡ r.greatest = ap (λ (x : BusState). x.greatest) after in
      let seen_now : k.greatest ≡ max b.greatest begun.now =
      ap (λ t. (after_call t b).greatest) begun.tick ∙ (moments_are_seen b).brought (Tick begun.now) begun.now refl in
      let reached : s.greatest ≤ max b.greatest begun.now = kept.reached in
      let at : (seen_by r.greatest s).greatest ≡ k.greatest = omega arith in
      let first = begun_tick late sends_of.0 q begun_calls s.state (seen_by r.greatest s) d.controller.waiting few device.machine.session.state
      (began s.state (seen_by r.greatest s) d.controller.waiting free (begins_frame r.greatest d free begun.next.due.due)) in
      let e = k.greatest + whole late sends_of.0 q s.config in
      let is : (after_call_of (TickOf r.greatest) d.controller).session.greatest ≡ max s.greatest r.greatest = tick_at_moment r.greatest d.controller in
      let holds_then : Holds late e s.config sends_of.0 (Unit {0}) is_outstanding refl begun_calls (entry_ticks r.greatest d).controller.session =
      subst (λ (n : ℕ). Holds late (n + whole late sends_of.0 q s.config) s.config sends_of.0 (Unit {0}) is_outstanding refl begun_calls
      (entry_ticks r.greatest d).controller.session) at first in (
        entry_ticks r.greatest d,
        there,
        (
          omega arith,
          λ so. (
            (holds_then.1 so).0,
            subst (λ (n : ℕ). Phase late e s.config sends_of.0 (Unit {0}) begun_calls (entry_ticks r.greatest d).controller.session.state n) (is ∙ at)
                (holds_then.1 so).1,
          ),
        ),
      )

begun_ends : (late : ℕ) (call : Call) (calls : List Call) (b : BusState) (entry : ℕ) → Well b → KeepsTime late calls (after_call call b) → Begins call entry b
    → EndsBy ((after_call call b).greatest + exchange_of b late) calls (after_call call b)
begun_ends late call calls b entry well in_time begun =
    let k = after_call call b in
    let c = begun.next.due.device.controller.session.config in
    let kept = kept_asking begun.now b well entry begun.next.due.device begun.next.due.there in
    let sends = sends_of late c.busy_limit endless endless_ended call calls b entry well begun in
    let length_is : whole late sends.0 c.busy_limit c ≡ exchange_of b late =
    whole_is late sends.0 c.busy_limit c sends.1 ∙ ap (λ x. longest_exchange x late) kept.config in
    let out = stands_after call entry b begun in
    subst (λ (n : ℕ). EndsBy (k.greatest + n) calls k) length_is
    (ends_by late (k.greatest + whole late sends.0 c.busy_limit c) c sends.0 sends.1 calls k entry (well_call call b well) in_time
    (λ j other. (has_one_exchange k (well_call call b well).sound).one j entry other out)
    (stands_begun late c.busy_limit endless endless_ended call calls b entry well begun (inl (omega arith))))

turns_take : (late : ℕ) (cost : ℕ) (calls : List Call) (b : BusState) → Well b → KeepsTime late calls b → exchange_of b late ≡ cost → TurnsTake (λ entry. cost) calls b
turns_take late cost [] b well in_time same = tt
turns_take late cost (call ∷ calls) b well in_time same = (
  λ entry begun. subst (λ (n : ℕ). EndsBy ((after_call call b).greatest + n) calls (after_call call b)) same (begun_ends late call calls b entry well in_time.1 begun),
  turns_take late cost calls (after_call call b) (well_call call b well) in_time.1
      (ap (λ x. longest_exchange (controller_config 0 x) late) (same_config call b) ∙ same),
)

-- and from any moment of an exchange
outstanding_takes : (late : ℕ) (calls : List Call) (b : BusState) → Well b → KeepsTime late calls b → OutstandingTakes (λ entry. exchange_of b late) calls b
outstanding_takes late calls b well in_time entry out =
    let d = out.device in
    let s = d.controller.session in
    let kept = well.devices entry d out.there in
    let device = well.sound.devices.devices entry d out.there in
    let sends = one_less s.config.sends device.machine.session.config.sends.0 in
    let length_is : whole late sends.0 s.config.busy_limit s.config ≡ exchange_of b late =
    whole_is late sends.0 s.config.busy_limit s.config sends.1 ∙ ap (λ x. longest_exchange x late) kept.config in
    subst (λ (n : ℕ). EndsBy (b.greatest + n) calls b) length_is
    (ends_by late (b.greatest + whole late sends.0 s.config.busy_limit s.config) s.config sends.0 sends.1 calls b entry well in_time
    (λ j other. (has_one_exchange b well.sound).one j entry other out) (
      d,
      out.there,
      (
        kept.reached,
        λ so. (
          refl,
          phase_now late sends.0 (moments calls b) s.config b.greatest s.state device.machine.session.state
              (timely_then s.config s.state s.greatest b.greatest kept.reached kept.timely) out.outstanding sends.1,
        ),
      ),
    ))

pub exchanges_end : (b : BusState) → Well b → ExchangesEnd b
exchanges_end b well = record {
  begun = λ late calls in_time. turns_take late (exchange_of b late) calls b well in_time refl;
  outstanding = λ late calls in_time. outstanding_takes late calls b well in_time;
}
