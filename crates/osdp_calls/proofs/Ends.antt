-- A call of one end leaves the others as they are.
use Rattle.osdp_calls.proofs.Common.{◌≡◌, ℕ, zero, suc, cond, List, [], ◌∷◌, ◌++◌, map, Option, Some, None, refl, sym, subst, ap, ◌∙◌, ◌==◌, Command, Packet, BusState, new_bus, bus_ticks, Entry, each_of, Each, Answer, site_at, some_same, Call, NewPanel, Next, OfPanel, Step, after_call, after_calls, after_next, all_forget, asked_at, begins_with, begun_of, change_at, changes_at, forgets, last_of, nexts, noted, panel_says, said_at, BusIsReached, CanStand, GoByTheirOwn, IsThatOfABus, OneExchange, Held, KeepsPanel, device_after, device_after_all, held_by, is_of_device, one_panel_call, panel_calls, InUse, Station, device_called, does, on_called, is_called}
use Rattle.osdp_bus_laws.specs.Calls as bus
use Rattle.osdp_bus_laws.specs.Exchanges.{HasOneExchange}
use Rattle.osdp_calls.proofs.Places.{Stays, panel_so, station_so}
use Rattle.osdp_calls.proofs.Sayings.{adds_make_the_bus}

pub more_calls : (xs ys : List bus.Call) (b : BusState) → bus.after_calls (xs ++ ys) b ≡ bus.after_calls ys (bus.after_calls xs b)
more_calls [] ys b = refl
more_calls (x ∷ xs) ys b = more_calls xs ys (bus.after_call x b)

module _ {H : Type 0} where
  -- ---- the device at a place is as another

  abbrev IsHeld : ℕ → Held H → List (Station H) → Type 0
  IsHeld k d ts = (u : Station H) × (site_at k ts ≡ Some u) × (held_by u ≡ d)

  -- whatever the panel does
  stays_held : (d : Held H) → Stays {H = H} (λ t. held_by t ≡ d)
  stays_held d = record { begins_so = λ moment t is. is; opens_so = λ t is. is }

  forget_keeps : (k : ℕ) (d : Held H) (es : List Entry) (ts : List (Station H)) → IsHeld k d ts → IsHeld k d (all_forget es ts)
  forget_keeps k d es [] is = absurd (let e = is.1 in cc)
  forget_keeps k d [] (t ∷ ts) is = is
  forget_keeps zero d (e ∷ es) (t ∷ ts) is = (forgets t, refl, ap held_by (some_same t is.0 is.1) ∙ is.2)
  forget_keeps (suc k) d (e ∷ es) (t ∷ ts) is = forget_keeps k d es ts is

  -- ---- a call of a device

  device_keeps : (k i : ℕ) (change : Station H → Station H) (f : Held H → Held H) (d : Held H) (ts : List (Station H))
      → ((t : Station H) → held_by (change t) ≡ f (held_by t)) → IsHeld k d ts → IsHeld k (cond (i == k) (f d) d) (change_at i change ts)
  device_keeps k i change f d ts keeps is =
      station_so (λ b t. held_by t ≡ cond b (f d) d) k i change ts (λ t at same. keeps t ∙ ap f same) is

  -- what is said is nothing to the bus
  begins_bus : (entry : ℕ) (p : Packet) (o : Option ℕ) (l : InUse H) → (begins_with entry p o l).bus ≡ l.bus
  begins_bus entry p None l = refl
  begins_bus entry p (Some moment) l = refl

  pub says_bus : (o : Option ℕ) (p : Option Packet) (l : InUse H) → (panel_says o p l).bus ≡ l.bus
  says_bus None p l = refl
  says_bus (Some entry) None l = refl
  says_bus (Some entry) (Some p) l = begins_bus entry p (begun_of (site_at entry l.stations)) l

  pub said_bus : (call : bus.Call) (b : BusState) (l : InUse H) → (said_at call b l).bus ≡ l.bus
  said_bus (bus.Tick now) b l = says_bus (asked_at now b) (bus_ticks now b).sent l
  said_bus _ b l = refl

  module _ (answer_of : H → Command → Answer) (after : H → Command → H) where
    pub next_stations : (i : ℕ) (places : List ℕ) (o : Option (Station H)) (l : InUse H)
        → changes_at i (nexts answer_of after i places) o l.stations ≡ (after_next answer_of after i places o l).stations
    next_stations i places None l = refl
    next_stations i places (Some t) l = refl

    called_keeps : (k : ℕ) (o : Option ℕ) (call : Call H) (d : Held H) (l : InUse H) → IsHeld k d l.stations
        → IsHeld k (cond (is_called k o) (device_after answer_of after call d) d) (on_called o (does answer_of after call) l).stations
    called_keeps k None call d l is = is
    called_keeps k (Some i) call d l is =
        device_keeps k i (does answer_of after call) (device_after answer_of after call) d l.stations (λ t. refl) is

    step_keeps : (k : ℕ) (call : Call H) (places : List ℕ) (d : Held H) (l : InUse H) → IsHeld k d l.stations
        → IsHeld k (cond (is_of_device k call) (device_after answer_of after call d) d) (after_call answer_of after call places l).stations
    step_keeps k (OfPanel call) places d l is = panel_so {H = H} (λ t. held_by t ≡ d) (stays_held d) k call places l is
    step_keeps k (NewPanel config addresses) places d l is = forget_keeps k d l.bus.devices.entries l.stations is
    step_keeps k (Next i) places d l is =
        subst (IsHeld k (cond (i == k) (device_after answer_of after (Next i) d) d)) (next_stations i places (site_at i l.stations) l)
        (device_keeps k i (nexts answer_of after i places) (device_after answer_of after (Next i)) d l.stations (λ t. refl) is)
    step_keeps k call places d l is = called_keeps k (device_called call) call d l is

    all_keep : (k : ℕ) (steps : List (Step H)) (d : Held H) (l : InUse H) → IsHeld k d l.stations
        → IsHeld k (device_after_all answer_of after k steps d) (after_calls answer_of after steps l).stations
    all_keep k [] d l is = is
    all_keep k (step ∷ steps) d l is =
        all_keep k steps (cond (is_of_device k step.call) (device_after answer_of after step.call d) d) (after_call answer_of after step.call step.places l)
        (step_keeps k step.call step.places d l is)

    pub next_bus : (i : ℕ) (places : List ℕ) (o : Option (Station H)) (l : InUse H) → (after_next answer_of after i places o l).bus ≡ l.bus
    next_bus i places None l = refl
    next_bus i places (Some t) l = refl

    pub one_bus : (call : Call H) (places : List ℕ) (l : InUse H) → KeepsPanel call
        → (after_call answer_of after call places l).bus ≡ bus.after_calls (one_panel_call call) l.bus
    one_bus (OfPanel call) places l keeps = said_bus call l.bus (record l {
      bus = bus.after_call call l.bus;
      stations = noted call l.bus l.stations;
      place = last_of places l.place;
    })
    one_bus (Next i) places l keeps = next_bus i places (site_at i l.stations) l
    one_bus (NewPanel config addresses) places l keeps = absurd keeps
    one_bus _ places l keeps = refl

    all_bus : (steps : List (Step H)) (l : InUse H) → Each (λ (step : Step H). KeepsPanel step.call) steps
        → (after_calls answer_of after steps l).bus ≡ bus.after_calls (panel_calls steps) l.bus
    all_bus [] l keeps = refl
    all_bus (step ∷ steps) l keeps =
        let next = after_call answer_of after step.call step.places l in
        all_bus steps next keeps.1
        ∙ ap (bus.after_calls (panel_calls steps)) (one_bus step.call step.places l keeps.0)
        ∙ sym (more_calls (one_panel_call step.call) (panel_calls steps) l.bus)

    pub go_by_their_own : (l : InUse H) → GoByTheirOwn answer_of after l
    go_by_their_own l = record {
      panel = λ steps keeps. all_bus steps l (each_of (λ (step : Step H). KeepsPanel step.call) steps keeps);
      device = λ steps k t is. all_keep k steps (held_by t) l (t, is, refl);
    }

    -- ---- the bus is that of a list of calls

    goes_on : (call : Call H) (places : List ℕ) (l : InUse H) → KeepsPanel call → IsThatOfABus l.bus
        → IsThatOfABus (after_call answer_of after call places l).bus
    goes_on call places l keeps is = record {
      config = is.config;
      settings = is.settings;
      calls = is.calls ++ one_panel_call call;
      is = one_bus call places l keeps ∙ ap (bus.after_calls (one_panel_call call)) is.is
          ∙ sym (more_calls is.calls (one_panel_call call) (new_bus is.config));
    }

    step_reached : (call : Call H) (places : List ℕ) (l : InUse H) → CanStand call → IsThatOfABus l.bus
        → IsThatOfABus (after_call answer_of after call places l).bus
    step_reached (NewPanel config addresses) places l can is = record {
      config = config;
      settings = can.0;
      calls = map bus.Add addresses;
      is = sym (adds_make_the_bus config addresses can.1);
    }
    step_reached call places l can is = goes_on call places l tt is

    all_reached : (steps : List (Step H)) (l : InUse H) → Each (λ (step : Step H). CanStand step.call) steps
        → IsThatOfABus l.bus → IsThatOfABus (after_calls answer_of after steps l).bus
    all_reached [] l can is = is
    all_reached (step ∷ steps) l can is =
        all_reached steps (after_call answer_of after step.call step.places l) can.1 (step_reached step.call step.places l can.0 is)

    pub bus_is_reached : BusIsReached answer_of after
    bus_is_reached config addresses l steps settings none is can =
        all_reached steps l (each_of (λ (step : Step H). CanStand step.call) steps can) (record {
          config = config;
          settings = settings;
          calls = map bus.Add addresses;
          is = is ∙ sym (adds_make_the_bus config addresses none);
        })

    pub one_exchange : bus.Always HasOneExchange → OneExchange answer_of after
    one_exchange always config addresses l steps settings none is can =
        let r = bus_is_reached config addresses l steps settings none is can in
        subst HasOneExchange (sym r.is) (always r.config r.calls r.settings)
