-- Stations stay, whatever is called.
use Rattle.osdp_calls.proofs.Common.{◌≡◌, ℕ, zero, suc, List, [], ◌∷◌, Option, Some, None, refl, ◌∙◌, is_some, Packet, Command, BusState, begin_refusal_at, changed_unless, bus_ticks, Entry, BusFault, Answer, site_at, Call, NewPanel, Next, OfPanel, after_call, after_next, all_forget, asked_at, begins_session, begins_with, begun_of, change_at, changes_at, last_of, nexts, noted, panel_says, said_at, Step, after_calls, InUse, Station, device_called, does, on_called}
use Rattle.osdp_bus_laws.specs.Calls as bus
use Rattle.osdp_calls.proofs.Matching.{changed_some}

module _ {H : Type 0} (k : ℕ) where
  abbrev pub Same : List (Station H) → List (Station H) → Type 0
  Same us ts = is_some (site_at k us) ≡ is_some (site_at k ts)

  changes_keep : (i : ℕ) (change : Station H → Station H) (o : Option (Station H)) (ts : List (Station H)) → Same (changes_at i change o ts) ts
  changes_keep i change None ts = refl
  changes_keep i change (Some t) ts = changed_some k i (change t) ts

  pub change_keeps : (i : ℕ) (change : Station H → Station H) (ts : List (Station H)) → Same (change_at i change ts) ts
  change_keeps i change ts = changes_keep i change (site_at i ts) ts

  unless_keeps : (i : ℕ) (fault : Option BusFault) (change : Station H → Station H) (ts : List (Station H)) → Same (changed_unless fault ts (change_at i change ts)) ts
  unless_keeps i None change ts = change_keeps i change ts
  unless_keeps i (Some fault) change ts = refl

  pub noted_keeps : (call : bus.Call) (b : BusState) (ts : List (Station H)) → Same (noted call b ts) ts
  noted_keeps (bus.Begin entry now) b ts = unless_keeps entry (begin_refusal_at entry b) _ ts
  noted_keeps call b ts = refl

  begins_keep : (i : ℕ) (p : Packet) (o : Option ℕ) (l : InUse H) → Same (begins_with i p o l).stations l.stations
  begins_keep i p None l = refl
  begins_keep i p (Some moment) l = change_keeps i begins_session l.stations

  pub says_keep : (o : Option ℕ) (p : Option Packet) (l : InUse H) → Same (panel_says o p l).stations l.stations
  says_keep None p l = refl
  says_keep (Some i) None l = refl
  says_keep (Some i) (Some p) l = begins_keep i p (begun_of (site_at i l.stations)) l

  said_keeps : (call : bus.Call) (b : BusState) (l : InUse H) → Same (said_at call b l).stations l.stations
  said_keeps (bus.Tick now) b l = says_keep (asked_at now b) (bus_ticks now b).sent l
  said_keeps _ b l = refl

  pub forget_keeps : (ds : List Entry) (ts : List (Station H)) → Same (all_forget ds ts) ts
  forget_keeps ds ts = by_place k ds ts
    where
      by_place : (i : ℕ) (es : List Entry) (us : List (Station H)) → is_some (site_at i (all_forget es us)) ≡ is_some (site_at i us)
      by_place i [] us = refl
      by_place i (e ∷ es) [] = refl
      by_place zero (e ∷ es) (u ∷ us) = refl
      by_place (suc i) (e ∷ es) (u ∷ us) = by_place i es us

  module _ (answer_of : H → Command → Answer) (after : H → Command → H) where
    next_keeps : (i : ℕ) (places : List ℕ) (o : Option (Station H)) (l : InUse H) → Same (after_next answer_of after i places o l).stations l.stations
    next_keeps i places None l = refl
    next_keeps i places (Some t) l = changed_some k i (nexts answer_of after i places t) l.stations

    called_keeps : (o : Option ℕ) (change : Station H → Station H) (l : InUse H) → Same (on_called o change l).stations l.stations
    called_keeps None change l = refl
    called_keeps (Some i) change l = change_keeps i change l.stations

    pub call_keeps : (call : Call H) (places : List ℕ) (l : InUse H) → Same (after_call answer_of after call places l).stations l.stations
    call_keeps (OfPanel call) places l =
        said_keeps call l.bus (record l { bus = bus.after_call call l.bus; stations = noted call l.bus l.stations; place = last_of places l.place })
        ∙ noted_keeps call l.bus l.stations
    call_keeps (Next i) places l = next_keeps i places (site_at i l.stations) l
    call_keeps (NewPanel config addresses) places l = forget_keeps l.bus.devices.entries l.stations
    call_keeps call places l = called_keeps (device_called call) (does answer_of after call) l

    pub calls_keep : (steps : List (Step H)) (l : InUse H) → Same (after_calls answer_of after steps l).stations l.stations
    calls_keep [] l = refl
    calls_keep (step ∷ steps) l =
        calls_keep steps (after_call answer_of after step.call step.places l) ∙ call_keeps step.call step.places l
