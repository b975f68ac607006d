-- A panel that is new, with our entries first and in its own order, one entry more, and what both show.
use Rattle.osdp_entry_numbers.proofs.Common.{◌≡◌, ◌≢◌, ℕ, inl, inr, arith, ◌++◌, eqb_tells, holds, Sound, is_some, zero, suc, List, [], ◌∷◌, map, slice_get, Option, Some, None, refl, sym, subst, ap, ◌∙◌, option_map, BusState, Devices, seen, new_device, Remembered, BusConfig, Entry, told_in, always, SoundBus, sound_seen, outstanding_command, site_at, asked_at, bus_with, panel_restarts, AreNumbers, IsIdle, IsNewPanel, Numbers, renumbered, renumbers, turn_of, asked_in, own_restarts}
use Rattle.std.specs.Prelude.{◌≤◌, length}
use Rattle.osdp_bus_laws.specs.Addresses.{Names}
use Rattle.osdp_bus_laws.specs.Calls as bus
use Rattle.osdp_bus_laws.proofs.OneDevice.{IsDevice}
use Rattle.osdp_ledger.specs.Ledger as ledger
use Rattle.osdp_entry_numbers.specs.Numbers.{as_seen}
use Rattle.osdp_calls.proofs.Sayings.{adds_make_the_bus}
use Rattle.osdp_entry_numbers.proofs.Buses.{bytes_same, end_same, like, tick_same}
use Rattle.osdp_entry_numbers.proofs.Entries.{AreUnder, IsUnder, LeftOut, Same}
use Rattle.osdp_entry_numbers.proofs.Hearing.{UnderDevices}
use Rattle.osdp_entry_numbers.proofs.Panels.{HasTurn}
use Rattle.osdp_entry_numbers.proofs.Raised.{IsReached, caught_up, get_raised, raised}

-- ---- a panel that is new

get_map : (f : ℕ → Entry) (xs : List ℕ) (i : ℕ) → slice_get (map f xs) i ≡ option_map f (site_at i xs)
get_map f [] i = refl
get_map f (x ∷ xs) zero = refl
get_map f (x ∷ xs) (suc i) = get_map f xs i

new_idle : (address : ℕ) (config : BusConfig) → IsIdle (new_device address config)
new_idle address config = record { closed = refl; waiting = refl; reserved = refl }

pub new_under : (config : BusConfig) (xs ys : List ℕ) (n : Numbers) → IsNewPanel config xs ys n → UnderDevices n (bus_with config xs).devices (bus_with config ys).devices
new_under config xs ys n new = record {
  entries = λ i. subst (λ (p : Option Entry × Option Entry). IsUnder p.0 p.1) (λ j. (sym (get_map f xs i) j, sym (get_map f ys (n.ordered i)) j))
      (by_address i (site_at i xs) (site_at (n.ordered i) ys) refl refl);
  report = refl;
}
  where
    f : ℕ → Entry
    f a = new_device a config

    by_address : (i : ℕ) (o q : Option ℕ) → site_at i xs ≡ o → site_at (n.ordered i) ys ≡ q → IsUnder (option_map f (site_at i xs)) (option_map f (site_at (n.ordered i) ys))
    by_address i (Some a) q at also = Same (ap (option_map f) (new.sorted i a at ∙ sym at))
    by_address i None None none also = Same (ap (option_map f) (also ∙ sym none))
    by_address i None (Some a) none also = LeftOut (new_device a config) (ap (option_map f) none) (ap (option_map f) also) (new_idle a config)

pub new_sound : (config : BusConfig) (xs ys : List ℕ) (n : Numbers) → IsNewPanel config xs ys n → SoundBus (bus_with config ys)
new_sound config xs ys n new = subst SoundBus (adds_make_the_bus config ys new.none_refused) (always config (map bus.Add ys) new.settings)

pub has_turn : (call : bus.Call) (n : Numbers) (b : BusState) (first : ℕ) → HasTurn n call (turn_of (option_map n.ordered (asked_in call b)) first) b
has_turn (bus.Tick now) n b first = λ k is. ap (λ o. turn_of (option_map n.ordered o) first) is
has_turn _ n b first = tt

-- .. and as if each controller had seen what its bus has
pub from_raised : (m : ℕ) (ds : List Entry) (i : ℕ) (d : Entry) → slice_get (map (as_seen m) ds) i ≡ Some d → (e : Entry) × (slice_get ds i ≡ Some e) × (as_seen m e ≡ d)
from_raised m ds i d at = by_entry (slice_get ds i) refl (sym (get_raised m ds i) ∙ at)
  where
    by_entry : (o : Option Entry) → slice_get ds i ≡ o → option_map (as_seen m) o ≡ Some d → (e : Entry) × (slice_get ds i ≡ Some e) × (as_seen m e ≡ d)
    by_entry None here is = absurd (let e = is in cc)
    by_entry (Some e) here is = (e, here, cc)

pub sound_caught : (b : BusState) → SoundBus b → SoundBus (caught_up b)
sound_caught b sound = record {
  config = sound.config;
  devices = record {
    devices = λ i d at. let x = from_raised b.greatest b.devices.entries i d at in subst IsDevice x.2 (device x.0 (its.devices i x.0 x.1));
    apart = λ a i j d e at there one other.
        let x = from_raised b.greatest b.devices.entries i d at in
        let y = from_raised b.greatest b.devices.entries j e there in
        its.apart a i j x.0 y.0 x.1 y.1 (subst (Names a) (sym x.2) one) (subst (Names a) (sym y.2) other);
    one = λ i j d e at there one other.
        let x = from_raised b.greatest b.devices.entries i d at in
        let y = from_raised b.greatest b.devices.entries j e there in
        its.one i j x.0 y.0 x.1 y.1 (ap holds x.2 ∙ one) (ap holds y.2 ∙ other);
    waits = λ waits i d at. let x = from_raised b.greatest b.devices.entries i d at in sym (ap holds x.2) ∙ its.waits waits i x.0 x.1;
  };
}
  where
    its : Sound b.devices
    its = sound.devices

    device : (e : Entry) → IsDevice e → IsDevice (as_seen b.greatest e)
    device e is = record {
      machine = record {
        session = record { config = is.machine.session.config; state = is.machine.session.state; opening = is.machine.session.opening };
        capacity = is.machine.capacity;
        waiting = is.machine.waiting;
        room = is.machine.room;
      };
      reserves = is.reserves;
    }

pub raised_under : (n : Numbers) (m : ℕ) (ds es : Devices) → UnderDevices n ds es → UnderDevices n (raised m ds) (raised m es)
raised_under n m ds es u = record {
  entries = λ i. subst (λ (p : Option Entry × Option Entry). IsUnder p.0 p.1)
      (λ j. (sym (get_raised m ds.entries i) j, sym (get_raised m es.entries (n.ordered i)) j)) (by_entry (slice_get ds.entries i) (slice_get es.entries (n.ordered i)) (u.entries i));
  report = u.report;
}
  where
    by_entry : (o q : Option Entry) → IsUnder o q → IsUnder (option_map (as_seen m) o) (option_map (as_seen m) q)
    by_entry o q (Same is) = Same (ap (option_map (as_seen m)) is)
    by_entry o q (LeftOut g none there idle) =
        LeftOut (as_seen m g) (ap (option_map (as_seen m)) none) (ap (option_map (as_seen m)) there) (record { closed = idle.closed; waiting = idle.waiting; reserved = idle.reserved })

pub new_reached : (config : BusConfig) (xs : List ℕ) → IsReached 0 (bus_with config xs).devices
new_reached config xs i d at = by_address (site_at i xs) (sym (get_map (λ a. new_device a config) xs i) ∙ at)
  where
    by_address : (o : Option ℕ) → option_map (λ a. new_device a config) o ≡ Some d → d.controller.session.greatest ≤ 0
    by_address None is = absurd (let e = is in cc)
    by_address (Some a) is = let same : new_device a config ≡ d = cc in subst (λ (x : Entry). x.controller.session.greatest ≤ 0) same (omega arith)

-- a panel that loses power shows the same whatever moments its controllers have seen
pub raised_own : (m : ℕ) (o : Option Entry) → own_restarts (option_map (as_seen m) o) ≡ own_restarts o
raised_own m None = refl
raised_own m (Some d) = refl

-- ---- one more entry

last_here : (ds : List Entry) (d : Entry) → slice_get (ds ++ d ∷ []) (length ds) ≡ Some d
last_here [] d = refl
last_here (x ∷ ds) d = last_here ds d

last_other : (ds : List Entry) (d : Entry) (i : ℕ) → i ≢ length ds → slice_get (ds ++ d ∷ []) i ≡ slice_get ds i
last_other [] d zero other = absurd (other refl)
last_other [] d (suc i) other = refl
last_other (x ∷ ds) d zero other = refl
last_other (x ∷ ds) d (suc i) other = last_other ds d i (λ e. other (ap suc e))

pub added_under : (n : Numbers) (m : ℕ) (ds es : List Entry) (d : Entry) → AreUnder n (map (as_seen m) ds) es → slice_get es (n.ordered (length ds)) ≡ Some (as_seen m d)
    → AreUnder n (map (as_seen m) (ds ++ d ∷ [])) es
added_under n m ds es d all there i = elim (eqb_tells i (length ds)) [
  | inl equal ↦ Same (
      ap (λ j. slice_get es (n.ordered j)) equal.1 ∙ there
      ∙ sym (ap (slice_get (map (as_seen m) (ds ++ d ∷ []))) equal.1 ∙ get_raised m (ds ++ d ∷ []) (length ds) ∙ ap (option_map (as_seen m)) (last_here ds d)))
  | inr differs ↦
      subst (λ o. IsUnder o (slice_get es (n.ordered i)))
      (get_raised m ds i ∙ ap (option_map (as_seen m)) (sym (last_other ds d i differs.1)) ∙ sym (get_raised m (ds ++ d ∷ []) i)) (all i)
]

-- ---- what it tells, and what goes out

pub told_same : (call : bus.Call) (n : Numbers) (are : AreNumbers n) (b : BusState) (es : Devices) (first : ℕ) (ms : List Remembered)
    → SoundBus (like b es (turn_of (option_map n.ordered (asked_in call b)) first) ms) → UnderDevices n b.devices es
    → told_in (renumbered n.ordered call) (like b es (turn_of (option_map n.ordered (asked_in call b)) first) ms) ≡ map (renumbers n.ordered) (told_in call b)
told_same (bus.OnBytes bytes now) n are b es first ms sound u = (bytes_same n are ms first bytes now b es sound u).told
told_same (bus.OnSilence now) n are b es first ms sound u = (end_same n are ms first (seen now b) es (sound_seen now (like b es first ms) sound) u).told
told_same (bus.Tick now) n are b es first ms sound u =
    (tick_same n are ms (turn_of (option_map n.ordered (asked_at now b)) first) now b es sound u (has_turn (bus.Tick now) n b first)).told
told_same _ n are b es first ms sound u = refl

-- a panel that loses power shows the same of an entry and of an idle one in its place
pub restarts_same : (o q : Option Entry) (e : Entry) → q ≡ Some e → IsUnder o q → panel_restarts q ≡ own_restarts o
restarts_same o q e at (Same is) = ap panel_restarts is ∙ by_entry o (sym is ∙ at)
  where
    by_entry : (o : Option Entry) → o ≡ Some e → panel_restarts o ≡ own_restarts o
    by_entry None none = absurd (let x = none in cc)
    by_entry (Some d) some = refl
restarts_same o q e at (LeftOut g none there idle) =
    ap panel_restarts there ∙ ap (λ st. ledger.RestartPanel (is_some (outstanding_command st)) ∷ []) idle.closed ∙ sym (ap own_restarts none)

-- whose turn it is is nothing to what holds of its devices
pub sound_turned : (first : ℕ) (c : BusState) → SoundBus c → SoundBus (record c { first = first })
sound_turned first c sound = record { config = sound.config; devices = sound.devices }
