-- A run is over once the line has been silent for the gap.
use Rattle.osdp_bus_laws.proofs.Common.{◌≡◌, ◌∙◌, ap, subst, ℕ, ◌≤◌, true, false, max, [], ◌∷◌, Option, Some, None, refl, if◌then◌else◌, items, items_nothing, BusFault, BusState, has_report, holder, is_silent, seen, holds, ends_run, ends_silent, hears_bytes, hears_items, after_begin_at, begin_refusal_at, changed_unless, bus_ticks, stays, ticks_by, ticks_free, ticks_on, IsFound, found, either_way, Call, Begin, OnBytes, OnSilence, Tick, after_call}
use Rattle.osdp_frame_laws.proofs.Silences.{change_of, changes_at_gap}
use Rattle.osdp_bus_laws.specs.Silences.{BringsNoByte, Changes, BusEndsItsRuns}
use Rattle.osdp_bus_laws.proofs.Sound.{IsNobody, SoundBus, nobody, still_nobody}
use Rattle.osdp_bus_laws.proofs.Staying.{stays_begin, stays_call, stays_silent, stays_tick}

-- ---- the moment of the last bytes

last_begun : (f : Option BusFault) (entry now : ℕ) (b : BusState) → (changed_unless f b (after_begin_at entry now b)).last ≡ b.last
last_begun None entry now b = (stays_begin entry now b).last
last_begun (Some fault) entry now b = refl

kept_call : (call : Call) (b : BusState) → BringsNoByte call → (after_call call b).last ≡ b.last
kept_call (Begin entry now) b none = last_begun (begin_refusal_at entry b) entry now b
kept_call (OnBytes [] now) b none = refl
kept_call (OnBytes (byte ∷ bytes) now) b none = absurd (none byte now bytes refl)
kept_call (OnSilence now) b none = refl
kept_call (Tick now) b none = (stays_tick now b).last
kept_call call b none = (stays_call call b tt).last

-- ---- within the gap and past it

ends_by_gap : (now : ℕ) (b : BusState) → 1 ≤ b.config.gap → Changes now b (ends_silent (seen now b)) (seen now b) (ends_run (seen now b))
ends_by_gap now b some = changes_at_gap b.config.gap b.last (max b.greatest now) (seen now b) (ends_run (seen now b)) some

-- what comes of the bus whose silent run has ended
by_gap : {A : Type 0} (f : BusState → A) (now : ℕ) (b : BusState) (so : A) → 1 ≤ b.config.gap → so ≡ f (ends_silent (seen now b))
    → Changes now b so (f (seen now b)) (f (ends_run (seen now b)))
by_gap f now b so some is =
    change_of f b.config.gap b.last (max b.greatest now) (ends_silent (seen now b)) (seen now b) (ends_run (seen now b)) so is (ends_by_gap now b some)

ticks_unless : (now : ℕ) (b : BusState) → has_report b ≡ false → bus_ticks now b ≡ ticks_on (ends_silent (seen now b))
ticks_unless now b none = ap (λ t. if t then stays (seen now b) else ticks_on (ends_silent (seen now b))) none

-- ---- a line that nobody holds

none_holds : (b : BusState) → IsNobody b.devices → holder b ≡ None
none_holds b free = by_found (holder b) refl
  where
    by_found : (o : Option ℕ) → holder b ≡ o → holder b ≡ None
    by_found None h = h
    by_found (Some n) h =
        let here = subst (IsFound holds 0 b.devices.entries) h (found holds 0 b.devices.entries) in
        absurd (free here.0 here.1.0 here.1.1.1 here.1.1.2)

-- nothing is left of a run that is over
over_once : (b : BusState) → ends_run (ends_run b) ≡ ends_run b
over_once b =
    let r = ends_run b in
    ap (λ parts. record r { devices = hears_items r.greatest parts r.devices; held = [] }) (items_nothing true)

free_either : (b : BusState) → holder b ≡ None → ticks_on (ends_silent b) ≡ ticks_free (ends_run b)
free_either b none = either_way (λ e. ticks_on e ≡ ticks_free (ends_run b)) (is_silent b) (ends_run b) b
    (λ h. ap (λ o. ticks_by o (ends_run b)) (none_holds (ends_run b) (still_nobody b.greatest (items true b.held) b.devices (nobody b none)))
    ∙ ap ticks_free (over_once b))
    (λ h. ap (λ o. ticks_by o b) none)

pub bus_ends_its_runs : (b : BusState) → SoundBus b → BusEndsItsRuns b
bus_ends_its_runs b is = record {
  came = λ byte now bytes. (stays_silent (seen now b)).greatest;
  kept = λ call none. kept_call call b none;
  bytes = λ byte now bytes. by_gap (hears_bytes (byte ∷ bytes)) now b _ is.config.gap.0 refl;
  ticks = λ now none. by_gap ticks_on now b _ is.config.gap.0 (ticks_unless now b none);
  at_once = λ now none free. ticks_unless now b none ∙ free_either (seen now b) free;
}
