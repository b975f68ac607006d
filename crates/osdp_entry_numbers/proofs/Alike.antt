-- Buses whose controllers differ by the greatest moment that they have seen alone do and tell the same at each call.
use Rattle.osdp_entry_numbers.proofs.Common.{◌≡◌, ◌+◌, ℕ, Bool, true, false, cond, not, ◌&&◌, ◌||◌, max, List, [], ◌++◌, Option, Some, None, refl, sym, subst, ap, ◌∙◌, arith, is_some, option_map, option_map_or, Packet, Report, BusState, Devices, device_of, has_report, holder, is_silent, seen, waiting_after, entry_ticks, holds, is_entry_due, step_of, hears_items, hears_bytes, ends_run, ends_silent, Entry, BusTicked, asks_free, asks_holder, bus_ticks, is_due_at, is_held_and_due, next_due, stays, ticks_at, ticks_by, ticks_free, ticks_held, ticks_on, ticks_with, told_at, told_by_device, told_by_end, told_by_holder, told_by_items, told_by_silence, told_by_tick, told_by_ticking, items, RunItem}
use Rattle.std.specs.Prelude.{◌≤◌}
use Rattle.osdp_time_laws.proofs.Ends.{tick_at_moment}
use Rattle.osdp_entry_numbers.specs.Numbers.{as_seen}
use Rattle.osdp_entry_numbers.proofs.Raised.{AreAlike, IsReached, alike_items, around_raised, caught_up, due_same, first_raised, all_reached, get_raised, raise_twice, raised, raised_reached, set_reached, set_twice, step_same, ticks_same}

-- the buses are the same as if each controller had seen what its bus has
pub record Alike (b c : BusState) : Type 0 where
  pub same : caught_up b ≡ caught_up c
  pub here : IsReached b.greatest b.devices
  pub there : IsReached c.greatest c.devices

pub alike_itself : (b : BusState) → IsReached b.greatest b.devices → Alike b b
alike_itself b reached = record { same = refl; here = reached; there = reached }

pub one_after : (b c d : BusState) → Alike b c → Alike c d → Alike b d
one_after b c d a e = record { same = a.same ∙ e.same; here = a.here; there = e.there }

pub with_itself : (b : BusState) → IsReached b.greatest b.devices → Alike b (caught_up b)
with_itself b reached = record {
  same = (λ i. record b { devices = record b.devices { entries = sym (raise_twice b.greatest b.greatest b.devices.entries) i } });
  here = reached;
  there = raised_reached b.greatest b.devices;
}

-- what is seen of a bus, where the moments of its controllers are nothing to it
pub observe : {A : Type 0} (f : BusState → A) → ((x : BusState) → IsReached x.greatest x.devices → f (caught_up x) ≡ f x) → (b c : BusState) → Alike b c → f b ≡ f c
observe f blind b c a = sym (blind b a.here) ∙ ap f a.same ∙ blind c a.there

-- what a bus becomes
pub becomes : (F : BusState → BusState) → ((x : BusState) → IsReached x.greatest x.devices → caught_up (F (caught_up x)) ≡ caught_up (F x))
    → ((x : BusState) → IsReached x.greatest x.devices → IsReached (F x).greatest (F x).devices) → (b c : BusState) → Alike b c → Alike (F b) (F c)
becomes F blind keeps b c a = record {
  same = sym (blind b a.here) ∙ ap (λ x. caught_up (F x)) a.same ∙ blind c a.there;
  here = keeps b a.here;
  there = keeps c a.there;
}

-- .. by either of two, as something tells that is the same of both
chosen : (x y : Bool) (b c d e : BusState) → x ≡ y → Alike b d → Alike c e → Alike (cond x b c) (cond y d e)
chosen x y b c d e same one other = subst (λ z. Alike (cond x b c) (cond z d e)) same (by_test x)
  where
    by_test : (x : Bool) → Alike (cond x b c) (cond x d e)
    by_test true = one
    by_test false = other

-- ---- what is seen

same_reports : (b c : BusState) → Alike b c → b.devices.report ≡ c.devices.report
same_reports = observe (λ x. x.devices.report) (λ x reached. refl)

pub waits_same : (b c : BusState) → Alike b c → has_report b ≡ has_report c
waits_same b c a = ap (λ (o : Option (ℕ × Report)). is_some o) (same_reports b c a)

silent_same : (b c : BusState) → Alike b c → is_silent b ≡ is_silent c
silent_same = observe is_silent (λ x reached. refl)

pub greatest_same : (b c : BusState) → Alike b c → b.greatest ≡ c.greatest
greatest_same = observe (λ x. x.greatest) (λ x reached. refl)

held_same : (b c : BusState) → Alike b c → b.held ≡ c.held
held_same = observe (λ x. x.held) (λ x reached. refl)

pub holder_same : (b c : BusState) → Alike b c → holder b ≡ holder c
holder_same = observe holder (λ x reached. first_raised holds x.greatest 0 x.devices.entries (all_reached x.greatest x.devices.entries reached) (λ d le. refl))

pub next_same : (b c : BusState) → Alike b c → next_due b ≡ next_due c
next_same = observe next_due (λ x reached.
    around_raised (is_entry_due x.greatest) x.greatest x.first x.devices.entries (all_reached x.greatest x.devices.entries reached) (due_same x.greatest))

-- of one entry
pub at_entry : {A : Type 0} (k : ℕ) (f : ℕ → Option Entry → A) → ((m : ℕ) (d : Entry) → d.controller.session.greatest ≤ m → f m (Some (as_seen m d)) ≡ f m (Some d))
    → (b c : BusState) → Alike b c → f b.greatest (device_of k b) ≡ f c.greatest (device_of k c)
at_entry {A} k f blind = observe (λ x. f x.greatest (device_of k x)) (λ x reached.
    ap (f x.greatest) (get_raised x.greatest x.devices.entries k) ∙ by_entry x (device_of k x) refl reached)
  where
    by_entry : (x : BusState) (o : Option Entry) → device_of k x ≡ o → IsReached x.greatest x.devices → f x.greatest (option_map (as_seen x.greatest) o) ≡ f x.greatest o
    by_entry x None at reached = refl
    by_entry x (Some d) at reached = blind x.greatest d (reached k d at)

pub due_at_same : (k : ℕ) (b c : BusState) → Alike b c → is_due_at k b ≡ is_due_at k c
due_at_same k = at_entry k (λ m o. option_map_or (is_entry_due m) o false) due_same

pub held_due_same : (k : ℕ) (b c : BusState) → Alike b c → is_held_and_due k b ≡ is_held_and_due k c
held_due_same k b c a = (λ i. at_entry k (λ m o. option_map_or holds o false) (λ m d le. refl) b c a i && due_at_same k b c a i)

pub entry_same : (k : ℕ) (b c : BusState) → Alike b c → is_some (device_of k b) ≡ is_some (device_of k c)
entry_same k = at_entry k (λ m o. is_some o) (λ m d le. refl)

-- ---- moments and runs

pub seen_alike : (now : ℕ) (b c : BusState) → Alike b c → Alike (seen now b) (seen now c)
seen_alike now = becomes (seen now)
    (λ x reached i. record (seen now x) { devices = record x.devices { entries = raise_twice (max x.greatest now) x.greatest x.devices.entries i } })
    (λ x reached i d at. let le = reached i d at in omega (arith, le))

pub of_bus : (b c : BusState) (a : Alike b c) → AreAlike b.greatest b.devices (record c.devices { entries = c.devices.entries })
of_bus b c a = record {
  same = ap (λ (x : BusState). x.devices) a.same ∙ (λ i. raised (sym (greatest_same b c a) i) c.devices);
  here = a.here;
  there = λ i d at. let le = a.there i d at in let same = greatest_same b c a in omega (arith, le, same);
}

-- a bus with other devices, which have seen no later moment than it
pub with_devices : (b c : BusState) (ds es : Devices) → Alike b c → AreAlike b.greatest ds es → Alike (record b { devices = ds }) (record c { devices = es })
with_devices b c ds es a x = record {
  same = (λ i. record (a.same i) { devices = x.same i }) ∙ (λ i. record c { devices = raised (greatest_same b c a i) es });
  here = x.here;
  there = λ i d at. let le = x.there i d at in let same = greatest_same b c a in omega (arith, le, same);
}

items_alike : (parts : List RunItem) (b c : BusState) → Alike b c
    → Alike (record b { devices = hears_items b.greatest parts b.devices }) (record c { devices = hears_items c.greatest parts c.devices })
    × (told_by_items b.greatest parts b.devices ≡ told_by_items c.greatest parts c.devices)
items_alike parts b c a =
    let x = alike_items b.greatest parts b.devices c.devices (of_bus b c a) in
    let same = greatest_same b c a in
    subst (λ (g : ℕ). Alike (record b { devices = hears_items b.greatest parts b.devices }) (record c { devices = hears_items g parts c.devices })
    × (told_by_items b.greatest parts b.devices ≡ told_by_items g parts c.devices)) same
    (with_devices b c (hears_items b.greatest parts b.devices) (hears_items b.greatest parts c.devices) a x.0, x.1)

-- held, and the moment of the last bytes, are no controller's
other_bytes : (b c : BusState) (old : List ℕ) (last : ℕ) → Alike b c → Alike (record b { held = old; last = last }) (record c { held = old; last = last })
other_bytes b c old last = becomes (λ x. record x { held = old; last = last }) (λ x reached i.
    record x { held = old; last = last; devices = record x.devices { entries = raise_twice x.greatest x.greatest x.devices.entries i } }) (λ x reached. reached) b c

last_same : (b c : BusState) → Alike b c → b.last ≡ c.last
last_same = observe (λ x. x.last) (λ x reached. refl)

pub run_alike : (b c : BusState) → Alike b c → Alike (ends_run b) (ends_run c) × (told_by_end b ≡ told_by_end c)
run_alike b c a =
    let parts = items true b.held in
    let x = items_alike parts b c a in
    let last = other_bytes (record b { devices = hears_items b.greatest parts b.devices }) (record c { devices = hears_items c.greatest parts c.devices }) [] b.last x.0 in
    let held = held_same b c a in (
      subst (λ (p : List ℕ × ℕ). Alike (ends_run b) (record c { devices = hears_items c.greatest (items true p.0) c.devices; held = []; last = p.1 }))
          (λ i. (held i, last_same b c a i)) last,
      x.1 ∙ ap (λ hs. told_by_items c.greatest (items true hs) c.devices) held,
    )

pub silence_alike : (b c : BusState) → Alike b c → Alike (ends_silent b) (ends_silent c) × (told_by_silence b ≡ told_by_silence c)
silence_alike b c a =
    let run = run_alike b c a in (
      chosen (is_silent b) (is_silent c) (ends_run b) b (ends_run c) c (silent_same b c a) run.0 a,
      (λ i. cond (silent_same b c a i) (run.1 i) []),
    )

pub bytes_alike : (given : List ℕ) (b c : BusState) → Alike b c
    → Alike (hears_bytes given b) (hears_bytes given c) × (told_by_items b.greatest (items false (b.held ++ given)) b.devices ≡ told_by_items c.greatest (items false (c.held ++ given)) c.devices)
bytes_alike given b c a =
    let parts = items false (b.held ++ given) in
    let x = items_alike parts b c a in
    let left = (hears_bytes given b).held in
    let more = other_bytes (record b { devices = hears_items b.greatest parts b.devices }) (record c { devices = hears_items c.greatest parts c.devices }) left b.greatest x.0 in
    let held = held_same b c a in (
      subst (λ (p : List ℕ × ℕ). Alike (hears_bytes given b) (record (hears_bytes given (record c { held = p.0 })) { last = p.1 }))
          (λ i. (held i, greatest_same b c a i)) more,
      x.1 ∙ ap (λ hs. told_by_items c.greatest (items false (hs ++ given)) c.devices) held,
    )

-- ---- a tick

pub record AlikeTicked (t u : BusTicked) : Type 0 where
  pub buses : Alike t.bus u.bus
  pub sent : t.sent ≡ u.sent

ticked_reached : (m : ℕ) (d : Entry) → d.controller.session.greatest ≤ m → (entry_ticks m d).controller.session.greatest ≤ m
ticked_reached m d le = let is = tick_at_moment m d.controller in omega (arith, is, le)

-- the controller of an entry ticks
at_alike : (k : ℕ) (b c : BusState) → Alike b c → Alike (ticks_at (Some k) b).bus (ticks_at (Some k) c).bus
at_alike k = becomes (λ x. (ticks_at (Some k) x).bus) blind keeps
  where
    blind : (x : BusState) → IsReached x.greatest x.devices → caught_up (ticks_at (Some k) (caught_up x)).bus ≡ caught_up (ticks_at (Some k) x).bus
    blind x reached =
        ap (λ q. caught_up (ticks_with k q (caught_up x)).bus) (get_raised x.greatest x.devices.entries k) ∙ by_entry (device_of k x) refl
      where
        by_entry : (q : Option Entry) → device_of k x ≡ q → caught_up (ticks_with k (option_map (as_seen x.greatest) q) (caught_up x)).bus ≡ caught_up (ticks_with k q x).bus
        by_entry None at i = record x { devices = record x.devices { entries = raise_twice x.greatest x.greatest x.devices.entries i } }
        by_entry (Some d) at i =
            let m = x.greatest in
            let le = reached k d at in
            record x {
              devices = record {
                entries = set_twice m x.devices.entries k (entry_ticks m (as_seen m d)) (entry_ticks m d) (ap (as_seen m) (ticks_same m d le)) i;
                report = waiting_after k (step_same m d le i).report x.devices.report;
              };
              first = k + 1;
            }

    keeps : (x : BusState) → IsReached x.greatest x.devices → IsReached (ticks_at (Some k) x).bus.greatest (ticks_at (Some k) x).bus.devices
    keeps x reached = by_entry (device_of k x) refl
      where
        by_entry : (q : Option Entry) → device_of k x ≡ q → IsReached (ticks_with k q x).bus.greatest (ticks_with k q x).bus.devices
        by_entry None at = reached
        by_entry (Some d) at = set_reached x.greatest x.devices.entries k (entry_ticks x.greatest d) (ticked_reached x.greatest d (reached k d at)) reached

-- what is asked of one that ticks
abbrev sent_of : ℕ → Option Entry → Option Packet
sent_of m None = None
sent_of m (Some d) = (step_of m d).frame

abbrev told_of_it : ℕ → ℕ → Option Entry → List (ℕ × Report)
told_of_it k m None = []
told_of_it k m (Some d) = told_at k (step_of m d).report

ticking_alike : (o : Option ℕ) (b c : BusState) → Alike b c → AlikeTicked (ticks_at o b) (ticks_at o c) × (told_by_ticking o b ≡ told_by_ticking o c)
ticking_alike None b c a = (record { buses = a; sent = refl }, refl)
ticking_alike (Some k) b c a = (
  record {
    buses = at_alike k b c a;
    sent = sent_is b (device_of k b) ∙ at_entry k sent_of (λ m d le. ap (λ (s : Rattle.osdp_controller.specs.Ticking.Step). s.frame) (step_same m d le)) b c a
        ∙ sym (sent_is c (device_of k c));
  },
  told_is b (device_of k b) ∙ at_entry k (told_of_it k) (λ m d le. ap (λ (s : Rattle.osdp_controller.specs.Ticking.Step). told_at k s.report) (step_same m d le)) b c a
      ∙ sym (told_is c (device_of k c)),
)
  where
    sent_is : (x : BusState) (q : Option Entry) → (ticks_with k q x).sent ≡ sent_of x.greatest q
    sent_is x None = refl
    sent_is x (Some d) = refl

    told_is : (x : BusState) (q : Option Entry) → told_by_device k q x ≡ told_of_it k x.greatest q
    told_is x None = refl
    told_is x (Some d) = refl

stays_alike : (b c : BusState) → Alike b c → AlikeTicked (stays b) (stays c)
stays_alike b c a = record { buses = a; sent = refl }

abbrev pub TicksAlike : BusTicked → BusTicked → List (ℕ × Report) → List (ℕ × Report) → Type 0
TicksAlike t u told also = AlikeTicked t u × (told ≡ also)

-- nobody holds the line
free_alike : (b c : BusState) → Alike b c
    → TicksAlike (ticks_free b) (ticks_free c) (asks_free [] (λ k. told_by_ticking k b) b) (asks_free [] (λ k. told_by_ticking k c) c)
free_alike b c a =
    subst (λ (p : Bool × Option ℕ). TicksAlike (ticks_free b) (cond p.0 (stays c) (ticks_at p.1 c)) (asks_free [] (λ k. told_by_ticking k b) b) (cond p.0 [] (told_by_ticking p.1 c)))
    (λ i. (waits_same b c a i, next_same b c a i)) (by_test (has_report b))
  where
    by_test : (x : Bool) → TicksAlike (cond x (stays b) (ticks_at (next_due b) b)) (cond x (stays c) (ticks_at (next_due b) c))
        (cond x [] (told_by_ticking (next_due b) b)) (cond x [] (told_by_ticking (next_due b) c))
    by_test true = (stays_alike b c a, refl)
    by_test false = ticking_alike (next_due b) b c a

-- an entry holds it
held_alike : (k : ℕ) (b c : BusState) → Alike b c
    → TicksAlike (ticks_held k b) (ticks_held k c) (asks_holder [] (λ o. told_by_ticking o b) k b) (asks_holder [] (λ o. told_by_ticking o c) k c)
held_alike k b c a =
    subst (λ x. TicksAlike (ticks_held k b) (cond x (stays c) (ticks_at (Some k) c)) (asks_holder [] (λ o. told_by_ticking o b) k b) (cond x [] (told_by_ticking (Some k) c)))
    (λ i. waits_same b c a i || not (held_due_same k b c a i)) (by_test (has_report b || not (is_held_and_due k b)))
  where
    by_test : (x : Bool) → TicksAlike (cond x (stays b) (ticks_at (Some k) b)) (cond x (stays c) (ticks_at (Some k) c))
        (cond x [] (told_by_ticking (Some k) b)) (cond x [] (told_by_ticking (Some k) c))
    by_test true = (stays_alike b c a, refl)
    by_test false = ticking_alike (Some k) b c a

by_holder_alike : (o : Option ℕ) (b c : BusState) → Alike b c → TicksAlike (ticks_by o b) (ticks_by o c) (told_by_holder o b) (told_by_holder o c)
by_holder_alike None b c a =
    let run = run_alike b c a in
    let x = free_alike (ends_run b) (ends_run c) run.0 in
    (x.0, λ i. run.1 i ++ x.1 i)
by_holder_alike (Some k) b c a =
    subst (λ x. TicksAlike (ticks_by (Some k) b) (cond x (ticks_held k (ends_run c)) (stays c)) (told_by_holder (Some k) b)
    (cond x (told_by_end c ++ asks_holder [] (λ o. told_by_ticking o (ends_run c)) k (ends_run c)) [])) (due_at_same k b c a) (by_test (is_due_at k b))
  where
    by_test : (x : Bool) → TicksAlike (cond x (ticks_held k (ends_run b)) (stays b)) (cond x (ticks_held k (ends_run c)) (stays c))
        (cond x (told_by_end b ++ asks_holder [] (λ o. told_by_ticking o (ends_run b)) k (ends_run b)) [])
        (cond x (told_by_end c ++ asks_holder [] (λ o. told_by_ticking o (ends_run c)) k (ends_run c)) [])
    by_test true =
        let run = run_alike b c a in
        let x = held_alike k (ends_run b) (ends_run c) run.0 in
        (x.0, λ i. run.1 i ++ x.1 i)
    by_test false = (stays_alike b c a, refl)

on_alike : (b c : BusState) → Alike b c → TicksAlike (ticks_on b) (ticks_on c) (told_by_holder (holder b) b) (told_by_holder (holder c) c)
on_alike b c a =
    subst (λ o. TicksAlike (ticks_on b) (ticks_by o c) (told_by_holder (holder b) b) (told_by_holder o c)) (holder_same b c a) (by_holder_alike (holder b) b c a)

pub tick_alike : (now : ℕ) (b c : BusState) → Alike b c → TicksAlike (bus_ticks now b) (bus_ticks now c) (told_by_tick now b) (told_by_tick now c)
tick_alike now b c a =
    subst (λ x. TicksAlike (bus_ticks now b) (cond x (stays (seen now c)) (ticks_on (ends_silent (seen now c)))) (told_by_tick now b)
    (cond x [] (told_by_silence (seen now c) ++ told_by_holder (holder (ends_silent (seen now c))) (ends_silent (seen now c))))) (waits_same b c a) (by_test (has_report b))
  where
    late : Alike (seen now b) (seen now c)
    late = seen_alike now b c a

    by_test : (x : Bool) → TicksAlike (cond x (stays (seen now b)) (ticks_on (ends_silent (seen now b)))) (cond x (stays (seen now c)) (ticks_on (ends_silent (seen now c))))
        (cond x [] (told_by_silence (seen now b) ++ told_by_holder (holder (ends_silent (seen now b))) (ends_silent (seen now b))))
        (cond x [] (told_by_silence (seen now c) ++ told_by_holder (holder (ends_silent (seen now c))) (ends_silent (seen now c))))
    by_test true = (stays_alike (seen now b) (seen now c) late, refl)
    by_test false =
        let quiet = silence_alike (seen now b) (seen now c) late in
        let x = on_alike (ends_silent (seen now b)) (ends_silent (seen now c)) quiet.0 in
        (x.0, λ i. quiet.1 i ++ x.1 i)
