-- What holds of a bus over each schedule in which no session begins again: moments, ranges, and one exchange at most.
use Rattle.osdp_bus_progress.proofs.Common.{◌≡◌, ◌≤◌, ◌-◌, ℕ, zero, suc, Bool, true, false, if◌then◌else◌, List, [], ◌∷◌, ◌++◌, map, Option, Some, None, inl, inr, refl, sym, subst, ap, ◌∙◌, arith, slice_get, slice_set, option_map_or, items, packets_in, Packet, Command, new_machine, seen_at, Report, IsInRange, StaysInRange, longest_wait, Answer, entry_hears, entry_ticks, holds, after_bytes, ends_run, ends_silent, hears_bytes, hears_items, after_next_report, after_submit_at, entry_submits, submit_refusal_at, controller_config, BusTicked, bus_ticks, is_due_at, next_due, stays, ticks_at, ticks_by, ticks_free, ticks_held, ticks_on, ticks_with, BusConfig, Entry, BusFault, IsAt, replaced, HeldBefore, IsNobody, WereHeld, either_held, held_items, nobody, still_nobody, Each, handed, left, moment_after, SimStep, Given, LineState, begun_bus, begun_device, after_step, all_hear_each, hears_run, is_there, issued, report_told, IsInSession}
use Rattle.osdp_frame.specs.Reading.{RunItem}
use Rattle.osdp_controller.proofs.Choices.{either_way}
use Rattle.osdp_controller_laws.specs.Runs.{Begin, Hear, Tick}
use Rattle.osdp_bus.specs.Buses.{BusState, Devices, device_of, has_report, holder, is_silent, seen}
use Rattle.osdp_bus_laws.proofs.Hearing.{items_keep}
use Rattle.osdp_sim.specs.declared.step.SimStep.TheVariants as step
use Rattle.osdp_sim_bus.specs.Runs as simulation
use Rattle.osdp_sim_laws.proofs.Moments.{InTime, clock_on, hears_so, last_moment, tick_so}
use Rattle.osdp_bus_progress.proofs.Unmoved.{heard_bus, heard_clock, told_bus, told_clock}

-- ---- devices

-- at each place
abbrev pub AllAre : (Entry → Type 0) → List Entry → Type 0
AllAre P ds = (i : ℕ) (d : Entry) → slice_get ds i ≡ Some d → P d

set_all : (P : Entry → Type 0) (i : ℕ) (e : Entry) (ds : List Entry) → AllAre P ds → P e → AllAre P (slice_set ds i e)
set_all P i e ds all is j f at = by_place (replaced ds i e j f at)
  where
    by_place : IsAt ds i e j f → P f
    by_place (inl (here, same)) = subst P (sym same) is
    by_place (inr (other, was)) = all j f was

all_items : (P : Entry → Type 0) (now : ℕ) → ((p : Packet) (d : Entry) → P d → P (entry_hears p now d))
    → (parts : List RunItem) (ds : Devices) → AllAre P ds.entries → AllAre P (hears_items now parts ds).entries
all_items P now hears =
    items_keep now (λ (ds : Devices). AllAre P ds.entries) (λ p i d ds at all. set_all P i (entry_hears p now d) ds.entries all (hears p d (all i d at)))

-- ---- a bus at a moment

-- no moment lies after it, no wait is longer than this one, and the controller is in its ranges
pub record DeviceAt (wait clock : ℕ) (d : Entry) : Type 0 where
  pub time : InTime clock wait d.controller.session
  pub range : IsInRange d.controller.session

-- one exchange at most is outstanding
abbrev pub OneHolds : Devices → Type 0
OneHolds ds = (i j : ℕ) (d e : Entry) → slice_get ds.entries i ≡ Some d → slice_get ds.entries j ≡ Some e → holds d ≡ true → holds e ≡ true → i ≡ j

pub record BusAt (wait clock : ℕ) (b : BusState) : Type 0 where
  pub fits : clock ≤ last_moment
  pub greatest : b.greatest ≤ clock
  pub devices : AllAre (DeviceAt wait clock) b.devices.entries
  pub one : OneHolds b.devices

-- who holds the line held it before
still_one : (ds es : Devices) → WereHeld ds es → OneHolds ds → OneHolds es
still_one ds es were one i j d e at there h k = by_before (were i d at h) (were j e there k)
  where
    by_before : HeldBefore i ds → HeldBefore j ds → i ≡ j
    by_before (f, was, stands) (g, stood, too) = one i j f g was stood stands too

module _ (ranges : StaysInRange) (wait clock : ℕ) where
  hears_at_moment : (now : ℕ) → now ≤ clock → (p : Packet) (d : Entry) → DeviceAt wait clock d → DeviceAt wait clock (entry_hears p now d)
  hears_at_moment now before p d is =
      let time = is.time in
      record {
        time = hears_so clock wait p now d.controller.session (omega (arith, before, time.0), time.1);
        range = ranges.later d.controller (Hear p now ∷ []) is.range;
      }

  run_at : (b : BusState) → BusAt wait clock b → BusAt wait clock (ends_run b)
  run_at b is =
      let parts = items true b.held in
      record {
        fits = is.fits;
        greatest = is.greatest;
        devices = all_items (DeviceAt wait clock) b.greatest (hears_at_moment b.greatest is.greatest) parts b.devices is.devices;
        one = still_one b.devices (hears_items b.greatest parts b.devices) (held_items b.greatest parts b.devices) is.one;
      }

  silent_at : (b : BusState) → BusAt wait clock b → BusAt wait clock (ends_silent b)
  silent_at b is = either_way (BusAt wait clock) (is_silent b) (ends_run b) b (λ h. run_at b is) (λ h. is)

  seen_bus : (now : ℕ) (b : BusState) → now ≤ clock → BusAt wait clock b → BusAt wait clock (seen now b)
  seen_bus now b before is =
      let greatest = is.greatest in
      record { fits = is.fits; greatest = omega (arith, before, greatest); devices = is.devices; one = is.one }

  some_bytes : (bytes : List ℕ) (b : BusState) → BusAt wait clock b → BusAt wait clock (hears_bytes bytes b)
  some_bytes bytes b is =
      let parts = items false (b.held ++ bytes) in
      record {
        fits = is.fits;
        greatest = is.greatest;
        devices = all_items (DeviceAt wait clock) b.greatest (hears_at_moment b.greatest is.greatest) parts b.devices is.devices;
        one = still_one b.devices (hears_items b.greatest parts b.devices) (held_items b.greatest parts b.devices) is.one;
      }

  bytes_at : (bytes : List ℕ) (now : ℕ) (b : BusState) → now ≤ clock → BusAt wait clock b → BusAt wait clock (after_bytes bytes now b)
  bytes_at [] now b before is = seen_bus now b before is
  bytes_at (byte ∷ bytes) now b before is =
      some_bytes (byte ∷ bytes) (ends_silent (seen now b)) (silent_at (seen now b) (seen_bus now b before is))

  pub hears_run_at : (bytes : List ℕ) (now : ℕ) (b : BusState) → now ≤ clock → BusAt wait clock b → BusAt wait clock (hears_run bytes now b)
  hears_run_at [] now b before is = is
  hears_run_at (byte ∷ bytes) now b before is =
      let c = after_bytes (byte ∷ bytes) now b in run_at (seen now c) (seen_bus now c before (bytes_at (byte ∷ bytes) now b before is))

  pub report_at : (b : BusState) → BusAt wait clock b → BusAt wait clock (after_next_report b)
  report_at b is = record { fits = is.fits; greatest = is.greatest; devices = is.devices; one = is.one }

  -- ---- a tick

  abbrev TickAt : BusTicked → Type 0
  TickAt t = BusAt wait clock t.bus

  ticks_at_moment : (now : ℕ) (d : Entry) → now ≤ clock → DeviceAt wait clock d → DeviceAt wait clock (entry_ticks now d)
  ticks_at_moment now d before is =
      let s = d.controller.session in
      let time = is.time in
      record {
        time = tick_so clock wait s.state (seen_at now s) d.controller.waiting (omega (arith, before, time.0), time.1);
        range = ranges.later d.controller (Tick now ∷ []) is.range;
      }

  -- nobody else holds the line
  abbrev Alone : ℕ → Devices → Type 0
  Alone i ds = (j : ℕ) (f : Entry) → slice_get ds.entries j ≡ Some f → holds f ≡ true → j ≡ i

  one_set : (i : ℕ) (e : Entry) (ds : Devices) (more : Devices) → more.entries ≡ slice_set ds.entries i e → Alone i ds → OneHolds more
  one_set i e ds more is alone j k f g at there h too = here j f at h ∙ sym (here k g there too)
    where
      here : (j : ℕ) (f : Entry) → slice_get more.entries j ≡ Some f → holds f ≡ true → j ≡ i
      here j f at h = by_place (replaced ds.entries i e j f (sym (ap (λ l. slice_get l j) is) ∙ at))
        where
          by_place : IsAt ds.entries i e j f → j ≡ i
          by_place (inl (there, same)) = there
          by_place (inr (other, was)) = alone j f was h

  with_at : (i : ℕ) (o : Option Entry) (b : BusState) → device_of i b ≡ o → Alone i b.devices → BusAt wait clock b → TickAt (ticks_with i o b)
  with_at i None b at alone is = is
  with_at i (Some d) b at alone is =
      let next = (ticks_with i (Some d) b).bus.devices in
      record {
        fits = is.fits;
        greatest = is.greatest;
        devices = set_all (DeviceAt wait clock) i (entry_ticks b.greatest d) b.devices.entries is.devices
            (ticks_at_moment b.greatest d is.greatest (is.devices i d at));
        one = one_set i (entry_ticks b.greatest d) b.devices next refl alone;
      }

  one_at : (o : Option ℕ) (b : BusState) → ((i : ℕ) → o ≡ Some i → Alone i b.devices) → BusAt wait clock b → TickAt (ticks_at o b)
  one_at None b alone is = is
  one_at (Some i) b alone is = with_at i (device_of i b) b refl (alone i refl) is

  free_at : (b : BusState) → IsNobody b.devices → BusAt wait clock b → TickAt (ticks_free b)
  free_at b nobody is =
      either_way TickAt (has_report b) (stays b) (ticks_at (next_due b) b) (λ h. is)
      (λ none. one_at (next_due b) b (λ i e j f at h. absurd (nobody j f at h)) is)

  held_at : (entry : ℕ) (b : BusState) → BusAt wait clock b → TickAt (ticks_held entry b)
  held_at entry b is =
      either_held TickAt entry b is (λ none d at stands.
      with_at entry (device_of entry b) b refl (λ j f there h. is.one j entry f d there at h stands) is)

  by_at : (o : Option ℕ) (b : BusState) → holder b ≡ o → BusAt wait clock b → TickAt (ticks_by o b)
  by_at None b none is =
      free_at (ends_run b) (still_nobody b.greatest (items true b.held) b.devices (nobody b none)) (run_at b is)
  by_at (Some entry) b held is =
      either_way TickAt (is_due_at entry b) (ticks_held entry (ends_run b)) (stays b) (λ h. held_at entry (ends_run b) (run_at b is)) (λ h. is)

  tick_at : (now : ℕ) (b : BusState) → now ≤ clock → BusAt wait clock b → TickAt (bus_ticks now b)
  tick_at now b before is =
      let s = seen now b in
      either_way TickAt (has_report b) (stays s) (ticks_on (ends_silent s)) (λ h. seen_bus now b before is)
      (λ h. by_at (holder (ends_silent s)) (ends_silent s) refl (silent_at s (seen_bus now b before is)))

  -- ---- a command

  submits_with : (i : ℕ) (command : Command) (o : Option Entry) (b : BusState) → device_of i b ≡ o → BusAt wait clock b
      → BusAt wait clock (option_map_or (λ d. record b { devices = record b.devices { entries = slice_set b.devices.entries i (entry_submits command d) } }) o b)
  submits_with i command None b at is = is
  submits_with i command (Some d) b at is = record {
    fits = is.fits;
    greatest = is.greatest;
    devices = set_all (DeviceAt wait clock) i (entry_submits command d) b.devices.entries is.devices
        (let old = is.devices i d at in record { time = old.time; range = old.range });
    one = still_one b.devices (record b.devices { entries = slice_set b.devices.entries i (entry_submits command d) })
        (λ j f there h. by_place j f h (replaced b.devices.entries i (entry_submits command d) j f there)) is.one;
  }
    where
      by_place : (j : ℕ) (f : Entry) → holds f ≡ true → IsAt b.devices.entries i (entry_submits command d) j f → HeldBefore j b.devices
      by_place j f h (inl (here, same)) = (d, ap (slice_get b.devices.entries) here ∙ at, sym (ap holds same) ∙ h)
      by_place j f h (inr (other, was)) = (f, was, h)

  submits_at : (i : ℕ) (command : Command) (b : BusState) → BusAt wait clock b → BusAt wait clock (after_submit_at i command b)
  submits_at i command b is = submits_with i command (device_of i b) b refl is

-- later the same holds
later_at : (wait clock now : ℕ) (b : BusState) → clock ≤ now → now ≤ last_moment → BusAt wait clock b → BusAt wait now b
later_at wait clock now b on fits is =
    let greatest = is.greatest in
    record {
      fits = fits;
      greatest = omega (arith, greatest, on);
      devices = λ i d at. let old = is.devices i d at in let time = old.time in
          record { time = (omega (arith, time.0, on), time.1); range = old.range };
      one = is.one;
    }

-- ---- a schedule

module _ {H : Type 0} (answer_of : H → Command → Answer) (after : H → Command → H) (ranges : StaysInRange) (wait : ℕ) where
  abbrev pub LineAt : LineState H → Type 0
  LineAt s = BusAt wait s.clock s.bus

  where_at : (there : Bool) (s t : LineState H) → LineAt t → LineAt s → LineAt (if there then t else s)
  where_at true s t new old = new
  where_at false s t new old = old

  issued_at : (fault : Option BusFault) (place : ℕ) (command : Command) (s : LineState H) → LineAt s → LineAt (issued fault place command s)
  issued_at (Some fault) place command s is = is
  issued_at None place command s is = submits_at ranges wait s.clock place command s.bus is

  -- what changes neither the bus nor the moment
  still_at : (s t : LineState H) → t.bus ≡ s.bus → t.clock ≡ s.clock → LineAt s → LineAt t
  still_at s t bus clock is = subst (λ b. BusAt wait t.clock b) (sym bus) (subst (λ n. BusAt wait n s.bus) (sym clock) is)

  told_at : (o : Option (ℕ × Report)) (s : LineState H) → LineAt s → LineAt (report_told o s)
  told_at o s is = still_at s (report_told o s) (told_bus answer_of after o s) (told_clock answer_of after o s) is

  heard_at : (packets : List Packet) (s : LineState H) → LineAt s → LineAt (all_hear_each answer_of after packets s)
  heard_at packets s is =
      still_at s (all_hear_each answer_of after packets s) (heard_bus answer_of after packets s) (heard_clock answer_of after packets s) is

  pub step_at : (move : SimStep) (s : LineState H) → IsInSession move → LineAt s → LineAt (after_step answer_of after move s)
  step_at (step.Issue number command) s within is =
      where_at (is_there number s) s (issued (submit_refusal_at (number - 1) command s.bus) (number - 1) command s)
      (issued_at (submit_refusal_at (number - 1) command s.bus) (number - 1) command s is) is
  step_at (step.Queue number event) s within is = where_at (is_there number s) s _ is is
  step_at (step.Busy number busy) s within is = where_at (is_there number s) s _ is is
  step_at (step.Wait more) s within is =
      let now = moment_after more s.clock in
      let on = clock_on more s.clock is.fits in
      let t = (bus_ticks now s.bus).bus in
      told_at t.devices.report _ (report_at ranges wait now t (tick_at ranges wait now now s.bus (omega arith) (later_at wait s.clock now s.bus on.0 on.1 is)))
  step_at (step.ToReader move) s within is =
      heard_at (packets_in (handed move s.to_readers)) (record s { to_readers = left move s.to_readers }) is
  step_at (step.ToController move) s within is =
      let t = hears_run (handed move s.to_bus) s.clock s.bus in
      told_at t.devices.report _ (report_at ranges wait s.clock t (hears_run_at ranges wait s.clock (handed move s.to_bus) s.clock s.bus (omega arith) is))
  step_at (step.Reopen number) s within is = absurd within

  pub run_at_all : (steps : List SimStep) (s : LineState H) → Each IsInSession steps → LineAt s → LineAt (simulation.run answer_of after steps s)
  run_at_all [] s within is = is
  run_at_all (move ∷ steps) s within is = run_at_all steps (after_step answer_of after move s) within.1 (step_at move s within.0 is)

  -- ---- the beginning

  begun_at : (config : BusConfig) (given : Given H) → longest_wait (controller_config 0 config) ≤ wait → DeviceAt wait 0 (begun_device config given)
  begun_at config given long =
      let machine = controller_config given.0.address config in
      record {
        time = (omega arith, long);
        range = ranges.later (new_machine machine config.room.messages config.room.bytes) (Begin 0 ∷ []) (ranges.new machine config.room.messages config.room.bytes);
      }

  mapped : (config : BusConfig) (readers : List (Given H)) (P : Entry → Type 0) → ((given : Given H) → P (begun_device config given))
      → AllAre P (map (begun_device config) readers)
  mapped config [] P each i d at = absurd cc
  mapped config (given ∷ readers) P each zero d at = let same : begun_device config given ≡ d = cc in subst P same (each given)
  mapped config (given ∷ readers) P each (suc i) d at = mapped config readers P each i d at

  pub first_at : (config : BusConfig) (readers : List (Given H)) → longest_wait (controller_config 0 config) ≤ wait
      → BusAt wait 0 (begun_bus config readers)
  first_at config readers long =
      let free = mapped config readers (λ d. holds d ≡ false) (λ given. refl) in
      record {
        fits = omega arith;
        greatest = omega arith;
        devices = mapped config readers (DeviceAt wait 0) (λ given. begun_at config given long);
        one = λ i j d e at there h k. absurd (let not_held = free i d at in cc);
      }
