-- The orders of an entry that have no end yet, whatever comes from the line: one of which a report tells was in front, and leaves.
use Rattle.osdp_bus_laws.proofs.Common.{◌≡◌, ◌∙◌, ap, sym, ℕ, zero, suc, ◌+◌, ◌≤◌, Bool, true, false, ◌==◌, ◌||◌, List, [], ◌∷◌, ◌++◌, length, Option, Some, None, refl, arith, append_assoc, append-nil, eqb-true, if◌then◌else◌, is_some, not, option_to_list, slice_get, slice_set, items, Packet, RunItem, Command, Report, either_way, asked_by, asked_in, told_command, IsMachine, Entry, BusState, Devices, device_of, has_report, holder, is_silent, seen, waiting_after, entry_hears, entry_ticks, step_of, told_of, after_bytes, ends_run, ends_silent, hears_bytes, hears_items, hears_with, BusTicked, bus_ticks, is_due_at, is_held_and_due, next_due, stays, ticks_at, ticks_by, ticks_free, ticks_held, ticks_on, ticks_with}
use Rattle.std.proofs.lemmas.Bool.{eqb-false}
use Rattle.std.proofs.lemmas.List.{length-append}
use Rattle.std.specs.Prelude.{◌≢◌}
use Rattle.osdp_controller_laws.specs.Runs.{Tick, Hear, after_call}
use Rattle.osdp_controller_laws.proofs.InOrder.{commands_by_place}
use Rattle.osdp_bus_laws.proofs.Changing.{Sound}
use Rattle.osdp_bus_laws.proofs.Hearing.{items_keep}
use Rattle.osdp_bus_laws.proofs.OneDevice.{heard_told, pending}
use Rattle.osdp_bus_laws.proofs.Places.{is_false}
use Rattle.osdp_bus_laws.proofs.Sound.{SoundBus, sound_packet, sound_run, sound_seen, sound_silent}

-- the order that is on its way
abbrev pub out_of : Entry → List Command
out_of d = option_to_list (asked_in d.controller.session.state)

abbrev pub pending_in : Option Entry → List Command
pending_in None = []
pending_in (Some d) = pending d.controller

abbrev pub out_in : Option Entry → List Command
out_in None = []
out_in (Some d) = out_of d

abbrev pub room_in : Option Entry → ℕ
room_in None = 0
room_in (Some d) = d.controller.capacity

abbrev pub pending_at : ℕ → List Entry → List Command
pending_at k ds = pending_in (slice_get ds k)

abbrev pub out_at : ℕ → List Entry → List Command
out_at k ds = out_in (slice_get ds k)

abbrev pub room_at : ℕ → List Entry → ℕ
room_at k ds = room_in (slice_get ds k)

-- the command of which a report tells, where it tells of this entry
abbrev pub listed : Option Report → List Command
listed told = option_to_list (told_command told)

abbrev pub tells_at : ℕ → Option (ℕ × Report) → List Command
tells_at k None = []
tells_at k (Some (i, report)) = if i == k then listed (Some report) else []

-- ---- one device

-- a device that tells something, or nothing
pub record Goes (d e : Entry) (told : Option Report) : Type 0 where
  pub pending : pending d.controller ≡ listed told ++ pending e.controller
  pub out : length (out_of d) ≤ length (listed told) + length (out_of e)
  pub room : e.controller.capacity ≡ d.controller.capacity

told_first : (before ask tell after w rest : List Command) → (ask ++ []) ++ rest ≡ w ++ [] → before ++ (ask ++ []) ≡ (tell ++ []) ++ after
    → before ++ w ≡ tell ++ (after ++ rest)
told_first before ask tell after w rest waits tells =
    let waited : w ≡ ask ++ rest = sym (append-nil w) ∙ sym waits ∙ ap (λ l. l ++ rest) (append-nil ask) in
    let told : before ++ ask ≡ tell ++ after = ap (λ l. before ++ l) (sym (append-nil ask)) ∙ tells ∙ ap (λ l. l ++ after) (append-nil tell) in
    ap (λ l. before ++ l) waited ∙ sym (append_assoc before ask rest) ∙ ap (λ l. l ++ rest) told ∙ append_assoc tell after rest

out_first : (before ask tell after : List Command) → before ++ (ask ++ []) ≡ (tell ++ []) ++ after → length before ≤ length tell + length after
out_first before ask tell after tells =
    let told : before ++ ask ≡ tell ++ after = ap (λ l. before ++ l) (sym (append-nil ask)) ∙ tells ∙ ap (λ l. l ++ after) (append-nil tell) in
    let sizes : length (before ++ ask) ≡ length (tell ++ after) = ap length told in
    omega (arith, sizes, length-append before ask, length-append tell after)

pub heard_goes : (p : Packet) (now : ℕ) (d : Entry) → IsMachine d.controller → Goes d (entry_hears p now d) (told_of p now d)
heard_goes p now d is =
    let m = d.controller in
    let place = commands_by_place m (Hear p now ∷ []) is in
    record {
      pending = told_first (out_of d) [] (listed (told_of p now d)) (option_to_list (asked_in (after_call (Hear p now) m).session.state)) m.waiting m.waiting
          (sym (append-nil m.waiting)) place.told_once;
      out = out_first (out_of d) [] (listed (told_of p now d)) (option_to_list (asked_in (after_call (Hear p now) m).session.state)) place.told_once;
      room = refl;
    }

pub ticked_goes : (now : ℕ) (d : Entry) → IsMachine d.controller → Goes d (entry_ticks now d) (step_of now d).report
ticked_goes now d is =
    let m = d.controller in
    let place = commands_by_place m (Tick now ∷ []) is in
    let ask = option_to_list (asked_by (Tick now) m) in
    record {
      pending = told_first (out_of d) ask (listed (step_of now d).report) (option_to_list (asked_in (after_call (Tick now) m).session.state)) m.waiting
          (after_call (Tick now) m).waiting (ap (λ l. l ++ (after_call (Tick now) m).waiting) (sym (append-nil (ask ++ []))) ∙ place.left_once) place.told_once;
      out = out_first (out_of d) ask (listed (step_of now d).report) (option_to_list (asked_in (after_call (Tick now) m).session.state)) place.told_once;
      room = refl;
    }

-- ---- places

pub set_same : {A : Type 0} (xs : List A) (i : ℕ) (x y : A) → slice_get xs i ≡ Some x → slice_get (slice_set xs i y) i ≡ Some y
set_same [] i x y at = absurd cc
set_same (z ∷ xs) zero x y at = refl
set_same (z ∷ xs) (suc i) x y at = set_same xs i x y at

pub set_other : {A : Type 0} (xs : List A) (i k : ℕ) (y : A) → i ≢ k → slice_get (slice_set xs i y) k ≡ slice_get xs k
set_other [] i k y differ = refl
set_other (z ∷ xs) zero zero y differ = absurd (differ refl)
set_other (z ∷ xs) zero (suc k) y differ = refl
set_other (z ∷ xs) (suc i) zero y differ = refl
set_other (z ∷ xs) (suc i) (suc k) y differ = set_other xs i k y (λ same. differ (ap suc same))

pub set_count : {A : Type 0} (xs : List A) (i : ℕ) (y : A) → length (slice_set xs i y) ≡ length xs
set_count [] i y = refl
set_count (z ∷ xs) zero y = refl
set_count (z ∷ xs) (suc i) y = ap suc (set_count xs i y)

tells_here : (i k : ℕ) (told : Option Report) → (i == k) ≡ true → tells_at k (waiting_after i told None) ≡ listed told
tells_here i k None is = refl
tells_here i k (Some report) is = ap (λ b. if b then listed (Some report) else []) is

tells_none : (i k : ℕ) (told : Option Report) → (i == k) ≡ false → tells_at k (waiting_after i told None) ≡ []
tells_none i k None is = refl
tells_none i k (Some report) is = ap (λ b. if b then listed (Some report) else []) is

-- ---- all devices

module _ (k : ℕ) where
  -- while a report waits, nothing changes of what has no end
  pub record Leaves (ds es : Devices) : Type 0 where
    pub report : is_some ds.report ≡ true → es.report ≡ ds.report
    pub stays : is_some ds.report ≡ true → pending_at k es.entries ≡ pending_at k ds.entries
    pub arises : ds.report ≡ None → pending_at k ds.entries ≡ tells_at k es.report ++ pending_at k es.entries
    pub out_stays : is_some ds.report ≡ true → length (out_at k ds.entries) ≤ length (out_at k es.entries)
    pub out_arises : ds.report ≡ None → length (out_at k ds.entries) ≤ length (tells_at k es.report) + length (out_at k es.entries)
    pub room : room_at k es.entries ≡ room_at k ds.entries
    pub count : length es.entries ≡ length ds.entries

  pub same_leaves : (ds : Devices) → Leaves ds ds
  same_leaves ds = record {
    report = λ some. refl;
    stays = λ some. refl;
    arises = λ none. ap (λ o. tells_at k o ++ pending_at k ds.entries) (sym none);
    out_stays = λ some. omega arith;
    out_arises = λ none. omega arith;
    room = refl;
    count = refl;
  }

  pub leaves_on : (ds es fs : Devices) → Leaves ds es → Leaves es fs → Leaves ds fs
  leaves_on ds es fs first second = record {
    report = λ some. second.report (later some) ∙ first.report some;
    stays = λ some. second.stays (later some) ∙ first.stays some;
    arises = λ none. by_report none es.report refl;
    out_stays = λ some. let a = first.out_stays some in let b = second.out_stays (later some) in omega (arith, a, b);
    out_arises = λ none. out_by none es.report refl;
    room = second.room ∙ first.room;
    count = second.count ∙ first.count;
  }
    where
      later : is_some ds.report ≡ true → is_some es.report ≡ true
      later some = ap (λ (o : Option (ℕ × Report)). is_some o) (first.report some) ∙ some

      by_report : ds.report ≡ None → (o : Option (ℕ × Report)) → es.report ≡ o → pending_at k ds.entries ≡ tells_at k fs.report ++ pending_at k fs.entries
      by_report none None is = first.arises none ∙ ap (λ o. tells_at k o ++ pending_at k es.entries) is ∙ second.arises is
      by_report none (Some told) is =
          let some : is_some es.report ≡ true = ap (λ (o : Option (ℕ × Report)). is_some o) is in
          first.arises none ∙ ap (λ o. tells_at k o ++ pending_at k es.entries) (sym (second.report some))
          ∙ ap (λ l. tells_at k fs.report ++ l) (sym (second.stays some))

      out_by : ds.report ≡ None → (o : Option (ℕ × Report)) → es.report ≡ o
          → length (out_at k ds.entries) ≤ length (tells_at k fs.report) + length (out_at k fs.entries)
      out_by none None is =
          let a = first.out_arises none in
          let b = second.out_arises is in
          let c : length (tells_at k es.report) ≡ 0 = ap (λ o. length (tells_at k o)) is in
          omega (arith, a, b, c)
      out_by none (Some told) is =
          let some : is_some es.report ≡ true = ap (λ (o : Option (ℕ × Report)). is_some o) is in
          let a = first.out_arises none in
          let b = second.out_stays some in
          let c : length (tells_at k fs.report) ≡ length (tells_at k es.report) = ap (λ o. length (tells_at k o)) (second.report some) in
          omega (arith, a, b, c)

  -- a device of a place tells something, or nothing
  pub told_put : (ds : Devices) (i : ℕ) (d e : Entry) (told : Option Report) → slice_get ds.entries i ≡ Some d → Goes d e told
      → (is_some ds.report ≡ true → told ≡ None) → Leaves ds (record { entries = slice_set ds.entries i e; report = waiting_after i told ds.report })
  told_put ds i d e told at goes quiet = by_test (i == k) refl
    where
      by_test : (b : Bool) → (i == k) ≡ b → Leaves ds (record { entries = slice_set ds.entries i e; report = waiting_after i told ds.report })
      by_test true is =
          let same : i ≡ k = eqb-true i k is in
          let was : slice_get ds.entries k ≡ Some d = ap (slice_get ds.entries) (sym same) ∙ at in
          let now : slice_get (slice_set ds.entries i e) k ≡ Some e =
          ap (slice_get (slice_set ds.entries i e)) (sym same) ∙ set_same ds.entries i d e at in
          let silent : is_some ds.report ≡ true → listed told ≡ [] = λ some. ap listed (quiet some) in
          let tells : ds.report ≡ None → tells_at k (waiting_after i told ds.report) ≡ listed told =
          λ none. ap (λ o. tells_at k (waiting_after i told o)) none ∙ tells_here i k told is in
          let before : length (out_at k ds.entries) ≡ length (out_of d) = ap (λ o. length (out_in o)) was in
          let after : length (out_at k (slice_set ds.entries i e)) ≡ length (out_of e) = ap (λ o. length (out_in o)) now in
          let goes_out = goes.out in
          record {
            report = λ some. ap (λ t. waiting_after i t ds.report) (quiet some);
            stays = λ some. ap pending_in now ∙ sym (ap pending_in was ∙ goes.pending ∙ ap (λ l. l ++ pending e.controller) (silent some));
            arises = λ none.
                ap pending_in was ∙ goes.pending ∙ ap (λ l. l ++ pending e.controller) (sym (tells none))
                ∙ ap (λ o. tells_at k (waiting_after i told ds.report) ++ pending_in o) (sym now);
            out_stays = λ some. let none : length (listed told) ≡ 0 = ap length (silent some) in omega (arith, before, after, goes_out, none);
            out_arises = λ none. let sizes : length (tells_at k (waiting_after i told ds.report)) ≡ length (listed told) = ap length (tells none) in
                omega (arith, before, after, goes_out, sizes);
            room = ap room_in now ∙ goes.room ∙ sym (ap room_in was);
            count = set_count ds.entries i e;
          }
      by_test false is =
          let same : slice_get (slice_set ds.entries i e) k ≡ slice_get ds.entries k = set_other ds.entries i k e (eqb-false i k is) in
          let tells : ds.report ≡ None → tells_at k (waiting_after i told ds.report) ≡ [] =
          λ none. ap (λ o. tells_at k (waiting_after i told o)) none ∙ tells_none i k told is in
          let sizes : length (out_at k (slice_set ds.entries i e)) ≡ length (out_at k ds.entries) = ap (λ o. length (out_in o)) same in
          record {
            report = λ some. ap (λ t. waiting_after i t ds.report) (quiet some);
            stays = λ some. ap pending_in same;
            arises = λ none.
                ap (λ l. l ++ pending_at k ds.entries) (sym (tells none))
                ∙ ap (λ o. tells_at k (waiting_after i told ds.report) ++ pending_in o) (sym same);
            out_stays = λ some. omega (arith, sizes);
            out_arises = λ none. omega (arith, sizes);
            room = ap room_in same;
            count = set_count ds.entries i e;
          }

  -- ---- packets

  none_told : (told : Option Report) → is_some told ≡ false → told ≡ None
  none_told None h = refl
  none_told (Some report) h = cc

  -- the devices are sound, and follow those from before
  abbrev SoundlyLeaves : Devices → Devices → Type 0
  SoundlyLeaves first ds = Sound ds × Leaves first ds

  leaves_packet : (first : Devices) (now : ℕ) (p : Packet) (i : ℕ) (d : Entry) (ds : Devices) → slice_get ds.entries i ≡ Some d → SoundlyLeaves first ds
      → SoundlyLeaves first (hears_with p now i (Some d) ds)
  leaves_packet first now p i d ds at (sound, leaves) = (
    sound_packet now p i d ds at sound,
    leaves_on first ds (hears_with p now i (Some d) ds) leaves
        (told_put ds i d (entry_hears p now d) (told_of p now d) at (heard_goes p now d (sound.devices i d at).machine)
        (λ some. none_told (told_of p now d)
        (is_false (is_some (told_of p now d)) (λ h. let stands = (heard_told p now d h).0 in let none = sound.waits some i d at in cc)))),
  )

  leaves_items : (now : ℕ) (parts : List RunItem) (ds : Devices) → Sound ds → Leaves ds (hears_items now parts ds)
  leaves_items now parts ds sound = (items_keep now (SoundlyLeaves ds) (leaves_packet ds now) parts ds (sound, same_leaves ds)).1

  pub leaves_run : (b : BusState) → SoundBus b → Leaves b.devices (ends_run b).devices
  leaves_run b is = leaves_items b.greatest (items true b.held) b.devices is.devices

  leaves_silent : (b : BusState) → SoundBus b → Leaves b.devices (ends_silent b).devices
  leaves_silent b is = either_way (λ (c : BusState). Leaves b.devices c.devices) (is_silent b) (ends_run b) b (λ h. leaves_run b is) (λ h. same_leaves b.devices)

  pub leaves_bytes : (bytes : List ℕ) (now : ℕ) (b : BusState) → SoundBus b → Leaves b.devices (after_bytes bytes now b).devices
  leaves_bytes [] now b is = same_leaves b.devices
  leaves_bytes (byte ∷ bytes) now b is =
      let s = seen now b in
      let e = ends_silent s in
      leaves_on b.devices e.devices (hears_bytes (byte ∷ bytes) e).devices (leaves_silent s (sound_seen now b is))
      (leaves_items e.greatest (items false (e.held ++ (byte ∷ bytes))) e.devices (sound_silent s (sound_seen now b is)).devices)

  -- ---- ticks

  leaves_ticks_with : (i : ℕ) (o : Option Entry) (b : BusState) → device_of i b ≡ o → SoundBus b → has_report b ≡ false → Leaves b.devices (ticks_with i o b).bus.devices
  leaves_ticks_with i None b at is none = same_leaves b.devices
  leaves_ticks_with i (Some d) b at is none =
      told_put b.devices i d (entry_ticks b.greatest d) (step_of b.greatest d).report at (ticked_goes b.greatest d (is.devices.devices i d at).machine) (λ some. absurd cc)

  leaves_ticks_at : (o : Option ℕ) (b : BusState) → SoundBus b → has_report b ≡ false → Leaves b.devices (ticks_at o b).bus.devices
  leaves_ticks_at None b is none = same_leaves b.devices
  leaves_ticks_at (Some i) b is none = leaves_ticks_with i (device_of i b) b refl is none

  abbrev TickLeaves : Devices → BusTicked → Type 0
  TickLeaves ds t = Leaves ds t.bus.devices

  leaves_free : (b : BusState) → SoundBus b → TickLeaves b.devices (ticks_free b)
  leaves_free b is =
      either_way (TickLeaves b.devices) (has_report b) (stays b) (ticks_at (next_due b) b) (λ h. same_leaves b.devices)
      (λ none. leaves_ticks_at (next_due b) b is none)

  neither : (x y : Bool) → (x || y) ≡ false → x ≡ false
  neither false y h = refl
  neither true y h = cc

  leaves_held : (entry : ℕ) (b : BusState) → SoundBus b → TickLeaves b.devices (ticks_held entry b)
  leaves_held entry b is =
      either_way (TickLeaves b.devices) (has_report b || not (is_held_and_due entry b)) (stays b) (ticks_at (Some entry) b)
      (λ h. same_leaves b.devices) (λ h. leaves_ticks_at (Some entry) b is (neither (has_report b) (not (is_held_and_due entry b)) h))

  leaves_by : (o : Option ℕ) (b : BusState) → SoundBus b → TickLeaves b.devices (ticks_by o b)
  leaves_by None b is =
      leaves_on b.devices (ends_run b).devices (ticks_free (ends_run b)).bus.devices (leaves_run b is) (leaves_free (ends_run b) (sound_run b is))
  leaves_by (Some entry) b is =
      either_way (TickLeaves b.devices) (is_due_at entry b) (ticks_held entry (ends_run b)) (stays b)
      (λ h. leaves_on b.devices (ends_run b).devices (ticks_held entry (ends_run b)).bus.devices (leaves_run b is) (leaves_held entry (ends_run b) (sound_run b is)))
      (λ h. same_leaves b.devices)

  pub leaves_tick : (now : ℕ) (b : BusState) → SoundBus b → TickLeaves b.devices (bus_ticks now b)
  leaves_tick now b is =
      let s = seen now b in
      either_way (TickLeaves b.devices) (has_report b) (stays s) (ticks_on (ends_silent s)) (λ h. same_leaves b.devices)
      (λ h. leaves_on b.devices (ends_silent s).devices (ticks_on (ends_silent s)).bus.devices (leaves_silent s (sound_seen now b is))
      (leaves_by (holder (ends_silent s)) (ends_silent s) (sound_silent s (sound_seen now b is))))
