-- What arises on the line: a report that waits stays, and what is reserved goes by the report that arises.
use Rattle.osdp_bus_laws.proofs.Common.{◌≡◌, ◌∙◌, ap, sym, ℕ, Bool, true, false, ◌==◌, ◌||◌, List, [], ◌∷◌, ◌++◌, Option, Some, None, refl, if◌then◌else◌, is_some, not, slice_get, slice_set, items, Packet, RunItem, Report, either_way, Entry, BusState, Devices, device_of, has_report, holder, is_silent, seen, waiting_after, entry_hears, entry_ticks, reserved_after, reserved_told, step_of, told_of, after_bytes, ends_run, ends_silent, hears_bytes, hears_items, hears_with, BusTicked, bus_ticks, is_due_at, is_held_and_due, next_due, stays, ticks_at, ticks_by, ticks_free, ticks_held, ticks_on, ticks_with}
use Rattle.osdp_bus_laws.proofs.Changing.{Sound}
use Rattle.osdp_bus_laws.proofs.Hearing.{items_keep}
use Rattle.osdp_bus_laws.proofs.OneDevice.{heard_told}
use Rattle.osdp_bus_laws.proofs.Places.{is_false, reserved_in, reserved_set, reserved_there}
use Rattle.osdp_bus_laws.proofs.Sound.{SoundBus, sound_packet, sound_seen, sound_silent}

-- what is reserved for an entry once a report arises
abbrev pub reserved_with : Option (ℕ × Report) → ℕ → Option ℕ → Option ℕ
reserved_with None j reserved = reserved
reserved_with (Some (i, report)) j reserved = if i == j then reserved_told report reserved else reserved

pub record ReservesByReport (ds es : Devices) : Type 0 where
  pub stays : is_some ds.report ≡ true → (es.report ≡ ds.report) × ((j : ℕ) → reserved_in j es.entries ≡ reserved_in j ds.entries)
  pub arises : ds.report ≡ None → (j : ℕ) → reserved_in j es.entries ≡ reserved_with es.report j (reserved_in j ds.entries)

pub same_follows : (ds : Devices) → ReservesByReport ds ds
same_follows ds = record {
  stays = λ some. (refl, λ j. refl);
  arises = λ none j. sym (ap (λ o. reserved_with o j (reserved_in j ds.entries)) none);
}

pub follows_on : (ds es fs : Devices) → ReservesByReport ds es → ReservesByReport es fs → ReservesByReport ds fs
follows_on ds es fs first second = record {
  stays = λ some.
      let before = first.stays some in
      let after = second.stays (ap (λ (o : Option (ℕ × Report)). is_some o) before.0 ∙ some) in
      (after.0 ∙ before.0, λ j. after.1 j ∙ before.1 j);
  arises = λ none j. by_report none j es.report refl;
}
  where
    by_report : ds.report ≡ None → (j : ℕ) → (o : Option (ℕ × Report)) → es.report ≡ o
        → reserved_in j fs.entries ≡ reserved_with fs.report j (reserved_in j ds.entries)
    by_report none j None is =
        second.arises is j
        ∙ ap (reserved_with fs.report j) (first.arises none j ∙ ap (λ o. reserved_with o j (reserved_in j ds.entries)) is)
    by_report none j (Some told) is =
        let after = second.stays (ap (λ (o : Option (ℕ × Report)). is_some o) is) in
        after.1 j ∙ first.arises none j ∙ ap (λ o. reserved_with o j (reserved_in j ds.entries)) (sym after.0)

-- a device of a place tells something, or nothing
by_place : (i j : ℕ) (told : Option Report) (was before : Option ℕ) → ((i == j) ≡ true → before ≡ was)
    → (if i == j then reserved_after told was else before) ≡ reserved_with (waiting_after i told None) j before
by_place i j None was before same = by_test (i == j) same
  where
    by_test : (b : Bool) → (b ≡ true → before ≡ was) → (if b then was else before) ≡ before
    by_test true there = sym (there refl)
    by_test false there = refl
by_place i j (Some report) was before same = by_test (i == j) same
  where
    by_test : (b : Bool) → (b ≡ true → before ≡ was) → (if b then reserved_told report was else before) ≡ (if b then reserved_told report before else before)
    by_test true there = ap (reserved_told report) (sym (there refl))
    by_test false there = refl

unmoved : (i j : ℕ) (was before : Option ℕ) → ((i == j) ≡ true → before ≡ was) → (if i == j then was else before) ≡ before
unmoved i j was before same = by_test (i == j) same
  where
    by_test : (b : Bool) → (b ≡ true → before ≡ was) → (if b then was else before) ≡ before
    by_test true there = sym (there refl)
    by_test false there = refl

pub follows_told : (ds : Devices) (i : ℕ) (d e : Entry) (told : Option Report) → slice_get ds.entries i ≡ Some d
    → e.reserved ≡ reserved_after told d.reserved → (is_some ds.report ≡ true → told ≡ None)
    → ReservesByReport ds (record { entries = slice_set ds.entries i e; report = waiting_after i told ds.report })
follows_told ds i d e told at is quiet = record {
  stays = λ some. (
    ap (λ t. waiting_after i t ds.report) (quiet some),
    λ j. reserved_set ds.entries i d e j at
        ∙ ap (λ r. if i == j then r else reserved_in j ds.entries) (is ∙ ap (λ t. reserved_after t d.reserved) (quiet some))
        ∙ unmoved i j d.reserved (reserved_in j ds.entries) (reserved_there ds.entries i d j at),
  );
  arises = λ none j.
      reserved_set ds.entries i d e j at
      ∙ ap (λ r. if i == j then r else reserved_in j ds.entries) is
      ∙ by_place i j told d.reserved (reserved_in j ds.entries) (reserved_there ds.entries i d j at)
      ∙ ap (λ o. reserved_with (waiting_after i told o) j (reserved_in j ds.entries)) (sym none);
}

-- ---- packets

none_told : (told : Option Report) → is_some told ≡ false → told ≡ None
none_told None h = refl
none_told (Some report) h = cc

-- the devices are sound, and follow those from before
abbrev SoundlyReservesByReport : Devices → Devices → Type 0
SoundlyReservesByReport first ds = Sound ds × ReservesByReport first ds

follows_packet : (first : Devices) (now : ℕ) (p : Packet) (i : ℕ) (d : Entry) (ds : Devices) → slice_get ds.entries i ≡ Some d → SoundlyReservesByReport first ds
    → SoundlyReservesByReport first (hears_with p now i (Some d) ds)
follows_packet first now p i d ds at (sound, follows) = (
  sound_packet now p i d ds at sound,
  follows_on first ds (hears_with p now i (Some d) ds) follows
      (follows_told ds i d (entry_hears p now d) (told_of p now d) at refl
      (λ some. none_told (told_of p now d)
      (is_false (is_some (told_of p now d)) (λ h. let stands = (heard_told p now d h).0 in let none = sound.waits some i d at in cc)))),
)

pub follows_items : (now : ℕ) (parts : List RunItem) (ds : Devices) → Sound ds → ReservesByReport ds (hears_items now parts ds)
follows_items now parts ds sound = (items_keep now (SoundlyReservesByReport ds) (follows_packet ds now) parts ds (sound, same_follows ds)).1

pub follows_run : (b : BusState) → SoundBus b → ReservesByReport b.devices (ends_run b).devices
follows_run b is = follows_items b.greatest (items true b.held) b.devices is.devices

follows_silent : (b : BusState) → SoundBus b → ReservesByReport b.devices (ends_silent b).devices
follows_silent b is = either_way (λ (c : BusState). ReservesByReport b.devices c.devices) (is_silent b) (ends_run b) b (λ h. follows_run b is) (λ h. same_follows b.devices)

pub follows_bytes : (bytes : List ℕ) (now : ℕ) (b : BusState) → SoundBus b → ReservesByReport b.devices (after_bytes bytes now b).devices
follows_bytes [] now b is = same_follows b.devices
follows_bytes (byte ∷ bytes) now b is =
    let s = seen now b in
    let e = ends_silent s in
    follows_on b.devices e.devices (hears_bytes (byte ∷ bytes) e).devices (follows_silent s (sound_seen now b is))
    (follows_items e.greatest (items false (e.held ++ (byte ∷ bytes))) e.devices (sound_silent s (sound_seen now b is)).devices)

-- ---- ticks

follows_ticks_with : (i : ℕ) (o : Option Entry) (b : BusState) → device_of i b ≡ o → has_report b ≡ false
    → ReservesByReport b.devices (ticks_with i o b).bus.devices
follows_ticks_with i None b at none = same_follows b.devices
follows_ticks_with i (Some d) b at none =
    follows_told b.devices i d (entry_ticks b.greatest d) (step_of b.greatest d).report at refl (λ some. absurd cc)

follows_ticks_at : (o : Option ℕ) (b : BusState) → has_report b ≡ false → ReservesByReport b.devices (ticks_at o b).bus.devices
follows_ticks_at None b none = same_follows b.devices
follows_ticks_at (Some i) b none = follows_ticks_with i (device_of i b) b refl none

abbrev TickReservesByReport : Devices → BusTicked → Type 0
TickReservesByReport ds t = ReservesByReport ds t.bus.devices

follows_free : (b : BusState) → TickReservesByReport b.devices (ticks_free b)
follows_free b =
    either_way (TickReservesByReport b.devices) (has_report b) (stays b) (ticks_at (next_due b) b) (λ h. same_follows b.devices)
    (λ none. follows_ticks_at (next_due b) b none)

neither : (x y : Bool) → (x || y) ≡ false → x ≡ false
neither false y h = refl
neither true y h = cc

follows_held : (entry : ℕ) (b : BusState) → TickReservesByReport b.devices (ticks_held entry b)
follows_held entry b =
    either_way (TickReservesByReport b.devices) (has_report b || not (is_held_and_due entry b)) (stays b) (ticks_at (Some entry) b)
    (λ h. same_follows b.devices) (λ h. follows_ticks_at (Some entry) b (neither (has_report b) (not (is_held_and_due entry b)) h))

follows_by : (o : Option ℕ) (b : BusState) → SoundBus b → TickReservesByReport b.devices (ticks_by o b)
follows_by None b is = follows_on b.devices (ends_run b).devices (ticks_free (ends_run b)).bus.devices (follows_run b is) (follows_free (ends_run b))
follows_by (Some entry) b is =
    either_way (TickReservesByReport b.devices) (is_due_at entry b) (ticks_held entry (ends_run b)) (stays b)
    (λ h. follows_on b.devices (ends_run b).devices (ticks_held entry (ends_run b)).bus.devices (follows_run b is) (follows_held entry (ends_run b)))
    (λ h. same_follows b.devices)

pub follows_tick : (now : ℕ) (b : BusState) → SoundBus b → TickReservesByReport b.devices (bus_ticks now b)
follows_tick now b is =
    let s = seen now b in
    either_way (TickReservesByReport b.devices) (has_report b) (stays s) (ticks_on (ends_silent s)) (λ h. same_follows b.devices)
    (λ h. follows_on b.devices (ends_silent s).devices (ticks_on (ends_silent s)).bus.devices (follows_silent s (sound_seen now b is))
    (follows_by (holder (ends_silent s)) (ends_silent s) (sound_silent s (sound_seen now b is))))
