-- Which sessions of a bus are open is what its reports tell, whatever is called and comes.
use Rattle.osdp_line_laws.proofs.Common.{◌≡◌, ◌∙◌, ap, sym, refl, ℕ, zero, suc, ◌<◌, ◌≤◌, ◌==◌, Bool, true, false, max, List, [], ◌∷◌, ◌++◌, length, length-append, get_or, Option, Some, None, arith, option_map_or, unwrap_or, Report, begin_refusal, either_way, items, Packet, RunItem, Entry, BusFault, BusState, Devices, device_of, has_report, holder, is_silent, seen, waiting_after, map_none, unless_taken, SoundBus, either_held, sound_packet, sound_seen, sound_silent, is_open, opened_by, opened_told, set_open}
use Rattle.std.specs.Prelude.{if◌then◌else◌, is_some, nat_le, nat_lt, slice_get, slice_set}
use Rattle.std.proofs.lemmas.Bool.{eq-eqb, eqb-true, leb-false}
use Rattle.std.proofs.lemmas.List.{get_or-set_other, get_or-set_same, length-set}
use Rattle.std.proofs.lemmas.Option.{slice_get_within, unwrap_or-slice_get}
use Rattle.osdp_controller_laws.proofs.Closed.{was_closed}
use Rattle.osdp_bus.specs.declared.fault.BusFault.TheVariants.{TooMany, AddressTaken, OutOfRange}
use Rattle.osdp_bus.specs.Entries.{entry_hears, entry_ticks, is_taken, step_of, told_of}
use Rattle.osdp_bus.specs.Hearing.{after_bytes, ends_run, ends_silent, hears_items, hears_with}
use Rattle.osdp_bus.specs.Machine.{add_refusal, after_add, after_begin_at, after_next_report, begin_refusal_at, begin_refusal_of, changed_unless, changes_entry, entry_begins, entry_withdraws, most_entries, new_device}
use Rattle.osdp_bus.specs.Ticking.{BusTicked, bus_ticks, is_due_at, next_due, stays, ticks_at, ticks_by, ticks_free, ticks_held, ticks_on, ticks_with}
use Rattle.osdp_bus_laws.proofs.Changing.{Sound}
use Rattle.osdp_bus_laws.proofs.Hearing.{items_keep}
use Rattle.osdp_bus_laws.proofs.OneDevice.{heard_told}
use Rattle.osdp_bus_laws.proofs.Places.{is_false}
use Rattle.osdp_bus_laws.proofs.Turning.{set_here, set_other}
use Rattle.osdp_line_laws.proofs.OneSession.{heard_as, open_in, open_told, ticked_as}

abbrev pub open_of : Option Entry → Bool
open_of None = false
open_of (Some d) = open_in d.controller.session.state

abbrev pub open_at : ℕ → List Entry → Bool
open_at j ds = open_of (slice_get ds j)

-- with a report that waits to be taken
abbrev pub with_report : Option (ℕ × Report) → ℕ → Bool → Bool
with_report None j was = was
with_report (Some (i, report)) j was = if i == j then unwrap_or (opened_told report) was else was

-- the sessions that were told open are those that are, but for the report that waits; there is room for all in what was told
pub record Agree (opened : List Bool) (ds : Devices) : Type 0 where
  pub are : (j : ℕ) → open_at j ds.entries ≡ with_report ds.report j (is_open j opened)
  pub few : length ds.entries ≤ 16
  pub within : (i : ℕ) (report : Report) → ds.report ≡ Some (i, report) → i < length ds.entries

-- ---- one device changes

differs : (i j : ℕ) → (i == j) ≡ false → (j ≡ i) → ⊥
differs i j other same = let is = eq-eqb i j (sym same) in cc

open_set : (ds : List Entry) (i : ℕ) (d e : Entry) (j : ℕ) → slice_get ds i ≡ Some d
    → open_at j (slice_set ds i e) ≡ (if i == j then open_of (Some e) else open_at j ds)
open_set ds i d e j at = go (i == j) refl
  where
    go : (b : Bool) → (i == j) ≡ b → open_at j (slice_set ds i e) ≡ (if b then open_of (Some e) else open_at j ds)
    go true is = ap (λ k. open_at k (slice_set ds i e)) (sym (eqb-true i j is)) ∙ ap open_of (set_here ds i d e at)
    go false other = ap open_of (set_other ds i j e (differs i j other))

there : (ds : List Entry) (i : ℕ) (d : Entry) (j : ℕ) → slice_get ds i ≡ Some d → (i == j) ≡ true → open_at j ds ≡ open_of (Some d)
there ds i d j at same = ap (λ k. open_at k ds) (sym (eqb-true i j same)) ∙ ap open_of at

-- a device that tells what becomes of its session, or nothing
by_told : (told : Option Report) (i j : ℕ) (was before now : Bool) (waiting : Option (ℕ × Report)) → (is_some waiting ≡ true → told ≡ None)
    → ((i == j) ≡ true → before ≡ was) → before ≡ with_report waiting j now
    → (if i == j then open_told told was else before) ≡ with_report (waiting_after i told waiting) j now
by_told None i j was before now waiting quiet same is = go (i == j) same
  where
    go : (b : Bool) → (b ≡ true → before ≡ was) → (if b then was else before) ≡ with_report waiting j now
    go true here = sym (here refl) ∙ is
    go false here = is
by_told (Some report) i j was before now None quiet same is = go (i == j) same
  where
    go : (b : Bool) → (b ≡ true → before ≡ was) → (if b then unwrap_or (opened_told report) was else before) ≡ (if b then unwrap_or (opened_told report) now else now)
    go true here = ap (unwrap_or (opened_told report)) (sym (here refl) ∙ is)
    go false here = is
by_told (Some report) i j was before now (Some other) quiet same is = absurd (let none = quiet refl in cc)

-- the entry of a report
abbrev entry_in : Option (ℕ × Report) → ℕ
entry_in None = 0
entry_in (Some told) = told.0

agree_set : (opened : List Bool) (ds : Devices) (i : ℕ) (d e : Entry) (told : Option Report) → slice_get ds.entries i ≡ Some d
    → open_of (Some e) ≡ open_told told (open_of (Some d)) → (is_some ds.report ≡ true → told ≡ None) → Agree opened ds
    → Agree opened (record { entries = slice_set ds.entries i e; report = waiting_after i told ds.report })
agree_set opened ds i d e told at is quiet agree = record {
  are = λ j.
      open_set ds.entries i d e j at
      ∙ ap (λ b. if i == j then b else open_at j ds.entries) is
      ∙ by_told told i j (open_of (Some d)) (open_at j ds.entries) (is_open j opened) ds.report quiet (there ds.entries i d j at) (agree.are j);
  few = (let same = length-set ds.entries i e in let few = agree.few in omega arith);
  within = λ k report waits. by_report told waits (length-set ds.entries i e);
}
  where
    by_report : {k : ℕ} {report : Report} (t : Option Report) → waiting_after i t ds.report ≡ Some (k, report)
        → length (slice_set ds.entries i e) ≡ length ds.entries → k < length (slice_set ds.entries i e)
    by_report {k} {report} None waits same = let before = agree.within k report waits in omega arith
    by_report {k} {report} (Some r) waits same =
        let here : i ≡ k = ap entry_in waits in
        let some = slice_get_within ds.entries i d at in
        omega arith

-- ---- packets

none_told : (told : Option Report) → is_some told ≡ false → told ≡ None
none_told None h = refl
none_told (Some report) h = cc

abbrev AgreeSoundly : List Bool → Devices → Type 0
AgreeSoundly opened ds = Sound ds × Agree opened ds

agree_packet : (opened : List Bool) (now : ℕ) (p : Packet) (i : ℕ) (d : Entry) (ds : Devices) → slice_get ds.entries i ≡ Some d → AgreeSoundly opened ds
    → AgreeSoundly opened (hears_with p now i (Some d) ds)
agree_packet opened now p i d ds at (sound, agree) = (
  sound_packet now p i d ds at sound,
  agree_set opened ds i d (entry_hears p now d) (told_of p now d) at (heard_as p now d.controller.session)
      (λ some. none_told (told_of p now d)
      (is_false (is_some (told_of p now d)) (λ h. let stands = (heard_told p now d h).0 in let none = sound.waits some i d at in cc)))
      agree,
)

agree_items : (opened : List Bool) (now : ℕ) (parts : List RunItem) (ds : Devices) → Sound ds → Agree opened ds → Agree opened (hears_items now parts ds)
agree_items opened now parts ds sound agree = (items_keep now (AgreeSoundly opened) (agree_packet opened now) parts ds (sound, agree)).1

module _ (opened : List Bool) where
  abbrev pub AgreeBus : BusState → Type 0
  AgreeBus b = Agree opened b.devices

  agree_run : (b : BusState) → SoundBus b → AgreeBus b → AgreeBus (ends_run b)
  agree_run b is agree = agree_items opened b.greatest (items true b.held) b.devices is.devices agree

  agree_silent : (b : BusState) → SoundBus b → AgreeBus b → AgreeBus (ends_silent b)
  agree_silent b is agree = either_way AgreeBus (is_silent b) (ends_run b) b (λ h. agree_run b is agree) (λ h. agree)

  pub agree_bytes : (bytes : List ℕ) (now : ℕ) (b : BusState) → SoundBus b → AgreeBus b → AgreeBus (after_bytes bytes now b)
  agree_bytes [] now b is agree = agree
  agree_bytes (byte ∷ bytes) now b is agree =
      let s = seen now b in
      let e = ends_silent s in
      let sound = sound_seen now b is in
      agree_items opened e.greatest (items false (e.held ++ (byte ∷ bytes))) e.devices (sound_silent s sound).devices (agree_silent s sound agree)

  pub agree_silence : (now : ℕ) (b : BusState) → SoundBus b → AgreeBus b → AgreeBus (ends_run (seen now b))
  agree_silence now b is agree = agree_run (seen now b) (sound_seen now b is) agree

  -- ---- ticks

  abbrev TickAgrees : BusTicked → Type 0
  TickAgrees t = AgreeBus t.bus

  agree_ticks_with : (i : ℕ) (o : Option Entry) (b : BusState) → device_of i b ≡ o → has_report b ≡ false → AgreeBus b → TickAgrees (ticks_with i o b)
  agree_ticks_with i None b at none agree = agree
  agree_ticks_with i (Some d) b at none agree =
      agree_set opened b.devices i d (entry_ticks b.greatest d) (step_of b.greatest d).report at
      (ticked_as b.greatest d.controller.session d.controller.waiting) (λ some. absurd cc) agree

  agree_ticks_at : (o : Option ℕ) (b : BusState) → has_report b ≡ false → AgreeBus b → TickAgrees (ticks_at o b)
  agree_ticks_at None b none agree = agree
  agree_ticks_at (Some i) b none agree = agree_ticks_with i (device_of i b) b refl none agree

  agree_free : (b : BusState) → AgreeBus b → TickAgrees (ticks_free b)
  agree_free b agree =
      either_way TickAgrees (has_report b) (stays b) (ticks_at (next_due b) b) (λ h. agree) (λ none. agree_ticks_at (next_due b) b none agree)

  agree_held : (entry : ℕ) (b : BusState) → AgreeBus b → TickAgrees (ticks_held entry b)
  agree_held entry b agree = either_held TickAgrees entry b agree (λ none d at stands. agree_ticks_at (Some entry) b none agree)

  agree_by : (o : Option ℕ) (b : BusState) → SoundBus b → AgreeBus b → TickAgrees (ticks_by o b)
  agree_by None b is agree = agree_free (ends_run b) (agree_run b is agree)
  agree_by (Some entry) b is agree =
      either_way TickAgrees (is_due_at entry b) (ticks_held entry (ends_run b)) (stays b) (λ h. agree_held entry (ends_run b) (agree_run b is agree)) (λ h. agree)

  pub agree_tick : (now : ℕ) (b : BusState) → SoundBus b → AgreeBus b → TickAgrees (bus_ticks now b)
  agree_tick now b is agree =
      let s = seen now b in
      let sound = sound_seen now b is in
      either_way TickAgrees (has_report b) (stays s) (ticks_on (ends_silent s)) (λ h. agree)
      (λ h. agree_by (holder (ends_silent s)) (ends_silent s) (sound_silent s sound) (agree_silent s sound agree))

  -- ---- the calls of its user

  agree_changes : (entry : ℕ) (change : Entry → Entry) (b : BusState)
      → ((d : Entry) → device_of entry b ≡ Some d → open_of (Some (change d)) ≡ open_of (Some d)) → AgreeBus b → AgreeBus (changes_entry entry change b)
  agree_changes entry change b same agree = by_device (device_of entry b) refl
    where
      by_device : (o : Option Entry) → device_of entry b ≡ o
          → AgreeBus (option_map_or (λ d. record b { devices = record b.devices { entries = slice_set b.devices.entries entry (change d) } }) o b)
      by_device None at = agree
      by_device (Some d) at = agree_set opened b.devices entry d (change d) None at (same d at) (λ some. refl) agree

  pub agree_begin : (entry now : ℕ) (f : Option BusFault) (b : BusState) → begin_refusal_at entry b ≡ f → AgreeBus b
      → AgreeBus (changed_unless f b (after_begin_at entry now b))
  agree_begin entry now (Some fault) b refused agree = agree
  agree_begin entry now None b ok agree =
      agree_changes entry (entry_begins (max b.greatest now)) (seen now b)
      (λ d at. sym (ap open_in (was_closed d.controller.session.state (map_none (begin_refusal d.controller) (sym (ap begin_refusal_of at) ∙ ok)))))
      agree

  agree_unless : (f : Option BusFault) (b c : BusState) → AgreeBus b → AgreeBus c → AgreeBus (changed_unless f b c)
  agree_unless None b c before after = after
  agree_unless (Some fault) b c before after = before

  pub agree_submit : (entry : ℕ) (b : BusState) (f : Option BusFault) (change : Entry → Entry)
      → ((d : Entry) → open_of (Some (change d)) ≡ open_of (Some d)) → AgreeBus b → AgreeBus (changed_unless f b (changes_entry entry change b))
  agree_submit entry b f change same agree =
      agree_unless f b (changes_entry entry change b) agree (agree_changes entry change b (λ d at. same d) agree)

  pub agree_withdraw : (entry : ℕ) (b : BusState) → AgreeBus b → AgreeBus (changes_entry entry entry_withdraws b)
  agree_withdraw entry b agree = agree_changes entry entry_withdraws b (λ d at. refl) agree

  -- a device comes after them all, where fewer than sixteen are there
  open_added : (ds : List Entry) (e : Entry) (j : ℕ) → open_of (Some e) ≡ false → open_at j (ds ++ e ∷ []) ≡ open_at j ds
  open_added [] e zero shut = shut
  open_added [] e (suc j) shut = refl
  open_added (x ∷ ds) e zero shut = refl
  open_added (x ∷ ds) e (suc j) shut = open_added ds e j shut

  pub agree_add : (address : ℕ) (f : Option BusFault) (b : BusState) → add_refusal address b ≡ f → AgreeBus b
      → AgreeBus (changed_unless f b (after_add address b))
  agree_add address (Some fault) b refused agree = agree
  agree_add address None b ok agree =
      let more = unless_taken (nat_le most_entries (length b.devices.entries)) TooMany
      (if nat_lt address 127 then (if is_taken address b.devices.entries then Some AddressTaken else None) else Some OutOfRange) ok in
      let below = leb-false most_entries (length b.devices.entries) more.0 in
      let longer = length-append b.devices.entries (new_device address b.config ∷ []) in record {
        are = λ j. open_added b.devices.entries (new_device address b.config) j refl ∙ agree.are j;
        few = omega (arith, longer, below);
        within = λ i report waits. (let before = agree.within i report waits in omega (arith, longer, before));
      }

-- ---- the report is taken

-- what is told of a session is known from then on
open_known : (opened : List Bool) (i j : ℕ) (o : Option Bool) → i < length opened
    → is_open j (set_open i o opened) ≡ (if i == j then unwrap_or o (is_open j opened) else is_open j opened)
open_known opened i j None within = go (i == j)
  where
    go : (b : Bool) → is_open j opened ≡ (if b then is_open j opened else is_open j opened)
    go true = refl
    go false = refl
open_known opened i j (Some is) within = unwrap_or-slice_get (slice_set opened i is) j false ∙ go (i == j) refl
  where
    go : (b : Bool) → (i == j) ≡ b → get_or (slice_set opened i is) j false ≡ (if b then is else is_open j opened)
    go true same = ap (λ k. get_or (slice_set opened i is) k false) (sym (eqb-true i j same)) ∙ get_or-set_same opened i is false within
    go false other = get_or-set_other opened i j is false (differs i j other) ∙ sym (unwrap_or-slice_get opened j false)

pub agree_taken : (opened : List Bool) (b : BusState) → length opened ≡ 16 → AgreeBus opened b
    → AgreeBus (opened_by b.devices.report opened) (after_next_report b)
agree_taken opened b room agree = record {
  are = λ j. agree.are j ∙ by_report b.devices.report refl j;
  few = agree.few;
  within = λ i report waits. absurd cc;
}
  where
    by_report : (o : Option (ℕ × Report)) → b.devices.report ≡ o → (j : ℕ) → with_report o j (is_open j opened) ≡ is_open j (opened_by o opened)
    by_report None is j = refl
    by_report (Some (i, report)) is j =
        let place = agree.within i report is in
        let few = agree.few in
        sym (open_known opened i j (opened_told report) (omega (arith, place, few, room)))

room_set : (opened : List Bool) (i : ℕ) (o : Option Bool) → length (set_open i o opened) ≡ length opened
room_set opened i None = refl
room_set opened i (Some is) = length-set opened i is

pub room_taken : (opened : List Bool) (o : Option (ℕ × Report)) → length (opened_by o opened) ≡ length opened
room_taken opened None = refl
room_taken opened (Some (i, report)) = room_set opened i (opened_told report)
