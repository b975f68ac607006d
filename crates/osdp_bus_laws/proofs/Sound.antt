-- Whatever is called and comes, what holds of the devices of a bus is kept.
use Rattle.osdp_bus_laws.proofs.Common.{◌≡◌, ◌∙◌, ap, sym, subst, inl, inr, ℕ, ◌||◌, Bool, true, false, List, [], ◌∷◌, ◌++◌, Option, Some, None, refl, option_map_or, items, Packet, RunItem, Entry, BusState, Devices, device_of, has_report, holder, is_silent, seen, entry_hears, entry_ticks, holds, is_entry_due, step_of, told_of, after_bytes, ends_run, ends_silent, hears_bytes, hears_item, hears_items, hears_with, IsBusConfig, BusTicked, bus_ticks, is_due_at, is_held_and_due, next_due, stays, ticks_at, ticks_by, ticks_free, ticks_held, ticks_on, ticks_with, IsFound, found, either_way}
use Rattle.std.specs.Prelude.{not, ◌&&◌, is_some, slice_get}
use Rattle.osdp_bus_laws.proofs.Changing.{Comes, HoldsAlone, Sound, comes_of, sound_set}
use Rattle.osdp_bus_laws.proofs.Hearing.{item_keeps, items_keep}
use Rattle.osdp_bus_laws.proofs.OneDevice.{device_heard, device_ticked, heard_holds, heard_told, names_heard, names_ticked, ticked_told}
use Rattle.osdp_bus_laws.proofs.Places.{IsAt, none_at, replaced}

-- ---- a packet

comes_heard : (p : Packet) (now i : ℕ) (d : Entry) (ds : Devices) → Sound ds → slice_get ds.entries i ≡ Some d → Comes ds i (entry_hears p now d) (told_of p now d)
comes_heard p now i d ds sound at =
    let is = sound.devices i d at in
    comes_of ds i d (entry_hears p now d) (told_of p now d) sound at (device_heard p now d is) (λ a. names_heard a p now d is)
    (heard_holds p now d) (heard_told p now d)

pub sound_packet : (now : ℕ) (p : Packet) (i : ℕ) (d : Entry) (ds : Devices) → slice_get ds.entries i ≡ Some d → Sound ds
    → Sound (hears_with p now i (Some d) ds)
sound_packet now p i d ds at sound = sound_set ds i (entry_hears p now d) (told_of p now d) sound (comes_heard p now i d ds sound at)

pub sound_item : (now : ℕ) (part : RunItem) (ds : Devices) → Sound ds → Sound (hears_item now part ds)
sound_item now = item_keeps now Sound (sound_packet now)

pub sound_items : (now : ℕ) (parts : List RunItem) (ds : Devices) → Sound ds → Sound (hears_items now parts ds)
sound_items now = items_keep now Sound (sound_packet now)

-- who holds the line then held it before
abbrev pub HeldBefore : ℕ → Devices → Type 0
HeldBefore j ds = (d : Entry) × (slice_get ds.entries j ≡ Some d) × (holds d ≡ true)

abbrev pub WereHeld : Devices → Devices → Type 0
WereHeld ds es = (j : ℕ) (f : Entry) → slice_get es.entries j ≡ Some f → holds f ≡ true → HeldBefore j ds

pub same_held : (ds : Devices) → WereHeld ds ds
same_held ds j f at h = (f, at, h)

held_packet : (first : Devices) (now : ℕ) (p : Packet) (i : ℕ) (d : Entry) (ds : Devices) → slice_get ds.entries i ≡ Some d → WereHeld first ds
    → WereHeld first (hears_with p now i (Some d) ds)
held_packet first now p i d ds at were = λ j f there h. by_place j f h (replaced ds.entries i (entry_hears p now d) j f there)
  where
    by_place : (j : ℕ) (f : Entry) → holds f ≡ true → IsAt ds.entries i (entry_hears p now d) j f → HeldBefore j first
    by_place j f h (inl (here, same)) = were j d (ap (slice_get ds.entries) here ∙ at) (heard_holds p now d (sym (ap holds same) ∙ h))
    by_place j f h (inr (other, was)) = were j f was h

pub held_items : (now : ℕ) (parts : List RunItem) (ds : Devices) → WereHeld ds (hears_items now parts ds)
held_items now parts ds = items_keep now (WereHeld ds) (held_packet ds now) parts ds (same_held ds)

-- ---- a whole bus

pub record SoundBus (b : BusState) : Type 0 where
  pub config : IsBusConfig b.config
  pub devices : Sound b.devices

pub sound_seen : (now : ℕ) (b : BusState) → SoundBus b → SoundBus (seen now b)
sound_seen now b is = record { config = is.config; devices = is.devices }

pub sound_run : (b : BusState) → SoundBus b → SoundBus (ends_run b)
sound_run b is = record { config = is.config; devices = sound_items b.greatest (items true b.held) b.devices is.devices }

pub sound_silent : (b : BusState) → SoundBus b → SoundBus (ends_silent b)
sound_silent b is = either_way SoundBus (is_silent b) (ends_run b) b (λ h. sound_run b is) (λ h. is)

sound_bytes : (bytes : List ℕ) (b : BusState) → SoundBus b → SoundBus (hears_bytes bytes b)
sound_bytes bytes b is = record { config = is.config; devices = sound_items b.greatest (items false (b.held ++ bytes)) b.devices is.devices }

pub sound_on_bytes : (bytes : List ℕ) (now : ℕ) (b : BusState) → SoundBus b → SoundBus (after_bytes bytes now b)
sound_on_bytes [] now b is = sound_seen now b is
sound_on_bytes (byte ∷ bytes) now b is = sound_bytes (byte ∷ bytes) (ends_silent (seen now b)) (sound_silent (seen now b) (sound_seen now b is))

-- ---- a tick

comes_ticked : (now i : ℕ) (d : Entry) (ds : Devices) → Sound ds → slice_get ds.entries i ≡ Some d → is_some ds.report ≡ false → HoldsAlone i ds
    → Comes ds i (entry_ticks now d) (step_of now d).report
comes_ticked now i d ds sound at none alone = record {
  device = device_ticked now d (sound.devices i d at);
  free = λ a named j f other there named_there. other (sound.apart a j i f d there at named_there (names_ticked a now d named));
  holds_alone = λ h. alone;
  ended = λ some. (alone, (ticked_told now d some).1);
  quiet = λ some. cc;
}

sound_ticks_with : (i : ℕ) (o : Option Entry) (b : BusState) → device_of i b ≡ o → has_report b ≡ false → HoldsAlone i b.devices → SoundBus b
    → SoundBus (ticks_with i o b).bus
sound_ticks_with i None b at none alone is = is
sound_ticks_with i (Some d) b at none alone is = record {
  config = is.config;
  devices = sound_set b.devices i (entry_ticks b.greatest d) (step_of b.greatest d).report is.devices
      (comes_ticked b.greatest i d b.devices is.devices at none alone);
}

sound_ticks_at : (o : Option ℕ) (b : BusState) → has_report b ≡ false → ((i : ℕ) → o ≡ Some i → HoldsAlone i b.devices) → SoundBus b
    → SoundBus (ticks_at o b).bus
sound_ticks_at None b none alone is = is
sound_ticks_at (Some i) b none alone is = sound_ticks_with i (device_of i b) b refl none (alone i refl) is

-- nobody holds the line
abbrev pub IsNobody : Devices → Type 0
IsNobody ds = (j : ℕ) (f : Entry) → slice_get ds.entries j ≡ Some f → holds f ≡ true → ⊥

pub nobody : (b : BusState) → holder b ≡ None → IsNobody b.devices
nobody b none j f at h =
    let searched = subst (IsFound holds 0 b.devices.entries) none (found holds 0 b.devices.entries) in
    let not_held = none_at holds b.devices.entries j f searched at in
    cc

pub still_nobody : (now : ℕ) (parts : List RunItem) (ds : Devices) → IsNobody ds → IsNobody (hears_items now parts ds)
still_nobody now parts ds nobody j f at h = by_before (held_items now parts ds j f at h)
  where
    by_before : HeldBefore j ds → ⊥
    by_before (d, was, stands) = nobody j d was stands

abbrev TickIsSound : BusTicked → Type 0
TickIsSound t = SoundBus t.bus

sound_free : (b : BusState) → IsNobody b.devices → SoundBus b → TickIsSound (ticks_free b)
sound_free b nobody is =
    either_way TickIsSound (has_report b) (stays b) (ticks_at (next_due b) b) (λ h. is)
    (λ none. sound_ticks_at (next_due b) b none (λ i e j f at h. absurd (nobody j f at h)) is)

by_tests : (x y : Bool) → (false || not (x && y)) ≡ false → (x ≡ true) × (y ≡ true)
by_tests true true e = (refl, refl)
by_tests true false e = cc
by_tests false y e = cc

pub held_there : (entry : ℕ) (b : BusState) → (has_report b || not (is_held_and_due entry b)) ≡ false
    → (has_report b ≡ false) × ((d : Entry) × (device_of entry b ≡ Some d) × (holds d ≡ true) × (is_entry_due b.greatest d ≡ true))
held_there entry b h = by_device (device_of entry b) (has_report b) h
  where
    by_device : (o : Option Entry) (r : Bool) → (r || not (option_map_or holds o false && option_map_or (is_entry_due b.greatest) o false)) ≡ false
        → (r ≡ false) × ((d : Entry) × (o ≡ Some d) × (holds d ≡ true) × (is_entry_due b.greatest d ≡ true))
    by_device o true e = cc
    by_device None false e = absurd cc
    by_device (Some d) false e =
        let both = by_tests (holds d) (is_entry_due b.greatest d) e in
        (refl, (d, refl, both.0, both.1))

-- what holds of a bus that stays, and of the tick of an entry that holds the line
pub either_held : (P : BusTicked → Type 0) (entry : ℕ) (b : BusState) → P (stays b)
    → (has_report b ≡ false → (d : Entry) → device_of entry b ≡ Some d → holds d ≡ true → P (ticks_at (Some entry) b)) → P (ticks_held entry b)
either_held P entry b rests ticks =
    either_way P (has_report b || not (is_held_and_due entry b)) (stays b) (ticks_at (Some entry) b) (λ h. rests)
    (λ h. let there = held_there entry b h in ticks there.0 there.1.0 there.1.1 there.1.2)

sound_held : (entry : ℕ) (b : BusState) → SoundBus b → TickIsSound (ticks_held entry b)
sound_held entry b is =
    either_held TickIsSound entry b is (λ none d at stands.
    sound_ticks_with entry (device_of entry b) b refl none (λ j f there h. is.devices.one j entry f d there at h stands) is)

sound_by : (o : Option ℕ) (b : BusState) → holder b ≡ o → SoundBus b → TickIsSound (ticks_by o b)
sound_by None b none is =
    sound_free (ends_run b) (still_nobody b.greatest (items true b.held) b.devices (nobody b none)) (sound_run b is)
sound_by (Some entry) b held is =
    either_way TickIsSound (is_due_at entry b) (ticks_held entry (ends_run b)) (stays b) (λ h. sound_held entry (ends_run b) (sound_run b is)) (λ h. is)

pub sound_tick : (now : ℕ) (b : BusState) → SoundBus b → TickIsSound (bus_ticks now b)
sound_tick now b is =
    let s = seen now b in
    either_way TickIsSound (has_report b) (stays s) (ticks_on (ends_silent s)) (λ h. sound_seen now b is)
    (λ h. sound_by (holder (ends_silent s)) (ends_silent s) refl (sound_silent s (sound_seen now b is)))
