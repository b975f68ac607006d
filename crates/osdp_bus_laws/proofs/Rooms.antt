-- The room for waiting commands of each device is that of the bus's settings, whatever is called.
use Rattle.osdp_bus_laws.proofs.Common.{◌≡◌, ◌∙◌, ap, inl, inr, ℕ, ◌||◌, true, false, max, List, [], ◌∷◌, ◌++◌, length, Option, Some, None, refl, not, slice_get, slice_set, option_map_or, items, RunItem, either_way, Room, BusConfig, Entry, BusFault, BusState, Devices, device_of, has_report, holder, is_silent, new_bus, seen, entry_hears, entry_ticks, after_bytes, ends_run, ends_silent, hears_items, add_refusal, after_add, after_begin_at, after_retarget_at, after_submit_at, begin_refusal_at, changed_unless, changes_entry, entry_begins, entry_retargets, entry_submits, entry_withdraws, new_device, retarget_refusal_at, submit_refusal_at, BusTicked, bus_ticks, is_due_at, is_held_and_due, next_due, stays, ticks_at, ticks_by, ticks_held, ticks_on, ticks_with, Call, Add, Begin, Submit, Withdraw, Retarget, OnBytes, OnSilence, Tick, NextReport, after_call, after_calls}
use Rattle.osdp_bus_laws.proofs.Hearing.{items_keep}
use Rattle.osdp_bus_laws.proofs.Places.{IsAt, added, replaced}

abbrev room_of : Entry → Room
room_of d = record { messages = d.controller.capacity; bytes = d.controller.room }

abbrev RoomsAre : Room → List Entry → Type 0
RoomsAre room ds = (j : ℕ) (f : Entry) → slice_get ds j ≡ Some f → room_of f ≡ room

abbrev pub HasRooms : BusState → Type 0
HasRooms b = RoomsAre b.config.room b.devices.entries

-- a device takes the place of one with the same room
rooms_set : (room : Room) (i : ℕ) (d e : Entry) (ds : List Entry) → slice_get ds i ≡ Some d → room_of e ≡ room_of d → RoomsAre room ds
    → RoomsAre room (slice_set ds i e)
rooms_set room i d e ds at same are = λ j f there. by_place j f (replaced ds i e j f there)
  where
    by_place : (j : ℕ) (f : Entry) → IsAt ds i e j f → room_of f ≡ room
    by_place j f (inl (here, is)) = ap room_of is ∙ same ∙ are i d at
    by_place j f (inr (other, was)) = are j f was

rooms_items : (room : Room) (now : ℕ) (parts : List RunItem) (ds : Devices) → RoomsAre room ds.entries → RoomsAre room (hears_items now parts ds).entries
rooms_items room now =
    items_keep now (λ (ds : Devices). RoomsAre room ds.entries) (λ p i d ds at are. rooms_set room i d (entry_hears p now d) ds.entries at refl are)

rooms_run : (b : BusState) → HasRooms b → HasRooms (ends_run b)
rooms_run b are = rooms_items b.config.room b.greatest (items true b.held) b.devices are

rooms_silent : (b : BusState) → HasRooms b → HasRooms (ends_silent b)
rooms_silent b are = either_way HasRooms (is_silent b) (ends_run b) b (λ h. rooms_run b are) (λ h. are)

rooms_bytes : (bytes : List ℕ) (now : ℕ) (b : BusState) → HasRooms b → HasRooms (after_bytes bytes now b)
rooms_bytes [] now b are = are
rooms_bytes (byte ∷ bytes) now b are =
    let e = ends_silent (seen now b) in
    rooms_items e.config.room e.greatest (items false (e.held ++ (byte ∷ bytes))) e.devices (rooms_silent (seen now b) are)

-- ticks

abbrev TickRooms : BusTicked → Type 0
TickRooms t = HasRooms t.bus

rooms_ticks_with : (i : ℕ) (o : Option Entry) (b : BusState) → device_of i b ≡ o → HasRooms b → TickRooms (ticks_with i o b)
rooms_ticks_with i None b at are = are
rooms_ticks_with i (Some d) b at are = rooms_set b.config.room i d (entry_ticks b.greatest d) b.devices.entries at refl are

rooms_ticks_at : (o : Option ℕ) (b : BusState) → HasRooms b → TickRooms (ticks_at o b)
rooms_ticks_at None b are = are
rooms_ticks_at (Some i) b are = rooms_ticks_with i (device_of i b) b refl are

rooms_by : (o : Option ℕ) (b : BusState) → HasRooms b → TickRooms (ticks_by o b)
rooms_by None b are =
    let e = ends_run b in
    either_way TickRooms (has_report e) (stays e) (ticks_at (next_due e) e) (λ h. rooms_run b are) (λ h. rooms_ticks_at (next_due e) e (rooms_run b are))
rooms_by (Some entry) b are =
    let e = ends_run b in
    either_way TickRooms (is_due_at entry b) (ticks_held entry e) (stays b)
    (λ due. either_way TickRooms (has_report e || not (is_held_and_due entry e)) (stays e) (ticks_at (Some entry) e) (λ h. rooms_run b are)
    (λ h. rooms_ticks_at (Some entry) e (rooms_run b are)))
    (λ ahead. are)

rooms_tick : (now : ℕ) (b : BusState) → HasRooms b → TickRooms (bus_ticks now b)
rooms_tick now b are =
    let e = ends_silent (seen now b) in
    either_way TickRooms (has_report b) (stays (seen now b)) (ticks_on e) (λ h. are) (λ h. rooms_by (holder e) e (rooms_silent (seen now b) are))

-- each call

rooms_changes : (entry : ℕ) (change : Entry → Entry) (b : BusState) → ((d : Entry) → room_of (change d) ≡ room_of d) → HasRooms b
    → HasRooms (changes_entry entry change b)
rooms_changes entry change b same are = by_device (device_of entry b) refl
  where
    by_device : (o : Option Entry) → device_of entry b ≡ o
        → HasRooms (option_map_or (λ d. record b { devices = record b.devices { entries = slice_set b.devices.entries entry (change d) } }) o b)
    by_device None at = are
    by_device (Some d) at = rooms_set b.config.room entry d (change d) b.devices.entries at (same d) are

rooms_unless : (f : Option BusFault) (b c : BusState) → HasRooms b → HasRooms c → HasRooms (changed_unless f b c)
rooms_unless None b c before after = after
rooms_unless (Some fault) b c before after = before

rooms_added : (address : ℕ) (b : BusState) → HasRooms b → HasRooms (after_add address b)
rooms_added address b are = λ j f there. by_place j f (added b.devices.entries (new_device address b.config) j f there)
  where
    by_place : (j : ℕ) (f : Entry) → IsAt b.devices.entries (length b.devices.entries) (new_device address b.config) j f → room_of f ≡ b.config.room
    by_place j f (inl (here, same)) = ap room_of same
    by_place j f (inr (other, was)) = are j f was

rooms_call : (call : Call) (b : BusState) → HasRooms b → HasRooms (after_call call b)
rooms_call (Add address) b are = rooms_unless (add_refusal address b) b (after_add address b) are (rooms_added address b are)
rooms_call (Begin entry now) b are =
    rooms_unless (begin_refusal_at entry b) b (after_begin_at entry now b) are
    (rooms_changes entry (entry_begins (max b.greatest now)) (seen now b) (λ d. refl) are)
rooms_call (Submit entry command) b are =
    rooms_unless (submit_refusal_at entry command b) b (after_submit_at entry command b) are (rooms_changes entry (entry_submits command) b (λ d. refl) are)
rooms_call (Withdraw entry) b are = rooms_changes entry entry_withdraws b (λ d. refl) are
rooms_call (Retarget entry address) b are =
    rooms_unless (retarget_refusal_at entry address b) b (after_retarget_at entry address b) are
    (rooms_changes entry (entry_retargets address) b (λ d. refl) are)
rooms_call (OnBytes bytes now) b are = rooms_bytes bytes now b are
rooms_call (OnSilence now) b are = rooms_run (seen now b) are
rooms_call (Tick now) b are = rooms_tick now b are
rooms_call NextReport b are = are

rooms_calls : (calls : List Call) (b : BusState) → HasRooms b → HasRooms (after_calls calls b)
rooms_calls [] b are = are
rooms_calls (call ∷ calls) b are = rooms_calls calls (after_call call b) (rooms_call call b are)

pub always_rooms : (config : BusConfig) (calls : List Call) → HasRooms (after_calls calls (new_bus config))
always_rooms config calls = rooms_calls calls (new_bus config) (λ j f at. absurd cc)
