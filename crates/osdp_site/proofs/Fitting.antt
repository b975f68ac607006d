-- What is wanted fits into the panel's room, so it waits for nothing but room that other commands take.
use Rattle.osdp_site.proofs.Common.{◌≡◌, ◌∙◌, ap, sym, subst, ℕ, ◌+◌, ◌≤◌, Bool, true, false, ◌&&◌, ◌||◌, List, [], ◌∷◌, length, Option, Some, None, refl, arith, if◌then◌else◌, is_some, nat_le, nat_lt, le-leb, leb-true, lt-ltb, ltb-false, slice_set, option_map_or, All, All-drop, Command, BusState, after_submit_at, order_refusal_at, command_size, Submitted, submits, submitted, unless_refused, IsState, Move, StopsAt, WaitsForOthers, after_moves, refreshed, PlaceState, due_of, is_online, new_place}
use Rattle.std.specs.Prelude.{◌-◌, ◌*◌, option_map, unwrap_or}
use Rattle.osdp_msg.specs.declared.command.Command.TheVariants as command
use Rattle.osdp_msg.specs.Limits.{most_data}
use Rattle.osdp_controller.specs.declared.fault.ControllerFault.TheVariants as controllers
use Rattle.osdp_controller.specs.Held.{on_its_way}
use Rattle.osdp_controller.specs.Machine.{Machine, bytes_kept, bytes_on_its_way, bytes_waiting}
use Rattle.osdp_controller.specs.Machine.{has_room as machine_has_room}
use Rattle.osdp_bus.specs.declared.entry.Entry.{Entry}
use Rattle.osdp_bus.specs.declared.fault.BusFault.{BusFault}
use Rattle.osdp_bus.specs.Buses.{device_of}
use Rattle.osdp_bus.specs.Machine.{bus_fault, entry_submits, order_refusal_of}
use Rattle.osdp_site.specs.Acting.{refreshes, waiting_at}
use Rattle.osdp_site.specs.Laws.{has_room, has_room_in, is_on_its_way, takes_room}
use Rattle.osdp_site.proofs.Beginning.{set_here}
use Rattle.osdp_site.proofs.States.{IsWanted, all_wanted}
use Rattle.osdp_site.proofs.Submitting.{is_taken, wanted_refreshed}

-- ---- both, and neither

both_true : (a b : Bool) → a ≡ true → b ≡ true → (a && b) ≡ true
both_true true b is also = also
both_true false b is also = absurd cc

first_of_both : (a b : Bool) → (a && b) ≡ true → a ≡ true
first_of_both true b is = refl
first_of_both false b is = absurd cc

second_of_both : (a b : Bool) → (a && b) ≡ true → b ≡ true
second_of_both true b is = is
second_of_both false b is = absurd cc

first_of_neither : (a b : Bool) → (a || b) ≡ false → a ≡ false
first_of_neither true b is = absurd cc
first_of_neither false b is = refl

second_of_neither : (a b : Bool) → (a || b) ≡ false → b ≡ false
second_of_neither true b is = absurd cc
second_of_neither false b is = is

-- ---- room stays

changed_if : (o : Option Entry) (entry : ℕ) (change : Entry → Entry) (b : BusState) → device_of entry b ≡ o
    → device_of entry (option_map_or (λ d. record b { devices = record b.devices { entries = slice_set b.devices.entries entry (change d) } }) o b) ≡ option_map change o
changed_if None entry change b at = at
changed_if (Some d) entry change b at = set_here b.devices.entries entry d (change d) at

submitted_in : (bytes : ℕ) (c : Command) (o : Option Entry) → has_room_in bytes (option_map (entry_submits c) o) ≡ has_room_in bytes o
submitted_in bytes c None = refl
submitted_in bytes c (Some d) = refl

device_room : (entry bytes : ℕ) (c : Command) (b : BusState) → has_room_in bytes (device_of entry (after_submit_at entry c b)) ≡ has_room_in bytes (device_of entry b)
device_room entry bytes c b =
    ap (has_room_in bytes) (changed_if (device_of entry b) entry (entry_submits c) b refl) ∙ submitted_in bytes c (device_of entry b)

room_unless : (r : Option BusFault) (entry bytes : ℕ) (b : BusState) (more : Submitted) → has_room entry bytes b ≡ true → has_room entry bytes more.panel ≡ true
    → has_room entry bytes (unless_refused r b more).panel ≡ true
room_unless (Some fault) entry bytes b more room after = room
room_unless None entry bytes b more room after = after

room_over : (entry bytes : ℕ) (cs : List Command) (b : BusState) → has_room entry bytes b ≡ true → has_room entry bytes (submits entry cs b).panel ≡ true
room_over entry bytes [] b room = room
room_over entry bytes (c ∷ cs) b room =
    let after = after_submit_at entry c b in
    room_unless (order_refusal_at entry c b) entry bytes b (submits entry cs after) room (room_over entry bytes cs after (device_room entry bytes c b ∙ room))

-- ---- room that no other command takes

none_waits : (cs : List Command) → length cs ≡ 0 → bytes_waiting cs ≡ 0
none_waits [] is = refl
none_waits (c ∷ cs) is = absurd (omega arith)

none_goes : (all : Bool) (o : Option Command) → is_some o ≡ false → (if all then 0 else option_map_or command_size o 0) ≡ 0
none_goes true o is = refl
none_goes false None is = refl
none_goes false (Some c) is = absurd cc

machine_takes : (c : Command) (bytes : ℕ) (m : Machine) → command_size c ≤ bytes → 1 ≤ m.capacity → bytes ≤ m.room → length m.waiting ≡ 0
    → is_some (on_its_way m.session.state) ≡ false → machine_has_room c m ≡ true
machine_takes c bytes m short places room waits goes =
    let nothing : bytes_on_its_way m ≡ 0 = none_goes (nat_le (m.capacity * (1 + most_data)) m.room) (on_its_way m.session.state) goes in
    let none : bytes_waiting m.waiting ≡ 0 = none_waits m.waiting waits in
    let kept : bytes_kept m ≡ 0 = omega (arith, nothing, none) in
    both_true (nat_lt (length m.waiting) m.capacity) (nat_le (command_size c) (m.room - bytes_kept m))
    (lt-ltb (length m.waiting) m.capacity (omega (arith, waits, places)))
    (le-leb (command_size c) (m.room - bytes_kept m) (omega (arith, short, room, kept)))

-- a state is neither a POLL nor a COMSET
device_takes : (c : Command) (entry : ℕ) (d : Entry) (b : BusState) → IsState c → machine_has_room c d.controller ≡ true → order_refusal_of entry c (Some d) b ≡ None
device_takes (command.Output records) entry d b is room = ap (λ t. option_map bus_fault (if t then None else Some controllers.Full)) room
device_takes (command.Led records) entry d b is room = ap (λ t. option_map bus_fault (if t then None else Some controllers.Full)) room
device_takes (command.Buzzer buzzer) entry d b is room = ap (λ t. option_map bus_fault (if t then None else Some controllers.Full)) room
device_takes (command.Text text) entry d b is room = ap (λ t. option_map bus_fault (if t then None else Some controllers.Full)) room
device_takes _ entry d b is room = absurd cc

device_is_free : (bytes : ℕ) (c : Command) (d : Entry) → command_size c ≤ bytes → has_room_in bytes (Some d) ≡ true → length d.controller.waiting ≡ 0
    → is_on_its_way (Some d) ≡ false → machine_has_room c d.controller ≡ true
device_is_free bytes c d short room waits goes =
    let m = d.controller in
    let places = leb-true 1 m.capacity (first_of_both (nat_le 1 m.capacity) (nat_le bytes m.room) room) in
    let within = leb-true bytes m.room (second_of_both (nat_le 1 m.capacity) (nat_le bytes m.room) room) in
    machine_takes c bytes m short places within waits goes

takes_in : (o : Option Entry) (entry bytes : ℕ) (c : Command) (b : BusState) → device_of entry b ≡ o → IsWanted bytes c → has_room_in bytes o ≡ true
    → nat_lt 0 (unwrap_or (option_map (λ d. length d.controller.waiting) o) 0) ≡ false → is_on_its_way o ≡ false → order_refusal_at entry c b ≡ None
takes_in None entry bytes c b at is room waits goes = absurd cc
takes_in (Some d) entry bytes c b at is room waits goes =
    let none = ltb-false 0 (length d.controller.waiting) waits in
    ap (λ o. order_refusal_of entry c o b) at ∙ device_takes c entry d b is.state (device_is_free bytes c d is.fits room (omega (arith, none)) goes)

free_takes : (entry bytes : ℕ) (c : Command) (b : BusState) → IsWanted bytes c → has_room entry bytes b ≡ true → takes_room entry b ≡ false → order_refusal_at entry c b ≡ None
free_takes entry bytes c b is room free =
    let o = device_of entry b in
    takes_in o entry bytes c b refl is room
    (first_of_neither (nat_lt 0 (waiting_at entry b)) (is_on_its_way o) free)
    (second_of_neither (nat_lt 0 (waiting_at entry b)) (is_on_its_way o) free)

-- ---- what is left

-- where the panel refuses the first of what is left, it takes it all the same: nothing is left
none_left : (cs : List Command) (entry bytes : ℕ) (b : BusState) → All (IsWanted bytes) cs → StopsAt entry cs b → has_room entry bytes b ≡ true → takes_room entry b ≡ false → cs ≡ []
none_left [] entry bytes b all stops room free = refl
none_left (c ∷ cs) entry bytes b all stops room free = absurd (stops (free_takes entry bytes c b (all 0 c (omega arith)) room free))

after_if_room : (online : Bool) (entry bytes : ℕ) (b : BusState) (p : PlaceState) → has_room entry bytes b ≡ true
    → has_room entry bytes (if online then submitted p (submits entry (due_of p) b) else record { place = p; panel = b }).panel ≡ true
after_if_room true entry bytes b p room = room_over entry bytes (due_of p) b room
after_if_room false entry bytes b p room = room

waits : (entry bytes : ℕ) (b : BusState) (p : PlaceState) → All (IsWanted bytes) p.wanted → WaitsForOthers entry bytes b p
waits entry bytes b p all = record {
  fits = λ k d less. (all k d less).fits;
  submitted = λ room online free.
      let after = refreshed entry b p in
      let taken = is_taken entry b p in
      let left = All-drop (IsWanted bytes) after.done after.wanted (subst (All (IsWanted bytes)) (sym (wanted_refreshed entry b p)) all) in
      none_left (due_of after) entry bytes (refreshes entry (record { place = p; panel = b })).panel left (taken.stops online) (after_if_room (is_online p.presence) entry bytes b p room) free;
}

pub waits_for_others : (entry pause room bytes now : ℕ) (ms : List Move) (b : BusState) → WaitsForOthers entry bytes b (after_moves entry pause ms (new_place room bytes now))
waits_for_others entry pause room bytes now ms b =
    waits entry bytes b (after_moves entry pause ms (new_place room bytes now)) (all_wanted entry pause room bytes now ms)
