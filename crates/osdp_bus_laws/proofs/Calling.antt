-- What holds of the devices of a bus is kept by the calls of its user, and so by every list of calls.
use Rattle.osdp_bus_laws.proofs.Common.{◌≡◌, ◌∙◌, ap, sym, subst, inl, inr, ℕ, ◌<◌, ◌||◌, Bool, true, false, max, List, [], ◌∷◌, ◌++◌, length, Option, Some, None, refl, append_assoc, append-nil, ◌⊎◌, if◌then◌else◌, is_some, nat_le, nat_lt, slice_get, slice_set, option_map, option_to_list, option_map_or, eq-eqb, ltb-true, Command, Communication, State, Closed, has_comset, comset_of, AreSettings, IsMachine, Machine, after_begin, after_retarget, after_submit, begin_refusal, kept_in, or_no_device, refused_unless_closed, retarget_refusal, submit_refusal, withdrawn_in, changed_machine, asked_in, SubmitTo, BeginOf, RetargetOf, WithdrawOf, was_closed, keeps_config, keeps_each, stays_well, BusConfig, Entry, BusFault, TooMany, AddressTaken, OutOfRange, BusState, Devices, device_of, new_bus, seen, address_of, is_at, is_reserved, is_taken, is_taken_beside, reserved_for, takes_up, add_refusal, after_add, after_begin_at, after_next_report, after_retarget_at, after_submit_at, begin_refusal_at, begin_refusal_of, bus_fault, changed_unless, changes_entry, entry_begins, entry_retargets, entry_submits, entry_withdraws, is_comset_refused, most_entries, new_device, or_taken, reserved_without, retarget_refusal_at, retarget_refusal_of, submit_refusal_at, submit_refusal_of, withdrawn_of, IsBusConfig, controller_config, Names, comsets_in, Call, Add, Begin, Submit, Withdraw, Retarget, OnBytes, OnSilence, Tick, NextReport, after_call, after_calls}
use Rattle.std.specs.Prelude.{drop}
use Rattle.osdp_controller.specs.declared.fault.ControllerFault.{ControllerFault}
use Rattle.osdp_controller.specs.declared.state.State.TheVariants.{Idle, Pausing, Quiet, Waiting}
use Rattle.osdp_controller.specs.Exchanges.{submitted_command}
use Rattle.osdp_bus_laws.proofs.Changing.{Comes, IsFree, Sound, comes_of, sound_added, sound_set}
use Rattle.osdp_bus_laws.proofs.OneDevice.{Reserves, comsets_append, done_with, freed_some, pending}
use Rattle.osdp_bus_laws.proofs.Places.{both_false, free_beside, none_at}
use Rattle.osdp_bus_laws.proofs.Sound.{SoundBus, sound_on_bytes, sound_run, sound_seen, sound_tick}

-- ---- refusals that didn't come

pub map_none : (f : Option ControllerFault) → option_map bus_fault f ≡ None → f ≡ None
map_none None h = refl
map_none (Some fault) h = cc

pub unless_taken : (taken : Bool) (fault : BusFault) (other : Option BusFault) → (if taken then Some fault else other) ≡ None → (taken ≡ false) × (other ≡ None)
unless_taken true fault other h = cc
unless_taken false fault other h = (refl, h)

pub unless_not : (good : Bool) (fault : BusFault) (other : Option BusFault) → (if good then other else Some fault) ≡ None → (good ≡ true) × (other ≡ None)
unless_not true fault other h = (refl, h)
unless_not false fault other h = cc

pub or_none : (f : Option BusFault) (taken : Bool) → or_taken f taken ≡ None → (f ≡ None) × (taken ≡ false)
or_none None true h = cc
or_none None false h = (refl, refl)
or_none (Some fault) taken h = cc

pub no_device : (f : Option ControllerFault) (address : ℕ) → or_no_device f address ≡ None → f ≡ None
no_device None address h = refl
no_device (Some fault) address h = cc

-- ---- addresses and COMSETs

or_second : (x y : Bool) → y ≡ true → (x || y) ≡ true
or_second true y h = refl
or_second false y h = h

pub names_take : (a : ℕ) (d : Entry) → Names a d → takes_up a d ≡ true
names_take a d (inl is) = ap (λ t. t || is_reserved a d.reserved) (eq-eqb (address_of d) a is)
names_take a d (inr is) = or_second (is_at a d) (is_reserved a d.reserved) (ap (is_reserved a) is ∙ eq-eqb a a refl)

closed_comsets : (m : Machine) → m.session.state ≡ Closed → comsets_in (pending m) ≡ comsets_in m.waiting
closed_comsets m closed = ap (λ s. comsets_in (option_to_list (asked_in s) ++ m.waiting)) closed

submitted_reserves : (o : Option Communication) (comsets : List Communication) (reserved : Option ℕ) → (is_some o ≡ true → is_some reserved ≡ false)
    → Reserves comsets reserved → Reserves (comsets ++ (option_to_list o ++ [])) (reserved_for o reserved)
submitted_reserves None comsets reserved free is = subst (λ l. Reserves l reserved) (sym (append-nil comsets)) is
submitted_reserves (Some asked) comsets reserved free (inl none) = inr (asked, ap (λ l. l ++ (asked ∷ [])) none, refl)
submitted_reserves (Some asked) comsets reserved free (inr (other, one, is)) =
    absurd (let unreserved = free refl in let e = ap (λ (o : Option ℕ). is_some o) is in cc)

no_comset : (o : Option Communication) (others : Bool) (rest : List Communication) → (is_some o || others) ≡ false → (others ≡ false → rest ≡ [])
    → option_to_list o ++ rest ≡ []
no_comset None others rest h next = next h
no_comset (Some asked) others rest h next = cc

pub no_comsets : (commands : List Command) → has_comset commands ≡ false → comsets_in commands ≡ []
no_comsets [] h = refl
no_comsets (command ∷ commands) h = no_comset (comset_of command) (has_comset commands) (comsets_in commands) h (no_comsets commands)

first_reserves : (waiting : List Command) (reserved : Option ℕ) → Reserves (comsets_in waiting) reserved
    → Reserves (comsets_in (drop 1 waiting)) (reserved_without (slice_get waiting 0) reserved)
first_reserves [] reserved is = is
first_reserves (command ∷ waiting) reserved is =
    done_with (comset_of command) (comsets_in waiting) reserved
    (subst (λ l. Reserves (l ++ comsets_in waiting) reserved) (sym (append-nil (option_to_list (comset_of command)))) is)

beside : (o : Option Command) (waiting : List Command) (reserved : Option ℕ) → Reserves (comsets_in (option_to_list o ++ waiting)) reserved
    → Reserves (comsets_in (option_to_list o ++ (if is_some o then waiting else drop 1 waiting))) (reserved_without (if is_some o then None else slice_get waiting 0) reserved)
beside None waiting reserved is = first_reserves waiting reserved is
beside (Some command) waiting reserved is = is

withdrawn_reserves : (state : State) (waiting : List Command) (reserved : Option ℕ) → Reserves (comsets_in (option_to_list (asked_in state) ++ waiting)) reserved
    → Reserves (comsets_in (option_to_list (asked_in state) ++ kept_in state waiting)) (reserved_without (withdrawn_in state waiting) reserved)
withdrawn_reserves Closed waiting reserved is = first_reserves waiting reserved is
withdrawn_reserves (Quiet until) waiting reserved is = first_reserves waiting reserved is
withdrawn_reserves (Idle due) waiting reserved is = first_reserves waiting reserved is
withdrawn_reserves (Waiting until sends o) waiting reserved is = beside (submitted_command o.exchange) waiting reserved is
withdrawn_reserves (Pausing until o) waiting reserved is = beside (submitted_command o.exchange) waiting reserved is

-- ---- a device of an entry changes

sound_changes : (entry : ℕ) (change : Entry → Entry) (b : BusState)
    → ((d : Entry) → device_of entry b ≡ Some d → Comes b.devices entry (change d) None) → SoundBus b → SoundBus (changes_entry entry change b)
sound_changes entry change b comes is = by_device (device_of entry b) refl
  where
    by_device : (o : Option Entry) → device_of entry b ≡ o
        → SoundBus (option_map_or (λ d. record b { devices = record b.devices { entries = slice_set b.devices.entries entry (change d) } }) o b)
    by_device None at = is
    by_device (Some d) at = record { config = is.config; devices = sound_set b.devices entry (change d) None is.devices (comes d at) }

-- a session begins

comes_begun : (entry now : ℕ) (d : Entry) (ds : Devices) → Sound ds → slice_get ds.entries entry ≡ Some d → begin_refusal d.controller ≡ None
    → Comes ds entry (entry_begins now d) None
comes_begun entry now d ds sound at ok =
    let is = sound.devices entry d at in
    let m = d.controller in
    comes_of ds entry d (entry_begins now d) None sound at
    (record {
      machine = subst (λ f. IsMachine (changed_machine f m (after_begin now m))) ok (keeps_each (BeginOf now) m is.machine);
      reserves = subst (λ l. Reserves l d.reserved) (closed_comsets m (was_closed m.session.state ok)) is.reserves;
    }) (λ a named. named) (λ h. cc) (λ h. absurd cc)

sound_begin : (entry now : ℕ) (f : Option BusFault) (b : BusState) → begin_refusal_at entry b ≡ f → SoundBus b
    → SoundBus (changed_unless f b (after_begin_at entry now b))
sound_begin entry now (Some fault) b refused is = is
sound_begin entry now None b ok is =
    sound_changes entry (entry_begins (max b.greatest now)) (seen now b)
    (λ d at. comes_begun entry (max b.greatest now) d b.devices is.devices at (map_none (begin_refusal d.controller) (sym (ap begin_refusal_of at) ∙ ok)))
    (sound_seen now b is)

-- a command is submitted

comset_unreserved : (o : Option Communication) (entry : ℕ) (d : Entry) (b : BusState) → is_comset_refused o entry d b ≡ false
    → is_some o ≡ true → is_some d.reserved ≡ false
comset_unreserved None entry d b ok h = cc
comset_unreserved (Some asked) entry d b ok h = (both_false (is_taken_beside entry asked.address b.devices.entries) (is_some d.reserved) ok).1

free_submitted : (o : Option Communication) (a entry : ℕ) (d : Entry) (b : BusState) → Sound b.devices → device_of entry b ≡ Some d
    → is_comset_refused o entry d b ≡ false → ((address_of d ≡ a) ⊎ (reserved_for o d.reserved ≡ Some a)) → IsFree a entry b.devices
free_submitted o a entry d b sound at ok (inl is) j f other there named = other (sound.apart a j entry f d there at named (inl is))
free_submitted None a entry d b sound at ok (inr is) j f other there named = other (sound.apart a j entry f d there at named (inr is))
free_submitted (Some asked) a entry d b sound at ok (inr is) j f other there named =
    let same : asked.address ≡ a = cc in
    let beside = (both_false (is_taken_beside entry asked.address b.devices.entries) (is_some d.reserved) ok).0 in
    let free = free_beside asked.address entry b.devices.entries j f beside other there in
    let taken = names_take asked.address f (subst (λ n. Names n f) (sym same) named) in
    cc

submitted_comsets : (command : Command) (m : Machine) → comsets_in (pending (after_submit command m))
    ≡ comsets_in (pending m) ++ (option_to_list (comset_of command) ++ [])
submitted_comsets command m =
    ap comsets_in (sym (append_assoc (option_to_list (asked_in m.session.state)) m.waiting (command ∷ [])))
    ∙ comsets_append (pending m) (command ∷ [])

comes_submitted : (entry : ℕ) (command : Command) (d : Entry) (b : BusState) → Sound b.devices → device_of entry b ≡ Some d
    → is_comset_refused (comset_of command) entry d b ≡ false → submit_refusal command d.controller ≡ None
    → Comes b.devices entry (entry_submits command d) None
comes_submitted entry command d b sound at free ok =
    let is = sound.devices entry d at in
    let m = d.controller in record {
      device = record {
        machine = subst (λ f. IsMachine (changed_machine f m (after_submit command m))) ok (keeps_each (SubmitTo command) m is.machine);
        reserves = subst (λ l. Reserves l (reserved_for (comset_of command) d.reserved)) (sym (submitted_comsets command m))
            (submitted_reserves (comset_of command) (comsets_in (pending m)) d.reserved (comset_unreserved (comset_of command) entry d b free) is.reserves);
      };
      free = λ a named. free_submitted (comset_of command) a entry d b sound at free named;
      holds_alone = λ h j f there stands. sound.one j entry f d there at stands h;
      ended = λ h. absurd cc;
      quiet = λ h. sound.waits h entry d at;
    }

sound_submit : (entry : ℕ) (command : Command) (f : Option BusFault) (b : BusState) → submit_refusal_at entry command b ≡ f → SoundBus b
    → SoundBus (changed_unless f b (after_submit_at entry command b))
sound_submit entry command (Some fault) b refused is = is
sound_submit entry command None b ok is =
    sound_changes entry (entry_submits command) b
    (λ d at.
    let parts = unless_taken (is_comset_refused (comset_of command) entry d b) AddressTaken (option_map bus_fault (submit_refusal command d.controller))
    (sym (ap (λ o. submit_refusal_of entry command o b) at) ∙ ok) in
    comes_submitted entry command d b is.devices at parts.0 (map_none (submit_refusal command d.controller) parts.1))
    is

-- another address

comes_retargeted : (entry address : ℕ) (d : Entry) (b : BusState) → Sound b.devices → device_of entry b ≡ Some d
    → is_taken_beside entry address b.devices.entries ≡ false → has_comset d.controller.waiting ≡ false → retarget_refusal address d.controller ≡ None
    → Comes b.devices entry (entry_retargets address d) None
comes_retargeted entry address d b sound at beside none ok =
    let is = sound.devices entry d at in
    let m = d.controller in
    let closed = was_closed m.session.state (no_device (refused_unless_closed m.session.state) address ok) in record {
      device = record {
        machine = subst (λ f. IsMachine (changed_machine f m (after_retarget address m))) ok (keeps_each (RetargetOf address) m is.machine);
        reserves = inl (closed_comsets m closed ∙ no_comsets m.waiting none);
      };
      free = λ a named j f other there taken. free_retargeted a named j f other there taken;
      holds_alone = λ h j f there stands. sound.one j entry f d there at stands h;
      ended = λ h. absurd cc;
      quiet = λ h. sound.waits h entry d at;
    }
  where
    free_retargeted : (a : ℕ) → Names a (entry_retargets address d) → IsFree a entry b.devices
    free_retargeted a (inl same) j f other there named =
        let free = free_beside address entry b.devices.entries j f beside other there in
        let taken = names_take address f (subst (λ n. Names n f) (sym same) named) in
        cc
    free_retargeted a (inr is) j f other there named = cc

sound_retarget : (entry address : ℕ) (f : Option BusFault) (b : BusState) → retarget_refusal_at entry address b ≡ f → SoundBus b
    → SoundBus (changed_unless f b (after_retarget_at entry address b))
sound_retarget entry address (Some fault) b refused is = is
sound_retarget entry address None b ok is =
    sound_changes entry (entry_retargets address) b
    (λ d at.
    let parts = or_none (option_map bus_fault (retarget_refusal address d.controller))
    (is_taken_beside entry address b.devices.entries || has_comset d.controller.waiting)
    (sym (ap (λ o. retarget_refusal_of entry address o b) at) ∙ ok) in
    let free = both_false (is_taken_beside entry address b.devices.entries) (has_comset d.controller.waiting) parts.1 in
    comes_retargeted entry address d b is.devices at free.0 free.1 (map_none (retarget_refusal address d.controller) parts.0))
    is

-- a command is withdrawn

kept_without : (o : Option Command) (a : ℕ) (reserved : Option ℕ) → reserved_without o reserved ≡ Some a → reserved ≡ Some a
kept_without None a reserved is = is
kept_without (Some command) a reserved is = freed_some (is_some (comset_of command)) a reserved is

names_withdrawn : (a : ℕ) (d : Entry) → Names a (entry_withdraws d) → Names a d
names_withdrawn a d (inl is) = inl is
names_withdrawn a d (inr is) = inr (kept_without (withdrawn_of d) a d.reserved is)

comes_withdrawn : (entry : ℕ) (d : Entry) (ds : Devices) → Sound ds → slice_get ds.entries entry ≡ Some d → Comes ds entry (entry_withdraws d) None
comes_withdrawn entry d ds sound at =
    let is = sound.devices entry d at in
    comes_of ds entry d (entry_withdraws d) None sound at
    (record {
      machine = keeps_each WithdrawOf d.controller is.machine;
      reserves = withdrawn_reserves d.controller.session.state d.controller.waiting d.reserved is.reserves;
    }) (λ a named. names_withdrawn a d named) (λ h. h) (λ h. absurd cc)

-- a device is added

new_settings : (address : ℕ) (c : BusConfig) → address < 127 → IsBusConfig c → AreSettings (controller_config address c) c.room.messages c.room.bytes
new_settings address c device is = record {
  config_in_range = keeps_config (controller_config 0 c) address device is.controllers.config_in_range;
  room = is.controllers.room;
  limit = is.controllers.limit;
  bytes = is.controllers.bytes;
}

comes_new : (address : ℕ) (b : BusState) → address < 127 → is_taken address b.devices.entries ≡ false → SoundBus b
    → Comes b.devices (length b.devices.entries) (new_device address b.config) None
comes_new address b device free is = record {
  device = record { machine = stays_well.new (controller_config address b.config) b.config.room.messages b.config.room.bytes (new_settings address b.config device is.config); reserves = inl refl };
  free = free_new;
  holds_alone = λ h. absurd cc;
  ended = λ h. absurd cc;
  quiet = λ h. refl;
}
  where
    free_new : (a : ℕ) → Names a (new_device address b.config) → IsFree a (length b.devices.entries) b.devices
    free_new a (inl same) j f other there named =
        let not_taken = none_at (takes_up address) b.devices.entries j f free there in
        let taken = names_take address f (subst (λ n. Names n f) (sym same) named) in
        cc
    free_new a (inr is) j f other there named = cc

sound_add : (address : ℕ) (f : Option BusFault) (b : BusState) → add_refusal address b ≡ f → SoundBus b → SoundBus (changed_unless f b (after_add address b))
sound_add address (Some fault) b refused is = is
sound_add address None b ok is =
    let room = unless_taken (nat_le most_entries (length b.devices.entries)) TooMany
    (if nat_lt address 127 then (if is_taken address b.devices.entries then Some AddressTaken else None) else Some OutOfRange) ok in
    let device = unless_not (nat_lt address 127) OutOfRange (if is_taken address b.devices.entries then Some AddressTaken else None) room.1 in
    let free = unless_taken (is_taken address b.devices.entries) AddressTaken None device.1 in record {
      config = is.config;
      devices = sound_added b.devices (new_device address b.config) is.devices (comes_new address b (ltb-true address 127 device.0) free.0 is);
    }

-- ---- each call

sound_taken : (b : BusState) → SoundBus b → SoundBus (after_next_report b)
sound_taken b is = record {
  config = is.config;
  devices = record { devices = is.devices.devices; apart = is.devices.apart; one = is.devices.one; waits = λ h. absurd cc };
}

pub sound_call : (call : Call) (b : BusState) → SoundBus b → SoundBus (after_call call b)
sound_call (Add address) b is = sound_add address (add_refusal address b) b refl is
sound_call (Begin entry now) b is = sound_begin entry now (begin_refusal_at entry b) b refl is
sound_call (Submit entry command) b is = sound_submit entry command (submit_refusal_at entry command b) b refl is
sound_call (Withdraw entry) b is = sound_changes entry entry_withdraws b (λ d at. comes_withdrawn entry d b.devices is.devices at) is
sound_call (Retarget entry address) b is = sound_retarget entry address (retarget_refusal_at entry address b) b refl is
sound_call (OnBytes bytes now) b is = sound_on_bytes bytes now b is
sound_call (OnSilence now) b is = sound_run (seen now b) (sound_seen now b is)
sound_call (Tick now) b is = sound_tick now b is
sound_call NextReport b is = sound_taken b is

pub sound_calls : (calls : List Call) (b : BusState) → SoundBus b → SoundBus (after_calls calls b)
sound_calls [] b is = is
sound_calls (call ∷ calls) b is = sound_calls calls (after_call call b) (sound_call call b is)

pub sound_new : (config : BusConfig) → IsBusConfig config → SoundBus (new_bus config)
sound_new config is = record {
  config = is;
  devices = record {
    devices = λ i d at. absurd cc;
    apart = λ a i j d e at there n m. absurd cc;
    one = λ i j d e at there n m. absurd cc;
    waits = λ h. absurd cc;
  };
}

-- after every list of calls of a new bus
pub always : (config : BusConfig) (calls : List Call) → IsBusConfig config → SoundBus (after_calls calls (new_bus config))
always config calls is = sound_calls calls (new_bus config) (sound_new config is)
