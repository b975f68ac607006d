-- Each refusal comes exactly where its cause holds, in the order in which the causes are judged.
use Rattle.osdp_bus_laws.proofs.Common.{◌≡◌, ◌∙◌, ap, sym, subst, inl, inr, ℕ, zero, suc, ◌+◌, ◌-◌, ◌<◌, ◌≤◌, ◌&&◌, ◌||◌, Bool, true, false, List, [], ◌∷◌, ◌++◌, length, take, drop, Option, Some, None, refl, arith, ◌≢◌, ◌⊎◌, if◌then◌else◌, is_some, nat_le, nat_lt, option_map, option_to_list, slice_get, slice_set, list_any, option_map_or, eqb-true, leb-true, leb-false, ltb-true, ltb-false, slice_get_within, Command, Poll, Comset, Communication, Room, State, Closed, has_comset, comset_of, Machine, bytes_kept, command_size, has_room, or_no_device, refused_unless_closed, submit_refusal, is_closed, may_begin, Entry, BusFault, TooMany, AddressTaken, OutOfRange, AddressOutOfRange, Full, PollSubmitted, NotClosed, BusState, device_of, address_of, is_at, is_reserved, is_taken, is_taken_beside, takes_up, add_refusal, after_add, after_begin_at, after_retarget_at, after_submit_at, begin_refusal_at, begin_refusal_of, bus_fault, changed_unless, entry_withdraws, is_comset_refused, leads_nowhere, most_entries, or_taken, order_refusal_at, order_refusal_of, retarget_refusal_at, retarget_refusal_of, submit_refusal_at, submit_refusal_of, withdrawal_of, Names, comsets_in, Call, Add, Begin, Submit, Withdraw, Retarget, OnBytes, OnSilence, Tick, NextReport, after_call}
use Rattle.osdp_controller.specs.declared.fault.ControllerFault.TheVariants.{Full as FullOf, NotClosed as NotClosedOf, OutOfRange as OutOfRangeOf}
use Rattle.osdp_bus_laws.specs.Refusals.{Accepts, AwaitsMove, HasNoRoom, IsBarredComset, IsNoEntry, IsNowhere, IsOpen, IsTakenByAnother, IsTakenUp, Judges, JudgesInOrder, JudgesOrder, OfEntry, RefusesInOrder, refusal_of, refused_with}
use Rattle.osdp_bus_laws.proofs.Calling.{names_take, no_comsets}
use Rattle.osdp_bus_laws.proofs.Ordering.{order_made}
use Rattle.osdp_bus_laws.proofs.Places.{both_false, free_beside, none_at}
use Rattle.osdp_bus_laws.proofs.Rooms.{HasRooms}

-- ---- a cause that a test decides

judged : (fault : BusFault) (Cause : Type 0) (Next : Option BusFault → Type 0) (t : Bool) (rest : Option BusFault) → (t ≡ true → Cause) → (t ≡ false → Cause → ⊥)
    → Next rest → Judges fault Cause Next (if t then Some fault else rest)
judged fault Cause Next true rest holds fails next = inl (holds refl, refl)
judged fault Cause Next false rest holds fails next = inr (fails refl, next)

-- ---- places

either_true : (x y : Bool) → (x || y) ≡ true → (x ≡ true) ⊎ (y ≡ true)
either_true true y h = inl refl
either_true false y h = inr h

taken_names : (a : ℕ) (d : Entry) → takes_up a d ≡ true → Names a d
taken_names a d h = by_either (either_true (is_at a d) (is_reserved a d.reserved) h)
  where
    by_reserved : (o : Option ℕ) → d.reserved ≡ o → is_reserved a o ≡ true → Names a d
    by_reserved None none is = absurd cc
    by_reserved (Some reserved) some is = inr (some ∙ ap Some (eqb-true reserved a is))

    by_either : (is_at a d ≡ true) ⊎ (is_reserved a d.reserved ≡ true) → Names a d
    by_either (inl is) = inl (eqb-true (address_of d) a is)
    by_either (inr is) = by_reserved d.reserved refl is

abbrev Found : (Entry → Bool) → List Entry → Type 0
Found test ds = (j : ℕ) × (f : Entry) × (slice_get ds j ≡ Some f) × (test f ≡ true)

some_at : (test : Entry → Bool) (ds : List Entry) → list_any test ds ≡ true → Found test ds
some_at test [] h = absurd cc
some_at test (x ∷ ds) h = by_test (test x) refl h (λ later. some_at test ds later)
  where
    one_on : Found test ds → Found test (x ∷ ds)
    one_on (j, f, there, passes) = (suc j, f, there, passes)

    by_test : (t : Bool) → test x ≡ t → (t || list_any test ds) ≡ true → (list_any test ds ≡ true → Found test ds) → Found test (x ∷ ds)
    by_test true passes later others = (zero, x, refl, passes)
    by_test false fails later others = one_on (others later)

of_taken : (i j : ℕ) (ds : List Entry) (f : Entry) → slice_get (take i ds) j ≡ Some f → (j < i) × (slice_get ds j ≡ Some f)
of_taken zero j ds f at = absurd cc
of_taken (suc i) j [] f at = absurd cc
of_taken (suc i) zero (x ∷ ds) f at = (omega arith, at)
of_taken (suc i) (suc j) (x ∷ ds) f at =
    let before = of_taken i j ds f at in
    let below = before.0 in
    (omega arith, before.1)

of_dropped : (i k : ℕ) (ds : List Entry) (f : Entry) → slice_get (drop i ds) k ≡ Some f → slice_get ds (i + k) ≡ Some f
of_dropped zero k ds f at = ap (slice_get ds) (let e : zero + k ≡ k = omega arith in e) ∙ at
of_dropped (suc i) k [] f at = absurd cc
of_dropped (suc i) k (x ∷ ds) f at = ap (slice_get (x ∷ ds)) (let e : suc i + k ≡ suc (i + k) = omega arith in e) ∙ of_dropped i k ds f at

-- ---- whose an address is

taken_up : (address : ℕ) (b : BusState) → is_taken address b.devices.entries ≡ true → IsTakenUp address b
taken_up address b h = by_found (some_at (takes_up address) b.devices.entries h)
  where
    by_found : Found (takes_up address) b.devices.entries → IsTakenUp address b
    by_found (j, f, there, takes) = (j, (f, there, taken_names address f takes))

not_taken_up : (address : ℕ) (b : BusState) → is_taken address b.devices.entries ≡ false → IsTakenUp address b → ⊥
not_taken_up address b free (j, (f, there, named)) =
    let takes = names_take address f named in
    let none = none_at (takes_up address) b.devices.entries j f free there in
    cc

taken_by_another : (entry address : ℕ) (b : BusState) → is_taken_beside entry address b.devices.entries ≡ true → IsTakenByAnother entry address b
taken_by_another entry address b h =
    by_side (either_true (is_taken address (take entry b.devices.entries)) (is_taken address (drop (entry + 1) b.devices.entries)) h)
  where
    before : Found (takes_up address) (take entry b.devices.entries) → IsTakenByAnother entry address b
    before (j, f, there, takes) =
        let at = of_taken entry j b.devices.entries f there in
        (j, (λ same. let below = at.0 in omega arith), (f, at.1, taken_names address f takes))

    after : Found (takes_up address) (drop (entry + 1) b.devices.entries) → IsTakenByAnother entry address b
    after (k, f, there, takes) =
        (entry + 1 + k, (λ same. omega arith), (f, of_dropped (entry + 1) k b.devices.entries f there, taken_names address f takes))

    by_side : (is_taken address (take entry b.devices.entries) ≡ true) ⊎ (is_taken address (drop (entry + 1) b.devices.entries) ≡ true)
        → IsTakenByAnother entry address b
    by_side (inl h) = before (some_at (takes_up address) (take entry b.devices.entries) h)
    by_side (inr h) = after (some_at (takes_up address) (drop (entry + 1) b.devices.entries) h)

not_taken_by_another : (entry address : ℕ) (b : BusState) → is_taken_beside entry address b.devices.entries ≡ false → IsTakenByAnother entry address b → ⊥
not_taken_by_another entry address b free (j, apart, (f, there, named)) =
    let takes = names_take address f named in
    let none = free_beside address entry b.devices.entries j f free apart there in
    cc

-- ---- whether there is an entry

no_entry : (ds : List Entry) (n : ℕ) → slice_get ds n ≡ None → length ds ≤ n
no_entry [] n at = omega arith
no_entry (x ∷ ds) zero at = absurd cc
no_entry (x ∷ ds) (suc n) at = let later = no_entry ds n at in omega arith

is_entry : (entry : ℕ) (d : Entry) (b : BusState) → device_of entry b ≡ Some d → IsNoEntry entry b → ⊥
is_entry entry d b at none = let within = slice_get_within b.devices.entries entry d at in omega arith

-- the device of an entry is one
same_device : (entry : ℕ) (d e : Entry) (b : BusState) → device_of entry b ≡ Some d → device_of entry b ≡ Some e → d ≡ e
same_device entry d e b at there = let same : Some d ≡ Some e = sym at ∙ there in cc

-- ---- each call

judges_add : (address : ℕ) (b : BusState) → JudgesInOrder (Add address) b (add_refusal address b)
judges_add address b =
    judged TooMany (16 ≤ length b.devices.entries) (Judges OutOfRange (127 ≤ address) (Judges AddressTaken (IsTakenUp address b) Accepts))
    (nat_le most_entries (length b.devices.entries))
    (if nat_lt address 127 then (if is_taken address b.devices.entries then Some AddressTaken else None) else Some OutOfRange)
    (λ h. leb-true 16 (length b.devices.entries) h) (λ h many. let few = leb-false 16 (length b.devices.entries) h in omega arith)
    (by_address (nat_lt address 127) refl)
  where
    by_address : (t : Bool) → nat_lt address 127 ≡ t
        → Judges OutOfRange (127 ≤ address) (Judges AddressTaken (IsTakenUp address b) Accepts)
        (if t then (if is_taken address b.devices.entries then Some AddressTaken else None) else Some OutOfRange)
    by_address true h = inr (
      (λ above. let below = ltb-true address 127 h in omega arith),
      judged AddressTaken (IsTakenUp address b) Accepts (is_taken address b.devices.entries) None (taken_up address b) (not_taken_up address b) refl,
    )
    by_address false h = inl (ltb-false address 127 h, refl)

begun_is_open : (state : State) → is_closed state ≡ false → refused_unless_closed state ≡ Some NotClosedOf
begun_is_open Closed h = absurd cc
begun_is_open _ h = refl

not_open : (entry : ℕ) (d : Entry) (b : BusState) → device_of entry b ≡ Some d → is_closed d.controller.session.state ≡ true → IsOpen entry b → ⊥
not_open entry d b at closed (e, there, open_there) =
    let same = ap (λ (x : Entry). is_closed x.controller.session.state) (same_device entry d e b at there) in
    let both = sym closed ∙ same ∙ open_there in
    cc

judges_begin : (entry now : ℕ) (b : BusState) → JudgesInOrder (Begin entry now) b (begin_refusal_at entry b)
judges_begin entry now b = by_device (device_of entry b) refl
  where
    by_state : (d : Entry) → device_of entry b ≡ Some d → (t : Bool) → is_closed d.controller.session.state ≡ t
        → Judges NotClosed (IsOpen entry b) Accepts (begin_refusal_of (Some d))
    by_state d at true closed = inr (not_open entry d b at closed, ap (option_map bus_fault) (may_begin d.controller.session.state closed))
    by_state d at false begun = inl ((d, at, begun), ap (option_map bus_fault) (begun_is_open d.controller.session.state begun))

    by_device : (o : Option Entry) → device_of entry b ≡ o → JudgesInOrder (Begin entry now) b (begin_refusal_of o)
    by_device None at = inl (no_entry b.devices.entries entry at, refl)
    by_device (Some d) at = inr (is_entry entry d b at, by_state d at (is_closed d.controller.session.state) refl)

judges_withdraw : (entry : ℕ) (b : BusState) → JudgesInOrder (Withdraw entry) b (refusal_of (Withdraw entry) b)
judges_withdraw entry b = by_device (device_of entry b) refl
  where
    by_device : (o : Option Entry) → device_of entry b ≡ o → JudgesInOrder (Withdraw entry) b (refused_with (withdrawal_of o))
    by_device None at = inl (no_entry b.devices.entries entry at, refl)
    by_device (Some d) at = inr (is_entry entry d b at, refl)

-- submitting

poll_or : (command : Command) → (command ≡ Poll) ⊎ ((command ≢ Poll)
    × ((m : Machine) → submit_refusal command m ≡ (if has_room command m then None else Some FullOf)))
poll_or Poll = inl refl
poll_or command = inr ((λ h. cc), (λ m. refl))

comset_is : (command : Command) (asked : Communication) → comset_of command ≡ Some asked → command ≡ Comset asked
comset_is (Comset other) asked h = ap Comset (let same : other ≡ asked = cc in same)
comset_is command asked h = absurd cc

barred : (entry : ℕ) (command : Command) (d : Entry) (b : BusState) → device_of entry b ≡ Some d → (o : Option Communication) → comset_of command ≡ o
    → is_comset_refused o entry d b ≡ true → IsBarredComset entry command b
barred entry command d b at None none h = absurd cc
barred entry command d b at (Some asked) some h =
    (asked, comset_is command asked some, by_either (either_true (is_taken_beside entry asked.address b.devices.entries) (is_some d.reserved) h))
  where
    by_reserved : (o : Option ℕ) → d.reserved ≡ o → is_some o ≡ true → (address : ℕ) × (d.reserved ≡ Some address)
    by_reserved None none is = absurd cc
    by_reserved (Some address) same is = (address, same)

    by_either : (is_taken_beside entry asked.address b.devices.entries ≡ true) ⊎ (is_some d.reserved ≡ true)
        → IsTakenByAnother entry asked.address b ⊎ OfEntry entry (λ d. (address : ℕ) × (d.reserved ≡ Some address)) b
    by_either (inl taken) = inl (taken_by_another entry asked.address b taken)
    by_either (inr is) = inr (d, at, by_reserved d.reserved refl is)

not_barred : (entry : ℕ) (command : Command) (d : Entry) (b : BusState) → device_of entry b ≡ Some d
    → is_comset_refused (comset_of command) entry d b ≡ false → IsBarredComset entry command b → ⊥
not_barred entry command d b at h (asked, is, why) =
    by_either why (both_false (is_taken_beside entry asked.address b.devices.entries) (is_some d.reserved)
    (sym (ap (λ c. is_comset_refused (comset_of c) entry d b) is) ∙ h))
  where
    by_either : IsTakenByAnother entry asked.address b ⊎ OfEntry entry (λ d. (address : ℕ) × (d.reserved ≡ Some address)) b
        → (is_taken_beside entry asked.address b.devices.entries ≡ false) × (is_some d.reserved ≡ false) → ⊥
    by_either (inl taken) free = not_taken_by_another entry asked.address b free.0 taken
    by_either (inr (e, there, (address, reserved))) free =
        let same = ap (λ (x : Entry). is_some x.reserved) (same_device entry d e b at there) in
        let some = ap (λ (o : Option ℕ). is_some o) reserved in
        let none = sym free.1 ∙ same ∙ some in
        cc

no_room_for : (place bytes : Bool) → (place && bytes) ≡ false → (place ≡ false) ⊎ (bytes ≡ false)
no_room_for true bytes h = inr h
no_room_for false bytes h = inl refl

room_for : (place bytes : Bool) → (place && bytes) ≡ true → (place ≡ true) × (bytes ≡ true)
room_for true bytes h = (refl, h)
room_for false bytes h = absurd cc

abbrev LacksRoom : Room → Command → Entry → Type 0
LacksRoom room command d = (room.messages ≤ length d.controller.waiting) ⊎ (room.bytes - bytes_kept d.controller < command_size command)

judges_room : (entry : ℕ) (command : Command) (d : Entry) (b : BusState) → HasRooms b → device_of entry b ≡ Some d
    → Judges Full (HasNoRoom entry command b) Accepts (option_map bus_fault (if has_room command d.controller then None else Some FullOf))
judges_room entry command d b rooms at = by_test (has_room command d.controller) refl
  where
    places : d.controller.capacity ≡ b.config.room.messages
    places = ap (λ (r : Room). r.messages) (rooms entry d at)

    bytes : d.controller.room ≡ b.config.room.bytes
    bytes = ap (λ (r : Room). r.bytes) (rooms entry d at)

    by_test : (t : Bool) → has_room command d.controller ≡ t
        → Judges Full (HasNoRoom entry command b) Accepts (option_map bus_fault (if t then None else Some FullOf))
    by_test true h = inr (there_is_room, refl)
      where
        free : (nat_lt (length d.controller.waiting) d.controller.capacity ≡ true) × (nat_le (command_size command) (d.controller.room - bytes_kept d.controller) ≡ true)
        free = room_for (nat_lt (length d.controller.waiting) d.controller.capacity) (nat_le (command_size command) (d.controller.room - bytes_kept d.controller)) h

        by_cause : LacksRoom b.config.room command d → ⊥
        by_cause (inl many) = let below = ltb-true (length d.controller.waiting) d.controller.capacity free.0 in omega (arith, below, many, places)
        by_cause (inr long) = let within = leb-true (command_size command) (d.controller.room - bytes_kept d.controller) free.1 in omega (arith, within, long, bytes)

        there_is_room : HasNoRoom entry command b → ⊥
        there_is_room (e, there, full) = by_cause (subst (LacksRoom b.config.room command) (sym (same_device entry d e b at there)) full)
    by_test false h = inl ((d, at, by_lack (no_room_for (nat_lt (length d.controller.waiting) d.controller.capacity) (nat_le (command_size command) (d.controller.room - bytes_kept d.controller)) h)), refl)
      where
        by_lack : (nat_lt (length d.controller.waiting) d.controller.capacity ≡ false) ⊎ (nat_le (command_size command) (d.controller.room - bytes_kept d.controller) ≡ false) → LacksRoom b.config.room command d
        by_lack (inl place) = let many = ltb-false (length d.controller.waiting) d.controller.capacity place in inl (omega (arith, many, places))
        by_lack (inr room) = let long = leb-false (command_size command) (d.controller.room - bytes_kept d.controller) room in inr (omega (arith, long, bytes))

judges_comset : (entry : ℕ) (command : Command) (d : Entry) (b : BusState) → HasRooms b → device_of entry b ≡ Some d
    → ((m : Machine) → submit_refusal command m ≡ (if has_room command m then None else Some FullOf))
    → Judges AddressTaken (IsBarredComset entry command b) (Judges Full (HasNoRoom entry command b) Accepts) (submit_refusal_of entry command (Some d) b)
judges_comset entry command d b rooms at rule =
    judged AddressTaken (IsBarredComset entry command b) (Judges Full (HasNoRoom entry command b) Accepts) (is_comset_refused (comset_of command) entry d b)
    (option_map bus_fault (submit_refusal command d.controller)) (barred entry command d b at (comset_of command) refl) (not_barred entry command d b at)
    (subst (λ r. Judges Full (HasNoRoom entry command b) Accepts (option_map bus_fault r)) (sym (rule d.controller)) (judges_room entry command d b rooms at))

judges_submit : (entry : ℕ) (command : Command) (b : BusState) → HasRooms b → JudgesInOrder (Submit entry command) b (submit_refusal_at entry command b)
judges_submit entry command b rooms = by_device (device_of entry b) refl
  where
    by_poll : (d : Entry) → device_of entry b ≡ Some d → (command ≡ Poll) ⊎ ((command ≢ Poll)
        × ((m : Machine) → submit_refusal command m ≡ (if has_room command m then None else Some FullOf)))
        → Judges PollSubmitted (command ≡ Poll) (Judges AddressTaken (IsBarredComset entry command b) (Judges Full (HasNoRoom entry command b) Accepts))
        (submit_refusal_of entry command (Some d) b)
    by_poll d at (inl is) = inl (is, ap (λ c. submit_refusal_of entry c (Some d) b) is)
    by_poll d at (inr (other, rule)) = inr (other, judges_comset entry command d b rooms at rule)

    by_device : (o : Option Entry) → device_of entry b ≡ o → JudgesInOrder (Submit entry command) b (submit_refusal_of entry command o b)
    by_device None at = inl (no_entry b.devices.entries entry at, refl)
    by_device (Some d) at = inr (is_entry entry d b at, by_poll d at (poll_or command))

-- an order

nowhere : (command : Command) (o : Option Communication) → comset_of command ≡ o → leads_nowhere o ≡ true → IsNowhere command
nowhere command None none h = absurd cc
nowhere command (Some asked) some h = (asked, comset_is command asked some, leb-true 127 asked.address h)

not_nowhere : (command : Command) → leads_nowhere (comset_of command) ≡ false → IsNowhere command → ⊥
not_nowhere command h (asked, is, above) =
    let below = leb-false 127 asked.address (sym (ap (λ c. leads_nowhere (comset_of c)) is) ∙ h) in
    omega (arith, below, above)

judges_order : (entry : ℕ) (command : Command) (b : BusState) → HasRooms b → JudgesOrder entry command b (order_refusal_at entry command b)
judges_order entry command b rooms = by_device (device_of entry b) refl
  where
    by_poll : (d : Entry) → device_of entry b ≡ Some d → (command ≡ Poll) ⊎ ((command ≢ Poll)
        × ((m : Machine) → submit_refusal command m ≡ (if has_room command m then None else Some FullOf)))
        → Judges PollSubmitted (command ≡ Poll) (Judges AddressOutOfRange (IsNowhere command)
        (Judges AddressTaken (IsBarredComset entry command b) (Judges Full (HasNoRoom entry command b) Accepts)))
        (order_refusal_of entry command (Some d) b)
    by_poll d at (inl is) = inl (is, ap (λ c. order_refusal_of entry c (Some d) b) is)
    by_poll d at (inr (other, rule)) = inr (
      other,
      judged AddressOutOfRange (IsNowhere command) (Judges AddressTaken (IsBarredComset entry command b) (Judges Full (HasNoRoom entry command b) Accepts))
          (leads_nowhere (comset_of command)) (submit_refusal_of entry command (Some d) b) (nowhere command (comset_of command) refl) (not_nowhere command)
          (judges_comset entry command d b rooms at rule),
    )

    by_device : (o : Option Entry) → device_of entry b ≡ o → JudgesOrder entry command b (order_refusal_of entry command o b)
    by_device None at = inl (no_entry b.devices.entries entry at, refl)
    by_device (Some d) at = inr (is_entry entry d b at, by_poll d at (poll_or command))

-- another address

some_comset : (commands : List Command) → has_comset commands ≡ true → comsets_in commands ≢ []
some_comset [] h = absurd cc
some_comset (command ∷ commands) h = by_comset (comset_of command) h (λ later. some_comset commands later)
  where
    by_comset : (o : Option Communication) → (is_some o || has_comset commands) ≡ true → (has_comset commands ≡ true → comsets_in commands ≢ [])
        → option_to_list o ++ comsets_in commands ≢ []
    by_comset None later others = others later
    by_comset (Some asked) here others = λ none. absurd cc

judges_retarget : (entry address : ℕ) (b : BusState) → JudgesInOrder (Retarget entry address) b (retarget_refusal_at entry address b)
judges_retarget entry address b = by_device (device_of entry b) refl
  where
    bars : (d : Entry) → device_of entry b ≡ Some d → (is_taken_beside entry address b.devices.entries || has_comset d.controller.waiting) ≡ true
        → IsTakenByAnother entry address b ⊎ AwaitsMove entry b
    bars d at h = by_either (either_true (is_taken_beside entry address b.devices.entries) (has_comset d.controller.waiting) h)
      where
        by_either : (is_taken_beside entry address b.devices.entries ≡ true) ⊎ (has_comset d.controller.waiting ≡ true)
            → IsTakenByAnother entry address b ⊎ AwaitsMove entry b
        by_either (inl taken) = inl (taken_by_another entry address b taken)
        by_either (inr waits) = inr (d, at, some_comset d.controller.waiting waits)

    bars_not : (d : Entry) → device_of entry b ≡ Some d → (is_taken_beside entry address b.devices.entries || has_comset d.controller.waiting) ≡ false
        → IsTakenByAnother entry address b ⊎ AwaitsMove entry b → ⊥
    bars_not d at h why = by_either why (both_false (is_taken_beside entry address b.devices.entries) (has_comset d.controller.waiting) h)
      where
        by_either : IsTakenByAnother entry address b ⊎ AwaitsMove entry b
            → (is_taken_beside entry address b.devices.entries ≡ false) × (has_comset d.controller.waiting ≡ false) → ⊥
        by_either (inl taken) free = not_taken_by_another entry address b free.0 taken
        by_either (inr (e, there, waits)) free =
            waits (ap (λ (x : Entry). comsets_in x.controller.waiting) (sym (same_device entry d e b at there)) ∙ no_comsets d.controller.waiting free.1)

    by_address : (d : Entry) → device_of entry b ≡ Some d → (t : Bool) → nat_lt address 127 ≡ t
        → Judges OutOfRange (127 ≤ address) (Judges AddressTaken (IsTakenByAnother entry address b ⊎ AwaitsMove entry b) Accepts)
        (or_taken (option_map bus_fault (if t then None else Some OutOfRangeOf))
        (is_taken_beside entry address b.devices.entries || has_comset d.controller.waiting))
    by_address d at true h = inr (
      (λ above. let below = ltb-true address 127 h in omega arith),
      judged AddressTaken (IsTakenByAnother entry address b ⊎ AwaitsMove entry b) Accepts
          (is_taken_beside entry address b.devices.entries || has_comset d.controller.waiting) None (bars d at) (bars_not d at) refl,
    )
    by_address d at false h = inl (ltb-false address 127 h, refl)

    by_state : (d : Entry) → device_of entry b ≡ Some d → (t : Bool) → is_closed d.controller.session.state ≡ t
        → Judges NotClosed (IsOpen entry b) (Judges OutOfRange (127 ≤ address) (Judges AddressTaken (IsTakenByAnother entry address b ⊎ AwaitsMove entry b) Accepts))
        (retarget_refusal_of entry address (Some d) b)
    by_state d at true closed = inr (
      not_open entry d b at closed,
      subst (λ f. Judges OutOfRange (127 ≤ address) (Judges AddressTaken (IsTakenByAnother entry address b ⊎ AwaitsMove entry b) Accepts)
          (or_taken (option_map bus_fault (or_no_device f address)) (is_taken_beside entry address b.devices.entries || has_comset d.controller.waiting)))
          (sym (may_begin d.controller.session.state closed)) (by_address d at (nat_lt address 127) refl),
    )
    by_state d at false begun = inl (
      (d, at, begun),
      ap (λ f. or_taken (option_map bus_fault (or_no_device f address)) (is_taken_beside entry address b.devices.entries || has_comset d.controller.waiting))
          (begun_is_open d.controller.session.state begun),
    )

    by_device : (o : Option Entry) → device_of entry b ≡ o → JudgesInOrder (Retarget entry address) b (retarget_refusal_of entry address o b)
    by_device None at = inl (no_entry b.devices.entries entry at, refl)
    by_device (Some d) at = inr (is_entry entry d b at, by_state d at (is_closed d.controller.session.state) refl)

-- ---- the law

judges : (call : Call) (b : BusState) → HasRooms b → JudgesInOrder call b (refusal_of call b)
judges (Add address) b rooms = judges_add address b
judges (Begin entry now) b rooms = judges_begin entry now b
judges (Submit entry command) b rooms = judges_submit entry command b rooms
judges (Withdraw entry) b rooms = judges_withdraw entry b
judges (Retarget entry address) b rooms = judges_retarget entry address b
judges _ b rooms = refl

unchanged : (call : Call) (fault : BusFault) (b : BusState) → refusal_of call b ≡ Some fault → after_call call b ≡ b
unchanged (Add address) fault b h = ap (λ f. changed_unless f b (after_add address b)) h
unchanged (Begin entry now) fault b h = ap (λ f. changed_unless f b (after_begin_at entry now b)) h
unchanged (Submit entry command) fault b h = ap (λ f. changed_unless f b (after_submit_at entry command b)) h
unchanged (Withdraw entry) fault b h = by_device (device_of entry b) h
  where
    by_device : (o : Option Entry) → refused_with (withdrawal_of o) ≡ Some fault
        → option_map_or (λ d. record b { devices = record b.devices { entries = slice_set b.devices.entries entry (entry_withdraws d) } }) o b ≡ b
    by_device None refused = refl
    by_device (Some d) refused = absurd cc
unchanged (Retarget entry address) fault b h = ap (λ f. changed_unless f b (after_retarget_at entry address b)) h
unchanged (OnBytes bytes now) fault b h = absurd cc
unchanged (OnSilence now) fault b h = absurd cc
unchanged (Tick now) fault b h = absurd cc
unchanged NextReport fault b h = absurd cc

pub refuses_in_order : (b : BusState) → HasRooms b → RefusesInOrder b
refuses_in_order b rooms = record {
  judged = λ call. judges call b rooms;
  unchanged = λ call fault h. unchanged call fault b h;
  ordered = λ entry command. judges_order entry command b rooms;
  made = λ entry command. order_made entry command b;
}
