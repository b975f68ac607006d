-- How long an address stays reserved, and a report waits.
use Rattle.osdp_bus_laws.proofs.Common.{◌≡◌, ◌∙◌, ap, sym, ℕ, Bool, true, false, ◌==◌, ◌&&◌, max, List, [], ◌∷◌, Option, Some, None, refl, if◌then◌else◌, is_none, is_some, option_map, slice_set, option_map_or, Command, Communication, Report, Opened, is_comset, comset_of, submit_refusal, Entry, BusFault, AddressTaken, BusState, device_of, seen, is_taken_beside, reserved_for, reserved_told, add_refusal, after_add, after_begin_at, after_retarget_at, after_submit_at, begin_refusal_at, bus_fault, changed_unless, changes_entry, entry_begins, entry_retargets, entry_submits, entry_withdraws, is_comset_refused, new_device, reserved_without, retarget_refusal_at, retarget_refusal_of, submit_refusal_at, submit_refusal_of, withdrawn_of, NoneFrees, ReservationsLast, accepts, frees, is_comset_done, is_some_comset, reserved_at, tells_done, withdraws_comset, Call, Add, Begin, Submit, Withdraw, Retarget, OnBytes, OnSilence, Tick, NextReport, after_call, after_calls, arisen, KeepsReports}
use Rattle.osdp_bus_laws.proofs.Calling.{sound_call, unless_taken}
use Rattle.osdp_bus_laws.proofs.Places.{both_false, reserved_added, reserved_set, reserved_there}
use Rattle.osdp_bus_laws.proofs.Sound.{SoundBus, sound_seen}
use Rattle.osdp_bus_laws.proofs.Telling.{ReservesByReport, follows_bytes, follows_run, follows_tick, reserved_with}

-- what a call makes of a reservation
abbrev made : Bool → Option Communication → Option ℕ → Option ℕ
made freed accepted reserved = if freed then None else reserved_for accepted reserved

record Steps (call : Call) (j : ℕ) (b : BusState) : Type 0 where
  after : reserved_at j (after_call call b) ≡ made (frees call j b) (accepts call j b) (reserved_at j b)
  fresh : (asked : Communication) → accepts call j b ≡ Some asked → reserved_at j b ≡ None
  either : (asked : Communication) → accepts call j b ≡ Some asked → frees call j b ≡ false

-- ---- what comes from the line

told_done : (report : Report) (reserved : Option ℕ) → reserved_told report reserved ≡ (if is_comset_done report then None else reserved)
told_done (Opened id) reserved = refl
told_done _ reserved = refl

with_done : (o : Option (ℕ × Report)) (j : ℕ) (reserved : Option ℕ) → reserved_with o j reserved ≡ (if tells_done j o then None else reserved)
with_done None j reserved = refl
with_done (Some (i, report)) j reserved = by_test (i == j)
  where
    by_test : (b : Bool) → (if b then reserved_told report reserved else reserved) ≡ (if b && is_comset_done report then None else reserved)
    by_test true = told_done report reserved
    by_test false = refl

line_steps : (old new : BusState) (j : ℕ) → ReservesByReport old.devices new.devices
    → reserved_at j new ≡ (if tells_done j (arisen old.devices.report new.devices.report) then None else reserved_at j old)
line_steps old new j follows = by_report old.devices.report refl
  where
    by_report : (o : Option (ℕ × Report)) → old.devices.report ≡ o
        → reserved_at j new ≡ (if tells_done j (arisen o new.devices.report) then None else reserved_at j old)
    by_report None none = follows.arises none j ∙ with_done new.devices.report j (reserved_at j old)
    by_report (Some waiting) some = (follows.stays (ap (λ (o : Option (ℕ × Report)). is_some o) some)).1 j

-- ---- a device of an entry changes

changed_at : (entry j : ℕ) (change : Entry → Entry) (b : BusState) (d : Entry) → device_of entry b ≡ Some d
    → reserved_at j (changes_entry entry change b) ≡ (if entry == j then (change d).reserved else reserved_at j b)
changed_at entry j change b d at =
    ap (λ o. reserved_at j (option_map_or (λ d. record b { devices = record b.devices { entries = slice_set b.devices.entries entry (change d) } }) o b)) at
    ∙ reserved_set b.devices.entries entry d (change d) j at

not_there : (entry j : ℕ) (change : Entry → Entry) (b : BusState) → device_of entry b ≡ None → reserved_at j (changes_entry entry change b) ≡ reserved_at j b
not_there entry j change b at =
    ap (λ o. reserved_at j (option_map_or (λ d. record b { devices = record b.devices { entries = slice_set b.devices.entries entry (change d) } }) o b)) at

same_there : (x y : Bool) (was before : Option ℕ) → (x ≡ true → before ≡ was) → (if x then was else before) ≡ before
same_there true y was before there = sym (there refl)
same_there false y was before there = refl

-- a session begins

begin_steps : (entry now j : ℕ) (f : Option BusFault) (b : BusState) → reserved_at j (changed_unless f b (after_begin_at entry now b)) ≡ reserved_at j b
begin_steps entry now j (Some fault) b = refl
begin_steps entry now j None b = by_device (device_of entry b) refl
  where
    by_device : (o : Option Entry) → device_of entry b ≡ o → reserved_at j (after_begin_at entry now b) ≡ reserved_at j b
    by_device None at = not_there entry j (entry_begins (max b.greatest now)) (seen now b) at
    by_device (Some d) at =
        changed_at entry j (entry_begins (max b.greatest now)) (seen now b) d at
        ∙ same_there (entry == j) true d.reserved (reserved_at j b) (reserved_there b.devices.entries entry d j at)

-- a device is added

add_steps : (address j : ℕ) (f : Option BusFault) (b : BusState) → reserved_at j (changed_unless f b (after_add address b)) ≡ reserved_at j b
add_steps address j (Some fault) b = refl
add_steps address j None b = reserved_added b.devices.entries (new_device address b.config) j refl

-- a command is submitted

accepted : (x : Bool) (o : Option Communication) (was before : Option ℕ) → (x ≡ true → before ≡ was)
    → (if x then reserved_for o was else before) ≡ reserved_for (if x && true then o else None) before
accepted true o was before there = ap (reserved_for o) (sym (there refl))
accepted false o was before there = refl

no_reservation : (o : Option ℕ) → is_some o ≡ false → o ≡ None
no_reservation None h = refl
no_reservation (Some a) h = cc

unreserved : (x : Bool) (o : Option Communication) (entry : ℕ) (d : Entry) (b : BusState) (j : ℕ) (asked : Communication) → (x ≡ true → reserved_at j b ≡ d.reserved)
    → is_comset_refused o entry d b ≡ false → (if x && true then o else None) ≡ Some asked → reserved_at j b ≡ None
unreserved true None entry d b j asked there ok h = cc
unreserved true (Some other) entry d b j asked there ok h =
    there refl ∙ no_reservation d.reserved (both_false (is_taken_beside entry other.address b.devices.entries) (is_some d.reserved) ok).1
unreserved false o entry d b j asked there ok h = cc

submit_steps : (entry j : ℕ) (command : Command) (f : Option BusFault) (b : BusState) → submit_refusal_at entry command b ≡ f
    → (reserved_at j (changed_unless f b (after_submit_at entry command b))
    ≡ reserved_for (if entry == j && is_none f then comset_of command else None) (reserved_at j b))
    × ((asked : Communication) → (if entry == j && is_none f then comset_of command else None) ≡ Some asked → reserved_at j b ≡ None)
submit_steps entry j command (Some fault) b refused = (by_test (entry == j), λ asked h. absurd (not_taken (entry == j) asked h))
  where
    by_test : (x : Bool) → reserved_at j b ≡ reserved_for (if x && false then comset_of command else None) (reserved_at j b)
    by_test true = refl
    by_test false = refl

    not_taken : (x : Bool) (asked : Communication) → (if x && false then comset_of command else None) ≡ Some asked → ⊥
    not_taken true asked h = cc
    not_taken false asked h = cc
submit_steps entry j command None b ok = by_device (device_of entry b) refl
  where
    by_device : (o : Option Entry) → device_of entry b ≡ o
        → (reserved_at j (after_submit_at entry command b) ≡ reserved_for (if entry == j && true then comset_of command else None) (reserved_at j b))
        × ((asked : Communication) → (if entry == j && true then comset_of command else None) ≡ Some asked → reserved_at j b ≡ None)
    by_device None at = absurd (let e = sym (ap (λ o. submit_refusal_of entry command o b) at) ∙ ok in cc)
    by_device (Some d) at =
        let parts = unless_taken (is_comset_refused (comset_of command) entry d b) AddressTaken (option_map bus_fault (submit_refusal command d.controller))
        (sym (ap (λ o. submit_refusal_of entry command o b) at) ∙ ok) in
        let there = reserved_there b.devices.entries entry d j at in (
          changed_at entry j (entry_submits command) b d at ∙ accepted (entry == j) (comset_of command) d.reserved (reserved_at j b) there,
          λ asked h. unreserved (entry == j) (comset_of command) entry d b j asked there parts.0 h,
        )

-- a command is withdrawn

withdrawn : (x : Bool) (o : Option Command) (was before : Option ℕ) → (x ≡ true → before ≡ was)
    → (if x then reserved_without o was else before) ≡ (if x && is_some_comset o then None else before)
withdrawn false o was before there = refl
withdrawn true None was before there = sym (there refl)
withdrawn true (Some command) was before there = by_test (is_comset command)
  where
    by_test : (y : Bool) → (if y then None else was) ≡ (if y then None else before)
    by_test true = refl
    by_test false = sym (there refl)

withdraw_steps : (entry j : ℕ) (b : BusState) → reserved_at j (changes_entry entry entry_withdraws b)
    ≡ (if entry == j && withdraws_comset (device_of entry b) then None else reserved_at j b)
withdraw_steps entry j b = by_device (device_of entry b) refl
  where
    by_device : (o : Option Entry) → device_of entry b ≡ o → reserved_at j (changes_entry entry entry_withdraws b)
        ≡ (if entry == j && withdraws_comset o then None else reserved_at j b)
    by_device None at = not_there entry j entry_withdraws b at ∙ by_test (entry == j)
      where
        by_test : (x : Bool) → reserved_at j b ≡ (if x && false then None else reserved_at j b)
        by_test true = refl
        by_test false = refl
    by_device (Some d) at =
        changed_at entry j entry_withdraws b d at
        ∙ withdrawn (entry == j) (withdrawn_of d) d.reserved (reserved_at j b) (reserved_there b.devices.entries entry d j at)

-- an address is set

retarget_steps : (entry address j : ℕ) (f : Option BusFault) (b : BusState) → retarget_refusal_at entry address b ≡ f
    → reserved_at j (changed_unless f b (after_retarget_at entry address b)) ≡ (if entry == j && is_none f then None else reserved_at j b)
retarget_steps entry address j (Some fault) b refused = by_test (entry == j)
  where
    by_test : (x : Bool) → reserved_at j b ≡ (if x && false then None else reserved_at j b)
    by_test true = refl
    by_test false = refl
retarget_steps entry address j None b ok = by_device (device_of entry b) refl
  where
    by_device : (o : Option Entry) → device_of entry b ≡ o
        → reserved_at j (after_retarget_at entry address b) ≡ (if entry == j && true then None else reserved_at j b)
    by_device None at = absurd (let e = sym (ap (λ o. retarget_refusal_of entry address o b) at) ∙ ok in cc)
    by_device (Some d) at = changed_at entry j (entry_retargets address) b d at ∙ by_test (entry == j)
      where
        by_test : (x : Bool) → (if x then None else reserved_at j b) ≡ (if x && true then None else reserved_at j b)
        by_test true = refl
        by_test false = refl

-- ---- each call

nothing_accepted : (call : Call) (j : ℕ) (b : BusState) → accepts call j b ≡ None
    → reserved_at j (after_call call b) ≡ (if frees call j b then None else reserved_at j b) → Steps call j b
nothing_accepted call j b none after = record {
  after = after ∙ ap (λ o. made (frees call j b) o (reserved_at j b)) (sym none);
  fresh = λ asked h. absurd (let e = sym none ∙ h in cc);
  either = λ asked h. absurd (let e = sym none ∙ h in cc);
}

steps : (call : Call) (j : ℕ) (b : BusState) → SoundBus b → Steps call j b
steps (Add address) j b is = nothing_accepted (Add address) j b refl (add_steps address j (add_refusal address b) b)
steps (Begin entry now) j b is = nothing_accepted (Begin entry now) j b refl (begin_steps entry now j (begin_refusal_at entry b) b)
steps (Submit entry command) j b is =
    let both = submit_steps entry j command (submit_refusal_at entry command b) b refl in
    record { after = both.0; fresh = both.1; either = λ asked h. refl }
steps (Withdraw entry) j b is = nothing_accepted (Withdraw entry) j b refl (withdraw_steps entry j b)
steps (Retarget entry address) j b is =
    nothing_accepted (Retarget entry address) j b refl (retarget_steps entry address j (retarget_refusal_at entry address b) b refl)
steps (OnBytes bytes now) j b is =
    nothing_accepted (OnBytes bytes now) j b refl (line_steps b (after_call (OnBytes bytes now) b) j (follows_bytes bytes now b is))
steps (OnSilence now) j b is =
    nothing_accepted (OnSilence now) j b refl (line_steps b (after_call (OnSilence now) b) j (follows_run (seen now b) (sound_seen now b is)))
steps (Tick now) j b is = nothing_accepted (Tick now) j b refl (line_steps b (after_call (Tick now) b) j (follows_tick now b is))
steps NextReport j b is = nothing_accepted NextReport j b refl refl

-- ---- the laws

one_lasts : (call : Call) (j address : ℕ) (b : BusState) → SoundBus b → reserved_at j b ≡ Some address → frees call j b ≡ false
    → reserved_at j (after_call call b) ≡ Some address
one_lasts call j address b is reserved stands =
    let step = steps call j b is in
    step.after ∙ ap (λ x. made x (accepts call j b) (reserved_at j b)) stands ∙ by_accepted step (accepts call j b) refl
  where
    by_accepted : Steps call j b → (o : Option Communication) → accepts call j b ≡ o → reserved_for o (reserved_at j b) ≡ Some address
    by_accepted step None none = reserved
    by_accepted step (Some asked) some = absurd (let empty = step.fresh asked some in let e = sym empty ∙ reserved in cc)

lasts : (calls : List Call) (j address : ℕ) (b : BusState) → SoundBus b → reserved_at j b ≡ Some address → NoneFrees calls j b
    → reserved_at j (after_calls calls b) ≡ Some address
lasts [] j address b is reserved stand = reserved
lasts (call ∷ calls) j address b is reserved stand =
    lasts calls j address (after_call call b) (sound_call call b is) (one_lasts call j address b is reserved stand.0) stand.1

pub reservations_last : (b : BusState) → SoundBus b → ReservationsLast b
reservations_last b is = record {
  begins = λ call j asked h.
      let step = steps call j b is in (
        step.fresh asked h,
        step.after ∙ ap (λ x. made x (accepts call j b) (reserved_at j b)) (step.either asked h) ∙ ap (λ o. reserved_for o (reserved_at j b)) h,
      );
  not_else = λ call j none empty.
      (steps call j b is).after ∙ ap (λ o. made (frees call j b) o (reserved_at j b)) none ∙ ap (made (frees call j b) None) empty ∙ either_none (frees call j b);
  lasts = λ calls j address reserved stand. lasts calls j address b is reserved stand;
  ends = λ call j freed. (steps call j b is).after ∙ ap (λ x. made x (accepts call j b) (reserved_at j b)) freed;
}
  where
    either_none : (x : Bool) → made x None None ≡ None
    either_none true = refl
    either_none false = refl

-- ---- reports

pub kept_unless : (f : Option BusFault) (old new : BusState) → new.devices.report ≡ old.devices.report → (changed_unless f old new).devices.report ≡ old.devices.report
kept_unless None old new same = same
kept_unless (Some fault) old new same = refl

pub changed_report : (entry : ℕ) (change : Entry → Entry) (b : BusState) → (changes_entry entry change b).devices.report ≡ b.devices.report
changed_report entry change b = by_device (device_of entry b)
  where
    by_device : (o : Option Entry)
        → (option_map_or (λ d. record b { devices = record b.devices { entries = slice_set b.devices.entries entry (change d) } }) o b).devices.report ≡ b.devices.report
    by_device None = refl
    by_device (Some d) = refl

pub keeps_reports : (b : BusState) → SoundBus b → KeepsReports b
keeps_reports b is (Add address) waiting h taken = kept_unless (add_refusal address b) b (after_add address b) refl ∙ h
keeps_reports b is (Begin entry now) waiting h taken =
    kept_unless (begin_refusal_at entry b) b (after_begin_at entry now b) (changed_report entry (entry_begins (max b.greatest now)) (seen now b)) ∙ h
keeps_reports b is (Submit entry command) waiting h taken =
    kept_unless (submit_refusal_at entry command b) b (after_submit_at entry command b) (changed_report entry (entry_submits command) b) ∙ h
keeps_reports b is (Withdraw entry) waiting h taken = changed_report entry entry_withdraws b ∙ h
keeps_reports b is (Retarget entry address) waiting h taken =
    kept_unless (retarget_refusal_at entry address b) b (after_retarget_at entry address b) (changed_report entry (entry_retargets address) b) ∙ h
keeps_reports b is (OnBytes bytes now) waiting h taken = ((follows_bytes bytes now b is).stays (ap (λ (o : Option (ℕ × Report)). is_some o) h)).0 ∙ h
keeps_reports b is (OnSilence now) waiting h taken =
    ((follows_run (seen now b) (sound_seen now b is)).stays (ap (λ (o : Option (ℕ × Report)). is_some o) h)).0 ∙ h
keeps_reports b is (Tick now) waiting h taken = ((follows_tick now b is).stays (ap (λ (o : Option (ℕ × Report)). is_some o) h)).0 ∙ h
keeps_reports b is NextReport waiting h taken = absurd (taken refl)
