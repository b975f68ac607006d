-- No call but `add` changes how many devices a bus has.
use Rattle.osdp_bus_order_laws.proofs.Common.{◌≡◌, ◌∙◌, ap, refl, ℕ, zero, suc, ◌||◌, true, false, max, List, [], ◌∷◌, ◌++◌, length, Option, Some, None, not, slice_get, slice_set, option_map_or, items, either_way, Entry, BusFault, BusState, Devices, device_of, has_report, holder, is_silent, seen, entry_hears, after_bytes, ends_run, ends_silent, after_begin_at, after_retarget_at, after_submit_at, begin_refusal_at, changed_unless, changes_entry, entry_begins, entry_retargets, entry_submits, entry_withdraws, retarget_refusal_at, submit_refusal_at, BusTicked, bus_ticks, is_due_at, is_held_and_due, next_due, stays, ticks_at, ticks_by, ticks_held, ticks_on, ticks_with, items_keep}
use Rattle.osdp_bus_laws.specs.Calls.{Call, Add, Begin, Submit, Withdraw, Retarget, OnBytes, OnSilence, Tick, NextReport, after_call}

pub set_length : {X : Type 0} (xs : List X) (i : ℕ) (x : X) → length (slice_set xs i x) ≡ length xs
set_length [] i x = refl
set_length (y ∷ xs) zero x = refl
set_length (y ∷ xs) (suc i) x = ap suc (set_length xs i x)

pub set_same : {X : Type 0} (xs : List X) (i : ℕ) (x y : X) → slice_get xs i ≡ Some x → slice_get (slice_set xs i y) i ≡ Some y
set_same [] i x y at = absurd cc
set_same (z ∷ xs) zero x y at = refl
set_same (z ∷ xs) (suc i) x y at = set_same xs i x y at

pub set_apart : {X : Type 0} (xs : List X) (i j : ℕ) (y : X) → (j ≡ i → ⊥) → slice_get (slice_set xs i y) j ≡ slice_get xs j
set_apart [] i j y other = refl
set_apart (z ∷ xs) zero zero y other = absurd (other refl)
set_apart (z ∷ xs) zero (suc j) y other = refl
set_apart (z ∷ xs) (suc i) zero y other = refl
set_apart (z ∷ xs) (suc i) (suc j) y other = set_apart xs i j y (λ h. other (ap suc h))

pub push_length : {X : Type 0} (xs : List X) (x : X) → length (xs ++ x ∷ []) ≡ suc (length xs)
push_length [] x = refl
push_length (y ∷ xs) x = ap suc (push_length xs x)

module _ (n : ℕ) where
  abbrev Long : Devices → Type 0
  Long ds = length ds.entries ≡ n

  abbrev Counts : BusState → Type 0
  Counts b = Long b.devices

  run : (b : BusState) → Counts b → Counts (ends_run b)
  run b is = items_keep b.greatest Long (λ p i d ds at long. set_length ds.entries i (entry_hears p b.greatest d) ∙ long) (items true b.held) b.devices is

  silent : (b : BusState) → Counts b → Counts (ends_silent b)
  silent b is = either_way Counts (is_silent b) (ends_run b) b (λ h. run b is) (λ h. is)

  bytes_come : (bytes : List ℕ) (now : ℕ) (b : BusState) → Counts b → Counts (after_bytes bytes now b)
  bytes_come [] now b is = is
  bytes_come (byte ∷ bytes) now b is =
      let e = ends_silent (seen now b) in
      items_keep e.greatest Long (λ p i d ds at long. set_length ds.entries i (entry_hears p e.greatest d) ∙ long) (items false (e.held ++ (byte ∷ bytes))) e.devices
      (silent (seen now b) is)

  abbrev CountsTicked : BusTicked → Type 0
  CountsTicked t = Counts t.bus

  with_one : (i : ℕ) (o : Option Entry) (b : BusState) → Counts b → CountsTicked (ticks_with i o b)
  with_one i None b is = is
  with_one i (Some d) b is = set_length b.devices.entries i _ ∙ is

  at_one : (o : Option ℕ) (b : BusState) → Counts b → CountsTicked (ticks_at o b)
  at_one None b is = is
  at_one (Some i) b is = with_one i (device_of i b) b is

  by_holder : (o : Option ℕ) (b : BusState) → Counts b → CountsTicked (ticks_by o b)
  by_holder None b is =
      let e = ends_run b in
      either_way CountsTicked (has_report e) (stays e) (ticks_at (next_due e) e) (λ h. run b is) (λ h. at_one (next_due e) e (run b is))
  by_holder (Some m) b is =
      let e = ends_run b in
      either_way CountsTicked (is_due_at m b) (ticks_held m e) (stays b)
      (λ due. either_way CountsTicked (has_report e || not (is_held_and_due m e)) (stays e) (ticks_at (Some m) e) (λ h. run b is) (λ h. at_one (Some m) e (run b is)))
      (λ due. is)

  tick : (now : ℕ) (b : BusState) → Counts b → CountsTicked (bus_ticks now b)
  tick now b is =
      let e = ends_silent (seen now b) in
      either_way CountsTicked (has_report b) (stays (seen now b)) (ticks_on e) (λ h. is) (λ h. by_holder (holder e) e (silent (seen now b) is))

  pub changes : (entry : ℕ) (change : Entry → Entry) (b : BusState) → Counts b → Counts (changes_entry entry change b)
  changes entry change b is = by_device (device_of entry b)
    where
      by_device : (o : Option Entry)
          → Counts (option_map_or (λ d. record b { devices = record b.devices { entries = slice_set b.devices.entries entry (change d) } }) o b)
      by_device None = is
      by_device (Some d) = set_length b.devices.entries entry (change d) ∙ is

  pub unless : (f : Option BusFault) (b c : BusState) → Counts b → Counts c → Counts (changed_unless f b c)
  unless None b c before after = after
  unless (Some fault) b c before after = before

  abbrev pub AddsNone : Call → Type 0
  AddsNone (Add address) = ⊥
  AddsNone _ = Unit {0}

  pub counts : (call : Call) (b : BusState) → AddsNone call → length b.devices.entries ≡ n → length (after_call call b).devices.entries ≡ n
  counts (Add address) b none is = absurd none
  counts (Begin entry now) b none is =
      unless (begin_refusal_at entry b) b (after_begin_at entry now b) is (changes entry (entry_begins (max b.greatest now)) (seen now b) is)
  counts (Submit entry command) b none is =
      unless (submit_refusal_at entry command b) b (after_submit_at entry command b) is (changes entry (entry_submits command) b is)
  counts (Withdraw entry) b none is = changes entry entry_withdraws b is
  counts (Retarget entry address) b none is =
      unless (retarget_refusal_at entry address b) b (after_retarget_at entry address b) is (changes entry (entry_retargets address) b is)
  counts (OnBytes bytes now) b none is = bytes_come bytes now b is
  counts (OnSilence now) b none is = run (seen now b) is
  counts (Tick now) b none is = tick now b is
  counts NextReport b none is = is
