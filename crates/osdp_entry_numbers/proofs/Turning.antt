-- Whose turn it is changes nothing of a bus but that, as long as a tick asks the same entry.
use Rattle.osdp_entry_numbers.proofs.Common.{◌≡◌, ℕ, Bool, true, false, cond, not, ◌||◌, List, [], ◌∷◌, ◌++◌, slice_set, Option, Some, None, refl, sym, subst, ap, ◌∙◌, max, option_map, option_map_or, items, whole_packets, Command, Communication, comset_of, submit_refusal, Report, BusState, device_of, has_report, holder, is_silent, seen, after_bytes, ends_run, ends_silent, hears_bytes, after_begin_at, after_retarget_at, after_submit_at, begin_refusal_at, changed_unless, changes_entry, entry_begins, entry_retargets, entry_submits, entry_withdraws, bus_fault, is_comset_refused, remembered_after, retarget_refusal_at, retarget_refusal_of, submit_refusal_at, submit_refusal_of, BusTicked, asks_free, bus_ticks, is_due_at, is_held_and_due, next_due, stays, ticks_at, ticks_by, ticks_free, ticks_held, ticks_on, ticks_with, Entry, BusFault, AddressTaken, judged, SoundBus, asked_at, asked_by_holder, read_at_silence, read_by, as_they_stand, AreNumbers, renumbers}
use Rattle.osdp_bus_laws.specs.Calls as bus
use Rattle.osdp_entry_numbers.proofs.Buses.{IsTurn, asked_same, next_same, tick_read, tick_same}
use Rattle.osdp_entry_numbers.proofs.Entries.{Same}
use Rattle.osdp_entry_numbers.proofs.Hearing.{UnderDevices}
use Rattle.osdp_entry_numbers.proofs.Panels.{HasTurn, IsNoAdd}

abbrev pub turned_to : ℕ → BusState → BusState
turned_to first b = record b { first = first }

pub same_numbers : AreNumbers as_they_stand
same_numbers = record { back = λ i. refl; forth = λ k. refl }

-- the same numbers change nothing
same_option : (o : Option ℕ) → option_map as_they_stand.ordered o ≡ o
same_option None = refl
same_option (Some k) = refl

same_waits : (o : Option (ℕ × Report)) → o ≡ option_map (renumbers as_they_stand.ordered) o
same_waits None = refl
same_waits (Some said) = refl

pub same_under : (b : BusState) → UnderDevices as_they_stand b.devices b.devices
same_under b = record { entries = λ i. Same refl; report = same_waits b.devices.report }

either_first : (x : Bool) (first : ℕ) (b c : BusState) → cond x (turned_to first b) (turned_to first c) ≡ turned_to first (cond x b c)
either_first true first b c = refl
either_first false first b c = refl

silent_first : (first : ℕ) (b : BusState) → ends_silent (turned_to first b) ≡ turned_to first (ends_silent b)
silent_first first b = either_first (is_silent b) first (ends_run b) b

bytes_first : (bytes : List ℕ) (now first : ℕ) (b : BusState) → after_bytes bytes now (turned_to first b) ≡ turned_to first (after_bytes bytes now b)
bytes_first [] now first b = refl
bytes_first (byte ∷ bytes) now first b = ap (hears_bytes (byte ∷ bytes)) (silent_first first (seen now b))

-- ---- a tick

pub record TickedTo (whole part : BusTicked) : Type 0 where
  pub first : ℕ
  pub same : whole.bus ≡ turned_to first part.bus

rests_to : (first : ℕ) (b : BusState) → TickedTo (stays (turned_to first b)) (stays b)
rests_to first b = record { first = first; same = refl }

at_to : (first : ℕ) (o : Option ℕ) (b : BusState) → TickedTo (ticks_at o (turned_to first b)) (ticks_at o b)
at_to first None b = rests_to first b
at_to first (Some k) b = by_entry (device_of k b)
  where
    by_entry : (q : Option Entry) → TickedTo (ticks_with k q (turned_to first b)) (ticks_with k q b)
    by_entry None = rests_to first b
    by_entry (Some d) = record { first = (ticks_with k (Some d) b).bus.first; same = refl }

free_to : (first : ℕ) (b : BusState) → IsTurn as_they_stand first (asks_free None (λ asked. asked) b) → TickedTo (ticks_free (turned_to first b)) (ticks_free b)
free_to first b turn = by_test (has_report b) turn
  where
    by_test : (x : Bool) → IsTurn as_they_stand first (cond x None (next_due b))
        → TickedTo (cond x (stays (turned_to first b)) (ticks_at (next_due (turned_to first b)) (turned_to first b))) (cond x (stays b) (ticks_at (next_due b) b))
    by_test true turn = rests_to first b
    by_test false turn =
        subst (λ o. TickedTo (ticks_at o (turned_to first b)) (ticks_at (next_due b) b))
        (sym (next_same as_they_stand same_numbers b.remembered first b b.devices (same_under b) turn ∙ same_option (next_due b))) (at_to first (next_due b) b)

held_to : (first k : ℕ) (b : BusState) → TickedTo (ticks_held k (turned_to first b)) (ticks_held k b)
held_to first k b = by_test (has_report b || not (is_held_and_due k b))
  where
    by_test : (x : Bool) → TickedTo (cond x (stays (turned_to first b)) (ticks_at (Some k) (turned_to first b))) (cond x (stays b) (ticks_at (Some k) b))
    by_test true = rests_to first b
    by_test false = at_to first (Some k) b

by_to : (first : ℕ) (o : Option ℕ) (b : BusState) → IsTurn as_they_stand first (asked_by_holder o b) → TickedTo (ticks_by o (turned_to first b)) (ticks_by o b)
by_to first None b turn = free_to first (ends_run b) turn
by_to first (Some k) b turn = by_test (is_due_at k b)
  where
    by_test : (x : Bool) → TickedTo (cond x (ticks_held k (turned_to first (ends_run b))) (stays (turned_to first b))) (cond x (ticks_held k (ends_run b)) (stays b))
    by_test true = held_to first k (ends_run b)
    by_test false = rests_to first b

tick_to : (now first : ℕ) (b : BusState) → IsTurn as_they_stand first (asked_at now b) → TickedTo (bus_ticks now (turned_to first b)) (bus_ticks now b)
tick_to now first b turn = by_test (has_report b) turn
  where
    by_test : (x : Bool) → IsTurn as_they_stand first (cond x None (asked_by_holder (holder (judged now b)) (judged now b)))
        → TickedTo (cond x (stays (turned_to first (seen now b))) (ticks_on (ends_silent (turned_to first (seen now b))))) (cond x (stays (seen now b)) (ticks_on (judged now b)))
    by_test true turn = rests_to first (seen now b)
    by_test false turn =
        subst (λ w. TickedTo (ticks_on w) (ticks_on (judged now b))) (sym (silent_first first (seen now b))) (by_to first (holder (judged now b)) (judged now b) turn)

-- ---- each call

changes_first : (k : ℕ) (change : Entry → Entry) (first : ℕ) (b : BusState) → changes_entry k change (turned_to first b) ≡ turned_to first (changes_entry k change b)
changes_first k change first b = by_entry (device_of k b)
  where
    by_entry : (o : Option Entry)
        → option_map_or (λ (d : Entry). record (turned_to first b) { devices = record b.devices { entries = slice_set b.devices.entries k (change d) } }) o (turned_to first b)
        ≡ turned_to first (option_map_or (λ (d : Entry). record b { devices = record b.devices { entries = slice_set b.devices.entries k (change d) } }) o b)
    by_entry None = refl
    by_entry (Some d) = refl

unless_first : (f : Option BusFault) (first : ℕ) (b c d : BusState) → d ≡ turned_to first c → changed_unless f (turned_to first b) d ≡ turned_to first (changed_unless f b c)
unless_first None first b c d same = same
unless_first (Some fault) first b c d same = refl

refused_first : (o : Option Communication) (k : ℕ) (d : Entry) (first : ℕ) (b : BusState) → is_comset_refused o k d (turned_to first b) ≡ is_comset_refused o k d b
refused_first None k d first b = refl
refused_first (Some asked) k d first b = refl

pub submit_first : (k : ℕ) (command : Command) (first : ℕ) (b : BusState) → submit_refusal_at k command (turned_to first b) ≡ submit_refusal_at k command b
submit_first k command first b = by_entry (device_of k b)
  where
    by_entry : (o : Option Entry) → submit_refusal_of k command o (turned_to first b) ≡ submit_refusal_of k command o b
    by_entry None = refl
    by_entry (Some d) =
        ap (λ x. cond x (Some AddressTaken) (option_map bus_fault (submit_refusal command d.controller))) (refused_first (comset_of command) k d first b)

pub retarget_first : (k address first : ℕ) (b : BusState) → retarget_refusal_at k address (turned_to first b) ≡ retarget_refusal_at k address b
retarget_first k address first b = by_entry (device_of k b)
  where
    by_entry : (o : Option Entry) → retarget_refusal_of k address o (turned_to first b) ≡ retarget_refusal_of k address o b
    by_entry None = refl
    by_entry (Some d) = refl

remembered_first : (first : ℕ) (b : BusState) (o : Option (ℕ × Report)) → remembered_after o (turned_to first b) ≡ remembered_after o b
remembered_first first b None = refl
remembered_first first b (Some said) = refl

-- what a call makes of it, and reads
pub record CallTo (call : bus.Call) (first : ℕ) (b : BusState) : Type 0 where
  pub next : ℕ
  pub same : bus.after_call call (turned_to first b) ≡ turned_to next (bus.after_call call b)
  pub read : read_by call (turned_to first b) ≡ read_by call b

pub call_to : (call : bus.Call) (first : ℕ) (b : BusState) → SoundBus (turned_to first b) → IsNoAdd call → HasTurn as_they_stand call first b → CallTo call first b
call_to (bus.Add address) first b sound added turn = absurd added
call_to (bus.Begin k now) first b sound added turn = record {
  next = first;
  same = unless_first (begin_refusal_at k b) first b (after_begin_at k now b) (after_begin_at k now (turned_to first b))
      (changes_first k (entry_begins (max b.greatest now)) first (seen now b));
  read = refl;
}
call_to (bus.Submit k command) first b sound added turn = record {
  next = first;
  same = ap (λ f. changed_unless f (turned_to first b) (after_submit_at k command (turned_to first b))) (submit_first k command first b)
      ∙ unless_first (submit_refusal_at k command b) first b (after_submit_at k command b) (after_submit_at k command (turned_to first b))
      (changes_first k (entry_submits command) first b);
  read = refl;
}
call_to (bus.Withdraw k) first b sound added turn = record { next = first; same = changes_first k entry_withdraws first b; read = refl }
call_to (bus.Retarget k address) first b sound added turn = record {
  next = first;
  same = ap (λ f. changed_unless f (turned_to first b) (after_retarget_at k address (turned_to first b))) (retarget_first k address first b)
      ∙ unless_first (retarget_refusal_at k address b) first b (after_retarget_at k address b) (after_retarget_at k address (turned_to first b))
      (changes_first k (entry_retargets address) first b);
  read = refl;
}
call_to (bus.OnBytes bytes now) first b sound added turn = record {
  next = first;
  same = bytes_first bytes now first b;
  read = by_bytes bytes;
}
  where
    by_bytes : (bytes : List ℕ) → read_by (bus.OnBytes bytes now) (turned_to first b) ≡ read_by (bus.OnBytes bytes now) b
    by_bytes [] = refl
    by_bytes (byte ∷ bytes) =
        ap (λ (c : BusState). read_at_silence (seen now b) ++ whole_packets (items false (c.held ++ (byte ∷ bytes)))) (silent_first first (seen now b))
call_to (bus.OnSilence now) first b sound added turn = record { next = first; same = refl; read = refl }
call_to (bus.Tick now) first b sound added turn =
    let x = tick_to now first b turn in
    record {
      next = x.first;
      same = x.same;
      read = tick_read as_they_stand same_numbers b.remembered first now b b.devices sound (same_under b);
    }
call_to bus.NextReport first b sound added turn = record {
  next = first;
  same = (λ i. record b { devices = record b.devices { report = None }; first = first; remembered = remembered_first first b b.devices.report i });
  read = refl;
}

pub asked_to : (now first : ℕ) (b : BusState) → SoundBus (turned_to first b) → IsTurn as_they_stand first (asked_at now b) → asked_at now (turned_to first b) ≡ asked_at now b
asked_to now first b sound turn = asked_same as_they_stand same_numbers b.remembered first now b b.devices sound (same_under b) turn ∙ same_option (asked_at now b)

pub sent_to : (now first : ℕ) (b : BusState) → SoundBus (turned_to first b) → IsTurn as_they_stand first (asked_at now b)
    → (bus_ticks now (turned_to first b)).sent ≡ (bus_ticks now b).sent
sent_to now first b sound turn = (tick_same as_they_stand same_numbers b.remembered first now b b.devices sound (same_under b) turn).sent
