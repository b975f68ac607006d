-- Such buses do and tell the same at each call, and are asked and refused the same.
use Rattle.osdp_entry_numbers.proofs.Common.{◌≡◌, ◌+◌, ℕ, suc, cond, not, ◌||◌, max, List, [], ◌∷◌, ◌++◌, map, map-append, take, drop, slice_get, slice_set, Option, Some, None, refl, sym, subst, ap, ◌∙◌, inl, inr, arith, is_some, option_map, option_map_or, Packet, Command, Communication, Report, BusState, Devices, device_of, has_report, holder, seen, is_taken_beside, takes_up, hears_packet, ends_run, ends_silent, Entry, bus_ticks, told_in, judged, asked_at, asked_by_holder, read_at_end, read_at_silence, read_at_tick, read_by_holder, BusFault, after_begin_at, after_retarget_at, after_submit_at, begin_refusal_at, begin_refusal_of, changed_unless, changes_entry, entry_begins, entry_retargets, entry_submits, entry_withdraws, new_device, remembered_after, retarget_refusal_at, retarget_refusal_of, submit_refusal_at, submit_refusal_of, withdrawal_of, Ledger, submits, withdraws, given_back, opening, panel_steps, reported, hears_all, heard}
use Rattle.std.specs.Prelude.{◌≤◌, ◌==◌, length, nat_le, nat_lt}
use Rattle.osdp_bus.specs.Entries.{is_taken}
use Rattle.osdp_msg.specs.declared.command.Command.TheVariants.{Poll}
use Rattle.osdp_controller.specs.Comsets.{has_comset}
use Rattle.osdp_controller.specs.Hearing.{comset_of}
use Rattle.osdp_controller.specs.Machine.{retarget_refusal, submit_refusal}
use Rattle.osdp_bus.specs.Machine.{add_refusal, after_add, bus_fault, is_comset_refused, most_entries, or_taken}
use Rattle.osdp_bus.specs.Remembering.{remembers_at}
use Rattle.osdp_bus.specs.declared.fault.BusFault.TheVariants.{AddressTaken, OutOfRange, TooMany}
use Rattle.osdp_bus_laws.specs.Calls as bus
use Rattle.osdp_bus_laws.proofs.Places.{added}
use Rattle.osdp_entry_numbers.specs.Numbers.{as_seen}
use Rattle.osdp_entry_numbers.proofs.Raised.{AreAlike, IsReached, take_raised, drop_raised, alike_packet, caught_up, get_raised, raise_twice, set_reached, set_twice}
use Rattle.osdp_entry_numbers.proofs.Alike.{Alike, at_entry, becomes, bytes_alike, due_at_same, greatest_same, held_due_same, holder_same, next_same, observe, of_bus, run_alike, seen_alike, silence_alike, tick_alike, waits_same, with_devices}

-- ---- who is asked, and what is read

judged_alike : (now : ℕ) (b c : BusState) → Alike b c → Alike (judged now b) (judged now c)
judged_alike now b c a = (silence_alike (seen now b) (seen now c) (seen_alike now b c a)).0

asked_by_alike : (o : Option ℕ) (b c : BusState) → Alike b c → asked_by_holder o b ≡ asked_by_holder o c
asked_by_alike None b c a = let run = (run_alike b c a).0 in (λ i. cond (waits_same (ends_run b) (ends_run c) run i) None (next_same (ends_run b) (ends_run c) run i))
asked_by_alike (Some k) b c a =
    let run = (run_alike b c a).0 in
    (λ i. cond (due_at_same k b c a i)
    (cond (waits_same (ends_run b) (ends_run c) run i || not (held_due_same k (ends_run b) (ends_run c) run i)) None (Some k)) None)

pub asked_alike : (now : ℕ) (b c : BusState) → Alike b c → asked_at now b ≡ asked_at now c
asked_alike now b c a =
    let later = judged_alike now b c a in
    (λ i. cond (waits_same b c a i) None (asked_by_holder (holder_same (judged now b) (judged now c) later i) (judged now b)))
    ∙ (λ i. cond (has_report c) None (asked_by_alike (holder (judged now c)) (judged now b) (judged now c) later i))

read_end_same : (b c : BusState) → Alike b c → read_at_end b ≡ read_at_end c
read_end_same = observe read_at_end (λ x reached. refl)

read_silence_same : (b c : BusState) → Alike b c → read_at_silence b ≡ read_at_silence c
read_silence_same = observe read_at_silence (λ x reached. refl)

read_tick_same : (now : ℕ) (b c : BusState) → Alike b c → read_at_tick now b ≡ read_at_tick now c
read_tick_same now b c a =
    let later = judged_alike now b c a in
    (λ i. cond (waits_same b c a i) [] (read_silence_same (seen now b) (seen now c) (seen_alike now b c a) i
    ++ (ap (λ o. read_by_holder o (judged now b)) (holder_same (judged now b) (judged now c) later) ∙ by_holder (holder (judged now c)) later) i))
  where
    by_holder : (o : Option ℕ) → Alike (judged now b) (judged now c) → read_by_holder o (judged now b) ≡ read_by_holder o (judged now c)
    by_holder None later = read_end_same (judged now b) (judged now c) later
    by_holder (Some k) later = (λ i. cond (due_at_same k (judged now b) (judged now c) later i) (read_end_same (judged now b) (judged now c) later i) [])

-- ---- an entry changes

abbrev one_changed : ℕ → (ℕ → Entry → Entry) → BusState → Option Entry → BusState
one_changed k change x q = option_map_or (λ d. record x { devices = record x.devices { entries = slice_set x.devices.entries k (change x.greatest d) } }) q x

changes_alike : (k : ℕ) (change : ℕ → Entry → Entry)
    → ((m : ℕ) (d : Entry) → d.controller.session.greatest ≤ m → as_seen m (change m (as_seen m d)) ≡ as_seen m (change m d))
    → ((m : ℕ) (d : Entry) → d.controller.session.greatest ≤ m → (change m d).controller.session.greatest ≤ m)
    → (b c : BusState) → Alike b c → Alike (changes_entry k (change b.greatest) b) (changes_entry k (change c.greatest) c)
changes_alike k change same small = becomes (λ x. changes_entry k (change x.greatest) x) blind keeps
  where
    blind : (x : BusState) → IsReached x.greatest x.devices → caught_up (changes_entry k (change x.greatest) (caught_up x)) ≡ caught_up (changes_entry k (change x.greatest) x)
    blind x reached = ap (λ q. caught_up (one_changed k change (caught_up x) q)) (get_raised x.greatest x.devices.entries k) ∙ by_entry (device_of k x) refl
      where
        by_entry : (q : Option Entry) → device_of k x ≡ q → caught_up (one_changed k change (caught_up x) (option_map (as_seen x.greatest) q)) ≡ caught_up (one_changed k change x q)
        by_entry None at i = record x { devices = record x.devices { entries = raise_twice x.greatest x.greatest x.devices.entries i } }
        by_entry (Some d) at i =
            let m = x.greatest in
            record x {
              devices = record x.devices {
                entries = set_twice m x.devices.entries k (change m (as_seen m d)) (change m d) (same m d (reached k d at)) i;
              };
            }

    keeps : (x : BusState) → IsReached x.greatest x.devices
        → IsReached (changes_entry k (change x.greatest) x).greatest (changes_entry k (change x.greatest) x).devices
    keeps x reached = by_entry (device_of k x) refl
      where
        by_entry : (q : Option Entry) → device_of k x ≡ q → IsReached (one_changed k change x q).greatest (one_changed k change x q).devices
        by_entry None at = reached
        by_entry (Some d) at = set_reached x.greatest x.devices.entries k (change x.greatest d) (small x.greatest d (reached k d at)) reached

unless_alike : (f g : Option BusFault) (b c d e : BusState) → f ≡ g → Alike b c → Alike d e → Alike (changed_unless f b d) (changed_unless g c e)
unless_alike f g b c d e same old new = subst (λ h. Alike (changed_unless f b d) (changed_unless h c e)) same (by_fault f)
  where
    by_fault : (f : Option BusFault) → Alike (changed_unless f b d) (changed_unless f c e)
    by_fault None = new
    by_fault (Some fault) = old

-- ---- refusals

begin_refusal_same : (k : ℕ) (b c : BusState) → Alike b c → begin_refusal_at k b ≡ begin_refusal_at k c
begin_refusal_same k = at_entry k (λ m o. begin_refusal_of o) (λ m d le. refl)

any_taken : (address m : ℕ) (ds : List Entry) → is_taken address (map (as_seen m) ds) ≡ is_taken address ds
any_taken address m [] = refl
any_taken address m (d ∷ ds) = (λ i. takes_up address d || any_taken address m ds i)

beside_taken : (k address m : ℕ) (ds : List Entry) → is_taken_beside k address (map (as_seen m) ds) ≡ is_taken_beside k address ds
beside_taken k address m ds =
    (λ i. is_taken address (take_raised m k ds i) || is_taken address (drop_raised m (k + 1) ds i))
    ∙ (λ i. any_taken address m (take k ds) i || any_taken address m (drop (k + 1) ds) i)

-- of an entry, with what is seen of the bus beside it
with_entry : {A : Type 0} (k : ℕ) (f : BusState → Option Entry → A)
    → ((x : BusState) (o : Option Entry) → IsReached x.greatest x.devices → f (caught_up x) o ≡ f x o)
    → ((x : BusState) (d : Entry) → f x (Some (as_seen x.greatest d)) ≡ f x (Some d))
    → (b c : BusState) → Alike b c → f b (device_of k b) ≡ f c (device_of k c)
with_entry {A} k f blind same = observe (λ x. f x (device_of k x)) (λ x reached.
    ap (f (caught_up x)) (get_raised x.greatest x.devices.entries k) ∙ blind x (option_map (as_seen x.greatest) (device_of k x)) reached ∙ by_entry x (device_of k x))
  where
    by_entry : (x : BusState) (o : Option Entry) → f x (option_map (as_seen x.greatest) o) ≡ f x o
    by_entry x None = refl
    by_entry x (Some d) = same x d

submit_raised : (command : Command) (m : ℕ) (d : Entry) → submit_refusal command (as_seen m d).controller ≡ submit_refusal command d.controller
submit_raised Poll m d = refl
submit_raised _ m d = refl

pub submit_refusal_same : (k : ℕ) (command : Command) (b c : BusState) → Alike b c → submit_refusal_at k command b ≡ submit_refusal_at k command c
submit_refusal_same k command = with_entry k (λ x o. submit_refusal_of k command o x) (λ x o reached. by_entry x o) (λ x d. by_comset x d (comset_of command))
  where
    by_asked : (x : BusState) (d : Entry) (o : Option Communication) → is_comset_refused o k d (caught_up x) ≡ is_comset_refused o k d x
    by_asked x d None = refl
    by_asked x d (Some asked) = (λ i. beside_taken k asked.address x.greatest x.devices.entries i || is_some d.reserved)

    by_entry : (x : BusState) (o : Option Entry) → submit_refusal_of k command o (caught_up x) ≡ submit_refusal_of k command o x
    by_entry x None = refl
    by_entry x (Some d) = (λ i. cond (by_asked x d (comset_of command) i) (Some AddressTaken) (option_map bus_fault (submit_refusal command d.controller)))

    by_comset : (x : BusState) (d : Entry) (o : Option Communication) → cond (is_comset_refused o k (as_seen x.greatest d) x) (Some AddressTaken) (option_map bus_fault (submit_refusal command (as_seen x.greatest d).controller))
        ≡ cond (is_comset_refused o k d x) (Some AddressTaken) (option_map bus_fault (submit_refusal command d.controller))
    by_comset x d None = ap (option_map bus_fault) (submit_raised command x.greatest d)
    by_comset x d (Some asked) =
        ap (λ f. cond (is_comset_refused (Some asked) k d x) (Some AddressTaken) (option_map bus_fault f)) (submit_raised command x.greatest d)

pub retarget_refusal_same : (k address : ℕ) (b c : BusState) → Alike b c → retarget_refusal_at k address b ≡ retarget_refusal_at k address c
retarget_refusal_same k address = with_entry k (λ x o. retarget_refusal_of k address o x) (λ x o reached. by_entry x o) (λ x d. refl)
  where
    by_entry : (x : BusState) (o : Option Entry) → retarget_refusal_of k address o (caught_up x) ≡ retarget_refusal_of k address o x
    by_entry x None = refl
    by_entry x (Some d) =
        (λ i. or_taken (option_map bus_fault (retarget_refusal address d.controller)) (beside_taken k address x.greatest x.devices.entries i || has_comset d.controller.waiting))

withdrawal_same : (k : ℕ) (b c : BusState) → Alike b c → withdrawal_of (device_of k b) ≡ withdrawal_of (device_of k c)
withdrawal_same k = at_entry k (λ m o. withdrawal_of o) (λ m d le. refl)

length_raised : (m : ℕ) (ds : List Entry) → length (map (as_seen m) ds) ≡ length ds
length_raised m [] = refl
length_raised m (d ∷ ds) = ap suc (length_raised m ds)

add_refusal_same : (address : ℕ) (b c : BusState) → Alike b c → add_refusal address b ≡ add_refusal address c
add_refusal_same address = observe (add_refusal address) (λ x reached.
    (λ i. cond (nat_le most_entries (length_raised x.greatest x.devices.entries i)) (Some TooMany)
    (cond (nat_lt address 127) (cond (any_taken address x.greatest x.devices.entries i) (Some AddressTaken) None) (Some OutOfRange))))

-- ---- each call

add_alike : (address : ℕ) (b c : BusState) → Alike b c → Alike (after_add address b) (after_add address c)
add_alike address = becomes (after_add address) (λ x reached i. record x {
  devices = record x.devices {
    entries = (map-append (as_seen x.greatest) (map (as_seen x.greatest) x.devices.entries) (new_device address x.config ∷ [])
        ∙ (λ j. raise_twice x.greatest x.greatest x.devices.entries j ++ as_seen x.greatest (new_device address x.config) ∷ [])
        ∙ sym (map-append (as_seen x.greatest) x.devices.entries (new_device address x.config ∷ []))) i;
  };
}) (λ x reached j d at. elim (added x.devices.entries (new_device address x.config) j d at) [
  | inl here ↦ subst (λ (y : Entry). y.controller.session.greatest ≤ x.greatest) (sym here.1) (omega arith)
  | inr was ↦ reached j d was.1
])

begins_alike : (k now : ℕ) (b c : BusState) → Alike b c → Alike (after_begin_at k now b) (after_begin_at k now c)
begins_alike k now b c a = changes_alike k entry_begins same (λ m d le. omega (arith, le)) (seen now b) (seen now c) (seen_alike now b c a)
  where
    same : (m : ℕ) (d : Entry) → d.controller.session.greatest ≤ m → as_seen m (entry_begins m (as_seen m d)) ≡ as_seen m (entry_begins m d)
    same m d le = ap (λ g. as_seen m (record d {
      controller = record d.controller { session = Rattle.osdp_controller.specs.Machine.begun (record d.controller.session { greatest = g }) };
    })) (let e : max m m ≡ max d.controller.session.greatest m = omega (arith, le) in e)

report_alike : (b c : BusState) → Alike b c → Alike (bus.after_call bus.NextReport b) (bus.after_call bus.NextReport c)
report_alike = becomes (bus.after_call bus.NextReport) (λ x reached i. record x {
  devices = record { entries = raise_twice x.greatest x.greatest x.devices.entries i; report = None };
  remembered = by_report x x.devices.report i;
}) (λ x reached. reached)
  where
    by_report : (x : BusState) (o : Option (ℕ × Report)) → remembered_after o (caught_up x) ≡ remembered_after o x
    by_report x None = refl
    by_report x (Some (k, r)) =
        ap (λ q. option_map_or (λ (d : Entry). remembers_at k r x.remembered) q x.remembered) (get_raised x.greatest x.devices.entries k) ∙ by_entry (device_of k x)
      where
        by_entry : (q : Option Entry) → option_map_or (λ (d : Entry). remembers_at k r x.remembered) (option_map (as_seen x.greatest) q) x.remembered
            ≡ option_map_or (λ (d : Entry). remembers_at k r x.remembered) q x.remembered
        by_entry None = refl
        by_entry (Some d) = refl

pub call_alike : (call : bus.Call) (b c : BusState) → Alike b c → Alike (bus.after_call call b) (bus.after_call call c)
call_alike (bus.Add address) b c a =
    unless_alike (add_refusal address b) (add_refusal address c) b c (after_add address b) (after_add address c) (add_refusal_same address b c a) a (add_alike address b c a)
call_alike (bus.Begin k now) b c a =
    unless_alike (begin_refusal_at k b) (begin_refusal_at k c) b c (after_begin_at k now b) (after_begin_at k now c) (begin_refusal_same k b c a) a (begins_alike k now b c a)
call_alike (bus.Submit k command) b c a =
    unless_alike (submit_refusal_at k command b) (submit_refusal_at k command c) b c (after_submit_at k command b) (after_submit_at k command c)
    (submit_refusal_same k command b c a) a (changes_alike k (λ m. entry_submits command) (λ m d le. refl) (λ m d le. le) b c a)
call_alike (bus.Withdraw k) b c a = changes_alike k (λ m. entry_withdraws) (λ m d le. refl) (λ m d le. le) b c a
call_alike (bus.Retarget k address) b c a =
    unless_alike (retarget_refusal_at k address b) (retarget_refusal_at k address c) b c (after_retarget_at k address b) (after_retarget_at k address c)
    (retarget_refusal_same k address b c a) a (changes_alike k (λ m. entry_retargets address) (λ m d le. refl) (λ m d le. le) b c a)
call_alike (bus.OnBytes [] now) b c a = seen_alike now b c a
call_alike (bus.OnBytes (byte ∷ bytes) now) b c a =
    let quiet = (silence_alike (seen now b) (seen now c) (seen_alike now b c a)).0 in (bytes_alike (byte ∷ bytes) (ends_silent (seen now b)) (ends_silent (seen now c)) quiet).0
call_alike (bus.OnSilence now) b c a = (run_alike (seen now b) (seen now c) (seen_alike now b c a)).0
call_alike (bus.Tick now) b c a = (tick_alike now b c a).0.buses
call_alike bus.NextReport b c a = report_alike b c a

pub told_alike : (call : bus.Call) (b c : BusState) → Alike b c → told_in call b ≡ told_in call c
told_alike (bus.OnBytes [] now) b c a = refl
told_alike (bus.OnBytes (byte ∷ bytes) now) b c a =
    let quiet = silence_alike (seen now b) (seen now c) (seen_alike now b c a) in
    (λ i. quiet.1 i ++ (bytes_alike (byte ∷ bytes) (ends_silent (seen now b)) (ends_silent (seen now c)) quiet.0).1 i)
told_alike (bus.OnSilence now) b c a = (run_alike (seen now b) (seen now c) (seen_alike now b c a)).1
told_alike (bus.Tick now) b c a = (tick_alike now b c a).1
told_alike _ b c a = refl

-- ---- the steps of a ledger

-- packets, one after the other
heard_alike : (ps : List Packet) (b c : BusState) → Alike b c
    → Alike (record b { devices = hears_all b.greatest ps b.devices }) (record c { devices = hears_all c.greatest ps c.devices })
heard_alike ps b c a =
    let x = all_alike ps b.devices c.devices (of_bus b c a) in
    subst (λ (g : ℕ). Alike (record b { devices = hears_all b.greatest ps b.devices }) (record c { devices = hears_all g ps c.devices })) (greatest_same b c a)
    (with_devices b c (hears_all b.greatest ps b.devices) (hears_all b.greatest ps c.devices) a x)
  where
    all_alike : (ps : List Packet) (ds es : Devices) → AreAlike b.greatest ds es → AreAlike b.greatest (hears_all b.greatest ps ds) (hears_all b.greatest ps es)
    all_alike [] ds es x = x
    all_alike (p ∷ ps) ds es x = all_alike ps (hears_packet p b.greatest ds) (hears_packet p b.greatest es) (alike_packet b.greatest p ds es x).0

opening_alike : (k : ℕ) (asked : Option ℕ) (sent : Option Packet) (b c : BusState) → Alike b c → opening k asked sent (device_of k b) ≡ opening k asked sent (device_of k c)
opening_alike k None sent = λ b c a. refl
opening_alike k (Some i) sent = at_entry k (λ m o. opening k (Some i) sent o) (λ m d le. refl)

pub steps_alike : (k : ℕ) (call : bus.Call) (b c : BusState) (g : Ledger) → Alike b c → panel_steps k call b g ≡ panel_steps k call c g
steps_alike k (bus.Submit i command) b c g a =
    ap (λ f. cond (i == k) (changed_unless f [] (submits None command g)) []) (submit_refusal_same i command b c a)
steps_alike k (bus.Withdraw i) b c g a = ap (λ r. cond (i == k) (withdraws (given_back r) g) []) (withdrawal_same i b c a)
steps_alike k (bus.Tick now) b c g a =
    let later = seen_alike now b c a in
    let x = tick_alike now b c a in
    let heard_so = heard_alike (read_at_tick now b) (seen now b) (seen now c) later in
    (λ i. reported k (x.1 i) g ++ opening k (asked_alike now b c a i) (x.0.sent i) (device_of k (heard (bus.Tick now) now b)))
    ∙ (λ i. reported k (told_in (bus.Tick now) c) g
    ++ opening_alike k (asked_at now c) (bus_ticks now c).sent (heard (bus.Tick now) now b) (record (seen now c) { devices = hears_all (max c.greatest now) (read_at_tick now b) c.devices }) heard_so i)
    ∙ ap (λ ps. reported k (told_in (bus.Tick now) c) g ++ opening k (asked_at now c) (bus_ticks now c).sent (slice_get (hears_all (max c.greatest now) ps c.devices).entries k))
    (read_tick_same now b c a)
steps_alike k call b c g a = ap (λ all. reported k all g) (told_alike call b c a)
