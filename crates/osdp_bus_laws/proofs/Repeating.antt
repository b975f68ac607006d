-- What a bus remembers of each entry is what was taken of it.
use Rattle.std.proofs.Common.{◌≡◌, ◌∙◌, ap, sym, subst, inl, inr, ℕ, zero, suc, ◌<◌, ◌==◌, ◌&&◌, Bool, true, false, max, not, List, [], ◌∷◌, ◌++◌, length, replicate, Option, Some, None, refl, arith, append_assoc, append-nil}
use Rattle.osdp_bus_laws.proofs.Common.{◌⊎◌, ◌≢◌, if◌then◌else◌, option_to_list, slice_get, slice_set, option_map_or, eqb-true, eqb-false, slice_get_within, Packet, items, either_way, Report, Entry, BusFault, BusState, Devices, device_of, has_report, holder, is_silent, is_told_maybe_again, new_bus, seen, waiting_after, entry_hears, entry_ticks, step_of, told_of, after_bytes, ends_run, ends_silent, hears_bytes, hears_with, add_refusal, after_add, after_begin_at, after_next_report, after_retarget_at, after_submit_at, begin_refusal_at, changed_unless, changes_entry, entry_begins, entry_retargets, entry_submits, entry_withdraws, remembered_after, retarget_refusal_at, submit_refusal_at, BusTicked, bus_ticks, is_due_at, next_due, stays, ticks_at, ticks_by, ticks_free, ticks_held, ticks_on, ticks_with, Call, Add, Begin, Submit, Withdraw, Retarget, OnBytes, OnSilence, Tick, NextReport, after_call, after_calls, taken_along, taken_in}
use Rattle.std.specs.Str.{bytes_eq}
use Rattle.std.proofs.lemmas.Slice.Eq.{bytes_eq-Decides}
use Rattle.osdp_controller.specs.declared.report.Report.TheVariants as report
use Rattle.osdp_msg.specs.declared.event.Event.{Event}
use Rattle.osdp_bus.specs.Remembering.{Remembered, event_bytes, may_be_again, memory_at, nothing_yet, remembers, remembers_at}
use Rattle.osdp_bus_laws.specs.Repeating.{CameBefore, IsNoEvent, IsOpening, MarksExactly, MarksWhatMayComeAgain, NoEventAmong, OpeningAmong, of_entry}
use Rattle.osdp_bus_laws.proofs.Hearing.{items_keep}
use Rattle.osdp_bus_laws.proofs.Sound.{either_held}

-- ---- what is remembered of one entry, by its reports

abbrev pub recalls : Remembered → List Report → Remembered
recalls m [] = m
recalls m (r ∷ rs) = recalls (remembers r m) rs

pub recalls_more : (m : Remembered) (xs ys : List Report) → recalls m (xs ++ ys) ≡ recalls (recalls m xs) ys
recalls_more m [] ys = refl
recalls_more m (x ∷ xs) ys = recalls_more (remembers x m) xs ys

-- reports without an event leave the bytes, and a session that opens is no more that of the last event
bytes_stay : (m : Remembered) (rs : List Report) → NoEventAmong rs → (recalls m rs).bytes ≡ m.bytes
bytes_stay m [] none = refl
bytes_stay m (report.Event e ∷ rs) none = absurd none.0
bytes_stay m (report.Opened id ∷ rs) none = bytes_stay (record m { in_session = false }) rs none.1
bytes_stay m (_ ∷ rs) none = bytes_stay m rs none.1

stays_shut : (m : Remembered) (rs : List Report) → NoEventAmong rs → m.in_session ≡ false → (recalls m rs).in_session ≡ false
stays_shut m [] none shut = shut
stays_shut m (report.Event e ∷ rs) none shut = absurd none.0
stays_shut m (report.Opened id ∷ rs) none shut = stays_shut (record m { in_session = false }) rs none.1 refl
stays_shut m (_ ∷ rs) none shut = stays_shut m rs none.1 shut

opened_shuts : (m : Remembered) (rs : List Report) → NoEventAmong rs → OpeningAmong rs → (recalls m rs).in_session ≡ false
opened_shuts m [] none some = absurd some
opened_shuts m (report.Event e ∷ rs) none some = absurd none.0
opened_shuts m (report.Opened id ∷ rs) none some = stays_shut (record m { in_session = false }) rs none.1 refl
opened_shuts m (report.Settled command reply ∷ rs) none (inr some) = opened_shuts m rs none.1 some
opened_shuts m (report.Settled command reply ∷ rs) none (inl it) = absurd it
opened_shuts m (report.Moved command answer ∷ rs) none (inr some) = opened_shuts m rs none.1 some
opened_shuts m (report.Moved command answer ∷ rs) none (inl it) = absurd it
opened_shuts m (report.PollAnswered reply ∷ rs) none (inr some) = opened_shuts m rs none.1 some
opened_shuts m (report.PollAnswered reply ∷ rs) none (inl it) = absurd it
opened_shuts m (report.Unread command code ∷ rs) none (inr some) = opened_shuts m rs none.1 some
opened_shuts m (report.Unread command code ∷ rs) none (inl it) = absurd it
opened_shuts m (report.Lost cause command ∷ rs) none (inr some) = opened_shuts m rs none.1 some
opened_shuts m (report.Lost cause command ∷ rs) none (inl it) = absurd it

-- so an event that came before may be one again
marks_it : (e : Event) (rs : List Report) → CameBefore e rs → may_be_again (report.Event e) (recalls nothing_yet rs) ≡ true
marks_it e rs came =
    let first = recalls nothing_yet came.before in
    let told : Remembered = record { bytes = event_bytes came.last; in_session = true } in
    let is : recalls nothing_yet rs ≡ recalls told came.after =
    ap (recalls nothing_yet) came.whole ∙ recalls_more nothing_yet came.before (report.Event came.last ∷ came.after) in
    let bytes : (recalls nothing_yet rs).bytes ≡ event_bytes e =
    ap (λ (m : Remembered). m.bytes) is ∙ bytes_stay told came.after came.none_later ∙ sym came.equal in
    let shut : (recalls nothing_yet rs).in_session ≡ false =
    ap (λ (m : Remembered). m.in_session) is ∙ opened_shuts told came.after came.none_later came.opened in
    ap (λ t. not t && bytes_eq (event_bytes e) (recalls nothing_yet rs).bytes) shut
    ∙ ap (bytes_eq (event_bytes e)) bytes ∙ (bytes_eq-Decides (event_bytes e) (event_bytes e)).1 refl

-- ---- and the other way round: what is remembered was told

record LastTold (rs : List Report) (m : Remembered) : Type 0 where
  before : List Report
  last : Event
  after : List Report
  whole : rs ≡ before ++ report.Event last ∷ after
  bytes : m.bytes ≡ event_bytes last
  none_later : NoEventAmong after
  opened : m.in_session ≡ false → OpeningAmong after

abbrev WasTold : List Report → Remembered → Type 0
WasTold rs m = (m.bytes ≡ []) ⊎ LastTold rs m

all_more : (rs : List Report) (r : Report) → NoEventAmong rs → IsNoEvent r → NoEventAmong (rs ++ r ∷ [])
all_more [] r none it = (it, tt)
all_more (x ∷ rs) r none it = (none.0, all_more rs r none.1 it)

any_more : (rs : List Report) (r : Report) → OpeningAmong rs → OpeningAmong (rs ++ r ∷ [])
any_more [] r some = absurd some
any_more (x ∷ rs) r (inl it) = inl it
any_more (x ∷ rs) r (inr some) = inr (any_more rs r some)

any_last : (rs : List Report) (r : Report) → IsOpening r → OpeningAmong (rs ++ r ∷ [])
any_last [] r it = inl it
any_last (x ∷ rs) r it = inr (any_last rs r it)

-- a report that is no event comes after
told_more : (rs : List Report) (r : Report) (m n : Remembered) → IsNoEvent r → n.bytes ≡ m.bytes
    → ((n.in_session ≡ false) → IsOpening r ⊎ (m.in_session ≡ false)) → WasTold rs m → WasTold (rs ++ r ∷ []) n
told_more rs r m n none same shut (inl empty) = inl (same ∙ empty)
told_more rs r m n none same shut (inr told) = inr (record {
  before = told.before;
  last = told.last;
  after = told.after ++ r ∷ [];
  whole = ap (λ l. l ++ r ∷ []) told.whole ∙ append_assoc told.before (report.Event told.last ∷ told.after) (r ∷ []);
  bytes = same ∙ told.bytes;
  none_later = all_more told.after r told.none_later none;
  opened = λ is. by_either (shut is);
})
  where
    by_either : IsOpening r ⊎ (m.in_session ≡ false) → OpeningAmong (told.after ++ r ∷ [])
    by_either (inl it) = any_last told.after r it
    by_either (inr is) = any_more told.after r (told.opened is)

one_told : (rs : List Report) (r : Report) (m : Remembered) → WasTold rs m → WasTold (rs ++ r ∷ []) (remembers r m)
one_told rs (report.Event e) m was = inr (record {
  before = rs;
  last = e;
  after = [];
  whole = refl;
  bytes = refl;
  none_later = tt;
  opened = λ (h : true ≡ false). absurd cc;
})
one_told rs (report.Opened id) m was = told_more rs (report.Opened id) m (record m { in_session = false }) tt refl (λ h. inl tt) was
one_told rs r m was = told_more rs r m m tt refl (λ h. inr h) was

all_told : (done rs : List Report) (m : Remembered) → WasTold done m → WasTold (done ++ rs) (recalls m rs)
all_told done [] m was = subst (λ l. WasTold l m) (sym (append-nil done)) was
all_told done (r ∷ rs) m was =
    subst (λ l. WasTold l (recalls (remembers r m) rs)) (append_assoc done (r ∷ []) rs) (all_told (done ++ r ∷ []) rs (remembers r m) (one_told done r m was))

both_true : (x y : Bool) → (x && y) ≡ true → (x ≡ true) × (y ≡ true)
both_true true true h = (refl, refl)
both_true true false h = absurd cc
both_true false y h = absurd cc

not_true : (x : Bool) → not x ≡ true → x ≡ false
not_true true h = absurd cc
not_true false h = refl

came : (e : Event) (rs : List Report) → may_be_again (report.Event e) (recalls nothing_yet rs) ≡ true → CameBefore e rs
came e rs marked = by_told (all_told [] rs nothing_yet (inl refl))
  where
    parts : (not (recalls nothing_yet rs).in_session ≡ true) × (bytes_eq (event_bytes e) (recalls nothing_yet rs).bytes ≡ true)
    parts = both_true (not (recalls nothing_yet rs).in_session) (bytes_eq (event_bytes e) (recalls nothing_yet rs).bytes) marked

    same : event_bytes e ≡ (recalls nothing_yet rs).bytes
    same = (bytes_eq-Decides (event_bytes e) (recalls nothing_yet rs).bytes).0 parts.1

    by_told : WasTold rs (recalls nothing_yet rs) → CameBefore e rs
    by_told (inl empty) = absurd (let no : event_bytes e ≡ [] = same ∙ empty in cc)
    by_told (inr told) = record {
      before = told.before;
      last = told.last;
      after = told.after;
      whole = told.whole;
      equal = same ∙ told.bytes;
      none_later = told.none_later;
      opened = told.opened (not_true (recalls nothing_yet rs).in_session parts.0);
    }

-- ---- the report that waits is that of an entry that is there

abbrev pub Within : Devices → Type 0
Within ds = (k : ℕ) (r : Report) → ds.report ≡ Some (k, r) → k < length ds.entries

set_length : (ds : List Entry) (i : ℕ) (e : Entry) → length (slice_set ds i e) ≡ length ds
set_length [] i e = refl
set_length (d ∷ ds) zero e = refl
set_length (d ∷ ds) (suc i) e = ap suc (set_length ds i e)

within_put : (ds : Devices) (i : ℕ) (e : Entry) (told : Option Report) → i < length ds.entries → Within ds
    → Within (record { entries = slice_set ds.entries i e; report = waiting_after i told ds.report })
within_put ds i e None inside within = λ k r is. let at = within k r is in omega (arith, at, set_length ds.entries i e)
within_put ds i e (Some report) inside within = λ k r is. let same : i ≡ k = ap (λ o. option_map_or (λ (told : ℕ × Report). told.0) o 0) is in omega (arith, inside, same, set_length ds.entries i e)

within_packet : (now : ℕ) (p : Packet) (i : ℕ) (d : Entry) (ds : Devices) → slice_get ds.entries i ≡ Some d → Within ds
    → Within (hears_with p now i (Some d) ds)
within_packet now p i d ds at within = within_put ds i (entry_hears p now d) (told_of p now d) (slice_get_within ds.entries i d at) within

-- ---- calls that take no report leave what is remembered

record Keeps (b c : BusState) : Type 0 where
  remembered : c.remembered ≡ b.remembered
  within : Within b.devices → Within c.devices

as_it_is : (b : BusState) → Keeps b b
as_it_is b = record { remembered = refl; within = λ h. h }

keeps_then : (a b c : BusState) → Keeps a b → Keeps b c → Keeps a c
keeps_then a b c first more = record { remembered = more.remembered ∙ first.remembered; within = λ h. more.within (first.within h) }

keeps_unless : (f : Option BusFault) (old new : BusState) → Keeps old new → Keeps old (changed_unless f old new)
keeps_unless None old new same = same
keeps_unless (Some fault) old new same = as_it_is old

keeps_changed : (entry : ℕ) (change : Entry → Entry) (b : BusState) → Keeps b (changes_entry entry change b)
keeps_changed entry change b = by_device (device_of entry b) refl
  where
    by_device : (o : Option Entry) → device_of entry b ≡ o
        → Keeps b (option_map_or (λ d. record b { devices = record b.devices { entries = slice_set b.devices.entries entry (change d) } }) o b)
    by_device None at = as_it_is b
    by_device (Some d) at = record {
      remembered = refl;
      within = within_put b.devices entry (change d) None (slice_get_within b.devices.entries entry d at);
    }

keeps_seen : (now : ℕ) (b : BusState) → Keeps b (seen now b)
keeps_seen now b = record { remembered = refl; within = λ h. h }

keeps_run : (b : BusState) → Keeps b (ends_run b)
keeps_run b = record { remembered = refl; within = items_keep b.greatest Within (within_packet b.greatest) (items true b.held) b.devices }

keeps_silent : (b : BusState) → Keeps b (ends_silent b)
keeps_silent b = either_way (Keeps b) (is_silent b) (ends_run b) b (λ h. keeps_run b) (λ h. as_it_is b)

keeps_hears : (bytes : List ℕ) (b : BusState) → Keeps b (hears_bytes bytes b)
keeps_hears bytes b = record { remembered = refl; within = items_keep b.greatest Within (within_packet b.greatest) (items false (b.held ++ bytes)) b.devices }

keeps_bytes : (bytes : List ℕ) (now : ℕ) (b : BusState) → Keeps b (after_bytes bytes now b)
keeps_bytes [] now b = keeps_seen now b
keeps_bytes (byte ∷ bytes) now b =
    let s = seen now b in
    let e = ends_silent s in
    keeps_then b e (hears_bytes (byte ∷ bytes) e) (keeps_then b s e (keeps_seen now b) (keeps_silent s)) (keeps_hears (byte ∷ bytes) e)

abbrev TickKeeps : BusState → BusTicked → Type 0
TickKeeps b t = Keeps b t.bus

keeps_with : (entry : ℕ) (o : Option Entry) (b : BusState) → device_of entry b ≡ o → TickKeeps b (ticks_with entry o b)
keeps_with entry None b at = as_it_is b
keeps_with entry (Some d) b at = record {
  remembered = refl;
  within = within_put b.devices entry (entry_ticks b.greatest d) (step_of b.greatest d).report (slice_get_within b.devices.entries entry d at);
}

keeps_at : (o : Option ℕ) (b : BusState) → TickKeeps b (ticks_at o b)
keeps_at None b = as_it_is b
keeps_at (Some entry) b = keeps_with entry (device_of entry b) b refl

keeps_free : (b : BusState) → TickKeeps b (ticks_free b)
keeps_free b = either_way (TickKeeps b) (has_report b) (stays b) (ticks_at (next_due b) b) (λ h. as_it_is b) (λ h. keeps_at (next_due b) b)

keeps_held : (entry : ℕ) (b : BusState) → TickKeeps b (ticks_held entry b)
keeps_held entry b = either_held (TickKeeps b) entry b (as_it_is b) (λ none d at stands. keeps_at (Some entry) b)

keeps_by : (o : Option ℕ) (b : BusState) → TickKeeps b (ticks_by o b)
keeps_by None b = keeps_then b (ends_run b) (ticks_free (ends_run b)).bus (keeps_run b) (keeps_free (ends_run b))
keeps_by (Some entry) b =
    either_way (TickKeeps b) (is_due_at entry b) (ticks_held entry (ends_run b)) (stays b)
    (λ h. keeps_then b (ends_run b) (ticks_held entry (ends_run b)).bus (keeps_run b) (keeps_held entry (ends_run b))) (λ h. as_it_is b)

keeps_tick : (now : ℕ) (b : BusState) → Keeps b (bus_ticks now b).bus
keeps_tick now b =
    let s = seen now b in
    let e = ends_silent s in
    keeps_then b s (bus_ticks now b).bus (keeps_seen now b)
    (either_way (TickKeeps s) (has_report b) (stays s) (ticks_on e) (λ h. as_it_is s)
    (λ h. keeps_then s e (ticks_on e).bus (keeps_silent s) (keeps_by (holder e) e)))

longer : (ds : Devices) (d : Entry) → Within ds → Within (record { entries = ds.entries ++ d ∷ []; report = ds.report })
longer ds d within = λ k r is. let at = within k r is in omega (arith, at, one_longer ds.entries)
  where
    one_longer : (xs : List Entry) → length (xs ++ d ∷ []) ≡ suc (length xs)
    one_longer [] = refl
    one_longer (x ∷ xs) = ap suc (one_longer xs)

-- ---- what is remembered along calls

pub record IsRemembered (b : BusState) (taken : List (ℕ × Report)) : Type 0 where
  pub all : (k : ℕ) → memory_at k b.remembered ≡ recalls nothing_yet (of_entry k taken)
  pub within : Within b.devices

entry_more : (k entry : ℕ) (r : Report) (taken : List (ℕ × Report))
    → of_entry k (taken ++ (entry, r) ∷ []) ≡ of_entry k taken ++ (if k == entry then r ∷ [] else [])
entry_more k entry r [] = refl
entry_more k entry r ((other, told) ∷ more) = by_test (k == other) (entry_more k entry r more)
  where
    by_test : (t : Bool) → of_entry k (more ++ (entry, r) ∷ []) ≡ of_entry k more ++ (if k == entry then r ∷ [] else [])
        → (if t then told ∷ of_entry k (more ++ (entry, r) ∷ []) else of_entry k (more ++ (entry, r) ∷ []))
        ≡ (if t then told ∷ of_entry k more else of_entry k more) ++ (if k == entry then r ∷ [] else [])
    by_test true h = ap (λ l. told ∷ l) h
    by_test false h = h

there : (xs : List Entry) (k : ℕ) → k < length xs → (d : Entry) × (slice_get xs k ≡ Some d)
there [] k within = absurd (omega (arith, within))
there (x ∷ xs) zero within = (x, refl)
there (x ∷ xs) (suc k) within = there xs k (omega (arith, within))

kept : (b c : BusState) (taken : List (ℕ × Report)) → Keeps b c → IsRemembered b taken → IsRemembered c (taken ++ [])
kept b c taken keeps is = record {
  all = λ k. ap (memory_at k) keeps.remembered ∙ is.all k ∙ ap (λ l. recalls nothing_yet (of_entry k l)) (sym (append-nil taken));
  within = keeps.within is.within;
}

-- what is remembered at one place, after a report of an entry
at_itself : (entry : ℕ) (r : Report) (ms : List Remembered) → memory_at entry (remembers_at entry r ms) ≡ remembers r (memory_at entry ms)
at_itself zero r [] = refl
at_itself zero r (m ∷ ms) = refl
at_itself (suc entry) r [] = at_itself entry r []
at_itself (suc entry) r (m ∷ ms) = at_itself entry r ms

at_another : (entry k : ℕ) (r : Report) (ms : List Remembered) → k ≢ entry → memory_at k (remembers_at entry r ms) ≡ memory_at k ms
at_another zero zero r ms other = absurd (other refl)
at_another zero (suc k) r [] other = refl
at_another zero (suc k) r (m ∷ ms) other = refl
at_another (suc entry) zero r [] other = refl
at_another (suc entry) zero r (m ∷ ms) other = refl
at_another (suc entry) (suc k) r [] other = at_another entry k r [] (λ same. other (ap suc same))
at_another (suc entry) (suc k) r (m ∷ ms) other = at_another entry k r ms (λ same. other (ap suc same))

at_place : (entry k : ℕ) (r : Report) (ms : List Remembered)
    → memory_at k (remembers_at entry r ms) ≡ (if k == entry then remembers r (memory_at k ms) else memory_at k ms)
at_place entry k r ms = by_test (k == entry) refl
  where
    by_test : (t : Bool) → (k == entry) ≡ t → memory_at k (remembers_at entry r ms) ≡ (if t then remembers r (memory_at k ms) else memory_at k ms)
    by_test true is =
        let same : k ≡ entry = eqb-true k entry is in
        subst (λ n. memory_at n (remembers_at entry r ms) ≡ remembers r (memory_at n ms)) (sym same) (at_itself entry r ms)
    by_test false is = at_another entry k r ms (eqb-false k entry is)

taken_next : (b : BusState) (taken : List (ℕ × Report)) → IsRemembered b taken → IsRemembered (after_next_report b) (taken ++ taken_in NextReport b)
taken_next b taken is = record { all = λ k. by_report k b.devices.report refl; within = λ k r none. absurd cc }
  where
    by_test : (k entry : ℕ) (r : Report) (t : Bool)
        → (if t then remembers r (memory_at k b.remembered) else memory_at k b.remembered) ≡ recalls nothing_yet (of_entry k taken ++ (if t then r ∷ [] else []))
    by_test k entry r true = ap (remembers r) (is.all k) ∙ sym (recalls_more nothing_yet (of_entry k taken) (r ∷ []))
    by_test k entry r false = is.all k ∙ ap (recalls nothing_yet) (sym (append-nil (of_entry k taken)))

    by_report : (k : ℕ) (o : Option (ℕ × Report)) → b.devices.report ≡ o
        → memory_at k (remembered_after o b) ≡ recalls nothing_yet (of_entry k (taken ++ option_to_list o))
    by_report k None none = is.all k ∙ ap (λ l. recalls nothing_yet (of_entry k l)) (sym (append-nil taken))
    by_report k (Some (entry, r)) some =
        let d = there b.devices.entries entry (is.within entry r some) in
        ap (λ o. memory_at k (option_map_or (λ d. remembers_at entry r b.remembered) o b.remembered)) d.1
        ∙ at_place entry k r b.remembered ∙ by_test k entry r (k == entry) ∙ ap (recalls nothing_yet) (sym (entry_more k entry r taken))

one_call : (call : Call) (b : BusState) (taken : List (ℕ × Report)) → IsRemembered b taken → IsRemembered (after_call call b) (taken ++ taken_in call b)
one_call (Add address) b taken is = kept b (after_call (Add address) b) taken
    (keeps_unless (add_refusal address b) b (after_add address b) (record { remembered = refl; within = longer b.devices _ })) is
one_call (Begin entry now) b taken is = kept b (after_call (Begin entry now) b) taken
    (keeps_unless (begin_refusal_at entry b) b (after_begin_at entry now b)
    (keeps_then b (seen now b) (after_begin_at entry now b) (keeps_seen now b) (keeps_changed entry (entry_begins (max b.greatest now)) (seen now b)))) is
one_call (Submit entry command) b taken is = kept b (after_call (Submit entry command) b) taken
    (keeps_unless (submit_refusal_at entry command b) b (after_submit_at entry command b) (keeps_changed entry (entry_submits command) b)) is
one_call (Withdraw entry) b taken is = kept b (after_call (Withdraw entry) b) taken (keeps_changed entry entry_withdraws b) is
one_call (Retarget entry address) b taken is = kept b (after_call (Retarget entry address) b) taken
    (keeps_unless (retarget_refusal_at entry address b) b (after_retarget_at entry address b) (keeps_changed entry (entry_retargets address) b)) is
one_call (OnBytes bytes now) b taken is = kept b (after_call (OnBytes bytes now) b) taken (keeps_bytes bytes now b) is
one_call (OnSilence now) b taken is = kept b (after_call (OnSilence now) b) taken
    (keeps_then b (seen now b) (ends_run (seen now b)) (keeps_seen now b) (keeps_run (seen now b))) is
one_call (Tick now) b taken is = kept b (after_call (Tick now) b) taken (keeps_tick now b) is
one_call NextReport b taken is = taken_next b taken is

pub along : (calls : List Call) (b : BusState) (taken : List (ℕ × Report)) → IsRemembered b taken
    → IsRemembered (after_calls calls b) (taken ++ taken_along calls b)
along [] b taken is = subst (IsRemembered b) (sym (append-nil taken)) is
along (call ∷ calls) b taken is =
    let c = after_call call b in
    subst (IsRemembered (after_calls calls c)) (append_assoc taken (taken_in call b) (taken_along calls c))
    (along calls c (taken ++ taken_in call b) (one_call call b taken is))

-- ---- the law

marks_exactly : (b : BusState) (taken : List (ℕ × Report)) → IsRemembered b taken → MarksExactly b taken
marks_exactly b taken is = record {
  marked = λ h. by_report b.devices.report refl h;
  marks = λ entry e some came_before.
      ap (λ o. is_told_maybe_again o b.remembered) some ∙ ap (may_be_again (report.Event e)) (is.all entry) ∙ marks_it e (of_entry entry taken) came_before;
}
  where
    by_kind : (entry : ℕ) (r : Report) → b.devices.report ≡ Some (entry, r) → may_be_again r (memory_at entry b.remembered) ≡ true
        → (entry : ℕ) × (e : Event) × (b.devices.report ≡ Some (entry, report.Event e)) × CameBefore e (of_entry entry taken)
    by_kind entry (report.Event e) some h =
        (entry, e, some, came e (of_entry entry taken) (sym (ap (may_be_again (report.Event e)) (is.all entry)) ∙ h))
    by_kind entry (report.Opened id) some h = absurd cc
    by_kind entry (report.Settled command reply) some h = absurd cc
    by_kind entry (report.Moved command answer) some h = absurd cc
    by_kind entry (report.PollAnswered reply) some h = absurd cc
    by_kind entry (report.Unread command code) some h = absurd cc
    by_kind entry (report.Lost cause command) some h = absurd cc

    by_report : (o : Option (ℕ × Report)) → b.devices.report ≡ o → is_told_maybe_again o b.remembered ≡ true
        → (entry : ℕ) × (e : Event) × (b.devices.report ≡ Some (entry, report.Event e)) × CameBefore e (of_entry entry taken)
    by_report None none h = absurd cc
    by_report (Some (entry, r)) some h = by_kind entry r some h

pub none_at : (n k : ℕ) → memory_at k (replicate n nothing_yet) ≡ nothing_yet
none_at zero zero = refl
none_at zero (suc k) = refl
none_at (suc n) zero = refl
none_at (suc n) (suc k) = none_at n k

pub marks_what_may_come_again : MarksWhatMayComeAgain
marks_what_may_come_again config calls set =
    marks_exactly (after_calls calls (new_bus config)) (taken_along calls (new_bus config))
    (along calls (new_bus config) [] (record { all = λ k. none_at 16 k; within = λ k r none. absurd cc }))
