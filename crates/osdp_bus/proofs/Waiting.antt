-- From when on devices are due, and what a bus does then.
use Rattle.osdp_bus.proofs.Common.{◌≡◌, ℕ, zero, suc, ◌+◌, ◌-◌, ◌<◌, ◌≤◌, ◌^◌, ◌==◌, ◌||◌, ◌&&◌, not, Bool, true, false, cond, max, List, [], ◌∷◌, ◌++◌, length, take, drop, Option, Some, None, is_some, refl, sym, subst, ap, ◌∙◌, inr, arith, take-append-drop, ◌≢◌, nat_le, slice_get, list_any, option_map_or, option_or, leb-true, leb-false, le-leb, ne_eqb, nil_from_length, items, items_nothing, Report, Entry, BusState, device_of, has_report, holder, is_silent, waiting_after, IsDeadline, acts, has_acted, is_run_ended, Remembered, first_around, first_from, holds, is_entry_due, step_of, ends_run, ends_silent, hears_items, IsDueFrom, IsHolderDeadline, any_due}
use Rattle.osdp_frame.specs.Silence.{is_silent_for}
use Rattle.osdp_controller.specs.Machine.{IsDeadline as IsDeadlineOf, Machine, is_due}
use Rattle.osdp_bus.specs.declared.config.BusConfig.{BusConfig}
use Rattle.osdp_bus.specs.Ticking.{BusTicked, is_due_at, is_held_and_due, next_due, stays, ticks_at, ticks_by, ticks_free, ticks_held, ticks_on, ticks_with}

-- two tests by one moment each
same_tests : (a b c d : ℕ) → (a ≤ b → c ≤ d) → (c ≤ d → a ≤ b) → nat_le a b ≡ nat_le c d
same_tests a b c d there back = by_test (nat_le a b) (nat_le c d) refl refl
  where
    by_test : (x y : Bool) → nat_le a b ≡ x → nat_le c d ≡ y → nat_le a b ≡ nat_le c d
    by_test true true p q = p ∙ sym q
    by_test false false p q = p ∙ sym q
    by_test true false p q = absurd (let le = there (leb-true a b p) in let gt = leb-false c d q in omega arith)
    by_test false true p q = absurd (let le = back (leb-true c d q) in let gt = leb-false a b p in omega arith)

-- a controller that is due at the moment is due from it on; else from its own deadline on
pub due_from : (m : Machine) (now deadline : ℕ) (b : Bool) → IsDeadlineOf m (Some deadline) → is_due now m ≡ b
    → IsDueFrom (λ at. is_due at m) now (Some (cond b now deadline))
due_from m now deadline true is due =
    let reached : deadline ≤ max m.session.greatest now = leb-true deadline (max m.session.greatest now) (sym (is.1 now) ∙ due) in
    (omega arith, λ at le lt. is.1 at ∙ same_tests deadline (max m.session.greatest at) now at (λ _. le) (λ _. omega arith))
due_from m now deadline false is due =
    let above : max m.session.greatest now < deadline = leb-false deadline (max m.session.greatest now) (sym (is.1 now) ∙ due) in
    (omega arith, λ at le lt. is.1 at ∙ same_tests deadline (max m.session.greatest at) deadline at (λ h. omega arith) (λ h. omega arith))

or_false : (a : Bool) → (a || false) ≡ a
or_false true = refl
or_false false = refl

-- ---- the devices in their order

-- ---- what is first

-- what a search gives: nobody where no device passes, else one that does
abbrev pub IsFound : (Entry → Bool) → ℕ → List Entry → Option ℕ → Type 0
IsFound test at ds None = list_any test ds ≡ false
IsFound test at ds (Some n) = (k : ℕ) × ((d : Entry) × ((n ≡ at + k) × (slice_get ds k ≡ Some d) × (test d ≡ true)))

found_later : (test : Entry → Bool) (at : ℕ) (d : Entry) (ds : List Entry) (o : Option ℕ) → test d ≡ false → IsFound test (at + 1) ds o
    → IsFound test at (d ∷ ds) o
found_later test at d ds None is none = ap (λ t. t || list_any test ds) is ∙ none
found_later test at d ds (Some n) is here = (suc here.0, (here.1.0, ((let e = here.1.1.0 in omega arith), here.1.1.1, here.1.1.2)))

pub found : (test : Entry → Bool) (at : ℕ) (ds : List Entry) → IsFound test at ds (first_from at test ds)
found test at [] = refl
found test at (d ∷ ds) = by_test (test d) refl (found test (at + 1) ds)
  where
    by_test : (b : Bool) → test d ≡ b → IsFound test (at + 1) ds (first_from (at + 1) test ds)
        → IsFound test at (d ∷ ds) (cond b (Some at) (first_from (at + 1) test ds))
    by_test true is others = (0, (d, (omega arith, refl, is)))
    by_test false is others = found_later test at d ds (first_from (at + 1) test ds) is others

-- the same around the list
abbrev pub IsAround : (Entry → Bool) → List Entry → Option ℕ → Type 0
IsAround test ds None = list_any test ds ≡ false
IsAround test ds (Some n) = (d : Entry) × ((slice_get ds n ≡ Some d) × (test d ≡ true))

get_dropped : (n k : ℕ) (ds : List Entry) (d : Entry) → slice_get (drop n ds) k ≡ Some d → slice_get ds (n + k) ≡ Some d
get_dropped zero k ds d is = ap (slice_get ds) (let e : zero + k ≡ k = omega arith in e) ∙ is
get_dropped (suc n) k [] d is = absurd cc
get_dropped (suc n) k (x ∷ ds) d is = ap (slice_get (x ∷ ds)) (let e : suc n + k ≡ suc (n + k) = omega arith in e) ∙ get_dropped n k ds d is

get_taken : (n k : ℕ) (ds : List Entry) (d : Entry) → slice_get (take n ds) k ≡ Some d → slice_get ds k ≡ Some d
get_taken zero k ds d is = absurd cc
get_taken (suc n) k [] d is = absurd cc
get_taken (suc n) zero (x ∷ ds) d is = is
get_taken (suc n) (suc k) (x ∷ ds) d is = get_taken n k ds d is

any_append : (test : Entry → Bool) (xs ys : List Entry) → list_any test xs ≡ false → list_any test ys ≡ false → list_any test (xs ++ ys) ≡ false
any_append test [] ys none others = others
any_append test (x ∷ xs) ys none others = by_test (test x) none (λ e. any_append test xs ys e others)
  where
    by_test : (b : Bool) → (b || list_any test xs) ≡ false → (list_any test xs ≡ false → list_any test (xs ++ ys) ≡ false)
        → (b || list_any test (xs ++ ys)) ≡ false
    by_test true e on = e
    by_test false e on = on e

around_by : (test : Entry → Bool) (first : ℕ) (ds : List Entry) (o p : Option ℕ) → IsFound test first (drop first ds) o → IsFound test 0 (take first ds) p
    → IsAround test ds (option_or o p)
around_by test first ds (Some n) p here after =
    (here.1.0, (ap (slice_get ds) here.1.1.0 ∙ get_dropped first here.0 ds here.1.0 here.1.1.1, here.1.1.2))
around_by test first ds None (Some n) none here =
    let at : n ≡ here.0 = (let e = here.1.1.0 in omega arith) in
    (here.1.0, (ap (slice_get ds) at ∙ get_taken first here.0 ds here.1.0 here.1.1.1, here.1.1.2))
around_by test first ds None None none others =
    ap (list_any test) (sym (take-append-drop first ds)) ∙ any_append test (take first ds) (drop first ds) others none

pub around : (test : Entry → Bool) (first : ℕ) (ds : List Entry) → IsAround test ds (first_around first test ds)
around test first ds = around_by test first ds (first_from first test (drop first ds)) (first_from 0 test (take first ds))
    (found test first (drop first ds)) (found test 0 (take first ds))

pub any_at : (test : Entry → Bool) (ds : List Entry) (n : ℕ) (d : Entry) → slice_get ds n ≡ Some d → test d ≡ true → list_any test ds ≡ true
any_at test [] n d is passes = absurd cc
any_at test (x ∷ ds) zero d is passes =
    let same : x ≡ d = cc in
    ap (λ t. t || list_any test ds) (ap test same ∙ passes)
any_at test (x ∷ ds) (suc n) d is passes = by_test (test x) (any_at test ds n d is passes)
  where
    by_test : (b : Bool) → list_any test ds ≡ true → (b || list_any test ds) ≡ true
    by_test true others = refl
    by_test false others = others

-- ---- what a bus without a report does at a moment

abbrev bus : BusConfig → List Remembered → List Entry → ℕ → ℕ → List ℕ → ℕ → BusState
bus c m ds first last held greatest = record {
  config = c;
  devices = record { entries = ds; report = None };
  held = held;
  last = last;
  greatest = greatest;
  first = first;
  remembered = m;
}

or_true : (a : Bool) → (a || true) ≡ true
or_true true = refl
or_true false = refl

-- a tick of a device that is due
told_some : (n : ℕ) (report : Option Report) → is_some (waiting_after n report None) ≡ is_some report
told_some n None = refl
told_some n (Some report) = refl

ticked_acts : (c : BusConfig) (m : List Remembered) (ds : List Entry) (first last greatest n : ℕ) (old : BusState) (d : Entry) → slice_get ds n ≡ Some d
    → is_entry_due greatest d ≡ true → has_acted old (ticks_at (Some n) (bus c m ds first last [] greatest)) ≡ true
ticked_acts c m ds first last greatest n old d there due =
    ap (λ o. has_acted old (ticks_with n o (bus c m ds first last [] greatest))) there
    ∙ ap (λ t. t || is_run_ended old (ticks_with n (Some d) (bus c m ds first last [] greatest)).bus)
    (ap (λ t. is_some (step_of greatest d).frame || t) (told_some n (step_of greatest d).report) ∙ due)

-- where nothing is held, the end of a run changes nothing
pub nothing_ends : (b : BusState) → b.held ≡ [] → ends_run b ≡ b
nothing_ends b held =
    ap (λ (l : List ℕ). record b { devices = hears_items b.greatest (items true l) b.devices; held = [] }) held
    ∙ ap (λ parts. record b { devices = hears_items b.greatest parts b.devices; held = [] }) (items_nothing true)
    ∙ ap (λ (l : List ℕ). record b { held = l }) (sym held)

pub nothing_silent : (b : BusState) → b.held ≡ [] → ends_silent b ≡ b
nothing_silent b held = by_test (is_silent b)
  where
    by_test : (silent : Bool) → cond silent (ends_run b) b ≡ b
    by_test true = nothing_ends b held
    by_test false = refl

-- nobody holds the line and nothing is held: it does something where a device is due
pub free_acts : (c : BusConfig) (m : List Remembered) (ds : List Entry) (first last greatest now : ℕ) → first_from 0 holds ds ≡ None
    → acts now (bus c m ds first last [] greatest) ≡ any_due ds (max greatest now)
free_acts c m ds first last greatest now nobody =
    let g = max greatest now in
    let b = bus c m ds first last [] g in
    let old = bus c m ds first last [] greatest in
    ap (λ s. has_acted old (ticks_on s)) (nothing_silent (bus c m ds first last [] g) refl)
    ∙ ap (λ o. has_acted old (ticks_by o b)) nobody
    ∙ ap (λ s. has_acted old (ticks_free s)) (nothing_ends (bus c m ds first last [] g) refl)
    ∙ by_next (next_due b) (around (is_entry_due g) first ds)
  where
    by_next : (o : Option ℕ) → IsAround (is_entry_due (max greatest now)) ds o
        → has_acted (bus c m ds first last [] greatest) (ticks_at o (bus c m ds first last [] (max greatest now))) ≡ any_due ds (max greatest now)
    by_next None none = sym none
    by_next (Some n) here =
        ticked_acts c m ds first last (max greatest now) n (bus c m ds first last [] greatest) here.0 here.1.0 here.1.1
        ∙ sym (any_at (is_entry_due (max greatest now)) ds n here.0 here.1.0 here.1.1)

-- a device holds the line and nothing is held: it does something where this device is due
pub held_acts : (c : BusConfig) (m : List Remembered) (ds : List Entry) (first last greatest now n : ℕ) (d : Entry) → first_from 0 holds ds ≡ Some n
    → slice_get ds n ≡ Some d → holds d ≡ true → acts now (bus c m ds first last [] greatest) ≡ is_entry_due (max greatest now) d
held_acts c m ds first last greatest now n d holder_is there stands =
    let g = max greatest now in
    let b = bus c m ds first last [] g in
    let old = bus c m ds first last [] greatest in
    ap (λ s. has_acted old (ticks_on s)) (nothing_silent (bus c m ds first last [] g) refl)
    ∙ ap (λ o. has_acted old (ticks_by o b)) holder_is
    ∙ ap (λ o. has_acted old (cond (option_map_or (is_entry_due g) o false) (ticks_held n (ends_run b)) (stays b))) there
    ∙ by_due (is_entry_due g d) refl
  where
    by_due : (due : Bool) → is_entry_due (max greatest now) d ≡ due
        → has_acted (bus c m ds first last [] greatest) (cond due (ticks_held n (ends_run (bus c m ds first last [] (max greatest now)))) (stays (bus c m ds first last [] (max greatest now)))) ≡ due
    by_due false is = refl
    by_due true is =
        let g = max greatest now in
        let b = bus c m ds first last [] g in
        let old = bus c m ds first last [] greatest in
        ap (λ s. has_acted old (ticks_held n s)) (nothing_ends (bus c m ds first last [] g) refl)
        ∙ ap (λ o. has_acted old (cond (not (option_map_or holds o false && option_map_or (is_entry_due g) o false)) (stays b) (ticks_at (Some n) b))) there
        ∙ ap (λ t. has_acted old (cond (not (t && is_entry_due g d)) (stays b) (ticks_at (Some n) b))) stands
        ∙ ap (λ t. has_acted old (cond (not t) (stays b) (ticks_at (Some n) b))) is
        ∙ ticked_acts c m ds first last g n old d there is

-- a run in which bytes were held is over then
ended_acts : (old : BusState) (byte : ℕ) (bytes : List ℕ) (t : BusTicked) → old.held ≡ byte ∷ bytes → t.bus.held ≡ [] → has_acted old t ≡ true
ended_acts old byte bytes t some none =
    ap (λ e. (is_some t.sent || has_report t.bus) || e) over ∙ or_true (is_some t.sent || has_report t.bus)
  where
    over : is_run_ended old t.bus ≡ true
    over =
        ap (λ l. not (length l == 0) && length t.bus.held == 0) some ∙ ap (λ l. not (length (byte ∷ bytes) == 0) && length l == 0) none
        ∙ ap (λ e. not e && (0 == 0)) (ne_eqb (length (byte ∷ bytes)) 0 (λ h. omega arith))

-- a tick leaves nothing where nothing is held
at_empty : (o : Option ℕ) (s : BusState) → s.held ≡ [] → (ticks_at o s).bus.held ≡ []
at_empty None s none = none
at_empty (Some n) s none = by_device (device_of n s)
  where
    by_device : (o : Option Entry) → (ticks_with n o s).bus.held ≡ []
    by_device None = none
    by_device (Some d) = none

choice_empty : (b : Bool) (x y : BusTicked) → x.bus.held ≡ [] → y.bus.held ≡ [] → (cond b x y).bus.held ≡ []
choice_empty true x y p q = p
choice_empty false x y p q = q

free_empty : (s : BusState) → s.held ≡ [] → (ticks_free s).bus.held ≡ []
free_empty s none = choice_empty (has_report s) (stays s) (ticks_at (next_due s) s) none (at_empty (next_due s) s none)

held_empty : (n : ℕ) (s : BusState) → s.held ≡ [] → (ticks_held n s).bus.held ≡ []
held_empty n s none = choice_empty (has_report s || not (is_held_and_due n s)) (stays s) (ticks_at (Some n) s) none (at_empty (Some n) s none)

by_empty : (o : Option ℕ) (s : BusState) → s.held ≡ [] → (ticks_by o s).bus.held ≡ []
by_empty None s none = free_empty (ends_run s) refl
by_empty (Some n) s none = choice_empty (is_due_at n s) (ticks_held n (ends_run s)) (stays s) (held_empty n (ends_run s) refl) none

-- nobody holds the line and bytes are held: a tick ends their run at once
pub free_ends : (c : BusConfig) (m : List Remembered) (ds : List Entry) (first last greatest now byte : ℕ) (bytes : List ℕ) → first_from 0 holds ds ≡ None
    → acts now (bus c m ds first last (byte ∷ bytes) greatest) ≡ true
free_ends c m ds first last greatest now byte bytes nobody = by_silent (is_silent (bus c m ds first last (byte ∷ bytes) (max greatest now)))
  where
    by_silent : (b : Bool) → has_acted (bus c m ds first last (byte ∷ bytes) greatest)
        (ticks_on (cond b (ends_run (bus c m ds first last (byte ∷ bytes) (max greatest now))) (bus c m ds first last (byte ∷ bytes) (max greatest now)))) ≡ true
    by_silent true =
        let s = ends_run (bus c m ds first last (byte ∷ bytes) (max greatest now)) in
        ended_acts (bus c m ds first last (byte ∷ bytes) greatest) byte bytes (ticks_on s) refl (by_empty (holder s) s refl)
    by_silent false =
        let s = bus c m ds first last (byte ∷ bytes) (max greatest now) in
        ended_acts (bus c m ds first last (byte ∷ bytes) greatest) byte bytes (ticks_on s) refl
        (ap (λ o. (ticks_by o s).bus.held) nobody ∙ free_empty (ends_run s) refl)

-- a device holds the line and bytes are held: their run ends where the line was silent long enough, or where this device is due
pub held_ends : (c : BusConfig) (m : List Remembered) (ds : List Entry) (first last greatest now byte n : ℕ) (bytes : List ℕ) (d : Entry) → first_from 0 holds ds ≡ Some n
    → slice_get ds n ≡ Some d
    → acts now (bus c m ds first last (byte ∷ bytes) greatest) ≡ (is_entry_due (max greatest now) d || is_silent_for c.gap last (max greatest now))
held_ends c m ds first last greatest now byte n bytes d holder_is there =
    by_silent (is_silent_for c.gap last (max greatest now))
  where
    by_due : (due : Bool) → has_acted (bus c m ds first last (byte ∷ bytes) greatest)
        (cond due (ticks_held n (ends_run (bus c m ds first last (byte ∷ bytes) (max greatest now)))) (stays (bus c m ds first last (byte ∷ bytes) (max greatest now))))
        ≡ due
    by_due true =
        let s = ends_run (bus c m ds first last (byte ∷ bytes) (max greatest now)) in
        ended_acts (bus c m ds first last (byte ∷ bytes) greatest) byte bytes (ticks_held n s) refl (held_empty n s refl)
    by_due false = ap (λ e. not e && e) (ne_eqb (length (byte ∷ bytes)) 0 (λ h. omega arith))

    by_silent : (b : Bool) → has_acted (bus c m ds first last (byte ∷ bytes) greatest)
        (ticks_on (cond b (ends_run (bus c m ds first last (byte ∷ bytes) (max greatest now))) (bus c m ds first last (byte ∷ bytes) (max greatest now))))
        ≡ (is_entry_due (max greatest now) d || b)
    by_silent true =
        let s = ends_run (bus c m ds first last (byte ∷ bytes) (max greatest now)) in
        ended_acts (bus c m ds first last (byte ∷ bytes) greatest) byte bytes (ticks_on s) refl (by_empty (holder s) s refl)
        ∙ sym (or_true (is_entry_due (max greatest now) d))
    by_silent false =
        let g = max greatest now in
        let s = bus c m ds first last (byte ∷ bytes) g in
        let old = bus c m ds first last (byte ∷ bytes) greatest in
        ap (λ o. has_acted old (ticks_by o s)) holder_is
        ∙ ap (λ o. has_acted old (cond (option_map_or (is_entry_due g) o false) (ticks_held n (ends_run s)) (stays s))) there
        ∙ by_due (is_entry_due g d) ∙ sym (or_false (is_entry_due g d))

-- ---- the moment that a bus tells

none_of : {X : Type 0} (o : Option X) → is_some o ≡ false → o ≡ None
none_of None h = refl
none_of (Some x) h = absurd cc

plain : (b : BusState) (held : List ℕ) → b.devices.report ≡ None → b.held ≡ held → b ≡ bus b.config b.remembered b.devices.entries b.first b.last held b.greatest
plain b held none is = (λ i. record b { devices = record b.devices { report = none i }; held = is i })

as_deadline : (b : BusState) (f : ℕ → Bool) (moment : Option ℕ) → has_report b ≡ false → b.greatest < 2 ^ 64
    → ((now : ℕ) → acts now b ≡ f (max b.greatest now)) → IsDueFrom f b.greatest moment → IsDeadline b moment
as_deadline b f None none fits same due = inr (λ now lt. same now ∙ due (max b.greatest now) (omega arith) (omega arith))
as_deadline b f (Some m) none fits same due = (none, due.0, λ now lt. same now ∙ due.1 (max b.greatest now) (omega arith) (omega arith))

-- nobody holds the line, and nothing is held
pub deadline_free : (b : BusState) (moment : Option ℕ) → has_report b ≡ false → holder b ≡ None → length b.held ≡ 0 → b.greatest < 2 ^ 64
    → IsDueFrom (any_due b.devices.entries) b.greatest moment → IsDeadline b moment
deadline_free b moment none nobody empty fits due =
    let is = plain b [] (none_of b.devices.report none) (nil_from_length b.held empty) in
    as_deadline b (any_due b.devices.entries) moment none fits
    (λ now. ap (acts now) is ∙ free_acts b.config b.remembered b.devices.entries b.first b.last b.greatest now nobody) due

-- nobody holds the line, and bytes are held
pub deadline_now : (b : BusState) → has_report b ≡ false → holder b ≡ None → length b.held ≢ 0 → IsDeadline b (Some b.greatest)
deadline_now b none nobody some = by_held b.held refl
  where
    by_held : (held : List ℕ) → b.held ≡ held → IsDeadline b (Some b.greatest)
    by_held [] is = absurd (some (ap length is))
    by_held (byte ∷ bytes) is = (
      none,
      omega arith,
      λ now lt. ap (acts now) (plain b (byte ∷ bytes) (none_of b.devices.report none) is)
          ∙ free_ends b.config b.remembered b.devices.entries b.first b.last b.greatest now byte bytes nobody ∙ sym (le-leb b.greatest (max b.greatest now) (omega arith)),
    )

-- a device holds the line
pub deadline_held : (b : BusState) (n : ℕ) (moment : Option ℕ) → has_report b ≡ false → holder b ≡ Some n → b.greatest < 2 ^ 64
    → ((d : Entry) → slice_get b.devices.entries n ≡ Some d → IsHolderDeadline (length b.held == 0) b d moment) → IsDeadline b moment
deadline_held b n moment none holder_is fits due =
    let here = subst (IsFound holds 0 b.devices.entries) holder_is (found holds 0 b.devices.entries) in
    let at : n ≡ here.0 = (let e = here.1.1.0 in omega arith) in
    let d = here.1.0 in
    let there : slice_get b.devices.entries n ≡ Some d = ap (slice_get b.devices.entries) at ∙ here.1.1.1 in
    by_held d there here.1.1.2 b.held refl (due d there)
  where
    by_held : (d : Entry) → slice_get b.devices.entries n ≡ Some d → holds d ≡ true → (held : List ℕ) → b.held ≡ held
        → IsHolderDeadline (length b.held == 0) b d moment → IsDeadline b moment
    by_held d there stands [] is from =
        as_deadline b (λ at. is_entry_due at d) moment none fits
        (λ now. ap (acts now) (plain b [] (none_of b.devices.report none) is)
        ∙ held_acts b.config b.remembered b.devices.entries b.first b.last b.greatest now n d holder_is there stands)
        (subst (λ (l : List ℕ). IsHolderDeadline (length l == 0) b d moment) is from)
    by_held d there stands (byte ∷ bytes) is from =
        as_deadline b (λ at. is_entry_due at d || is_silent_for b.config.gap b.last at) moment none fits
        (λ now. ap (acts now) (plain b (byte ∷ bytes) (none_of b.devices.report none) is)
        ∙ held_ends b.config b.remembered b.devices.entries b.first b.last b.greatest now byte n bytes d holder_is there)
        (subst (λ t. IsHolderDeadline t b d moment) (ap (λ l. length l == 0) is ∙ ne_eqb (length (byte ∷ bytes)) 0 (λ h. omega arith)) from)
