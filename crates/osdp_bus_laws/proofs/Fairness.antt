-- Between two exchanges of one entry, every other that was due all along has begun one.
use Rattle.osdp_bus_laws.proofs.Common.{◌≡◌, ◌∙◌, ap, sym, subst, inl, inr, ℕ, ◌+◌, ◌||◌, Bool, true, false, max, List, [], ◌∷◌, ◌++◌, length, Option, Some, None, refl, arith, ◌⊎◌, ◌≢◌, if◌then◌else◌, not, nat_eq, nat_lt, slice_get, slice_set, option_map_or, eqb-true, eqb-false, ltb-true, ltb-false, items, either_way, BusConfig, Entry, BusFault, BusState, Devices, device_of, has_report, holder, is_silent, new_bus, seen, entry_ticks, holds, is_entry_due, after_bytes, ends_run, ends_silent, hears_bytes, add_refusal, after_add, after_begin_at, after_retarget_at, after_submit_at, begin_refusal_at, changed_unless, changes_entry, entry_begins, entry_retargets, entry_submits, entry_withdraws, new_device, retarget_refusal_at, submit_refusal_at, IsBusConfig, BusTicked, bus_ticks, is_due_at, is_held_and_due, next_due, stays, ticks_at, ticks_by, ticks_held, ticks_on, ticks_with, Call, Add, Begin, Submit, Withdraw, Retarget, OnBytes, OnSilence, Tick, NextReport, after_call, after_calls, IsOutstandingAt, IsBefore, IsFree, IsNext, asking, judged}
use Rattle.osdp_bus_laws.specs.Fairness.{Begins, DueAllAlong, HasBegun, TurnsAreFair}
use Rattle.osdp_bus_laws.proofs.Calling.{sound_call, sound_new}
use Rattle.osdp_bus_laws.proofs.Places.{IsAt, added, replaced}
use Rattle.osdp_bus_laws.proofs.Sound.{HeldBefore, SoundBus, WereHeld, held_items, held_there, same_held}
use Rattle.osdp_bus_laws.proofs.Turning.{due_is_next, free_tick, next_is_due, not_both, strictly, takes_turns}

-- ---- calls in which no exchange begins: the turn stays, and who holds the line held it before

abbrev pub Quiet : BusState → BusState → Type 0
Quiet b c = (c.first ≡ b.first) × WereHeld b.devices c.devices

quiet : (b : BusState) → Quiet b b
quiet b = (refl, same_held b.devices)

held_on : (ds es fs : Devices) → WereHeld ds es → WereHeld es fs → WereHeld ds fs
held_on ds es fs before after j f at h = by_later (after j f at h)
  where
    by_later : HeldBefore j es → HeldBefore j ds
    by_later (g, was, stands) = before j g was stands

pub quiet_on : (a b c : BusState) → Quiet a b → Quiet b c → Quiet a c
quiet_on a b c before after = (after.0 ∙ before.0, held_on a.devices b.devices c.devices before.1 after.1)

pub quiet_run : (b : BusState) → Quiet b (ends_run b)
quiet_run b = (refl, held_items b.greatest (items true b.held) b.devices)

quiet_silent : (b : BusState) → Quiet b (ends_silent b)
quiet_silent b = by_test (is_silent b)
  where
    by_test : (t : Bool) → Quiet b (if t then ends_run b else b)
    by_test true = quiet_run b
    by_test false = quiet b

pub quiet_seen : (now : ℕ) (b : BusState) → Quiet b (seen now b)
quiet_seen now b = (refl, same_held b.devices)

pub quiet_judged : (now : ℕ) (b : BusState) → Quiet b (judged now b)
quiet_judged now b = quiet_on b (seen now b) (judged now b) (quiet_seen now b) (quiet_silent (seen now b))

pub quiet_asking : (now : ℕ) (b : BusState) → Quiet b (asking now b)
quiet_asking now b = quiet_on b (judged now b) (asking now b) (quiet_judged now b) (quiet_run (judged now b))

pub quiet_bytes : (bytes : List ℕ) (now : ℕ) (b : BusState) → Quiet b (after_bytes bytes now b)
quiet_bytes [] now b = quiet_seen now b
quiet_bytes (byte ∷ bytes) now b =
    let e = judged now b in
    quiet_on b e (hears_bytes (byte ∷ bytes) e) (quiet_judged now b) (refl, held_items e.greatest (items false (e.held ++ (byte ∷ bytes))) e.devices)

-- a device changes that held the line before, if it does then
held_set : (entry : ℕ) (d e : Entry) (b : BusState) → device_of entry b ≡ Some d → (holds e ≡ true → holds d ≡ true)
    → (entries : List Entry) → entries ≡ slice_set b.devices.entries entry e
    → (j : ℕ) (f : Entry) → slice_get entries j ≡ Some f → holds f ≡ true → HeldBefore j b.devices
held_set entry d e b at was entries is j f there h = by_place (replaced b.devices.entries entry e j f (sym (ap (λ l. slice_get l j) is) ∙ there))
  where
    by_place : IsAt b.devices.entries entry e j f → HeldBefore j b.devices
    by_place (inl (here, same)) = (d, ap (slice_get b.devices.entries) here ∙ at, was (sym (ap holds same) ∙ h))
    by_place (inr (other, stood)) = (f, stood, h)

quiet_changes : (entry : ℕ) (change : Entry → Entry) (b : BusState) → ((d : Entry) → holds (change d) ≡ true → holds d ≡ true)
    → Quiet b (changes_entry entry change b)
quiet_changes entry change b was = by_device (device_of entry b) refl
  where
    by_device : (o : Option Entry) → device_of entry b ≡ o
        → Quiet b (option_map_or (λ d. record b { devices = record b.devices { entries = slice_set b.devices.entries entry (change d) } }) o b)
    by_device None at = quiet b
    by_device (Some d) at = (refl, held_set entry d (change d) b at (was d) (slice_set b.devices.entries entry (change d)) refl)

quiet_unless : (f : Option BusFault) (b c : BusState) → Quiet b c → Quiet b (changed_unless f b c)
quiet_unless None b c is = is
quiet_unless (Some fault) b c is = quiet b

held_added : (e : Entry) (b : BusState) → holds e ≡ false → (j : ℕ) (f : Entry) → slice_get (b.devices.entries ++ e ∷ []) j ≡ Some f → holds f ≡ true
    → HeldBefore j b.devices
held_added e b free j f there h = by_place (added b.devices.entries e j f there)
  where
    by_place : IsAt b.devices.entries (length b.devices.entries) e j f → HeldBefore j b.devices
    by_place (inl (here, same)) = absurd (let stands = sym (ap holds same) ∙ h in cc)
    by_place (inr (other, stood)) = (f, stood, h)

-- ---- who begins, or nobody

abbrev pub FirstIs : BusState → Type 0
FirstIs b = (n : ℕ) (d : Entry) → device_of n b ≡ Some d → holds d ≡ true → b.first ≡ n + 1

abbrev pub Who : Call → BusState → Type 0
Who call b = ((k : ℕ) × Begins call k b) ⊎ Quiet b (after_call call b)

quiet_held : (now entry : ℕ) (b : BusState) → FirstIs b → (has_report (asking now b) || not (is_held_and_due entry (asking now b))) ≡ false
    → Quiet b (ticks_at (Some entry) (asking now b)).bus
quiet_held now entry b first h = by_holder (held_there entry (asking now b) h).1
  where
    by_holder : ((d : Entry) × (device_of entry (asking now b) ≡ Some d) × (holds d ≡ true) × (is_entry_due (asking now b).greatest d ≡ true))
        → Quiet b (ticks_at (Some entry) (asking now b)).bus
    by_holder (d, at, stands, due) =
        let r = asking now b in
        let before = (quiet_asking now b).1 entry d at stands in
        let turn : entry + 1 ≡ b.first = sym (first entry before.0 before.1 before.2) in
        subst (λ (t : BusTicked). Quiet b t.bus) (sym (ap (λ o. ticks_with entry o r) at)) (
          turn,
          held_on b.devices r.devices (ticks_with entry (Some d) r).bus.devices (quiet_asking now b).1
              (held_set entry d (entry_ticks r.greatest d) r at (λ h. stands) (slice_set r.devices.entries entry (entry_ticks r.greatest d)) refl),
        )

module _ (now : ℕ) (b : BusState) (first : FirstIs b) where
  abbrev Comes : BusTicked → Type 0
  Comes t = ((k : ℕ) × Begins (Tick now) k b) ⊎ Quiet b t.bus

  who_next : has_report b ≡ false → holder (judged now b) ≡ None → has_report (asking now b) ≡ false → (o : Option ℕ) → next_due (asking now b) ≡ o
      → Comes (ticks_at o (asking now b))
  who_next none free left None is = inr (quiet_asking now b)
  who_next none free left (Some k) is = inl (
    k,
    record {
      now = now;
      tick = refl;
      free = record { before = none; nobody = free; after = left };
      next = due_is_next k (asking now b) is;
    },
  )

  who_held : (entry : ℕ) → Comes (ticks_by (Some entry) (judged now b))
  who_held entry =
      either_way Comes (is_due_at entry (judged now b)) (ticks_held entry (asking now b)) (stays (judged now b))
      (λ due. either_way Comes (has_report (asking now b) || not (is_held_and_due entry (asking now b))) (stays (asking now b)) (ticks_at (Some entry) (asking now b))
      (λ h. inr (quiet_asking now b)) (λ h. inr (quiet_held now entry b first h)))
      (λ due. inr (quiet_judged now b))

  who_by : has_report b ≡ false → (o : Option ℕ) → holder (judged now b) ≡ o → Comes (ticks_by o (judged now b))
  who_by none None free =
      either_way Comes (has_report (asking now b)) (stays (asking now b)) (ticks_at (next_due (asking now b)) (asking now b)) (λ h. inr (quiet_asking now b))
      (λ left. who_next none free left (next_due (asking now b)) refl)
  who_by none (Some entry) held = who_held entry

  who_ticks : Comes (bus_ticks now b)
  who_ticks =
      either_way Comes (has_report b) (stays (seen now b)) (ticks_on (judged now b)) (λ h. inr (quiet_seen now b))
      (λ none. who_by none (holder (judged now b)) refl)

pub who : (call : Call) (b : BusState) → FirstIs b → Who call b
who (Add address) b first = inr (quiet_unless (add_refusal address b) b (after_add address b) (refl, held_added (new_device address b.config) b refl))
who (Begin entry now) b first =
    inr (quiet_unless (begin_refusal_at entry b) b (after_begin_at entry now b)
    (quiet_on b (seen now b) (after_begin_at entry now b) (quiet_seen now b) (quiet_changes entry (entry_begins (max b.greatest now)) (seen now b) (λ d h. cc))))
who (Submit entry command) b first =
    inr (quiet_unless (submit_refusal_at entry command b) b (after_submit_at entry command b) (quiet_changes entry (entry_submits command) b (λ d h. h)))
who (Withdraw entry) b first = inr (quiet_changes entry entry_withdraws b (λ d h. h))
who (Retarget entry address) b first =
    inr (quiet_unless (retarget_refusal_at entry address b) b (after_retarget_at entry address b) (quiet_changes entry (entry_retargets address) b (λ d h. h)))
who (OnBytes bytes now) b first = inr (quiet_bytes bytes now b)
who (OnSilence now) b first = inr (quiet_on b (seen now b) (ends_run (seen now b)) (quiet_seen now b) (quiet_run (seen now b)))
who (Tick now) b first = who_ticks now b first
who NextReport b first = inr (quiet b)

-- ---- the turn after a call

pub begun_ticked : (now k : ℕ) (b : BusState) → IsFree now b → (next : IsNext k (asking now b)) → bus_ticks now b ≡ ticks_with k (Some next.due.device) (asking now b)
begun_ticked now k b free next =
    free_tick now b free ∙ ap (λ o. ticks_at o (asking now b)) (next_is_due k (asking now b) next) ∙ ap (λ o. ticks_with k o (asking now b)) next.due.there

pub turn_after : (call : Call) (k : ℕ) (b : BusState) → Begins call k b → (after_call call b).first ≡ k + 1
turn_after call k b x =
    ap (λ c. (after_call c b).first) x.tick ∙ ap (λ (t : BusTicked). t.bus.first) (begun_ticked x.now k b x.free x.next)

pub stands_after : (call : Call) (k : ℕ) (b : BusState) → Begins call k b → IsOutstandingAt k (after_call call b)
stands_after call k b x =
    let begun = (takes_turns b).sends x.now k x.free x.next in
    subst (λ c. IsOutstandingAt k (after_call c b)) (sym x.tick) (record { device = begun.device; there = begun.there; outstanding = begun.outstanding })

quiet_first : (b c : BusState) → FirstIs b → Quiet b c → FirstIs c
quiet_first b c first still n f at h =
    let before = still.1 n f at h in
    still.0 ∙ first n before.0 before.1 before.2

begun_first : (call : Call) (k : ℕ) (b : BusState) → SoundBus b → Begins call k b → FirstIs (after_call call b)
begun_first call k b is x n f at h =
    let y = stands_after call k b x in
    let one = (sound_call call b is).devices.one k n y.device f y.there at y.outstanding h in
    turn_after call k b x ∙ ap (λ m. m + 1) one

pub first_is : (call : Call) (b : BusState) → SoundBus b → FirstIs b → FirstIs (after_call call b)
first_is call b is first = by_who (who call b first)
  where
    by_who : Who call b → FirstIs (after_call call b)
    by_who (inl (k, x)) = begun_first call k b is x
    by_who (inr still) = quiet_first b (after_call call b) first still

first_is_along : (calls : List Call) (b : BusState) → SoundBus b → FirstIs b → FirstIs (after_calls calls b)
first_is_along [] b is first = first
first_is_along (call ∷ calls) b is first = first_is_along calls (after_call call b) (sound_call call b is) (first_is call b is first)

-- ---- fairness

-- of j before i, where k before j has its turn: j is before i still
nearer : (first i j k : ℕ) → IsBefore first j i → IsBefore first k j → IsBefore (k + 1) j i
nearer first i j k (inl (a, b)) (inl (c, d)) = inl (omega arith, omega arith)
nearer first i j k (inl (a, b)) (inr (inl (c, d))) = absurd (omega arith)
nearer first i j k (inl (a, b)) (inr (inr (c, d))) = absurd (omega arith)
nearer first i j k (inr (inl (a, b))) (inl (c, d)) = absurd (omega arith)
nearer first i j k (inr (inl (a, b))) (inr (inl (c, d))) = inl (omega arith, omega arith)
nearer first i j k (inr (inl (a, b))) (inr (inr (c, d))) = inr (inl (omega arith, omega arith))
nearer first i j k (inr (inr (a, b))) (inl (c, d)) = inr (inr (omega arith, omega arith))
nearer first i j k (inr (inr (a, b))) (inr (inl (c, d))) = absurd (omega arith)
nearer first i j k (inr (inr (a, b))) (inr (inr (c, d))) = absurd (omega arith)

-- who had its turn last comes after all others
last_of_all : (i j : ℕ) → j ≢ i → IsBefore (i + 1) j i
last_of_all i j apart = by_test (nat_lt j i) refl
  where
    by_test : (t : Bool) → nat_lt j i ≡ t → IsBefore (i + 1) j i
    by_test true lt = let below = ltb-true j i lt in inr (inl (below, omega arith))
    by_test false ge = let above = ltb-false j i ge in inr (inr (omega arith, (let below = strictly i j above apart in omega arith)))

fair_on : (calls : List Call) (last : Call) (i j : ℕ) (b : BusState) → SoundBus b → FirstIs b → j ≢ i → IsBefore b.first j i
    → DueAllAlong (calls ++ last ∷ []) j b → Begins last i (after_calls calls b) → HasBegun calls j b
fair_on [] last i j b is first apart before due x =
    let turn = (quiet_asking x.now b).0 in
    let sooner = x.next.first j (due.0 i x) apart in
    not_both b.first i j (subst (λ n. IsBefore n i j) turn sooner) before
fair_on (call ∷ calls) last i j b is first apart before due x =
    by_who (who call b first) (λ still. fair_on calls last i j (after_call call b) (sound_call call b is) (first_is call b is first) apart still due.1 x)
  where
    by_who : Who call b → (IsBefore (after_call call b).first j i → HasBegun calls j (after_call call b)) → HasBegun (call ∷ calls) j b
    by_who (inr still) on = inr (on (subst (λ n. IsBefore n j i) (sym still.0) before))
    by_who (inl (k, y)) on = by_same (nat_eq k j) refl
      where
        by_same : (t : Bool) → nat_eq k j ≡ t → HasBegun (call ∷ calls) j b
        by_same true same = inl (subst (λ n. Begins call n b) (eqb-true k j same) y)
        by_same false differ =
            let other : k ≢ j = eqb-false k j differ in
            let turn = (quiet_asking y.now b).0 in
            let sooner = subst (λ n. IsBefore n k j) turn (y.next.first j (due.0 k y) (λ h. other (sym h))) in
            inr (on (subst (λ n. IsBefore n j i) (sym (turn_after call k b y)) (nearer b.first i j k before sooner)))

pub turns_are_fair : (b : BusState) → SoundBus b → FirstIs b → TurnsAreFair b
turns_are_fair b is first call last between i j apart x due y =
    let c = after_call call b in
    fair_on between last i j c (sound_call call b is) (first_is call b is first) apart
    (subst (λ n. IsBefore n j i) (sym (turn_after call i b x)) (last_of_all i j apart)) due y

new_first : (config : BusConfig) → FirstIs (new_bus config)
new_first config n d at h = absurd cc

pub always_first : (config : BusConfig) (calls : List Call) → IsBusConfig config → FirstIs (after_calls calls (new_bus config))
always_first config calls is = first_is_along calls (new_bus config) (sound_new config is) (new_first config)
