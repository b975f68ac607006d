-- The first in turn that is due begins an exchange.
use Rattle.osdp_bus_laws.proofs.Common.{◌≡◌, ◌∙◌, ap, sym, subst, inl, inr, ℕ, zero, suc, ◌+◌, ◌-◌, ◌≤◌, ◌<◌, ◌||◌, Bool, true, false, List, [], ◌∷◌, take, drop, Option, Some, None, refl, arith, ◌≢◌, if◌then◌else◌, is_some, nat_eq, nat_lt, option_map, slice_get, slice_set, option_or, eqb-true, eqb-false, ltb-true, ltb-false, Packet, items, Report, frame_of, ticks, sends_its_frame, counts_sends, Entry, BusState, device_of, has_report, seen, waiting_after, entry_ticks, first_from, holds, is_entry_due, step_of, bus_ticks, next_due, stays, ticks_at, ticks_by, ticks_on, ticks_with, IsAround, IsFound, around, found, own_frame, BeginsExchange, IsBefore, IsDueEntry, IsFree, IsNext, TakesTurns, asking, judged}
use Rattle.osdp_bus_laws.proofs.OneDevice.{ticked_told}
use Rattle.osdp_bus_laws.proofs.Places.{in_dropped, in_taken, is_false, none_at}
use Rattle.osdp_bus_laws.proofs.Sound.{IsNobody, nobody, still_nobody}

-- ---- the first of a list and around it

least : (test : Entry → Bool) (at n k : ℕ) (ds : List Entry) (d : Entry) → first_from at test ds ≡ Some n → slice_get ds k ≡ Some d → test d ≡ true → n ≤ at + k
least test at n k [] d is there passes = absurd cc
least test at n k (x ∷ ds) d is there passes = by_test (test x) refl k there is (λ m first at_m. least test (at + 1) n m ds d first at_m passes)
  where
    by_test : (b : Bool) → test x ≡ b → (k : ℕ) → slice_get (x ∷ ds) k ≡ Some d → (if b then Some at else first_from (at + 1) test ds) ≡ Some n
        → ((m : ℕ) → first_from (at + 1) test ds ≡ Some n → slice_get ds m ≡ Some d → n ≤ at + 1 + m) → n ≤ at + k
    by_test true e k there is later = let same : at ≡ n = cc in omega arith
    by_test false e zero there is later = absurd (let same : x ≡ d = cc in let yes = ap test same ∙ passes in cc)
    by_test false e (suc k) there is later = let below : n ≤ at + 1 + k = later k is there in omega arith

pub strictly : (a b : ℕ) → a ≤ b → b ≢ a → a < b
strictly a b le differ = by_test (nat_lt a b) refl
  where
    by_test : (t : Bool) → nat_lt a b ≡ t → a < b
    by_test true lt = ltb-true a b lt
    by_test false ge = absurd (let back = ltb-false a b ge in differ (omega arith))

-- of the two parts of a list, from the place that is asked first on and up to it
nearest : (test : Entry → Bool) (first n j : ℕ) (ds : List Entry) (d : Entry) (o p : Option ℕ) → first_from first test (drop first ds) ≡ o
    → first_from 0 test (take first ds) ≡ p → option_or o p ≡ Some n → slice_get ds j ≡ Some d → test d ≡ true → j ≢ n → IsBefore first n j
nearest test first n j ds d (Some m) p is other chosen there passes apart = by_side (nat_lt j first) refl
  where
    by_side : (b : Bool) → nat_lt j first ≡ b → IsBefore first n j
    by_side true lt =
        let below = ltb-true j first lt in
        let here = subst (IsFound test first (drop first ds)) is (found test first (drop first ds)) in
        let same : m ≡ n = cc in
        let place : m ≡ first + here.0 = here.1.1.0 in
        inr (inr (below, omega arith))
    by_side false ge =
        let above = ltb-false j first ge in
        let here = subst (IsFound test first (drop first ds)) is (found test first (drop first ds)) in
        let same : m ≡ n = cc in
        let place : m ≡ first + here.0 = here.1.1.0 in
        let back : first + (j - first) ≡ j = omega arith in
        let low = least test first m (j - first) (drop first ds) d is (in_dropped first (j - first) ds d (ap (slice_get ds) back ∙ there)) passes in
        let differ : (j ≡ n) → ⊥ = apart in
        inl (omega arith, strictly n j (omega arith) differ)
nearest test first n j ds d None (Some m) none is chosen there passes apart = by_side (nat_lt j first) refl
  where
    by_side : (b : Bool) → nat_lt j first ≡ b → IsBefore first n j
    by_side true lt =
        let below = ltb-true j first lt in
        let same : m ≡ n = cc in
        let low = least test 0 m j (take first ds) d is (in_taken first j ds d below there) passes in
        inr (inl (strictly n j (omega arith) apart, below))
    by_side false ge = absurd (
        let above = ltb-false j first ge in
        let back : first + (j - first) ≡ j = omega arith in
        let nothing = subst (IsFound test first (drop first ds)) none (found test first (drop first ds)) in
        let fails = none_at test (drop first ds) (j - first) d nothing (in_dropped first (j - first) ds d (ap (slice_get ds) back ∙ there)) in
        cc)
nearest test first n j ds d None None none nothing chosen there passes apart = absurd cc

pub not_both : (first i j : ℕ) → IsBefore first i j → IsBefore first j i → ⊥
not_both first i j (inl (a, b)) (inl (c, d)) = omega arith
not_both first i j (inl (a, b)) (inr (inl (c, d))) = omega arith
not_both first i j (inl (a, b)) (inr (inr (c, d))) = omega arith
not_both first i j (inr (inl (a, b))) (inl (c, d)) = omega arith
not_both first i j (inr (inl (a, b))) (inr (inl (c, d))) = omega arith
not_both first i j (inr (inl (a, b))) (inr (inr (c, d))) = omega arith
not_both first i j (inr (inr (a, b))) (inl (c, d)) = omega arith
not_both first i j (inr (inr (a, b))) (inr (inl (c, d))) = omega arith
not_both first i j (inr (inr (a, b))) (inr (inr (c, d))) = omega arith

-- ---- who is next

pub due_is_next : (n : ℕ) (b : BusState) → next_due b ≡ Some n → IsNext n b
due_is_next n b is =
    let test = is_entry_due b.greatest in
    let here = subst (IsAround test b.devices.entries) is (around test b.first b.devices.entries) in
    record {
      due = record { device = here.0; there = here.1.0; due = here.1.1 };
      first = λ other due apart.
          nearest test b.first n other b.devices.entries due.device (first_from b.first test (drop b.first b.devices.entries))
          (first_from 0 test (take b.first b.devices.entries)) refl refl is due.there due.due apart;
    }

pub none_is_due : (b : BusState) → next_due b ≡ None → (entry : ℕ) → IsDueEntry entry b → ⊥
none_is_due b is entry due =
    let test = is_entry_due b.greatest in
    let nothing = subst (IsAround test b.devices.entries) is (around test b.first b.devices.entries) in
    let fails = none_at test b.devices.entries entry due.device nothing due.there in
    let passes = due.due in
    cc

pub next_is_due : (n : ℕ) (b : BusState) → IsNext n b → next_due b ≡ Some n
next_is_due n b next = by_found (next_due b) refl
  where
    by_found : (o : Option ℕ) → next_due b ≡ o → next_due b ≡ Some n
    by_found None none = absurd (none_is_due b none n next.due)
    by_found (Some m) is = is ∙ ap Some (by_same (nat_eq m n) refl (due_is_next m b is))
      where
        by_same : (t : Bool) → nat_eq m n ≡ t → IsNext m b → m ≡ n
        by_same true same other = eqb-true m n same
        by_same false differ other =
            let apart : m ≢ n = eqb-false m n differ in
            absurd (not_both b.first n m (next.first m other.due apart) (other.first n next.due (λ h. apart (sym h))))

-- ---- it begins an exchange

no_report : (frame report : Bool) → (frame || report) ≡ true → report ≡ false → frame ≡ true
no_report true report h e = refl
no_report false report h e = absurd cc

-- a device whose exchange isn't outstanding tells nothing at a tick
tells_nothing : (now : ℕ) (d : Entry) → holds d ≡ false → is_some (step_of now d).report ≡ false
tells_nothing now d free = is_false (is_some (step_of now d).report) (λ h. let stands = (ticked_told now d h).0 in cc)

pub begins_frame : (now : ℕ) (d : Entry) → holds d ≡ false → is_entry_due now d ≡ true → is_some (step_of now d).frame ≡ true
begins_frame now d free due =
    no_report (is_some (step_of now d).frame) (is_some (step_of now d).report) due (tells_nothing now d free)

pub begins_exchange : (now : ℕ) (d : Entry) → holds d ≡ false → is_entry_due now d ≡ true → holds (entry_ticks now d) ≡ true
begins_exchange now d free due = (counts_sends now d.controller.session d.controller.waiting).outstanding (begins_frame now d free due)

pub set_here : (ds : List Entry) (i : ℕ) (d e : Entry) → slice_get ds i ≡ Some d → slice_get (slice_set ds i e) i ≡ Some e
set_here [] i d e at = absurd cc
set_here (x ∷ ds) zero d e at = refl
set_here (x ∷ ds) (suc i) d e at = set_here ds i d e at

pub set_other : (ds : List Entry) (i j : ℕ) (e : Entry) → j ≢ i → slice_get (slice_set ds i e) j ≡ slice_get ds j
set_other [] i j e other = refl
set_other (x ∷ ds) zero zero e other = absurd (other refl)
set_other (x ∷ ds) zero (suc j) e other = refl
set_other (x ∷ ds) (suc i) zero e other = refl
set_other (x ∷ ds) (suc i) (suc j) e other = set_other ds i j e (λ h. other (ap suc h))

pub free_tick : (now : ℕ) (b : BusState) → IsFree now b → bus_ticks now b ≡ ticks_at (next_due (asking now b)) (asking now b)
free_tick now b free =
    ap (λ t. if t then stays (seen now b) else ticks_on (judged now b)) free.before
    ∙ ap (λ o. ticks_by o (judged now b)) free.nobody
    ∙ ap (λ t. if t then stays (asking now b) else ticks_at (next_due (asking now b)) (asking now b)) free.after

-- what a tick sends is the frame of the exchange that is outstanding then
pub frame_sent : (now : ℕ) (d : Entry) (p : Packet) → (step_of now d).frame ≡ Some p → own_frame (entry_ticks now d) ≡ Some p
frame_sent now d p sent =
    let s = (ticks now d.controller.session d.controller.waiting).session in
    let own = sends_its_frame now d.controller.session d.controller.waiting p sent in
    ap (option_map (λ x. frame_of x s)) own.1 ∙ ap Some (sym own.2)

some_frame : (o : Option Packet) → is_some o ≡ true → (p : Packet) × (o ≡ Some p)
some_frame None h = absurd cc
some_frame (Some p) h = (p, refl)

-- where nothing is told no report waits that didn't wait before
none_waits : (entry : ℕ) (told : Option Report) (waiting : Option (ℕ × Report)) → is_some told ≡ false → is_some waiting ≡ false
    → is_some (waiting_after entry told waiting) ≡ false
none_waits entry None waiting h none = none
none_waits entry (Some report) waiting h none = absurd cc

began_with : (entry : ℕ) (d : Entry) (b : BusState) → device_of entry b ≡ Some d → holds d ≡ false → is_entry_due b.greatest d ≡ true
    → has_report b ≡ false → BeginsExchange entry b (ticks_with entry (Some d) b)
began_with entry d b at free due none =
    let sends = some_frame (step_of b.greatest d).frame (begins_frame b.greatest d free due) in
    record {
      device = entry_ticks b.greatest d;
      there = set_here b.devices.entries entry d (entry_ticks b.greatest d) at;
      outstanding = begins_exchange b.greatest d free due;
      frame = sends.0;
      sent = sends.1;
      own = frame_sent b.greatest d sends.0 sends.1;
      others = λ other apart. set_other b.devices.entries entry other (entry_ticks b.greatest d) apart;
      turn = refl;
      untold = none_waits entry (step_of b.greatest d).report b.devices.report (tells_nothing b.greatest d free) none;
    }

pub still_free : (now : ℕ) (b : BusState) → IsFree now b → IsNobody (asking now b).devices
still_free now b free =
    let j = judged now b in
    still_nobody j.greatest (items true j.held) j.devices (nobody j free.nobody)

pub takes_turns : (b : BusState) → TakesTurns b
takes_turns b = record {
  sends = sends;
  some = λ now entry due. by_due now entry due (next_due (asking now b)) refl;
  none = λ now free none. free_tick now b free ∙ nothing now none (next_due (asking now b)) refl;
}
  where
    sends : (now entry : ℕ) → IsFree now b → IsNext entry (asking now b) → BeginsExchange entry (asking now b) (bus_ticks now b)
    sends now entry free next =
        let r = asking now b in
        let d = next.due.device in
        let not_held = is_false (holds d) (λ h. still_free now b free entry d next.due.there h) in
        let ticked : bus_ticks now b ≡ ticks_with entry (Some d) r =
        free_tick now b free ∙ ap (λ o. ticks_at o r) (next_is_due entry r next) ∙ ap (λ o. ticks_with entry o r) next.due.there in
        subst (BeginsExchange entry r) (sym ticked) (began_with entry d r next.due.there not_held next.due.due free.after)

    by_due : (now entry : ℕ) → IsDueEntry entry (asking now b) → (o : Option ℕ) → next_due (asking now b) ≡ o → (next : ℕ) × IsNext next (asking now b)
    by_due now entry due None none = absurd (none_is_due (asking now b) none entry due)
    by_due now entry due (Some n) is = (n, due_is_next n (asking now b) is)

    nothing : (now : ℕ) → ((entry : ℕ) → IsDueEntry entry (asking now b) → ⊥) → (o : Option ℕ) → next_due (asking now b) ≡ o
        → ticks_at (next_due (asking now b)) (asking now b) ≡ stays (asking now b)
    nothing now none None is = ap (λ o. ticks_at o (asking now b)) is
    nothing now none (Some n) is = absurd (none n (due_is_next n (asking now b) is).due)
