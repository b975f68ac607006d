-- A session is given the latest of what is wanted.
use Rattle.osdp_site.proofs.Common.{◌≡◌, ◌∙◌, ap, sym, subst, ℕ, suc, ◌≤◌, arith, Bool, true, false, List, [], ◌∷◌, ◌++◌, length, drop, Option, Some, None, refl, Result, Ok, Err, if◌then◌else◌, Command, BusState, Report, SiteFault, after_submit_at, order_refusal_at, Submitted, Acted, begins_due, submits, submitted, unless_refused, Acts, Heeds, Move, Wants, after_move, after_moves, is_opening, PlaceState, after_wants_of, changed_unless, due_of, heeds, is_due, is_online, new_place, opens, wants_over, wants_refusal_of, first_about, subject_of}
use Rattle.std.proofs.Common.{append_assoc, append-nil, length-append, length-drop}
use Rattle.osdp_controller.specs.declared.report.Report.TheVariants as report
use Rattle.osdp_bus.specs.declared.fault.BusFault.{BusFault}
use Rattle.osdp_site.specs.declared.subject.Subject.{Subject}
use Rattle.osdp_site.specs.Latest.{IsGivenTheLatest, IsNoOpening, IsPartOf, NoOpenings, SessionsAreGivenTheLatest, accepted, accepted_if, accepted_in, given, given_by, given_in, latest}
use Rattle.osdp_site.proofs.Submitting.{none_due, order_sent}
use Rattle.osdp_site.proofs.Latest.{others, latest_over, Apart, latest_apart, latest_of_apart, without_first, due_then, part_of_self, part_of_part, part_with, others_are_part, part_before, wanted_begun, due_begun, done_begun, acted, wants_the_latest}

-- so far: what was given, and what is due, are of these, and their latest are wanted
record IsGiven (gs xs : List Command) (p : PlaceState) : Type 0 where
  part : IsPartOf (gs ++ due_of p) xs
  all : latest (gs ++ due_of p) ≡ p.wanted
  within : p.done ≤ length p.wanted

-- nothing is given, and nothing asked for
as_before : (gs xs : List Command) (p q : PlaceState) → q.wanted ≡ p.wanted → q.done ≡ p.done → IsGiven gs xs p → IsGiven (gs ++ []) (xs ++ []) q
as_before gs xs p q wanted done given =
    let due : due_of q ≡ due_of p = ap (λ ws. drop q.done ws) wanted ∙ ap (λ k. drop k p.wanted) done in
    let same : (gs ++ []) ++ due_of q ≡ gs ++ due_of p = ap (λ es. es ++ due_of q) (append-nil gs) ∙ ap (λ es. gs ++ es) due in
    record {
      part = subst (λ es. IsPartOf es (xs ++ [])) (sym same) (subst (IsPartOf (gs ++ due_of p)) (sym (append-nil xs)) given.part);
      all = ap latest same ∙ given.all ∙ sym wanted;
      within = omega (arith, given.within, done, ap length wanted);
    }

-- one more is asked for
with_one : (s : Subject) (c : Command) (gs xs : List Command) (p : PlaceState) → subject_of c ≡ Ok s → IsGiven gs xs p
    → IsGiven (gs ++ []) (xs ++ c ∷ []) (wants_over (first_about 0 s p.wanted) c p)
with_one s c gs xs p is given =
    let q = wants_over (first_about 0 s p.wanted) c p in
    let apart : Apart p.wanted = subst Apart given.all (latest_apart (gs ++ due_of p)) in
    let wanted : q.wanted ≡ others s p.wanted ++ c ∷ [] = ap (λ es. es ++ c ∷ []) (without_first s p.wanted apart) in
    let due : due_of q ≡ others s (due_of p) ++ c ∷ [] = ap (drop q.done) wanted ∙ due_then s c p.done p.wanted apart given.within in
    let same : (gs ++ []) ++ due_of q ≡ (gs ++ others s (due_of p)) ++ c ∷ [] =
    ap (λ es. es ++ due_of q) (append-nil gs) ∙ ap (λ es. gs ++ es) due ∙ sym (append_assoc gs (others s (due_of p)) (c ∷ [])) in
    let fewer = part_of_part (gs ++ others s (due_of p)) (gs ++ due_of p) xs (part_before gs (others s (due_of p)) (due_of p) (others_are_part s (due_of p))) given.part in
    record {
      part = subst (λ es. IsPartOf es (xs ++ c ∷ [])) (sym same) (part_with (gs ++ others s (due_of p)) xs c fewer);
      all = ap latest same ∙ latest_over s gs (due_of p) c is ∙ ap (λ es. others s es ++ c ∷ []) given.all ∙ sym wanted;
      within = omega (arith, length-drop q.done q.wanted, ap length due, length-append (others s (due_of p)) (c ∷ []));
    }

given_unless : (r : Option SiteFault) (s : Subject) (c : Command) (gs xs : List Command) (p : PlaceState) → subject_of c ≡ Ok s → IsGiven gs xs p
    → IsGiven (gs ++ []) (xs ++ accepted_if r c) (changed_unless r p (wants_over (first_about 0 s p.wanted) c p))
given_unless (Some fault) s c gs xs p is given = as_before gs xs p p refl refl given
given_unless None s c gs xs p is given = with_one s c gs xs p is given

given_wants : (r : Result Subject SiteFault) (c : Command) (gs xs : List Command) (p : PlaceState) → subject_of c ≡ r → IsGiven gs xs p
    → IsGiven (gs ++ []) (xs ++ accepted_if (wants_refusal_of r c p) c) (changed_unless (wants_refusal_of r c p) p (after_wants_of r c p))
given_wants (Err fault) c gs xs p is given = as_before gs xs p p refl refl given
given_wants (Ok s) c gs xs p is given = given_unless (wants_refusal_of (Ok s) c p) s c gs xs p is given

given_heeds : (pause now : ℕ) (r : Report) (gs xs : List Command) (p : PlaceState) → is_opening r ≡ false → IsGiven gs xs p → IsGiven (gs ++ []) (xs ++ []) (heeds pause now r p)
given_heeds pause now (report.Opened id) gs xs p none given = absurd cc
given_heeds pause now (report.Moved command answered) gs xs p none given =
    as_before gs xs p (heeds pause now (report.Moved command answered) p) refl refl given
given_heeds pause now (report.Lost cause command) gs xs p none given =
    as_before gs xs p (heeds pause now (report.Lost cause command) p) refl refl given
given_heeds pause now _ gs xs p none given = as_before gs xs p p refl refl given

count_unless : (o : Option BusFault) (b : BusState) (more : Submitted) (n : ℕ) → more.count ≤ n → (unless_refused o b more).count ≤ suc n
count_unless (Some fault) b more n within = omega arith
count_unless None b more n within = omega arith

count_within : (entry : ℕ) (cs : List Command) (b : BusState) → (submits entry cs b).count ≤ length cs
count_within entry [] b = omega arith
count_within entry (c ∷ cs) b =
    count_unless (order_refusal_at entry c b) b (submits entry cs (after_submit_at entry c b)) (length cs) (count_within entry cs (after_submit_at entry c b))

done_if : (online : Bool) (entry : ℕ) (x : Acted) → x.place.done ≤ length x.place.wanted
    → (if online then submitted x.place (submits entry (due_of x.place) x.panel) else x).place.done ≤ length x.place.wanted
done_if true entry x within =
    omega (arith, within, count_within entry (due_of x.place) x.panel, length-drop x.place.done x.place.wanted)
done_if false entry x within = within

given_acts : (entry pause now : ℕ) (b : BusState) (gs xs : List Command) (p : PlaceState) → IsGiven gs xs p
    → IsGiven (gs ++ given_in entry (Acts b now) p) (xs ++ []) (after_move entry pause (Acts b now) p)
given_acts entry pause now b gs xs p given =
    let x : Acted = record { place = p; panel = b } in
    let y = begins_due entry now x in
    let q = after_move entry pause (Acts b now) p in
    let wanted : q.wanted ≡ p.wanted = acted entry pause now b p in
    let still : y.place.wanted ≡ p.wanted = wanted_begun (is_due now p) entry now x in
    let due : given_by entry y ++ due_of q ≡ due_of p = order_sent entry y.panel y.place ∙ due_begun (is_due now p) entry now x in
    let same : (gs ++ given_by entry y) ++ due_of q ≡ gs ++ due_of p = append_assoc gs (given_by entry y) (due_of q) ∙ ap (λ es. gs ++ es) due in
    let within : y.place.done ≤ length y.place.wanted = omega (arith, given.within, done_begun (is_due now p) entry now x, ap length still) in
    record {
      part = subst (λ es. IsPartOf es (xs ++ [])) (sym same) (subst (IsPartOf (gs ++ due_of p)) (sym (append-nil xs)) given.part);
      all = ap latest same ∙ given.all ∙ sym wanted;
      within = omega (arith, done_if (is_online y.place.presence) entry y within, ap length wanted, ap length still);
    }

given_move : (entry pause : ℕ) (m : Move) (gs xs : List Command) (p : PlaceState) → IsNoOpening m → IsGiven gs xs p
    → IsGiven (gs ++ given_in entry m p) (xs ++ accepted_in m p) (after_move entry pause m p)
given_move entry pause (Wants c) gs xs p none given = given_wants (subject_of c) c gs xs p refl given
given_move entry pause (Heeds r now) gs xs p none given = given_heeds pause now r gs xs p none given
given_move entry pause (Acts b now) gs xs p none given = given_acts entry pause now b gs xs p given

given_moves : (entry pause : ℕ) (ms : List Move) (gs xs : List Command) (p : PlaceState) → NoOpenings ms → IsGiven gs xs p
    → IsGiven (gs ++ given entry pause ms p) (xs ++ accepted entry pause ms p) (after_moves entry pause ms p)
given_moves entry pause [] gs xs p none is = as_before gs xs p p refl refl is
given_moves entry pause (m ∷ ms) gs xs p none is =
    let q = after_move entry pause m p in
    let after = after_moves entry pause ms q in
    let h = given_moves entry pause ms (gs ++ given_in entry m p) (xs ++ accepted_in m p) q none.1 (given_move entry pause m gs xs p none.0 is) in
    subst (λ es. IsGiven es (xs ++ (accepted_in m p ++ accepted entry pause ms q)) after) (append_assoc gs (given_in entry m p) (given entry pause ms q))
    (subst (λ es. IsGiven ((gs ++ given_in entry m p) ++ given entry pause ms q) es after) (append_assoc xs (accepted_in m p) (accepted entry pause ms q)) h)

opened_apart : (entry pause opened : ℕ) (ms : List Move) (p : PlaceState) → Apart p.wanted → NoOpenings ms → IsGivenTheLatest entry pause opened ms p
opened_apart entry pause opened ms p apart none =
    let o = opens opened p in
    let after = after_moves entry pause ms o in
    let first : IsGiven [] p.wanted o = record { part = part_of_self p.wanted; all = latest_of_apart p.wanted apart; within = omega arith } in
    let h = given_moves entry pause ms [] p.wanted o none first in
    record {
      once = h.part;
      all = h.all;
      done = λ is. ap latest (sym (append-nil (given entry pause ms o)) ∙ sym (ap (λ es. given entry pause ms o ++ es) (none_due after is))) ∙ h.all;
    }

pub sessions_are_given_the_latest : SessionsAreGivenTheLatest
sessions_are_given_the_latest entry pause room bytes now opened before ms none =
    let p = after_moves entry pause before (new_place room bytes now) in
    let apart : Apart p.wanted = subst Apart (sym (wants_the_latest entry pause room bytes now before)) (latest_apart (accepted entry pause before (new_place room bytes now))) in
    opened_apart entry pause opened ms p apart none
