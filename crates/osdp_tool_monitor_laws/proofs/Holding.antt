-- What the counts of a device are tested for, and what that says of the line.
use Rattle.osdp_tool_monitor_laws.proofs.Common.{◌≡◌, ◌⊎◌, ◌↔◌, inl, inr, ◌<◌, ◌≤◌, ◌+◌, ◌-◌, ◌*◌, ◌/◌, ◌^◌, ℕ, min, Bool, true, false, eqb, ltb, leb, ◌&&◌, ◌||◌, not, get_or, refl, sym, ap, ◌∙◌, subst, arith, and_parts, and_from, both_ways, cases_Bool, eq-eqb, eqb-true, le-leb, leb-true, leb-false, lt-ltb, ltb-true, not-true, or_cases, Counts, is_ghost, no_counts, heard_items, nothing_heard, answered, busy, refused, repeated, demanded, doubled, replied, restarted, secured, so_many, Heard, IsAHalf, IsDoubled, IsHurt, IsMeasured, IsMute, IsOnceIn, IsShared, IsSilent, IsThere, IsTouched, LosesAnswers, asked, hits, needless, number, packets, rate, unanswered, whole}
use Rattle.osdp_tool_monitor.specs.Diagnoses.{has_damage, is_common, is_echoed, is_half, is_measured, is_mute, is_often, is_once_in, is_shared, is_touched, loses, lost}
use Rattle.osdp_tool_monitor_laws.proofs.Counting.{counts_each_kind}
use Rattle.osdp_tool_monitor_laws.proofs.Faults.{counts_faults, counts_replies_once}

-- ---- a test that holds where something is so

abbrev pub Tells : Bool → Type 0 → Type 0
Tells test P = (test ≡ true) ↔ P

pub both : {x y : Bool} {P Q : Type 0} → Tells x P → Tells y Q → Tells (x && y) (P × Q)
both {x} {y} p q = (λ is. let parts = and_parts x y is in (p.0 parts.0, q.0 parts.1), λ are. and_from x y (p.1 are.0) (q.1 are.1))

pub either : {x y : Bool} {P Q : Type 0} → Tells x P → Tells y Q → Tells (x || y) (P ⊎ Q)
either {x} {y} {P} {Q} p q = (λ is. elim (or_cases x y is) [ inl l ↦ inl (p.0 l) | inr r ↦ inr (q.0 r) ], λ is. elim is [ inl l ↦ left (p.1 l) | inr r ↦ right x (q.1 r) ])
  where
    left : x ≡ true → (x || y) ≡ true
    left is = ap (λ t. t || y) is

    right : (t : Bool) → y ≡ true → (t || y) ≡ true
    right true is = refl
    right false is = is

pub none : {x : Bool} {P : Type 0} → Tells x P → Tells (not x) (¬ P)
none {x} {P} p = (λ isnt is. both_ways x (not-true x isnt) (p.1 is), λ isnt. by_test (cases_Bool x) isnt)
  where
    by_test : (x ≡ true) ⊎ (x ≡ false) → ¬ P → not x ≡ true
    by_test (inl is) isnt = absurd (isnt (p.0 is))
    by_test (inr never) isnt = ap not never

-- where the second is asked of those of which the first is so
pub given : {x y : Bool} {P Q : Type 0} → Tells x P → (P → Tells y Q) → Tells (x && y) (P × Q)
given {x} {y} p q =
    (λ is. let parts = and_parts x y is in let first = p.0 parts.0 in (first, (q first).0 parts.1), λ are. and_from x y (p.1 are.0) ((q are.0).1 are.1))

pub same : {x : Bool} {P Q : Type 0} → Tells x P → P ↔ Q → Tells x Q
same p with_it = (λ is. with_it.0 (p.0 is), λ is. p.1 (with_it.1 is))

pub at_most : (m n : ℕ) → Tells (leb m n) (m ≤ n)
at_most m n = (leb-true m n, le-leb m n)

pub below : (m n : ℕ) → Tells (ltb m n) (m < n)
below m n = (ltb-true m n, lt-ltb m n)

pub equal : (m n : ℕ) → Tells (eqb m n) (m ≡ n)
equal m n = (eqb-true m n, eq-eqb m n)

-- ---- shares

once_in : (many count all : ℕ) → Tells (is_once_in many count all) (IsOnceIn many count all)
once_in many count all = at_most all (many * count)

half : (count all : ℕ) → Tells (is_half count all) (IsAHalf count all)
unfolding is_half
half count all = both (at_most (9 * all) (20 * count)) (at_most (20 * count) (13 * all))

-- ---- what is counted, said of the line

-- a row with what the line says in the place of what a diagnosis reads
abbrev said : Heard → ℕ → Counts → Counts
said line a c = record c {
  asked = asked line a;
  repeats = number line repeated a;
  answered = number line answered a;
  busy = number line busy a;
  nak = number line refused a;
  restarted = number line restarted a;
  seconds = number line doubled a;
  needless = needless line a;
  demands = number line demanded a;
  secured = number line secured a;
  damaged = hits line a;
  clean = whole line a;
  rate = rate line a;
}

abbrev pub row_of : Heard → ℕ → Counts
row_of line a = get_or (heard_items (nothing_heard line.standard) line.items).counts a no_counts

-- what a diagnosis reads of an address
abbrev pub read : Heard → ℕ → Counts
read line a = said line a (row_of line a)

pub row_is : (line : Heard) (a : ℕ) → a < 128 → row_of line a ≡ read line a
row_is line a within =
    let k = counts_each_kind line.standard line.items a within in
    let f = counts_faults line.standard line.items a within in
    let c = row_of line a in
    let c1 = record c { asked = asked line a } in
    let c2 = record c1 { repeats = number line repeated a } in
    let c3 = record c2 { answered = number line answered a } in
    let c4 = record c3 { busy = number line busy a } in
    let c5 = record c4 { nak = number line refused a } in
    let c6 = record c5 { restarted = number line restarted a } in
    let c7 = record c6 { seconds = number line doubled a } in
    let c8 = record c7 { needless = needless line a } in
    let c9 = record c8 { demands = number line demanded a } in
    let c10 = record c9 { secured = number line secured a } in
    let c11 = record c10 { damaged = hits line a } in
    let c12 = record c11 { clean = whole line a } in
    ap (λ n. record c { asked = n }) k.asked
    ∙ ap (λ n. record c1 { repeats = n }) k.repeats
    ∙ ap (λ n. record c2 { answered = n }) k.answered_are
    ∙ ap (λ n. record c3 { busy = n }) k.busy_are
    ∙ ap (λ n. record c4 { nak = n }) k.nak
    ∙ ap (λ n. record c5 { restarted = n }) f.restarts
    ∙ ap (λ n. record c6 { seconds = n }) f.seconds
    ∙ ap (λ n. record c7 { needless = n }) f.needless
    ∙ ap (λ n. record c8 { demands = n }) f.demands
    ∙ ap (λ n. record c9 { secured = n }) f.secured_are
    ∙ ap (λ n. record c10 { damaged = n }) f.damaged
    ∙ ap (λ n. record c11 { clean = n }) f.clean
    ∙ ap (λ n. record c12 { rate = n }) f.rate

-- ---- each test

-- what had never reply, where a count stays at its most
lost_of : (asked_are answers busy_are naks all most : ℕ) → asked_are ≤ most → (answers + busy_are) + naks ≡ all
    → ((asked_are - min answers most) - min busy_are most) - min naks most ≡ asked_are - min all most
lost_of asked_are answers busy_are naks all most few sum = omega (arith, few, sum)

none_of : (answers busy_are naks all most : ℕ) → (answers + busy_are) + naks ≡ all → 1 ≤ most
    → (((min answers most ≡ 0) × (min busy_are most ≡ 0)) × (min naks most ≡ 0)) ↔ (min all most ≡ 0)
none_of answers busy_are naks all most sum some = (
  (λ are. let first = are.0.0 in let second = are.0.1 in let third = are.1 in omega (arith, sum, some, first, second, third)),
  (λ is. ((omega (arith, sum, some, is), omega (arith, sum, some, is)), omega (arith, sum, some, is))),
)

module _ (line : Heard) (a : ℕ) (c : Counts) where
  abbrev here : Counts
  here = said line a c

  pub measured_tells : Tells (is_measured here) (IsMeasured line a)
  measured_tells = both (at_most 20 (asked line a)) (below (asked line a) (2 ^ 57))

  pub lost_is : lost here ≡ unanswered line a
  lost_is =
      lost_of (asked line a) (so_many a answered (packets line)) (so_many a busy (packets line)) (so_many a refused (packets line)) (so_many a replied (packets line)) (2 ^ 64 - 1)
      (omega arith) (counts_replies_once a (packets line))

  pub mute_tells : Tells (is_mute here) (IsMute line a)
  mute_tells =
      both (at_most 3 (asked line a))
      (same (both (both (equal (number line answered a) 0) (equal (number line busy a) 0)) (equal (number line refused a) 0))
      (none_of (so_many a answered (packets line)) (so_many a busy (packets line)) (so_many a refused (packets line)) (so_many a replied (packets line)) (2 ^ 64 - 1)
      (counts_replies_once a (packets line)) (omega arith)))

  pub doubled_tells : Tells (is_echoed here) (IsDoubled line a)
  doubled_tells =
      subst (λ n. Tells ((is_measured here && is_half (number line repeated a) (asked line a)) && is_half n (asked line a)) (IsDoubled line a)) (sym lost_is)
      (same (both (both measured_tells (half (number line repeated a) (asked line a))) (half (unanswered line a) (asked line a))) ((λ are. (are.0.0, are.0.1, are.1)), (λ are. ((are.0, are.1), are.2))))

  pub loses_tells : Tells (loses here) (LosesAnswers line a)
  loses_tells =
      subst (λ n. Tells (((is_measured here && is_often n (asked line a)) && not (is_mute here)) && not (is_echoed here)) (LosesAnswers line a)) (sym lost_is)
      (same (both (both (both measured_tells (both (at_most 3 (unanswered line a)) (once_in 100 (unanswered line a) (asked line a)))) (none mute_tells)) (none doubled_tells))
      ((λ are. (are.0.0.0, are.0.0.1.0, are.0.0.1.1, are.0.1, are.1)), (λ are. (((are.0, (are.1, are.2)), are.3), are.4))))

  pub silent_tells : Tells (loses here || is_mute here) (IsSilent line a)
  silent_tells = either loses_tells mute_tells

  pub hurt_tells : Tells (has_damage here) (IsHurt line a)
  hurt_tells =
      same (both measured_tells (both (at_most 3 (hits line a)) (once_in 20 (hits line a) (asked line a)))) ((λ are. (are.0, are.1.0, are.1.1)), (λ are. (are.0, (are.1, are.2))))

  pub touched_tells : Tells (is_touched here) (IsTouched line a)
  touched_tells =
      same (both measured_tells (both (at_most 1 (hits line a)) (once_in 60 (hits line a) (asked line a)))) ((λ are. (are.0, are.1.0, are.1.1)), (λ are. (are.0, (are.1, are.2))))

  pub shared_tells : Tells (is_shared here) (IsShared line a)
  shared_tells = either (at_most 3 (number line doubled a)) (both (at_most 3 (hits line a)) (once_in 2 (hits line a) (asked line a)))

  pub repeated_tells : Tells (is_common (needless line a) (asked line a)) ((3 ≤ needless line a) × IsOnceIn 20 (needless line a) (asked line a))
  repeated_tells = both (at_most 3 (needless line a)) (once_in 20 (needless line a) (asked line a))

  pub there_tells : Tells (not (is_ghost here)) (IsThere line a)
  there_tells =
      same (none (both (both (both (both (equal (whole line a) 0) (below (asked line a) 3)) (below (number line answered a) 3)) (below (number line busy a) 3)) (below (number line refused a) 3))) (
        (λ isnt. some (cases_Bool (leb 1 (whole line a))) (cases_Bool (leb 3 (asked line a))) (cases_Bool (leb 3 (number line answered a))) (cases_Bool (leb 3 (number line busy a))) (cases_Bool (leb 3 (number line refused a))) isnt),
        (λ is are. elim is [
          | inl n ↦ (let none_is = are.0.0.0.0 in omega (arith, n, none_is))
          | inr rest ↦ elim rest [
            | inl n ↦ (let few = are.0.0.0.1 in omega (arith, n, few))
            | inr rest_2 ↦ elim rest_2 [
              | inl n ↦ (let few = are.0.0.1 in omega (arith, n, few))
              | inr rest_3 ↦ elim rest_3 [
                | inl n ↦ (let few = are.0.1 in omega (arith, n, few))
                | inr n ↦ (let few = are.1 in omega (arith, n, few))
              ]
            ]
          ]
        ]),
      )
    where
      some : ((leb 1 (whole line a) ≡ true) ⊎ (leb 1 (whole line a) ≡ false)) → ((leb 3 (asked line a) ≡ true) ⊎ (leb 3 (asked line a) ≡ false)) → ((leb 3 (number line answered a) ≡ true) ⊎ (leb 3 (number line answered a) ≡ false)) → ((leb 3 (number line busy a) ≡ true) ⊎ (leb 3 (number line busy a) ≡ false)) → ((leb 3 (number line refused a) ≡ true) ⊎ (leb 3 (number line refused a) ≡ false))
          → ¬ (((((whole line a ≡ 0) × (asked line a < 3)) × (number line answered a < 3)) × (number line busy a < 3)) × (number line refused a < 3)) → IsThere line a
      some (inl is) q r s t isnt = inl (leb-true 1 (whole line a) is)
      some (inr never) (inl is) r s t isnt = inr (inl (leb-true 3 (asked line a) is))
      some (inr never) (inr no_2) (inl is) s t isnt = inr (inr (inl (leb-true 3 (number line answered a) is)))
      some (inr never) (inr no_2) (inr no_3) (inl is) t isnt = inr (inr (inr (inl (leb-true 3 (number line busy a) is))))
      some (inr never) (inr no_2) (inr no_3) (inr no_4) (inl is) isnt = inr (inr (inr (inr (leb-true 3 (number line refused a) is))))
      some (inr never) (inr no_2) (inr no_3) (inr no_4) (inr no_5) isnt =
          let w = leb-false 1 (whole line a) never in
          absurd (isnt ((((omega (arith, w), leb-false 3 (asked line a) no_2), leb-false 3 (number line answered a) no_3), leb-false 3 (number line busy a) no_4), leb-false 3 (number line refused a) no_5))
