-- What a run's delays come to, by the list of them.
use Rattle.osdp_rules_laws.proofs.Common.{[], ap, Bool, cond, false, inl, inr, length, List, nat_lt, None, Option, refl, Some, subst, suc, sym, true, ℕ, ◌∙◌, ◌∷◌, ◌≡◌, ◌⊎◌, cond-true, cond-false}
use Rattle.std.proofs.Common.{◌<◌, ◌≤◌, arith}
use Rattle.std.proofs.lemmas.Bool.{le-ltb, lt-ltb, ltb-false, ltb-true}
use Rattle.std.specs.Prelude.{◌↔◌, slice_index_or, slice_set}
use Rattle.osdp_rules.specs.Delays.{bucket_of, counted, delays_after, delays_along, greater, is_full, lesser, new_delays}
use Rattle.osdp_rules.specs.declared.delays.Delays.{Delays}
use Rattle.osdp_rules_laws.specs.Delaying.{AllAtLeast, AllAtMost, IsLate, IsOneOf, JudgesDelays, TellsDelays, TellsEnds, run}
use Rattle.osdp_rules_laws.proofs.Counting.{tells_counts}
use Rattle.osdp_rules.specs.Delays.{by_greatest, delays_finding}
use Rattle.osdp_rules.specs.Findings.{prompt_finding}
use Rattle.osdp_rules.specs.declared.finding.Finding.TheVariants.{Broken, Kept}

-- ---- the longest and the shortest

counted_greatest : (bucket count : ℕ) (ds : Delays) → (counted bucket count ds).greatest ≡ ds.greatest
counted_greatest bucket count ds = by (is_full ds.total count)
  where
    by : (b : Bool) → (cond b ds (record ds { counts = slice_set ds.counts bucket (suc count); total = suc ds.total })).greatest ≡ ds.greatest
    by true = refl
    by false = refl

counted_least : (bucket count : ℕ) (ds : Delays) → (counted bucket count ds).least ≡ ds.least
counted_least bucket count ds = by (is_full ds.total count)
  where
    by : (b : Bool) → (cond b ds (record ds { counts = slice_set ds.counts bucket (suc count); total = suc ds.total })).least ≡ ds.least
    by true = refl
    by false = refl

abbrev great : Option ℕ → List ℕ → Option ℕ
great o [] = o
great o (d ∷ delays) = great (greater o d) delays

abbrev small : Option ℕ → List ℕ → Option ℕ
small o [] = o
small o (d ∷ delays) = small (lesser o d) delays

along_greatest : (delays : List ℕ) (ds : Delays) → (delays_along delays ds).greatest ≡ great ds.greatest delays
along_greatest [] ds = refl
along_greatest (d ∷ delays) ds =
    along_greatest delays (delays_after d ds)
    ∙ ap (λ o. great o delays)
    (counted_greatest (bucket_of d) (slice_index_or ds.counts (bucket_of d) 0) (record ds { least = lesser ds.least d; greatest = greater ds.greatest d }))

along_least : (delays : List ℕ) (ds : Delays) → (delays_along delays ds).least ≡ small ds.least delays
along_least [] ds = refl
along_least (d ∷ delays) ds =
    along_least delays (delays_after d ds)
    ∙ ap (λ o. small o delays)
    (counted_least (bucket_of d) (slice_index_or ds.counts (bucket_of d) 0) (record ds { least = lesser ds.least d; greatest = greater ds.greatest d }))

-- the greatest of these and one more
abbrev IsTop : ℕ → List ℕ → ℕ → Type 0
IsTop m delays n = ((n ≡ m) ⊎ IsOneOf delays n) × ((m ≤ n) × AllAtMost n delays)

abbrev IsBottom : ℕ → List ℕ → ℕ → Type 0
IsBottom m delays n = ((n ≡ m) ⊎ IsOneOf delays n) × ((n ≤ m) × AllAtLeast n delays)

member_most : (delays : List ℕ) (k n : ℕ) → IsOneOf delays k → AllAtMost n delays → k ≤ n
member_most [] k n at all = absurd at
member_most (d ∷ delays) k n (inl is) all = omega (arith, is, all.0)
member_most (d ∷ delays) k n (inr at) all = member_most delays k n at all.1

member_least : (delays : List ℕ) (k n : ℕ) → IsOneOf delays k → AllAtLeast n delays → n ≤ k
member_least [] k n at all = absurd at
member_least (d ∷ delays) k n (inl is) all = omega (arith, is, all.0)
member_least (d ∷ delays) k n (inr at) all = member_least delays k n at all.1

top_most : (m : ℕ) (delays : List ℕ) (k n : ℕ) → IsTop m delays k → IsTop m delays n → k ≤ n
top_most m delays k n (inl is, _) top = omega (arith, is, top.1.0)
top_most m delays k n (inr at, _) top = member_most delays k n at top.1.1

bottom_least : (m : ℕ) (delays : List ℕ) (k n : ℕ) → IsBottom m delays k → IsBottom m delays n → n ≤ k
bottom_least m delays k n (inl is, _) bottom = omega (arith, is, bottom.1.0)
bottom_least m delays k n (inr at, _) bottom = member_least delays k n at bottom.1.1

same_top : (m : ℕ) (delays : List ℕ) (k n : ℕ) → IsTop m delays k → IsTop m delays n → k ≡ n
same_top m delays k n one other = omega (arith, top_most m delays k n one other, top_most m delays n k other one)

same_bottom : (m : ℕ) (delays : List ℕ) (k n : ℕ) → IsBottom m delays k → IsBottom m delays n → k ≡ n
same_bottom m delays k n one other = omega (arith, bottom_least m delays k n one other, bottom_least m delays n k other one)

top : (m : ℕ) (delays : List ℕ) → (k : ℕ) × (great (Some m) delays ≡ Some k) × IsTop m delays k
top m [] = (m, refl, (inl refl, (omega arith, tt)))
top m (d ∷ delays) = by (nat_lt m d) refl (top d delays) (top m delays)
  where
    by : (b : Bool) → nat_lt m d ≡ b → (k : ℕ) × (great (Some d) delays ≡ Some k) × IsTop d delays k → (k : ℕ) × (great (Some m) delays ≡ Some k) × IsTop m delays k
        → (k : ℕ) × (great (cond b (Some d) (Some m)) delays ≡ Some k) × IsTop m (d ∷ delays) k
    by true less k l = (
      k.0,
      k.1,
      (
        elim (k.2.0) [ inl is ↦ inr (inl is) | inr at ↦ inr (inr at) ],
        (between m d k.0 (ltb-true m d less) k.2.1.0, (k.2.1.0, k.2.1.1)),
      ),
    )
      where
        between : (m d k : ℕ) → m < d → d ≤ k → m ≤ k
        between m d k a b = omega (arith, a, b)
    by false more l k = (
      k.0,
      k.1,
      (
        elim (k.2.0) [ inl is ↦ inl is | inr at ↦ inr (inr at) ],
        (k.2.1.0, (between m d k.0 (ltb-false m d more) k.2.1.0, k.2.1.1)),
      ),
    )
      where
        between : (m d k : ℕ) → d ≤ m → m ≤ k → d ≤ k
        between m d k a b = omega (arith, a, b)

bottom : (m : ℕ) (delays : List ℕ) → (k : ℕ) × (small (Some m) delays ≡ Some k) × IsBottom m delays k
bottom m [] = (m, refl, (inl refl, (omega arith, tt)))
bottom m (d ∷ delays) = by (nat_lt d m) refl (bottom d delays) (bottom m delays)
  where
    by : (b : Bool) → nat_lt d m ≡ b → (k : ℕ) × (small (Some d) delays ≡ Some k) × IsBottom d delays k → (k : ℕ) × (small (Some m) delays ≡ Some k) × IsBottom m delays k
        → (k : ℕ) × (small (cond b (Some d) (Some m)) delays ≡ Some k) × IsBottom m (d ∷ delays) k
    by true less k l = (
      k.0,
      k.1,
      (
        elim (k.2.0) [ inl is ↦ inr (inl is) | inr at ↦ inr (inr at) ],
        (between m d k.0 (ltb-true d m less) k.2.1.0, (k.2.1.0, k.2.1.1)),
      ),
    )
      where
        between : (m d k : ℕ) → d < m → k ≤ d → k ≤ m
        between m d k a b = omega (arith, a, b)
    by false more l k = (
      k.0,
      k.1,
      (
        elim (k.2.0) [ inl is ↦ inl is | inr at ↦ inr (inr at) ],
        (k.2.1.0, (between m d k.0 (ltb-false d m more) k.2.1.0, k.2.1.1)),
      ),
    )
      where
        between : (m d k : ℕ) → m ≤ d → k ≤ m → k ≤ d
        between m d k a b = omega (arith, a, b)

some_is : (m n : ℕ) → Some m ≡ Some n → m ≡ n
some_is m n e = cc

great_is : (delays : List ℕ) (n : ℕ) → (great None delays ≡ Some n) ↔ (IsOneOf delays n × AllAtMost n delays)
great_is [] n = (λ e. absurd (cc e), λ h. absurd h.0)
great_is (d ∷ delays) n =
    let k = top d delays in (
      λ e.
          let is = some_is k.0 n (sym k.1 ∙ e) in
          subst (λ (j : ℕ). IsOneOf (d ∷ delays) j × AllAtMost j (d ∷ delays)) is (k.2.0, k.2.1),
      λ h. k.1 ∙ ap Some (same_top d delays k.0 n k.2 (h.0, h.1)),
    )

small_is : (delays : List ℕ) (n : ℕ) → (small None delays ≡ Some n) ↔ (IsOneOf delays n × AllAtLeast n delays)
small_is [] n = (λ e. absurd (cc e), λ h. absurd h.0)
small_is (d ∷ delays) n =
    let k = bottom d delays in (
      λ e.
          let is = some_is k.0 n (sym k.1 ∙ e) in
          subst (λ (j : ℕ). IsOneOf (d ∷ delays) j × AllAtLeast j (d ∷ delays)) is (bottom_end k.0 k.2),
      λ h. k.1 ∙ ap Some (same_bottom d delays k.0 n k.2 (h.0, (least_first n h.1, h.1.1))),
    )
  where
    bottom_end : (j : ℕ) → IsBottom d delays j → IsOneOf (d ∷ delays) j × AllAtLeast j (d ∷ delays)
    bottom_end j h = (h.0, (h.1.0, h.1.1))

    least_first : (j : ℕ) → AllAtLeast j (d ∷ delays) → j ≤ d
    least_first j h = h.0

pub tells_ends : (delays : List ℕ) → TellsEnds delays
tells_ends delays = record {
  longest = λ n. (λ e. (great_is delays n).0 (sym (along_greatest delays new_delays) ∙ e), λ h. along_greatest delays new_delays ∙ (great_is delays n).1 h);
  shortest = λ n. (λ e. (small_is delays n).0 (sym (along_least delays new_delays) ∙ e), λ h. along_least delays new_delays ∙ (small_is delays n).1 h);
}

-- ---- what they show of the 200 ms

late_means : (delay : ℕ) → prompt_finding delay ≡ Broken → 200 < delay
late_means delay e = by (nat_lt 200 delay) refl e
  where
    by : (b : Bool) → nat_lt 200 delay ≡ b → cond b Broken Kept ≡ Broken → 200 < delay
    by true late e = ltb-true 200 delay late
    by false kept e = absurd (cc e)

late_shows : (delay : ℕ) → 200 < delay → prompt_finding delay ≡ Broken
late_shows delay late = cond-true (nat_lt 200 delay) Broken Kept (lt-ltb 200 delay late)

kept_means : (delay : ℕ) → prompt_finding delay ≡ Kept → delay ≤ 200
kept_means delay e = by (nat_lt 200 delay) refl e
  where
    by : (b : Bool) → nat_lt 200 delay ≡ b → cond b Broken Kept ≡ Kept → delay ≤ 200
    by true late e = absurd (cc e)
    by false kept e = ltb-false 200 delay kept

kept_shows : (delay : ℕ) → delay ≤ 200 → prompt_finding delay ≡ Kept
kept_shows delay kept = cond-false (nat_lt 200 delay) Broken Kept (le-ltb 200 delay kept)

late_top : (delays : List ℕ) (k : ℕ) → IsOneOf delays k → 200 < k → IsLate delays
late_top [] k at late = absurd at
late_top (d ∷ delays) k (inl is) late = inl (omega (arith, is, late))
late_top (d ∷ delays) k (inr at) late = inr (late_top delays k at late)

top_late : (delays : List ℕ) (k : ℕ) → AllAtMost k delays → IsLate delays → 200 < k
top_late [] k all late = absurd late
top_late (d ∷ delays) k all (inl late) = omega (arith, late, all.0)
top_late (d ∷ delays) k all (inr late) = top_late delays k all.1 late

all_within : (delays : List ℕ) (k n : ℕ) → AllAtMost k delays → k ≤ n → AllAtMost n delays
all_within [] k n all within = tt
all_within (d ∷ delays) k n all within = (omega (arith, all.0, within), all_within delays k n all.1 within)

-- the greatest of some delays decides
decides : (d : ℕ) (delays : List ℕ) → delays_finding (run (d ∷ delays)) ≡ prompt_finding (top d delays).0
decides d delays = ap by_greatest (along_greatest (d ∷ delays) new_delays ∙ (top d delays).1)

more_than_none : (d : ℕ) (delays : List ℕ) → 1 ≤ length (d ∷ delays)
more_than_none d delays = omega arith

judges_delays : (delays : List ℕ) → JudgesDelays delays
judges_delays [] = record {
  late = (λ e. absurd (cc e), λ h. absurd h);
  kept = (λ e. absurd (cc e), λ h. absurd (omega (arith, h.0)));
}
judges_delays (d ∷ delays) =
    let k = top d delays in record {
      late = (
        λ e. late_top (d ∷ delays) k.0 k.2.0 (late_means k.0 (sym (decides d delays) ∙ e)),
        λ h. decides d delays ∙ late_shows k.0 (top_late (d ∷ delays) k.0 k.2.1 h),
      );
      kept = (
        λ e. (more_than_none d delays, all_within (d ∷ delays) k.0 200 k.2.1 (kept_means k.0 (sym (decides d delays) ∙ e))),
        λ h. decides d delays ∙ kept_shows k.0 (member_most (d ∷ delays) k.0 200 k.2.0 h.1),
      );
    }

pub tells_delays : TellsDelays
tells_delays delays = (tells_ends delays, tells_counts delays, judges_delays delays)
