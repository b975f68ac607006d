-- How many delays of a list are counted, and in which buckets.
use Rattle.osdp_rules_laws.proofs.Common.{[], ap, Bool, cond, eqb, false, inl, inr, length, List, nat_le, nat_lt, refl, Some, subst, suc, sym, true, ℕ, ◌∙◌, ◌∷◌, ◌≡◌, ◌≢◌, ◌⊎◌, cond-true, cond-false, eq-eqb, ne_eqb}
use Rattle.std.proofs.Common.{◌+◌, ◌-◌, ◌*◌, ◌/◌, ◌<◌, ◌≤◌, arith, get_or, replicate, set, sum, take}
use Rattle.std.proofs.lemmas.Bool.{cases_Bool, leb-false, le-ltb, ltb-false, ltb-true}
use Rattle.std.proofs.lemmas.List.{get_or-take, length-replicate, length-take, length-take-le, take-set-le}
use Rattle.std.proofs.lemmas.List.Sums.{get_or-le-sum_by, sum_by-cons, sum_by-set, sum_by-take-le}
use Rattle.std.proofs.lemmas.List.Folds.{sum_by-replicate}
use Rattle.std.proofs.Math.ListN.{length-set}
use Rattle.std.proofs.Math.Seq.{take-nil, take-set-lt}
use Rattle.std.specs.Prelude.{slice_index_or, slice_set}
use Rattle.osdp_rules.specs.Delays.{bucket_of, delays_after, delays_along, greater, is_full, lesser, new_delays, nth_from}
use Rattle.osdp_rules.specs.declared.delays.Delays.{Delays}
use Rattle.osdp_rules_laws.specs.Delaying.{TellsCounts, counted_of, less_than, run}
use Rattle.osdp_rules_laws.proofs.Shares.{IsShare, tells_shares}

-- so many were counted, and so many of them are less than each number of milliseconds
record Good (total : ℕ) (less : ℕ → ℕ) (ds : Delays) : Type 0 where
  total_is : ds.total ≡ total
  size : length ds.counts ≡ 1001
  sums : (n : ℕ) → n ≤ 1000 → sum (take n ds.counts) ≡ less n
  all : sum ds.counts ≡ total

one_less : ℕ → ℕ → ℕ
one_less d n = less_than n (d ∷ [])

one_is : (d n : ℕ) → nat_lt d n ≡ true → one_less d n ≡ 1
unfolding one_less
one_is d n e = cond-true (nat_lt d n) 1 0 e

one_is_none : (d n : ℕ) → nat_lt d n ≡ false → one_less d n ≡ 0
unfolding one_less
one_is_none d n e = cond-false (nat_lt d n) 1 0 e

less_more : (d n : ℕ) (delays : List ℕ) → less_than n (d ∷ delays) ≡ one_less d n + less_than n delays
unfolding one_less
less_more d n delays = by (nat_lt d n)
  where
    by : (b : Bool) → cond b (suc (less_than n delays)) (less_than n delays) ≡ cond b 1 0 + less_than n delays
    by true = omega arith
    by false = omega arith

-- the bucket of a delay is less than such a number exactly where the delay is
bucket_less : (d n : ℕ) → n ≤ 1000 → nat_lt (bucket_of d) n ≡ nat_lt d n
bucket_less d n within = by (nat_lt d 1000) refl
  where
    by : (b : Bool) → nat_lt d 1000 ≡ b → nat_lt (cond b d 1000) n ≡ nat_lt d n
    by true less = refl
    by false more = le-ltb 1000 n within ∙ sym (le-ltb d n (omega (arith, within, ltb-false d 1000 more)))

bucket_within : (d : ℕ) → bucket_of d < 1001
bucket_within d = by (nat_lt d 1000) refl
  where
    by : (b : Bool) → nat_lt d 1000 ≡ b → cond b d 1000 < 1001
    by true less = omega (arith, ltb-true d 1000 less)
    by false more = omega arith

-- one more in a bucket
sum_more : (counts : List ℕ) (b : ℕ) → b < length counts → sum (set counts b (suc (get_or counts b 0))) ≡ suc (sum counts)
sum_more counts b within = omega (arith, sum_by-set (λ x. x) counts b (suc (get_or counts b 0)) 0 within)

take_more : (counts : List ℕ) (b n : ℕ) → b < n → n ≤ length counts → sum (take n (set counts b (suc (get_or counts b 0)))) ≡ suc (sum (take n counts))
take_more counts b n below within =
    let same : get_or (take n counts) b 0 ≡ get_or counts b 0 = get_or-take n counts b 0 below in
    let long : length (take n counts) ≡ n = length-take-le n counts within in
    ap (λ (l : List ℕ). sum l) (take-set-lt n counts b (suc (get_or counts b 0)) below)
    ∙ ap (λ (c : ℕ). sum (set (take n counts) b (suc c))) (sym same)
    ∙ sum_more (take n counts) b (omega (arith, long, below))

take_same : (counts : List ℕ) (b n : ℕ) → n ≤ b → sum (take n (set counts b (suc (get_or counts b 0)))) ≡ sum (take n counts)
take_same counts b n above = ap (λ (l : List ℕ). sum l) (take-set-le n counts b (suc (get_or counts b 0)) above)

module _ (d : ℕ) (total : ℕ) (less : ℕ → ℕ) (ds : Delays) (good : Good total less ds) where
  abbrev b : ℕ
  b = bucket_of d

  abbrev here : Delays
  here = record ds { least = lesser ds.least d; greatest = greater ds.greatest d }

  inside : b < length ds.counts
  inside = omega (arith, good.size, bucket_within d)

  count_within : get_or ds.counts b 0 ≤ total
  count_within = omega (arith, get_or-le-sum_by (λ x. x) ds.counts b 0 inside, good.all)

  not_full : total < 4294967295 → is_full ds.total (slice_index_or ds.counts b 0) ≡ false
  not_full room =
      let one : eqb ds.total 4294967295 ≡ false = ne_eqb ds.total 4294967295 (differs ds.total (omega (arith, room, good.total_is))) in
      let other : eqb (get_or ds.counts b 0) 4294967295 ≡ false = ne_eqb (get_or ds.counts b 0) 4294967295 (differs (get_or ds.counts b 0) (omega (arith, room, count_within))) in
      rw (one, other) refl
    where
      differs : (n : ℕ) → n < 4294967295 → n ≢ 4294967295
      differs n below e = omega (arith, below, e)

  full : total ≡ 4294967295 → is_full ds.total (slice_index_or ds.counts b 0) ≡ true
  full at = rw (eq-eqb ds.total 4294967295 (good.total_is ∙ at)) refl

  sums_more : (n : ℕ) → n ≤ 1000 → sum (take n (set ds.counts b (suc (get_or ds.counts b 0)))) ≡ less n + one_less d n
  sums_more n within = by (nat_lt b n) refl
    where
      by : (t : Bool) → nat_lt b n ≡ t → sum (take n (set ds.counts b (suc (get_or ds.counts b 0)))) ≡ less n + one_less d n
      by true below =
          omega (
            arith,
            take_more ds.counts b n (ltb-true b n below) (omega (arith, within, good.size)),
            good.sums n within,
            one_is d n (sym (bucket_less d n within) ∙ below),
          )
      by false above =
          omega (arith, take_same ds.counts b n (ltb-false b n above), good.sums n within, one_is_none d n (sym (bucket_less d n within) ∙ above))

  counted_good : total < 4294967295 → Good (suc total) (λ n. less n + one_less d n) (delays_after d ds)
  counted_good room =
      subst (λ x. Good (suc total) (λ n. less n + one_less d n) x)
      (sym (cond-false (is_full ds.total (slice_index_or ds.counts b 0)) here
      (record here { counts = slice_set ds.counts b (suc (slice_index_or ds.counts b 0)); total = suc ds.total }) (not_full room)))
      (record {
        total_is = ap suc good.total_is;
        size = length_set ∙ good.size;
        sums = sums_more;
        all = sum_more ds.counts b inside ∙ ap suc good.all;
      })
    where
      length_set : length (set ds.counts b (suc (get_or ds.counts b 0))) ≡ length ds.counts
      length_set = simp length-set

  full_good : total ≡ 4294967295 → Good total less (delays_after d ds)
  full_good at =
      subst (λ x. Good total less x)
      (sym (cond-true (is_full ds.total (slice_index_or ds.counts b 0)) here
      (record here { counts = slice_set ds.counts b (suc (slice_index_or ds.counts b 0)); total = suc ds.total }) (full at)))
      (record { total_is = good.total_is; size = good.size; sums = good.sums; all = good.all })

-- ---- along a list

take_one : (k m : ℕ) (d : ℕ) (delays : List ℕ) → k ≡ suc m → take k (d ∷ delays) ≡ d ∷ take m delays
take_one k m d delays e = ap (λ n. take n (d ∷ delays)) e

take_none : (k : ℕ) (delays : List ℕ) → k ≡ 0 → take k delays ≡ []
take_none k delays e = ap (λ n. take n delays) e

good_as : (total other : ℕ) (less more : ℕ → ℕ) (ds : Delays) → total ≡ other → ((n : ℕ) → n ≤ 1000 → less n ≡ more n) → Good total less ds → Good other more ds
good_as total other less more ds same each good = record {
  total_is = good.total_is ∙ same;
  size = good.size;
  sums = λ n within. good.sums n within ∙ each n within;
  all = good.all ∙ same;
}

abbrev counted_from : ℕ → List ℕ → List ℕ
counted_from total delays = take (4294967295 - total) delays

along_good : (delays : List ℕ) (total : ℕ) (less : ℕ → ℕ) (ds : Delays) → Good total less ds → total ≤ 4294967295
    → Good (total + length (counted_from total delays)) (λ n. less n + less_than n (counted_from total delays)) (delays_along delays ds)
along_good [] total less ds good within =
    let none : counted_from total [] ≡ [] = take-nil (4294967295 - total) in
    good_as total (total + length (counted_from total [])) less (λ n. less n + less_than n (counted_from total [])) ds
    (omega (arith, ap (λ (l : List ℕ). length l) none)) (λ n at. omega (arith, ap (λ (l : List ℕ). less_than n l) none)) good
along_good (d ∷ delays) total less ds good within = elim (cases_Bool (nat_lt total 4294967295)) [
  | inl room ↦
      let below = ltb-true total 4294967295 room in
      let taken : counted_from total (d ∷ delays) ≡ d ∷ counted_from (suc total) delays =
      take_one (4294967295 - total) (4294967295 - suc total) d delays (omega (arith, below)) in
      good_as (suc total + length (counted_from (suc total) delays)) (total + length (counted_from total (d ∷ delays)))
      (λ n. less n + one_less d n + less_than n (counted_from (suc total) delays)) (λ n. less n + less_than n (counted_from total (d ∷ delays)))
      (delays_along delays (delays_after d ds))
      (omega (arith, ap (λ (l : List ℕ). length l) taken))
      (λ n at. omega (arith, ap (λ (l : List ℕ). less_than n l) taken, less_more d n (counted_from (suc total) delays)))
      (along_good delays (suc total) (λ n. less n + one_less d n) (delays_after d ds) (counted_good d total less ds good below) (omega (arith, below)))
  | inr none ↦
      let at : total ≡ 4294967295 = omega (arith, within, ltb-false total 4294967295 none) in
      let taken : counted_from total (d ∷ delays) ≡ [] = take_none (4294967295 - total) (d ∷ delays) (omega (arith, at)) in
      let later : counted_from total delays ≡ [] = take_none (4294967295 - total) delays (omega (arith, at)) in
      good_as (total + length (counted_from total delays)) (total + length (counted_from total (d ∷ delays)))
      (λ n. less n + less_than n (counted_from total delays)) (λ n. less n + less_than n (counted_from total (d ∷ delays)))
      (delays_along delays (delays_after d ds))
      (omega (arith, ap (λ (l : List ℕ). length l) taken, ap (λ (l : List ℕ). length l) later))
      (λ n here. omega (arith, ap (λ (l : List ℕ). less_than n l) taken, ap (λ (l : List ℕ). less_than n l) later))
      (along_good delays total less (delays_after d ds) (full_good d total less ds good at) within)
]

-- ---- from a run's beginning

zeros : (k n : ℕ) → sum (take n (replicate k 0)) ≡ 0
zeros k n = omega (arith, sum_by-take-le (λ x. x) (replicate k 0) n, sum_by-replicate (λ x. x) k 0)

all_zeros : (k : ℕ) → sum (replicate k 0) ≡ 0
all_zeros k = omega (arith, sum_by-replicate (λ x. x) k 0)

new_good : Good 0 (λ n. 0) new_delays
new_good = record { total_is = refl; size = length-replicate {A = ℕ} 1001 0; sums = λ n within. zeros 1001 n; all = all_zeros 1001 }

run_good : (delays : List ℕ) → Good (length (counted_of delays)) (λ n. less_than n (counted_of delays)) (run delays)
run_good delays =
    good_as (0 + length (counted_from 0 delays)) (length (counted_of delays)) (λ n. 0 + less_than n (counted_from 0 delays))
    (λ n. less_than n (counted_of delays)) (run delays) (omega arith) (λ n at. omega arith) (along_good delays 0 (λ n. 0) new_delays new_good (omega arith))

-- ---- shares

nth_within : (bucket n : ℕ) (counts : List ℕ) (place : ℕ) → nth_from bucket n counts ≡ Some place → place < bucket + length counts
nth_within bucket n [] place e = absurd (cc e)
nth_within bucket n (count ∷ counts) place e = by (nat_le n count) e (nth_within (suc bucket) (n - count) counts place)
  where
    first : (b c : ℕ) (counts : List ℕ) → b < b + length (c ∷ counts)
    first b c counts = omega arith

    some_is : (m n : ℕ) → Some m ≡ Some n → m ≡ n
    some_is m n e = cc

    by : (t : Bool) → cond t (Some bucket) (nth_from (suc bucket) (n - count) counts) ≡ Some place
        → (nth_from (suc bucket) (n - count) counts ≡ Some place → place < suc bucket + length counts) → place < bucket + length (count ∷ counts)
    by true is then = omega (arith, some_is bucket place is, first bucket count counts)
    by false later then = omega (arith, then later)

nth_some : (bucket n : ℕ) (counts : List ℕ) → 0 < n → n ≤ sum counts → (place : ℕ) × (nth_from bucket n counts ≡ Some place)
nth_some bucket n [] above within = absurd (none n above within)
  where
    none : (n : ℕ) → 0 < n → n ≤ 0 → ⊥
    none n a b = omega (arith, a, b)
nth_some bucket n (count ∷ counts) above within = by (nat_le n count) refl (nth_some (suc bucket) (n - count) counts)
  where
    by : (t : Bool) → nat_le n count ≡ t
        → (0 < n - count → n - count ≤ sum counts → (place : ℕ) × (nth_from (suc bucket) (n - count) counts ≡ Some place))
        → (place : ℕ) × (cond t (Some bucket) (nth_from (suc bucket) (n - count) counts) ≡ Some place)
    by true is then = (bucket, refl)
    by false more then =
        then (omega (arith, leb-false n count more)) (omega (arith, leb-false n count more, within, sum_by-cons (λ x. x) count counts))

share_of : (of_hundred ms total : ℕ) (less : ℕ → ℕ) (ds : Delays) → Good total less ds → ms < 1001 → IsShare of_hundred ms ds.counts
    → ((ms ≡ 1000) ⊎ (of_hundred * total ≤ 100 * less (suc ms))) × (100 * less ms < of_hundred * total)
share_of of_hundred ms total less ds good within share = (at (nat_lt ms 1000) refl, below)
  where
    below : 100 * less ms < of_hundred * total
    below = subst (λ (n : ℕ). 100 * n < of_hundred * total) (good.sums ms (omega (arith, within)))
        (subst (λ (n : ℕ). 100 * sum (take ms ds.counts) < of_hundred * n) good.all share.less)

    one_more : ms + 1 ≡ suc ms
    one_more = omega arith

    at : (b : Bool) → nat_lt ms 1000 ≡ b → (ms ≡ 1000) ⊎ (of_hundred * total ≤ 100 * less (suc ms))
    at true small = inr (subst (λ (n : ℕ). of_hundred * total ≤ 100 * n) (good.sums (suc ms) (omega (arith, ltb-true ms 1000 small)))
        (subst (λ (k : ℕ). of_hundred * total ≤ 100 * sum (take k ds.counts)) one_more
        (subst (λ (n : ℕ). of_hundred * n ≤ 100 * sum (take (ms + 1) ds.counts)) good.all share.no_longer)))
    at false great = inl (omega (arith, within, ltb-false ms 1000 great))

some_counted : (delays : List ℕ) → 1 ≤ length delays → 1 ≤ length (counted_of delays)
some_counted delays some = omega (arith, some, length-take 4294967295 delays)

half_rank : (n : ℕ) → 1 ≤ n → (0 < (n + 1) / 2) × ((n + 1) / 2 ≤ n)
half_rank n some = (omega (arith, some), omega (arith, some))

most_rank : (n : ℕ) → 1 ≤ n → (0 < (n * 95 + 99) / 100) × ((n * 95 + 99) / 100 ≤ n)
most_rank n some = (omega (arith, some), omega (arith, some))

pub tells_counts : (delays : List ℕ) → TellsCounts delays
tells_counts delays = record {
  total = good.total_is;
  half = λ some.
      let rank = half_rank (run delays).total (total_some some) in
      let place = nth_some 0 (((run delays).total + 1) / 2) (run delays).counts rank.0 (omega (arith, rank.1, good.total_is, good.all)) in
      let share = (tells_shares (run delays) place.0 (good.total_is ∙ sym good.all) (total_some some)).0 place.1 in
      let is = share_of 50 place.0 (length (counted_of delays)) (λ n. less_than n (counted_of delays)) (run delays) good (inside (((run delays).total + 1) / 2) place.0 place.1) share in
      (place.0, place.1, record { no_longer = is.0; less = is.1 });
  most_of = λ some.
      let rank = most_rank (run delays).total (total_some some) in
      let place = nth_some 0 (((run delays).total * 95 + 99) / 100) (run delays).counts rank.0 (omega (arith, rank.1, good.total_is, good.all)) in
      let share = (tells_shares (run delays) place.0 (good.total_is ∙ sym good.all) (total_some some)).1 place.1 in
      let is = share_of 95 place.0 (length (counted_of delays)) (λ n. less_than n (counted_of delays)) (run delays) good (inside (((run delays).total * 95 + 99) / 100) place.0 place.1) share in
      (place.0, place.1, record { no_longer = is.0; less = is.1 });
}
  where
    good : Good (length (counted_of delays)) (λ n. less_than n (counted_of delays)) (run delays)
    good = run_good delays

    total_some : 1 ≤ length delays → 0 < (run delays).total
    total_some some = omega (arith, (run_good delays).total_is, some_counted delays some)

    inside : (n place : ℕ) → nth_from 0 n (run delays).counts ≡ Some place → place < 1001
    inside n place e = omega (arith, nth_within 0 n (run delays).counts place e, (run_good delays).size)
