-- How long so many answers of a run took.
use Rattle.osdp_rules_laws.proofs.Common.{[], ap, Bool, cond, false, List, nat_le, None, refl, Some, subst, suc, true, ℕ, ◌∙◌, ◌∷◌, ◌≡◌}
use Rattle.std.proofs.Common.{◌+◌, ◌-◌, ◌*◌, ◌/◌, ◌<◌, ◌≤◌, arith, sum, take}
use Rattle.std.proofs.lemmas.Bool.{leb-false, leb-true}
use Rattle.std.proofs.lemmas.List.Sums.{sum_by-cons}
use Rattle.osdp_rules.specs.Delays.{median, most, nth_from}
use Rattle.osdp_rules.specs.declared.delays.Delays.{Delays}

-- Of each 100 of these answers so many took no longer than this, and fewer took less: by how many took each number of milliseconds.
pub record IsShare (of_hundred milliseconds : ℕ) (counts : List ℕ) : Type 0 where
  pub no_longer : of_hundred * sum counts ≤ 100 * sum (take (milliseconds + 1) counts)
  pub less : 100 * sum (take milliseconds counts) < of_hundred * sum counts

-- half of the answers of a run are told so, and 95 of 100
abbrev pub TellsShares : Type 0
TellsShares = (run : Delays) (milliseconds : ℕ) → run.total ≡ sum run.counts → 0 < run.total
    → (median run ≡ Some milliseconds → IsShare 50 milliseconds run.counts)
    × (most run ≡ Some milliseconds → IsShare 95 milliseconds run.counts)

-- the n-th answer stands so far after the first bucket: as many answers stand up to there, and fewer before
record Stands (bucket n : ℕ) (counts : List ℕ) (place : ℕ) : Type 0 where
  further : ℕ
  is : place ≡ bucket + further
  within : n ≤ sum (take (further + 1) counts)
  before : 0 < n → sum (take further counts) < n

taken : (n count : ℕ) (counts : List ℕ) → sum (take (n + 1) (count ∷ counts)) ≡ count + sum (take n counts)
taken n count counts =
    let next : n + 1 ≡ suc n = omega arith in
    ap (λ m. sum (take m (count ∷ counts))) next ∙ sum_by-cons (λ x. x) count (take n counts)

some_is : {a b : ℕ} → Some a ≡ Some b → a ≡ b
some_is e = grind (arith, e)

none_is : {a : ℕ} → None ≡ Some a → ⊥
none_is e = grind (arith, e)

here : (bucket n count : ℕ) (counts : List ℕ) (place : ℕ) → n ≤ count → bucket ≡ place → Stands bucket n (count ∷ counts) place
here bucket n count counts place within is = record {
  further = 0;
  is = omega (arith, is);
  within = omega (arith, within, taken 0 count counts);
  before = λ above. above;
}

further : (bucket n count : ℕ) (counts : List ℕ) (place : ℕ) → count < n → Stands (suc bucket) (n - count) counts place → Stands bucket n (count ∷ counts) place
further bucket n count counts place above s = record {
  further = s.further + 1;
  is = omega (arith, s.is);
  within = omega (arith, s.within, taken (s.further + 1) count counts);
  before = λ some. omega (arith, s.before (omega (arith, above)), taken s.further count counts, above);
}

stands : (bucket n : ℕ) (counts : List ℕ) (place : ℕ) → nth_from bucket n counts ≡ Some place → Stands bucket n counts place
stands bucket n [] place is = absurd (none_is is)
stands bucket n (count ∷ counts) place is = by (nat_le n count) refl is (stands (suc bucket) (n - count) counts place)
  where
    by : (b : Bool) → nat_le n count ≡ b → cond b (Some bucket) (nth_from (suc bucket) (n - count) counts) ≡ Some place
        → (nth_from (suc bucket) (n - count) counts ≡ Some place → Stands (suc bucket) (n - count) counts place) → Stands bucket n (count ∷ counts) place
    by true within found later = here bucket n count counts place (leb-true n count within) (some_is found)
    by false above found later = further bucket n count counts place (leb-false n count above) (later found)

-- the rank of a share: as many of each hundred, where a part of an answer counts as one
share : (of_hundred n place : ℕ) (counts : List ℕ) → of_hundred * sum counts ≤ 100 * n → 100 * n < of_hundred * sum counts + 100 → 0 < n
    → Stands 0 n counts place → IsShare of_hundred place counts
share of_hundred n place counts enough least some s =
    let at : s.further ≡ place = omega (arith, s.is) in
    let few : sum (take s.further counts) < n = s.before some in
    subst (λ m. IsShare of_hundred m counts) at (record { no_longer = omega (arith, s.within, enough); less = omega (arith, few, least) })

half : (total : ℕ) → (50 * total ≤ 100 * ((total + 1) / 2)) × (100 * ((total + 1) / 2) < 50 * total + 100) × (0 < total → 0 < (total + 1) / 2)
half total = (omega arith, omega arith, λ some. omega (arith, some))

nearly_all : (total : ℕ) → (95 * total ≤ 100 * ((total * 95 + 99) / 100)) × (100 * ((total * 95 + 99) / 100) < 95 * total + 100)
    × (0 < total → 0 < (total * 95 + 99) / 100)
nearly_all total = (omega arith, omega arith, λ some. omega (arith, some))

pub tells_shares : TellsShares
tells_shares run place total some = (
  λ is. share 50 ((run.total + 1) / 2) place run.counts (omega (arith, total, (half run.total).0)) (omega (arith, total, (half run.total).1)) ((half run.total).2 some) (stands 0 ((run.total + 1) / 2) run.counts place is),
  λ is. share 95 ((run.total * 95 + 99) / 100) place run.counts (omega (arith, total, (nearly_all run.total).0)) (omega (arith, total, (nearly_all run.total).1)) ((nearly_all run.total).2 some) (stands 0 ((run.total * 95 + 99) / 100) run.counts place is),
)
