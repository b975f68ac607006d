-- The step of a rank.
use Rattle.osdp_tool_times.proofs.Common.{◌≡◌, ℕ, suc, ◌+◌, ◌-◌, ◌*◌, ◌≤◌, ◌<◌, ◌⊎◌, inl, inr, Bool, true, false, cond, List, [], ◌∷◌, length, drop, take, sum, subst, refl, sym, ap, ◌∙◌, arith, le-leb, leb-false, leb-true, lt-leb, at_drop_more, drop_all, one_more}
use Rattle.std.proofs.lemmas.List.Sums.{sum_by-cons}
use Rattle.std.specs.Prelude.{zero, get_or, nat_le}
use Rattle.osdp_tool_times.specs.Times.{below, step_at}
use Rattle.osdp_tool_times.specs.TimesLaws.{CountsThoseBelow, TellsTheLongest}

more : (rank count : ℕ) (counts : List ℕ) → step_at rank (count ∷ counts) ≡ cond (nat_le rank count) 0 (step_at (rank - count) counts + 1)
unfolding step_at
more rank count counts = refl

none : (rank : ℕ) → step_at rank [] ≡ 0
unfolding step_at
none rank = refl

-- so many steps were passed
module _ (left step : ℕ) (counts : List ℕ) (total : ℕ) (so_far : step + step_at left (drop step counts) ≡ total) where
  pub step_end : length counts ≤ step → step ≡ total
  step_end h =
      let here : step_at left (drop step counts) ≡ 0 = ap (step_at left) (drop_all step counts h) ∙ none left in
      omega arith

  module _ (below : step < length counts) where
    head : step + cond (nat_le left (get_or counts step 0)) 0 (step_at (left - get_or counts step 0) (drop (step + 1) counts) + 1) ≡ total
    head = ap (λ n. step + n) (sym (more left (get_or counts step 0) (drop (step + 1) counts)) ∙ sym (at_drop_more (step_at left) counts step 0 below)) ∙ so_far

    pub step_stops : left ≤ get_or counts step 0 → step ≡ total
    step_stops h =
        let here : cond (nat_le left (get_or counts step 0)) 0 (step_at (left - get_or counts step 0) (drop (step + 1) counts) + 1) ≡ 0 =
        ap (λ t. cond t 0 (step_at (left - get_or counts step 0) (drop (step + 1) counts) + 1)) (le-leb left (get_or counts step 0) h) in
        omega (arith, head)

    pub step_goes : get_or counts step 0 < left → step + 1 + step_at (left - get_or counts step 0) (drop (step + 1) counts) ≡ total
    step_goes h =
        let here : cond (nat_le left (get_or counts step 0)) 0 (step_at (left - get_or counts step 0) (drop (step + 1) counts) + 1)
        ≡ step_at (left - get_or counts step 0) (drop (step + 1) counts) + 1 =
        ap (λ t. cond t 0 (step_at (left - get_or counts step 0) (drop (step + 1) counts) + 1)) (lt-leb left (get_or counts step 0) h) in
        omega (arith, head)

taken : (n count : ℕ) (counts : List ℕ) → sum (take (n + 1) (count ∷ counts)) ≡ count + sum (take n counts)
taken n count counts =
    let next : n + 1 ≡ suc n = omega arith in
    ap (λ m. sum (take m (count ∷ counts))) next ∙ sum_by-cons (λ x. x) count (take n counts)

-- those of the steps up to the one of a rank are as many as the rank says
up_to : (rank : ℕ) (counts : List ℕ) → rank ≤ sum counts → rank ≤ sum (take (step_at rank counts + 1) counts)
up_to rank [] h = omega (arith, h)
up_to rank (count ∷ counts) h = by (nat_le rank count) refl (λ within. up_to (rank - count) counts within)
  where
    by : (b : Bool) → nat_le rank count ≡ b → (rank - count ≤ sum counts → rank - count ≤ sum (take (step_at (rank - count) counts + 1) counts))
        → rank ≤ sum (take (step_at rank (count ∷ counts) + 1) (count ∷ counts))
    by true is rest =
        let here : step_at rank (count ∷ counts) ≡ 0 = more rank count counts ∙ ap (λ b. cond b 0 (step_at (rank - count) counts + 1)) is in
        let all = ap (λ n. sum (take (n + 1) (count ∷ counts))) here in
        omega (arith, all, taken 0 count counts, leb-true rank count is)
    by false is rest =
        let there : step_at rank (count ∷ counts) ≡ step_at (rank - count) counts + 1 = more rank count counts ∙ ap (λ b. cond b 0 (step_at (rank - count) counts + 1)) is in
        let all = ap (λ n. sum (take (n + 1) (count ∷ counts))) there in
        omega (arith, all, taken (step_at (rank - count) counts + 1) count counts, rest (omega (arith, h, sum_by-cons (λ x. x) count counts)))

pub those_below : CountsThoseBelow
those_below rank steps t within few is =
    let told : below rank t ≡ 5 * (step_at rank t.steps + 1) = ap (λ b. cond b (one_more t.most) (5 * (step_at rank t.steps + 1))) (lt-leb 63 (step_at rank t.steps) few) in
    let same : step_at rank t.steps + 1 ≡ steps = omega (arith, told, is) in
    subst (λ n. rank ≤ sum (take n t.steps)) same (up_to rank t.steps within)

pub the_longest : TellsTheLongest
the_longest time t = by (nat_le time t.took) refl
  where
    by : (c : Bool) → nat_le time t.took ≡ c
        → (time ≤ cond c t.took time) × (t.took ≤ cond c t.took time) × ((cond c t.took time ≡ time) ⊎ (cond c t.took time ≡ t.took))
    by true is = (leb-true time t.took is, omega arith, inr refl)
    by false is = let less = leb-false time t.took is in (omega arith, omega (arith, less), inl refl)

-- those of the steps before the one of a rank are fewer than the rank says
pub before : (k rank : ℕ) (counts : List ℕ) → 0 < rank → k ≤ step_at rank counts → sum (take k counts) < rank
before zero rank counts some within = some
before (suc k) rank [] some within = some
before (suc k) rank (count ∷ counts) some within = by (nat_le rank count) refl (before k (rank - count) counts)
  where
    by : (b : Bool) → nat_le rank count ≡ b → (0 < rank - count → k ≤ step_at (rank - count) counts → sum (take k counts) < rank - count)
        → sum (take (suc k) (count ∷ counts)) < rank
    by true is rest =
        let here : step_at rank (count ∷ counts) ≡ 0 = more rank count counts ∙ ap (λ b. cond b 0 (step_at (rank - count) counts + 1)) is in
        absurd (omega (arith, here, within))
    by false is rest =
        let there : step_at rank (count ∷ counts) ≡ step_at (rank - count) counts + 1 = more rank count counts ∙ ap (λ b. cond b 0 (step_at (rank - count) counts + 1)) is in
        let past : count < rank = leb-false rank count is in
        let fewer = rest (omega (arith, past)) (omega (arith, there, within)) in
        omega (arith, fewer, past, sum_by-cons (λ x. x) count (take k counts))
