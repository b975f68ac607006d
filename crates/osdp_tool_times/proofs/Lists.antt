-- Counts of a list of answer times.
use Rattle.osdp_tool_times.proofs.Common.{◌≡◌, ℕ, suc, ◌+◌, ◌-◌, ◌*◌, ◌≤◌, ◌<◌, inl, inr, Bool, true, false, cond, List, [], ◌∷◌, length, take, sum, subst, refl, sym, ap, ◌∙◌, arith, leb-false, leb-true, lt-leb, one_more}
use Rattle.std.proofs.lemmas.Bool.{cases_Bool, cond-false, cond-true, le-ltb, lt-ltb, ltb-true, ltb-false}
use Rattle.std.proofs.lemmas.List.{length-set, take_all}
use Rattle.std.proofs.lemmas.List.Sums.{get_or-le-sum_by, sum_by-cons}
use Rattle.std.specs.Prelude.{zero, get_or, nat_le, nat_lt, max, replicate, slice_set, if◌then◌else◌, ◌^◌, ◌/◌}
use Rattle.osdp_tool_times.specs.Times.{after_in_time, after_late, below, greater, lesser, no_times, step_at, step_of}
use Rattle.osdp_tool_times.specs.ListLaws.{IsLeastBelow, TellsTheLongestLate, TellsTimesOfAList, after_answers, after_lates, how_many, how_many_below, longest}
use Rattle.osdp_tool_times.specs.declared.table.Times.{Times}
use Rattle.osdp_tool_times.proofs.Steps.{before, those_below}

-- ---- the longest

greater_is : (a b : ℕ) → greater a b ≡ max b a
greater_is a b = elim (cases_Bool (nat_le a b)) [
  | inl is ↦ let le = leb-true a b is in cond-true (nat_le a b) b a is ∙ omega (arith, le)
  | inr not ↦ let lt = leb-false a b not in cond-false (nat_le a b) b a not ∙ omega (arith, lt)
]

max_more : (a b c : ℕ) → max (max a b) c ≡ max a (max b c)
max_more a b c = omega arith

longest_late : (times : List ℕ) (t : Times) → (after_lates times t).took ≡ max t.took (longest times)
longest_late [] t = omega arith
longest_late (time ∷ times) t =
    longest_late times (after_late time t) ∙ ap (λ n. max n (longest times)) (greater_is time t.took) ∙ max_more t.took time (longest times)

longest_of : (times : List ℕ) (t : Times) → (after_answers times t).most ≡ max t.most (longest times)
longest_of [] t = omega arith
longest_of (time ∷ times) t =
    longest_of times (after_in_time time t) ∙ ap (λ n. max n (longest times)) (greater_is time t.most) ∙ max_more t.most time (longest times)

none_first : (n : ℕ) → max 0 n ≡ n
none_first n = omega arith

pub longest_late_is : TellsTheLongestLate
longest_late_is times = longest_late times no_times ∙ none_first (longest times)

-- ---- one more of a step

one_more_is : (n : ℕ) → n < 2 ^ 64 - 1 → one_more n ≡ n + 1
one_more_is n below = cond-true (nat_lt n (2 ^ 64 - 1)) (n + 1) n (lt-ltb n (2 ^ 64 - 1) below)

taken : (k x : ℕ) (xs : List ℕ) → sum (take (suc k) (x ∷ xs)) ≡ x + sum (take k xs)
taken k x xs = sum_by-cons (λ n. n) x (take k xs)

set_within : (k i v : ℕ) (xs : List ℕ) → i < length xs → i < k → v ≡ get_or xs i 0 + 1 → sum (take k (slice_set xs i v)) ≡ sum (take k xs) + 1
set_within k i v [] within below is = absurd (omega (arith, within))
set_within zero i v (x ∷ xs) within below is = absurd (omega (arith, below))
set_within (suc k) zero v (x ∷ xs) within below is = let new = taken k v xs in let old = taken k x xs in omega (arith, new, old, is)
set_within (suc k) (suc i) v (x ∷ xs) within below is =
    let rest = set_within k i v xs (omega (arith, within)) (omega (arith, below)) is in
    let new = taken k x (slice_set xs i v) in
    let old = taken k x xs in
    omega (arith, new, old, rest)

set_past : (k i v : ℕ) (xs : List ℕ) → k ≤ i → sum (take k (slice_set xs i v)) ≡ sum (take k xs)
set_past k i v [] past = refl
set_past zero i v (x ∷ xs) past = refl
set_past (suc k) zero v (x ∷ xs) past = absurd (omega (arith, past))
set_past (suc k) (suc i) v (x ∷ xs) past =
    let rest = set_past k i v xs (omega (arith, past)) in
    let new = taken k x (slice_set xs i v) in
    let old = taken k x xs in
    omega (arith, new, old, rest)

whole : (xs : List ℕ) → length xs ≡ 64 → sum (take 64 xs) ≡ sum xs
whole xs is = ap sum (take_all 64 xs (omega (arith, is)))

lesser_is : (a b : ℕ) → (lesser a b ≤ a) × (lesser a b ≤ b) × ((k : ℕ) → k ≤ a → k ≤ b → k ≤ lesser a b)
lesser_is a b = by (nat_le a b) refl
  where
    by : (t : Bool) → nat_le a b ≡ t → (cond t a b ≤ a) × (cond t a b ≤ b) × ((k : ℕ) → k ≤ a → k ≤ b → k ≤ cond t a b)
    by true is = let le = leb-true a b is in (omega arith, le, λ k one other. one)
    by false is = let lt = leb-false a b is in (omega (arith, lt), omega arith, λ k one other. other)

step_below : (time : ℕ) → step_of time < 64
step_below time = let most = (lesser_is (time / 5) 63).1 in omega (arith, most)

-- ---- those of the steps below one

module _ (k : ℕ) where
  one_answer : (time : ℕ) (t : Times) → length t.steps ≡ 64 → sum t.steps < 2 ^ 64 - 1
      → sum (take k (after_in_time time t).steps) ≡ sum (take k t.steps) + (if nat_lt (step_of time) k then 1 else 0)
  one_answer time t long few =
      let s = step_of time in
      let there : s < length t.steps = let below = step_below time in omega (arith, below, long) in
      let part : get_or t.steps s 0 ≤ sum t.steps = get_or-le-sum_by (λ n. n) t.steps s 0 there in
      let one : one_more (get_or t.steps s 0) ≡ get_or t.steps s 0 + 1 = one_more_is (get_or t.steps s 0) (omega (arith, part, few)) in
      elim (cases_Bool (nat_lt s k)) [
        | inl is ↦
            set_within k s (one_more (get_or t.steps s 0)) t.steps there (ltb-true s k is) one
            ∙ ap (λ (b : Bool). sum (take k t.steps) + (if b then 1 else 0)) (sym is)
        | inr not ↦
            set_past k s (one_more (get_or t.steps s 0)) t.steps (ltb-false s k not)
            ∙ nothing (sum (take k t.steps)) ∙ ap (λ (b : Bool). sum (take k t.steps) + (if b then 1 else 0)) (sym not)
      ]
    where
      nothing : (n : ℕ) → n ≡ n + 0
      nothing n = omega arith

as_long : (time : ℕ) (t : Times) → length t.steps ≡ 64 → length (after_in_time time t).steps ≡ 64
as_long time t long = length-set t.steps (step_of time) _ ∙ long

all_long : (times : List ℕ) (t : Times) → length t.steps ≡ 64 → length (after_answers times t).steps ≡ 64
all_long [] t long = long
all_long (time ∷ times) t long = all_long times (after_in_time time t) (as_long time t long)

one_in_all : (time : ℕ) (t : Times) → length t.steps ≡ 64 → sum t.steps < 2 ^ 64 - 1 → sum (after_in_time time t).steps ≡ sum t.steps + 1
one_in_all time t long few =
    let one = one_answer 64 time t long few in
    sym (whole (after_in_time time t).steps (as_long time t long)) ∙ one
    ∙ ap (λ (b : Bool). sum (take 64 t.steps) + (if b then 1 else 0)) (lt-ltb (step_of time) 64 (step_below time)) ∙ ap (λ n. n + 1) (whole t.steps long)

counted_more : (test : ℕ → Bool) (time : ℕ) (times : List ℕ) → how_many test (time ∷ times) ≡ (if test time then 1 else 0) + how_many test times
counted_more test time times = by (test time)
  where
    by : (b : Bool) → (if b then how_many test times + 1 else how_many test times) ≡ (if b then 1 else 0) + how_many test times
    by true = omega arith
    by false = omega arith

shares : (k : ℕ) (times : List ℕ) (t : Times) → length t.steps ≡ 64 → sum t.steps + length times < 2 ^ 64
    → sum (take k (after_answers times t).steps) ≡ sum (take k t.steps) + how_many (λ time. nat_lt (step_of time) k) times
shares k [] t long few = omega arith
shares k (time ∷ times) t long few =
    let next = after_in_time time t in
    let room : sum t.steps < 2 ^ 64 - 1 = omega (arith, few) in
    let one = one_answer k time t long room in
    let all = one_in_all time t long room in
    let rest = shares k times next (as_long time t long) (omega (arith, few, all)) in
    let more = counted_more (λ time. nat_lt (step_of time) k) time times in
    omega (arith, one, rest, more)

answers_are : (times : List ℕ) (t : Times) → t.answers + length times < 2 ^ 64 → (after_answers times t).answers ≡ t.answers + length times
answers_are [] t few = omega arith
answers_are (time ∷ times) t few =
    let one = one_more_is t.answers (omega (arith, few)) in
    let rest = answers_are times (after_in_time time t) (omega (arith, few, one)) in
    omega (arith, one, rest)

zero_plus : (n : ℕ) → 0 + n ≡ n
zero_plus n = omega arith

zeros : (n k : ℕ) → sum (take k (replicate n 0)) ≡ 0
zeros zero zero = refl
zeros zero (suc k) = refl
zeros (suc n) zero = refl
zeros (suc n) (suc k) = taken k 0 (replicate n 0) ∙ zero_plus (sum (take k (replicate n 0))) ∙ zeros n k

-- ---- those that took less

how_many_same : (f g : ℕ → Bool) (xs : List ℕ) → ((x : ℕ) → f x ≡ g x) → how_many f xs ≡ how_many g xs
how_many_same f g [] same = refl
how_many_same f g (x ∷ xs) same =
    ap (λ (b : Bool). if b then how_many f xs + 1 else how_many f xs) (same x) ∙ ap (λ n. if g x then n + 1 else n) (how_many_same f g xs same)

pass_all : (f : ℕ → Bool) (xs : List ℕ) → ((x : ℕ) → f x ≡ true) → how_many f xs ≡ length xs
pass_all f [] all = refl
pass_all f (x ∷ xs) all =
    let rest = pass_all f xs all in
    ap (λ (b : Bool). if b then how_many f xs + 1 else how_many f xs) (all x) ∙ omega (arith, rest)

all_below : (limit : ℕ) (times : List ℕ) → longest times < limit → how_many_below limit times ≡ length times
all_below limit [] less = refl
all_below limit (time ∷ times) less =
    let rest = all_below limit times (omega (arith, less)) in
    ap (λ (b : Bool). if b then how_many_below limit times + 1 else how_many_below limit times) (lt-ltb time limit (omega (arith, less))) ∙ omega (arith, rest)

step_is : (k time : ℕ) → k ≤ 63 → nat_lt (step_of time) k ≡ nat_lt time (5 * k)
step_is k time few =
    let parts = lesser_is (time / 5) 63 in
    elim (cases_Bool (nat_lt time (5 * k))) [
      | inl is ↦ let less = ltb-true time (5 * k) is in lt-ltb (step_of time) k (let low = parts.0 in omega (arith, low, less)) ∙ sym is
      | inr not ↦ let more = ltb-false time (5 * k) not in le-ltb (step_of time) k (parts.2 k (omega (arith, more)) few) ∙ sym not
    ]

by_rank : (rank : ℕ) (times : List ℕ) → length times < 2 ^ 64 → longest times < 2 ^ 64 - 1 → rank ≤ length times
    → rank ≤ how_many_below (below rank (after_answers times no_times)) times
by_rank rank times few short within =
    let t = after_answers times no_times in
    let at = step_at rank t.steps in
    let most : t.most ≡ longest times = longest_of times no_times ∙ none_first (longest times) in
    elim (cases_Bool (nat_le 63 at)) [
      | inl slow ↦
          let told : below rank t ≡ longest times + 1 = cond-true (nat_le 63 at) (one_more t.most) (5 * (at + 1)) slow ∙ ap one_more most ∙ one_more_is (longest times) short in
          let all = ap (λ limit. how_many_below limit times) told ∙ all_below (longest times + 1) times (omega arith) in
          omega (arith, all, within)
      | inr fast ↦
          let few_steps : at < 63 = leb-false 63 at fast in
          let told : below rank t ≡ 5 * (at + 1) = cond-false (nat_le 63 at) (one_more t.most) (5 * (at + 1)) fast in
          let long : length no_times.steps ≡ 64 = refl in
          let none : sum no_times.steps ≡ 0 = refl in
          let some : sum t.steps ≡ length times =
          sym (whole t.steps (all_long times no_times long)) ∙ shares 64 times no_times long (omega (arith, few, none))
          ∙ ap (λ n. n + how_many (λ time. nat_lt (step_of time) 64) times) (zeros 64 64) ∙ zero_plus (how_many (λ time. nat_lt (step_of time) 64) times) ∙ pass_all (λ time. nat_lt (step_of time) 64) times (λ time. lt-ltb (step_of time) 64 (step_below time)) in
          let part : sum (take (at + 1) t.steps) ≡ how_many_below (5 * (at + 1)) times =
          shares (at + 1) times no_times long (omega (arith, few, none))
          ∙ ap (λ n. n + how_many (λ time. nat_lt (step_of time) (at + 1)) times) (zeros 64 (at + 1)) ∙ zero_plus (how_many (λ time. nat_lt (step_of time) (at + 1)) times)
          ∙ how_many_same (λ time. nat_lt (step_of time) (at + 1)) (λ time. nat_lt time (5 * (at + 1))) times (λ time. step_is (at + 1) time (omega (arith, few_steps))) in
          let enough = those_below rank (at + 1) t (omega (arith, within, some)) few_steps told in
          let same = ap (λ limit. how_many_below limit times) told in
          omega (arith, enough, part, same)
    ]

part_is : (k : ℕ) (times : List ℕ) → k ≤ 63 → length times < 2 ^ 64 → sum (take k (after_answers times no_times).steps) ≡ how_many_below (5 * k) times
part_is k times low few =
    let long : length no_times.steps ≡ 64 = refl in
    let none : sum no_times.steps ≡ 0 = refl in
    shares k times no_times long (omega (arith, few, none))
    ∙ ap (λ n. n + how_many (λ time. nat_lt (step_of time) k) times) (zeros 64 k) ∙ zero_plus (how_many (λ time. nat_lt (step_of time) k) times)
    ∙ how_many_same (λ time. nat_lt (step_of time) k) (λ time. nat_lt time (5 * k)) times (λ time. step_is k time low)

least_rank : (rank : ℕ) (times : List ℕ) → length times < 2 ^ 64 → 0 < rank → (step : ℕ) → step ≤ 63 → rank ≤ how_many_below (5 * step) times
    → below rank (after_answers times no_times) ≤ 5 * step
least_rank rank times few some step low enough =
    let t = after_answers times no_times in
    let at = step_at rank t.steps in
    let part = part_is step times low few in
    elim (cases_Bool (nat_le step at)) [
      | inl within ↦ let fewer = before step rank t.steps some (leb-true step at within) in absurd (omega (arith, fewer, part, enough))
      | inr past ↦
          let reached : at < step = leb-false step at past in
          let told : below rank t ≡ 5 * (at + 1) = cond-false (nat_le 63 at) (one_more t.most) (5 * (at + 1)) (lt-leb 63 at (omega (arith, reached, low))) in
          omega (arith, told, reached)
    ]

least_is : (rank : ℕ) (times : List ℕ) → length times < 2 ^ 64 → longest times < 2 ^ 64 - 1 → 0 < rank → rank ≤ length times
    → IsLeastBelow rank (below rank (after_answers times no_times)) times
least_is rank times few short some within = record { below = by_rank rank times few short within; least = least_rank rank times few some }

pub times_of_a_list : TellsTimesOfAList
times_of_a_list times some few short =
    let t = after_answers times no_times in
    let count : t.answers ≡ length times = answers_are times no_times (omega (arith, few)) ∙ zero_plus (length times) in
    record {
      answers = count;
      most = longest_of times no_times ∙ none_first (longest times);
      half = subst (λ n. IsLeastBelow (length times - length times / 2) (below (n - n / 2) t) times) (sym count)
          (least_is (length times - length times / 2) times few short (omega (arith, some)) (omega arith));
      most_of = subst (λ n. IsLeastBelow (length times - length times / 20) (below (n - n / 20) t) times) (sym count)
          (least_is (length times - length times / 20) times few short (omega (arith, some)) (omega arith));
    }
