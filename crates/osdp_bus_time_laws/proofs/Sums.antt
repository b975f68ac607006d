-- Turns of entries, added up: those that come before an entry, from the one that is asked first on.
use Rattle.osdp_bus_time_laws.proofs.Common.{◌≡◌, ap, subst, inl, inr, ℕ, zero, suc, ◌+◌, ◌-◌, ◌≤◌, ◌<◌, Bool, true, false, refl, arith, ◌≢◌, if◌then◌else◌, nat_le, nat_lt, le-leb, lt-leb, leb-true, leb-false, ltb-true, ltb-false, IsBefore, others_of, turns_of}

as_next : (n : ℕ) → n + 1 ≡ suc n
as_next n = omega arith

-- arithmetic on sums alone
more_after : (s x t : ℕ) → s ≤ t → s ≤ t + x
more_after s x t less = omega arith

low_turn : (so sk sn sf c : ℕ) → sn ≡ sk + c → sf ≤ sk → sn ≤ so → (so - sn) + c ≤ so - sf
low_turn so sk sn sf c next before within = omega arith

wrap_turn : (so sk sn sf all c : ℕ) → sn ≡ sk + c → sn ≤ so → (so - sn) + c ≤ (all - sf) + so
wrap_turn so sk sn sf all c next within = omega arith

high_turn : (so sk sn sf all c : ℕ) → sn ≡ sk + c → sf ≤ sk → sn ≤ all → ((all - sn) + so) + c ≤ (all - sf) + so
high_turn so sk sn sf all c next before within = omega arith

low_others : (so son sk sn all c own : ℕ) → son ≡ so + own → sn ≡ sk + c → sn ≤ so → son ≤ all → (so - sn) + c ≤ all - own
low_others so son sk sn all c own mine next below within = omega arith

high_others : (so son sk sn all c own : ℕ) → son ≡ so + own → sn ≡ sk + c → son ≤ sk → sn ≤ all → ((all - sn) + so) + c ≤ all - own
high_others so son sk sn all c own mine next above within = omega arith

low_all : (so son sf all own : ℕ) → son ≡ so + own → son ≤ all → so - sf ≤ all - own
low_all so son sf all own mine within = omega arith

high_all : (so son sf all own : ℕ) → son ≡ so + own → son ≤ sf → son ≤ all → (all - sf) + so ≤ all - own
high_all so son sf all own mine above within = omega arith

with_own : (so son all own : ℕ) → son ≡ so + own → son ≤ all → (all - own) + own ≡ all
with_own so son all own mine within = omega arith

module _ (time : ℕ → ℕ) (late : ℕ) where
  abbrev s : ℕ → ℕ
  s i = turns_of time late i

  grown : (i j : ℕ) → s i ≤ s (i + j)
  grown i zero = subst (λ (n : ℕ). s i ≤ s n) (let same : i ≡ i + 0 = omega arith in same) (omega arith)
  grown i (suc j) =
      subst (λ (n : ℕ). s i ≤ s n) (let same : suc (i + j) ≡ i + suc j = omega arith in same) (more_after (s i) (time (i + j) + late) (s (i + j)) (grown i j))

  pub sums_grow : (i j : ℕ) → i ≤ j → s i ≤ s j
  sums_grow i j less = subst (λ (n : ℕ). s i ≤ s n) (let same : i + (j - i) ≡ j = omega arith in same) (grown i (j - i))

  pub next_sum : (i : ℕ) → s (i + 1) ≡ s i + (time i + late)
  next_sum i = ap s (as_next i)

  -- those that come before an entry
  abbrev pub ahead_of : ℕ → ℕ → ℕ → ℕ
  ahead_of n own first = if nat_le first own then s own - s first else (s n - s first) + s own

  ahead_low : (n own first : ℕ) → first ≤ own → ahead_of n own first ≡ s own - s first
  ahead_low n own first less = ap (λ t. if t then s own - s first else (s n - s first) + s own) (le-leb first own less)

  ahead_high : (n own first : ℕ) → own < first → ahead_of n own first ≡ (s n - s first) + s own
  ahead_high n own first more = ap (λ t. if t then s own - s first else (s n - s first) + s own) (lt-leb first own more)

  le_of : (a b c d : ℕ) → a ≡ c → b ≡ d → c ≤ d → a ≤ b
  le_of a b c d is are less = omega arith

  le_of_plus : (a b c d x : ℕ) → a ≡ c → b ≡ d → c + x ≤ d → a + x ≤ b
  le_of_plus a b c d x is are less = omega arith

  -- an entry before it has its turn
  pub one_nearer : (n own first k : ℕ) → own < n → k < n → IsBefore first k own → ahead_of n own (k + 1) + (time k + late) ≤ ahead_of n own first
  one_nearer n own first k within there (inl (a, b)) =
      le_of_plus (ahead_of n own (k + 1)) (ahead_of n own first) (s own - s (k + 1)) (s own - s first) (time k + late)
      (ahead_low n own (k + 1) (omega arith)) (ahead_low n own first (omega arith))
      (low_turn (s own) (s k) (s (k + 1)) (s first) (time k + late) (next_sum k) (sums_grow first k a) (sums_grow (k + 1) own (omega arith)))
  one_nearer n own first k within there (inr (inl (a, b))) =
      le_of_plus (ahead_of n own (k + 1)) (ahead_of n own first) (s own - s (k + 1)) ((s n - s first) + s own) (time k + late)
      (ahead_low n own (k + 1) (omega arith)) (ahead_high n own first b)
      (wrap_turn (s own) (s k) (s (k + 1)) (s first) (s n) (time k + late) (next_sum k) (sums_grow (k + 1) own (omega arith)))
  one_nearer n own first k within there (inr (inr (a, b))) =
      le_of_plus (ahead_of n own (k + 1)) (ahead_of n own first) ((s n - s (k + 1)) + s own) ((s n - s first) + s own) (time k + late)
      (ahead_high n own (k + 1) (omega arith)) (ahead_high n own first a)
      (high_turn (s own) (s k) (s (k + 1)) (s first) (s n) (time k + late) (next_sum k) (sums_grow first k b) (sums_grow (k + 1) n (omega arith)))

  -- any other has it
  others_by : (n own k : ℕ) → own < n → k < n → k ≢ own → (t : Bool) → nat_lt k own ≡ t → ahead_of n own (k + 1) + (time k + late) ≤ others_of time late n own
  others_by n own k within there other true below =
      let less : k < own = ltb-true k own below in
      le_of_plus (ahead_of n own (k + 1)) (others_of time late n own) (s own - s (k + 1)) (others_of time late n own) (time k + late)
      (ahead_low n own (k + 1) (omega arith)) refl
      (low_others (s own) (s (own + 1)) (s k) (s (k + 1)) (s n) (time k + late) (time own + late) (next_sum own) (next_sum k) (sums_grow (k + 1) own (omega arith))
      (sums_grow (own + 1) n (omega arith)))
  others_by n own k within there other false above =
      let more : own ≤ k = ltb-false k own above in
      let apart : (k ≡ own) → ⊥ = other in
      le_of_plus (ahead_of n own (k + 1)) (others_of time late n own) ((s n - s (k + 1)) + s own) (others_of time late n own) (time k + late)
      (ahead_high n own (k + 1) (omega arith)) refl
      (high_others (s own) (s (own + 1)) (s k) (s (k + 1)) (s n) (time k + late) (time own + late) (next_sum own) (next_sum k)
      (sums_grow (own + 1) k (after own k more apart)) (sums_grow (k + 1) n (omega arith)))
    where
      after : (own k : ℕ) → own ≤ k → ((k ≡ own) → ⊥) → own + 1 ≤ k
      after own k more apart = by_less (nat_lt own k) refl
        where
          by_less : (t : Bool) → nat_lt own k ≡ t → own + 1 ≤ k
          by_less true is = let less = ltb-true own k is in omega arith
          by_less false is = absurd (let back = ltb-false own k is in apart (omega arith))

  pub others_have : (n own k : ℕ) → own < n → k < n → k ≢ own → ahead_of n own (k + 1) + (time k + late) ≤ others_of time late n own
  others_have n own k within there other = others_by n own k within there other (nat_lt k own) refl

  all_by : (n own first : ℕ) → own < n → (t : Bool) → nat_le first own ≡ t → ahead_of n own first ≤ others_of time late n own
  all_by n own first within true low =
      le_of (ahead_of n own first) (others_of time late n own) (s own - s first) (others_of time late n own) (ahead_low n own first (leb-true first own low)) refl
      (low_all (s own) (s (own + 1)) (s first) (s n) (time own + late) (next_sum own) (sums_grow (own + 1) n (omega arith)))
  all_by n own first within false high =
      let more : own < first = leb-false first own high in
      le_of (ahead_of n own first) (others_of time late n own) ((s n - s first) + s own) (others_of time late n own) (ahead_high n own first more) refl
      (high_all (s own) (s (own + 1)) (s first) (s n) (time own + late) (next_sum own) (sums_grow (own + 1) first (omega arith)) (sums_grow (own + 1) n (omega arith)))

  pub all_ahead : (n own first : ℕ) → own < n → ahead_of n own first ≤ others_of time late n own
  all_ahead n own first within = all_by n own first within (nat_le first own) refl

  -- all of them
  pub all_turns : (n own : ℕ) → own < n → others_of time late n own + (time own + late) ≡ turns_of time late n
  all_turns n own within = with_own (s own) (s (own + 1)) (s n) (time own + late) (next_sum own) (sums_grow (own + 1) n (omega arith))
