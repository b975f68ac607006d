-- Stamps that are plain: digits, a point, and three digits.
use Rattle.std.proofs.Common.{◌≡◌, ℕ, ◌+◌, ◌-◌, ◌*◌, ◌^◌, ◌≤◌, ◌<◌, ◌==◌, ◌⊎◌, ◌&&◌, not, zero, suc, Bool, true, false, nat_le, nat_lt, cond, inl, inr, List, [], ◌∷◌, ◌++◌, Option, None, Some, IfSome, length, take, drop, get_or, refl, sym, ap, ◌∙◌, arith, take-append-drop}
use Rattle.std.specs.List.{AllByRecursion}
use Rattle.osdp_tool_times.proofs.Common.{option_and_then, cases_Bool, eqb-true, leb-true, ne_eqb, drop_more, get_or-take, length-drop, length-take, is_byte, IsFirstByte-value, is_blank, kept, kept-append, from_start, start_in, has_date, is_decimal, milliseconds, next_number, moment_of_day, number_from, point_in, seconds_in, stamp_in, thousandths}
use Rattle.osdp_tool_times.proofs.Numbers.{more}

-- all of them are digits
abbrev AreDecimals : List ℕ → Type 0
AreDecimals digits = AllByRecursion (λ b. is_decimal b ≡ true) digits

no_digit : (n b : ℕ) → is_decimal b ≡ false → next_number n b ≡ None
no_digit n b h = ap (λ t. cond (t && nat_lt n (10 ^ 15)) (Some (n * 10 + (b - 48))) None) h

number_digits : (n : ℕ) (digits : List ℕ) (m : ℕ) → number_from n digits ≡ Some m → AreDecimals digits
number_digits n [] m h = tt
number_digits n (b ∷ digits) m h = by (λ next. number_digits next digits m) (next_number n b) refl
  where
    rest : option_and_then (λ next. number_from next digits) (next_number n b) ≡ Some m
    rest = sym (more n b digits) ∙ h

    never : (o : Option ℕ) → o ≡ None → o ≡ Some m → ⊥
    never o e f = cc

    by : ((next : ℕ) → number_from next digits ≡ Some m → AreDecimals digits) → (o : Option ℕ) → next_number n b ≡ o → AreDecimals (b ∷ digits)
    by more_digits None is = absurd (never (option_and_then (λ next. number_from next digits) (next_number n b)) (ap (option_and_then (λ next. number_from next digits)) is) rest)
    by more_digits (Some next) is = (
      digit (cases_Bool (is_decimal b)),
      more_digits next (sym (ap (option_and_then (λ k. number_from k digits)) is) ∙ rest),
    )
      where
        clash : (o : Option ℕ) → o ≡ None → o ≡ Some next → ⊥
        clash o e f = cc

        digit : (is_decimal b ≡ true) ⊎ (is_decimal b ≡ false) → is_decimal b ≡ true
        digit (inl is_one) = is_one
        digit (inr none) = absurd (clash (next_number n b) (no_digit n b none) is)

-- a digit is no blank, and no point
digit_low : (b : ℕ) → is_decimal b ≡ true → 48 ≤ b
digit_low b h = leb-true 48 b (first (nat_le 48 b) (nat_le b 57) h)
  where
    first : (x y : Bool) → (x && y) ≡ true → x ≡ true
    first true y e = refl
    first false y e = absurd cc

no_blank : (b : ℕ) → 48 ≤ b → is_blank b ≡ false
no_blank b low = rw (ne_eqb b 32 (λ e. omega arith), ne_eqb b 9 (λ e. omega arith), ne_eqb b 13 (λ e. omega arith)) refl

kept_one : (b : ℕ) (rest : List ℕ) → is_blank b ≡ false → kept (b ∷ rest) ≡ b ∷ kept rest
kept_one b rest h = ap (λ t. cond (not t) (b ∷ kept rest) (kept rest)) h

kept_digits : (digits : List ℕ) → AreDecimals digits → kept digits ≡ digits
kept_digits [] all = refl
kept_digits (b ∷ digits) all = kept_one b digits (no_blank b (digit_low b all.0)) ∙ ap (λ l. b ∷ l) (kept_digits digits all.1)

digit_at : (digits : List ℕ) (k : ℕ) → AreDecimals digits → k < length digits → 48 ≤ get_or digits k 0
digit_at [] k all h = absurd (omega arith)
digit_at (b ∷ digits) zero all h = digit_low b all.0
digit_at (b ∷ digits) (suc k) all h = digit_at digits k all.1 (omega arith)

-- three digits are all that count
three : (digits : List ℕ) → length digits ≡ 3 → thousandths digits ≡ digits
three [] h = absurd (omega arith)
three (a ∷ []) h = absurd (omega arith)
three (a ∷ b ∷ []) h = absurd (omega arith)
three (a ∷ b ∷ c ∷ []) h = refl
three (a ∷ b ∷ c ∷ d ∷ digits) h = absurd (omega arith)

record AreParts (whole digits : List ℕ) : Type 0 where
  before : AreDecimals whole
  after : AreDecimals digits

parts_are : (whole digits : List ℕ) (m : ℕ) → length digits ≡ 3 → milliseconds whole digits ≡ Some m → AreParts whole digits
parts_are [] digits m size h = absurd cc
parts_are (w ∷ whole) digits m size h = by (number_from 0 (w ∷ whole)) refl
  where
    never : (o : Option ℕ) → o ≡ None → o ≡ Some m → ⊥
    never o e f = cc

    by : (o : Option ℕ) → number_from 0 (w ∷ whole) ≡ o → AreParts (w ∷ whole) digits
    by None is = absurd (never (milliseconds (w ∷ whole) digits) (ap (option_and_then (λ s. number_from s (thousandths digits))) is) h)
    by (Some seconds) is = record {
      before = number_digits 0 (w ∷ whole) seconds is;
      after = number_digits seconds digits m (ap (number_from seconds) (sym (three digits size)) ∙ sym (ap (option_and_then (λ s. number_from s (thousandths digits))) is) ∙ h);
    }

module _ (stamp : List ℕ) (point m : ℕ) (size : point + 4 ≡ length stamp) (dot : get_or stamp point 0 ≡ 46) (undated : has_date stamp ≡ false)
    (is : milliseconds (take point stamp) (drop (point + 1) stamp) ≡ Some m) where
  parts : AreParts (take point stamp) (drop (point + 1) stamp)
  parts = parts_are (take point stamp) (drop (point + 1) stamp) m (omega (arith, length-drop (point + 1) stamp)) is

  cut : stamp ≡ take point stamp ++ 46 ∷ drop (point + 1) stamp
  cut =
      sym (take-append-drop point stamp)
      ∙ ap (λ l. take point stamp ++ l) (drop_more stamp point 0 (omega arith) ∙ ap (λ b. b ∷ drop (point + 1) stamp) dot)

  pub plain_kept : kept stamp ≡ stamp
  plain_kept =
      ap kept cut ∙ kept-append (take point stamp) (46 ∷ drop (point + 1) stamp)
      ∙ ap (λ l. l ++ 46 ∷ kept (drop (point + 1) stamp)) (kept_digits (take point stamp) parts.before)
      ∙ ap (λ l. take point stamp ++ 46 ∷ l) (kept_digits (drop (point + 1) stamp) parts.after) ∙ sym cut

  first_point : point_in stamp ≡ Some point
  first_point = sym (IsFirstByte-value (is_byte 46) stamp (Some point) (
    record { low = omega arith; high = omega arith; before = λ k low below passes. before k below (eqb-true (get_or stamp k 0) 46 passes) },
    ap (λ b. b == 46) dot,
  ))
    where
      before : (k : ℕ) → k < point → get_or stamp k 0 ≡ 46 → ⊥
      before k below e =
          let there = digit_at (take point stamp) k parts.before (omega (arith, length-take point stamp)) in
          let same : get_or (take point stamp) k 0 ≡ get_or stamp k 0 = get_or-take point stamp k 0 below in
          omega arith

  pub plain_is : stamp_in stamp ≡ Some m
  plain_is = ap (λ t. cond t (moment_of_day stamp) (seconds_in (point_in stamp) stamp)) undated ∙ ap (λ o. seconds_in o stamp) first_point ∙ is

pub if_plain : (r : Option ℕ) (stamp : List ℕ) (point : ℕ) → r ≡ milliseconds (take point stamp) (drop (point + 1) stamp) → point + 4 ≡ length stamp
    → get_or stamp point 0 ≡ 46 → has_date stamp ≡ false → IfSome r (λ m. (kept stamp ≡ stamp) × (stamp_in stamp ≡ Some m))
if_plain None stamp point is size dot undated = tt
if_plain (Some m) stamp point is size dot undated = (plain_kept stamp point m size dot undated (sym is), plain_is stamp point m size dot undated (sym is))

-- a packet may begin at once
pub begins_at_once : (run : List ℕ) → 0 < length run → get_or run 0 0 ≡ 83 → run ≡ from_start (start_in run) run
begins_at_once run some is =
    ap (λ o. from_start o run) (IsFirstByte-value (is_byte 83) run (Some 0) (
      record { low = omega arith; high = some; before = λ k low below. absurd (omega arith) },
      ap (λ b. b == 83) is,
    ))
