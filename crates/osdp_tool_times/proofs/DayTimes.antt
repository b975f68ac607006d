-- Day's times that are the same, and those that differ.
use Rattle.std.proofs.Common.{arith, ◌≡◌, ℕ, ◌+◌, ◌*◌, ◌/◌, ◌%◌, ◌<◌, List, [], ◌∷◌, ◌++◌, ap, ◌∙◌}
use Rattle.std.specs.Prelude.{codes, get_or}
use Rattle.std.specs.Fmt.{decimal}
use Rattle.std.proofs.lemmas.Fmt.{decimal_digit}
use Rattle.osdp_tool_times.specs.DayTime.{ComesAgain, TellsMomentsApart, day_length, day_time, digit, hours, minutes, seconds, three_digits, two_digits}

-- the day's time by its numbers
abbrev of_numbers : ℕ → ℕ → ℕ → ℕ → List ℕ
of_numbers h m s t = two_digits h ++ (codes ":" ++ (two_digits m ++ (codes ":" ++ (two_digits s ++ (codes "." ++ three_digits t)))))

-- a digit as it is printed
pub digit_text : (number : ℕ) → decimal (number % 10) ≡ digit number ∷ []
digit_text number = decimal_digit (number % 10) (omega arith)

hours_again : (moment : ℕ) → hours (moment + day_length) ≡ hours moment
hours_again moment = omega arith

minutes_again : (moment : ℕ) → minutes (moment + day_length) ≡ minutes moment
minutes_again moment = omega arith

seconds_again : (moment : ℕ) → seconds (moment + day_length) ≡ seconds moment
seconds_again moment = omega arith

rest_again : (moment : ℕ) → (moment + day_length) % 1000 ≡ moment % 1000
rest_again moment = omega arith

numbers_same : (h m s t h' m' s' t' : ℕ) → h ≡ h' → m ≡ m' → s ≡ s' → t ≡ t' → of_numbers h m s t ≡ of_numbers h' m' s' t'
numbers_same h m s t h' m' s' t' eh em es et =
    ap (λ x. of_numbers x m s t) eh ∙ (ap (λ x. of_numbers h' x s t) em ∙ (ap (λ x. of_numbers h' m' x t) es ∙ ap (λ x. of_numbers h' m' s' x) et))

pub comes_again : ComesAgain
comes_again moment =
    numbers_same (hours (moment + day_length)) (minutes (moment + day_length)) (seconds (moment + day_length)) ((moment + day_length) % 1000)
    (hours moment) (minutes moment) (seconds moment) (moment % 1000) (hours_again moment) (minutes_again moment) (seconds_again moment) (rest_again moment)

-- ---- digits

pair_apart : (a b : ℕ) → a < 100 → b < 100 → digit (a / 10) ≡ digit (b / 10) → digit a ≡ digit b → a ≡ b
pair_apart a b below_a below_b tens ones = omega arith

triple_apart : (a b : ℕ) → a < 1000 → b < 1000 → digit (a / 100) ≡ digit (b / 100) → digit (a / 10) ≡ digit (b / 10) → digit a ≡ digit b → a ≡ b
triple_apart a b below_a below_b hundreds tens ones = omega arith

module _ (x y : ℕ) (same : day_time x ≡ day_time y) where
  at : (place : ℕ) → get_or (day_time x) place 0 ≡ get_or (day_time y) place 0
  at place = ap (λ text. get_or text place 0) same

  same_hours : hours x ≡ hours y
  unfolding two_digits three_digits
  same_hours = pair_apart (hours x) (hours y) (omega arith) (omega arith) (at 0) (at 1)

  same_minutes : minutes x ≡ minutes y
  unfolding two_digits three_digits
  same_minutes = pair_apart (minutes x) (minutes y) (omega arith) (omega arith) (at 3) (at 4)

  same_seconds : seconds x ≡ seconds y
  unfolding two_digits three_digits
  same_seconds = pair_apart (seconds x) (seconds y) (omega arith) (omega arith) (at 6) (at 7)

  same_rest : x % 1000 ≡ y % 1000
  unfolding two_digits three_digits
  same_rest = triple_apart (x % 1000) (y % 1000) (omega arith) (omega arith) (at 9) (at 10) (at 11)

in_day : (day a b : ℕ) → a < day_length → b < day_length → hours (day * day_length + a) ≡ hours (day * day_length + b)
    → minutes (day * day_length + a) ≡ minutes (day * day_length + b) → seconds (day * day_length + a) ≡ seconds (day * day_length + b)
    → (day * day_length + a) % 1000 ≡ (day * day_length + b) % 1000 → a ≡ b
in_day day a b below_a below_b h m s t = omega arith

pub tells_apart : TellsMomentsApart
tells_apart day a b below_a below_b same =
    in_day day a b below_a below_b (same_hours (day * day_length + a) (day * day_length + b) same) (same_minutes (day * day_length + a) (day * day_length + b) same)
    (same_seconds (day * day_length + a) (day * day_length + b) same) (same_rest (day * day_length + a) (day * day_length + b) same)
