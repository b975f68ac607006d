-- The moments that the comments of a capture tell, as `# 12.345 in` or `# 2026-11-28T10:02:33.125Z in`. Blanks don't count.
use Rattle.std.specs.Prelude.{ℕ, ◌+◌, ◌-◌, ◌*◌, ◌/◌, ◌^◌, ◌==◌, ◌&&◌, nat_le, nat_lt, if◌then◌else◌, Bool, List, [], ◌∷◌, codes, drop, take, get_or, length, option_and_then, option_map, Option, None, Some}
use Rattle.std.specs.List.{ends_with}
use Rattle.memchr.specs.Find.{is_byte, places, first_of}

abbrev pub is_decimal : ℕ → Bool
is_decimal b = nat_le 48 b && nat_le b 57

-- a number that goes on with a digit, up to 10^16
abbrev pub next_number : ℕ → ℕ → Option ℕ
next_number n b = if is_decimal b && nat_lt n (10 ^ 15) then Some (n * 10 + (b - 48)) else None

unfoldable pub number_from : ℕ → List ℕ → Option ℕ
number_from n [] = Some n
number_from n (b ∷ digits) = option_and_then (λ next. number_from next digits) (next_number n b)

-- the first three digits after the point; zeros stand for those that aren't there
abbrev pub thousandths : List ℕ → List ℕ
thousandths digits = get_or digits 0 48 ∷ get_or digits 1 48 ∷ get_or digits 2 48 ∷ []

-- the milliseconds that these digits before a point and after it say in seconds
abbrev pub milliseconds : List ℕ → List ℕ → Option ℕ
milliseconds [] digits = None
milliseconds (b ∷ whole) digits = option_and_then (λ seconds. number_from seconds (thousandths digits)) (number_from 0 (b ∷ whole))

abbrev pub seconds_in : Option ℕ → List ℕ → Option ℕ
seconds_in None text = milliseconds text []
seconds_in (Some point) text = milliseconds (take point text) (drop (point + 1) text)

-- where the point stands
abbrev pub point_in : List ℕ → Option ℕ
point_in text = first_of (places (is_byte 46) text)

abbrev pub ends_so : List ℕ → List ℕ → Bool
ends_so text end = ends_with (λ a b. a == b) text end

-- how many characters of it say the way of a burst; 0 where none do
abbrev pub way_length : List ℕ → ℕ
way_length text = if ends_so text (codes "in") then 2 else (if ends_so text (codes "out") then 3 else (if ends_so text (codes "trace") then 5 else 0))

-- ---- a date and a time of the day

-- so many digits at a place say a number
abbrev pub below_ten_thousand : Option ℕ → Option ℕ
below_ten_thousand None = None
below_ten_thousand (Some n) = if nat_lt n 10000 then Some n else None

abbrev pub number_at : ℕ → ℕ → List ℕ → Option ℕ
number_at place count text = below_ten_thousand (number_from 0 (take count (drop place text)))

-- Days from a day of its own, by years that begin in March: a leap day ends them.
abbrev pub days_by_march : ℕ → ℕ → ℕ → ℕ
days_by_march year month day = 365 * year + year / 4 + year / 400 + (153 * month + 2) / 5 + day - year / 100

abbrev pub days : ℕ → ℕ → ℕ → ℕ
days year month day = if nat_le month 2 then days_by_march (year - 1) (month + 9) day else days_by_march year (month - 3) day

abbrev pub date_in : List ℕ → Option ℕ
date_in text =
    option_and_then (λ year. option_and_then (λ month. option_map (λ day. days year month day) (number_at 8 2 text)) (number_at 5 2 text)) (number_at 0 4 text)

-- minutes since the day began
abbrev pub minutes_in : List ℕ → Option ℕ
minutes_in text = option_and_then (λ hours. option_map (λ minutes. 60 * hours + minutes) (number_at 14 2 text)) (number_at 11 2 text)

-- milliseconds since the minute began
abbrev pub rest_in : List ℕ → Option ℕ
rest_in text = option_and_then (λ seconds. option_map (λ rest. 1000 * seconds + rest) (number_at 20 3 text)) (number_at 17 2 text)

abbrev pub clock_in : List ℕ → Option ℕ
clock_in text = option_and_then (λ minutes. option_map (λ rest. 60000 * minutes + rest) (rest_in text)) (minutes_in text)

abbrev pub moment_of_day : List ℕ → Option ℕ
moment_of_day text = option_and_then (λ day. option_map (λ clock. 86400000 * day + clock) (clock_in text)) (date_in text)

-- ---- a comment

-- a date has a T after it
abbrev pub has_date : List ℕ → Bool
has_date text = get_or text 10 0 == 84

abbrev pub stamp_in : List ℕ → Option ℕ
stamp_in text = if has_date text then moment_of_day text else seconds_in (point_in text) text

abbrev pub before_way : ℕ → List ℕ → Option ℕ
before_way way text = if way == 0 then None else stamp_in (take (length text - way) text)

-- the moment that the characters after the # of a comment tell, in milliseconds: a stamp, and a way
abbrev pub moment_in : List ℕ → Option ℕ
moment_in text = before_way (way_length text) text
