-- The day's time of a moment, as `10:02:33.125`, and a stamp with it.
use Rattle.std.specs.Prelude.{◌≡◌, ◌<◌, ℕ, ◌+◌, ◌-◌, ◌*◌, ◌/◌, ◌%◌, List, [], ◌∷◌, ◌++◌, codes, drop, length, Option, None, Some}
use Rattle.osdp_tool_streams.specs.Line.{kept}
use Rattle.osdp_tool_times.specs.Moments.{moment_in, way_length}

-- a day has so many milliseconds
abbrev pub day_length : ℕ
day_length = 86400000

-- the last decimal digit of a number
abbrev pub digit : ℕ → ℕ
digit number = 48 + number % 10

-- two digits, and three
unfoldable pub two_digits : ℕ → List ℕ
two_digits number = digit (number / 10) ∷ digit number ∷ []

unfoldable pub three_digits : ℕ → List ℕ
three_digits number = digit (number / 100) ∷ two_digits number

-- the hours, minutes, seconds and thousandths of a second since its day began
abbrev pub hours : ℕ → ℕ
hours moment = moment / 3600000 % 24

abbrev pub minutes : ℕ → ℕ
minutes moment = moment / 60000 % 60

abbrev pub seconds : ℕ → ℕ
seconds moment = moment / 1000 % 60

-- the day's time of a moment in milliseconds
abbrev pub day_time : ℕ → List ℕ
day_time moment =
    two_digits (hours moment) ++ (codes ":" ++ (two_digits (minutes moment) ++ (codes ":" ++ (two_digits (seconds moment)
    ++ (codes "." ++ three_digits (moment % 1000))))))

-- a stamp tells a moment, and a way in so many characters, before which a blank stands: the day's time stands in place of the moment
abbrev pub with_day_time : Option ℕ → ℕ → List ℕ → List ℕ
with_day_time None way stamp = stamp
with_day_time (Some moment) way stamp = day_time moment ++ drop (length stamp - way - 1) stamp

-- one that tells no moment stays as it is
abbrev pub clock_stamp : List ℕ → List ℕ
clock_stamp stamp = with_day_time (moment_in (kept stamp)) (way_length stamp) stamp

-- ---- in the words of a reader

-- Two moments of one day have the same time of the day only where they are the same.
abbrev pub TellsMomentsApart : Type 0
TellsMomentsApart = (day a b : ℕ) → a < day_length → b < day_length → day_time (day * day_length + a) ≡ day_time (day * day_length + b) → a ≡ b

-- A day later it is the same.
abbrev pub ComesAgain : Type 0
ComesAgain = (moment : ℕ) → day_time (moment + day_length) ≡ day_time moment
