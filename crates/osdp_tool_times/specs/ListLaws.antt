-- What is told of the answer times of a device, in words of the list of these times. A count stays at 2 ^ 64 - 1.
use Rattle.std.specs.Prelude.{◌≡◌, ◌≤◌, ◌<◌, ℕ, ◌+◌, ◌-◌, ◌*◌, ◌/◌, ◌^◌, max, nat_lt, Bool, if◌then◌else◌, List, [], ◌∷◌, length}
use Rattle.osdp_tool_times.specs.Times.{after_in_time, after_late, half_below, most_below, no_times}
use Rattle.osdp_tool_times.specs.declared.table.Times.{Times}

-- answers that take so long come, one after the other
abbrev pub after_answers : List ℕ → Times → Times
after_answers [] t = t
after_answers (time ∷ times) t = after_answers times (after_in_time time t)

-- late answers that take so long
abbrev pub after_lates : List ℕ → Times → Times
after_lates [] t = t
after_lates (time ∷ times) t = after_lates times (after_late time t)

-- how many of them pass a test
abbrev pub how_many : (ℕ → Bool) → List ℕ → ℕ
how_many test [] = 0
how_many test (time ∷ times) = if test time then how_many test times + 1 else how_many test times

-- how many took less than so many milliseconds
abbrev pub how_many_below : ℕ → List ℕ → ℕ
how_many_below limit times = how_many (λ time. nat_lt time limit) times

abbrev pub longest : List ℕ → ℕ
longest [] = 0
longest (time ∷ times) = max time (longest times)

-- so many of the list took less than this, and no step of 5 milliseconds that is shorter says so, up to 315
pub record IsLeastBelow (many limit : ℕ) (times : List ℕ) : Type 0 where
  pub below : many ≤ how_many_below limit times
  pub least : (step : ℕ) → step ≤ 63 → many ≤ how_many_below (5 * step) times → limit ≤ 5 * step

-- their number, and the longest of them; half of them, and 95 of 100, took less than is told
pub record TellsTheList (times : List ℕ) : Type 0 where
  pub answers : (after_answers times no_times).answers ≡ length times
  pub most : (after_answers times no_times).most ≡ longest times
  pub half : IsLeastBelow (length times - length times / 2) (half_below (after_answers times no_times)) times
  pub most_of : IsLeastBelow (length times - length times / 20) (most_below (after_answers times no_times)) times

-- as long as no count has come to its end
abbrev pub TellsTimesOfAList : Type 0
TellsTimesOfAList = (times : List ℕ) → 0 < length times → length times < 2 ^ 64 → longest times < 2 ^ 64 - 1 → TellsTheList times

abbrev pub TellsTheLongestLate : Type 0
TellsTheLongestLate = (times : List ℕ) → (after_lates times no_times).took ≡ longest times
