-- How long a time of the link may be, in milliseconds.
use Rattle.std.specs.Prelude.{ℕ, ◌≤◌}

-- an hour
abbrev pub longest_time : ℕ
longest_time = 3600000

-- a millisecond to an hour
abbrev pub IsTime : ℕ → Type 0
IsTime time = (1 ≤ time) × (time ≤ longest_time)
