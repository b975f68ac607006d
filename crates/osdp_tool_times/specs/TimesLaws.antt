-- What is told of answer times, in the words of the line.
use Rattle.std.specs.Prelude.{◌≡◌, ◌≤◌, ◌<◌, ◌⊎◌, ℕ, ◌*◌, sum, take}
use Rattle.osdp_tool_times.specs.Times.{after_late, below, step_at}
use Rattle.osdp_tool_times.specs.declared.table.Times.{Times}

-- Of late answers the one that took longest is told: no other took longer, and it is one of them.
abbrev pub TellsTheLongest : Type 0
TellsTheLongest = (time : ℕ) (t : Times) → (time ≤ (after_late time t).took) × (t.took ≤ (after_late time t).took)
    × (((after_late time t).took ≡ time) ⊎ ((after_late time t).took ≡ t.took))

-- Where the steps tell it, so many answers took less than is told: those of all steps below it are as many at least.
abbrev pub CountsThoseBelow : Type 0
CountsThoseBelow = (rank steps : ℕ) (t : Times) → rank ≤ sum t.steps → step_at rank t.steps < 63 → below rank t ≡ 5 * steps → rank ≤ sum (take steps t.steps)
