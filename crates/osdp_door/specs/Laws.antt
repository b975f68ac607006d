-- What the rules of an output mean over time.
use Rattle.std.specs.Prelude.{◌≡◌, ℕ, ◌+◌, ◌*◌, nat_lt, Bool, true, false, if◌then◌else◌}
use Rattle.osdp_door.specs.declared.output.DoorOutput.{DoorOutput}
use Rattle.osdp_door.specs.Outputs.{controlled, is_on, passed}

-- whether it is on so many milliseconds after a control
abbrev pub is_on_after : DoorOutput → ℕ → ℕ → ℕ → Bool
is_on_after o control timer milliseconds = is_on (passed (controlled o control timer) milliseconds)

-- switched for a time it stays so until that time has passed, and then it is as it is for good; so a time of 0 ends what was timed
abbrev pub ComesBack : Type 0
ComesBack = (o : DoorOutput) (timer milliseconds : ℕ)
    → (is_on_after o 5 timer milliseconds ≡ (if nat_lt milliseconds (100 * timer) then true else o.permanent))
    × (is_on_after o 6 timer milliseconds ≡ (if nat_lt milliseconds (100 * timer) then false else o.permanent))

-- switched for good it stays so at once
abbrev pub StaysForGood : Type 0
StaysForGood = (o : DoorOutput) (timer milliseconds : ℕ)
    → (is_on_after o 1 timer milliseconds ≡ false) × (is_on_after o 2 timer milliseconds ≡ true)

-- .. or once the time that is left has passed
abbrev pub StaysInTheEnd : Type 0
StaysInTheEnd = (o : DoorOutput) (timer milliseconds : ℕ)
    → (is_on_after o 3 timer milliseconds ≡ (if nat_lt milliseconds o.left then o.timed else false))
    × (is_on_after o 4 timer milliseconds ≡ (if nat_lt milliseconds o.left then o.timed else true))

-- time passes in whatever pieces it is counted
abbrev pub PassesInPieces : Type 0
PassesInPieces = (o : DoorOutput) (some more : ℕ) → passed (passed o some) more ≡ passed o (some + more)
