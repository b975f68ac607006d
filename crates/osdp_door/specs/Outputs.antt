-- An output: a state for good, and one for a time.
use Rattle.std.specs.Prelude.{ℕ, ◌==◌, ◌*◌, ◌-◌, nat_lt, Bool, true, false, if◌then◌else◌}
use Rattle.osdp_door.specs.declared.output.DoorOutput.{DoorOutput}

abbrev pub off : DoorOutput
off = record { permanent = false; timed = false; left = 0 }

-- while time is left the timed state holds, and else the permanent one
abbrev pub is_on : DoorOutput → Bool
is_on o = if nat_lt 0 o.left then o.timed else o.permanent

-- 1 and 2 set the permanent state and end the timed one, 3 and 4 leave that to end; 5 and 6 set the timed one for 100 ms times the
-- timer; 0 changes nothing
abbrev pub controlled : DoorOutput → ℕ → ℕ → DoorOutput
controlled o control timer =
    if control == 1 then record o { permanent = false; left = 0 }
    else if control == 2 then record o { permanent = true; left = 0 }
    else if control == 3 then record o { permanent = false }
    else if control == 4 then record o { permanent = true }
    else if control == 5 then record o { timed = true; left = 100 * timer }
    else if control == 6 then record o { timed = false; left = 100 * timer }
    else o

-- after so many milliseconds
abbrev pub passed : DoorOutput → ℕ → DoorOutput
passed o milliseconds = record o { left = o.left - milliseconds }
