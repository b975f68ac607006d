-- The moment at which a bus is to be ticked next.
use Rattle.std.specs.Prelude.{◌≡◌, ◌⊎◌, ℕ, ◌≤◌, ◌<◌, ◌^◌, Bool, true, false, not, ◌&&◌, ◌||◌, ◌==◌, max, nat_le, length, Option, Some, None, is_some}
use Rattle.osdp_bus.specs.Buses.{BusState, has_report}
use Rattle.osdp_bus.specs.Ticking.{BusTicked, bus_ticks}

-- a run in which bytes were held is over
abbrev pub is_run_ended : BusState → BusState → Bool
is_run_ended old new = not (length old.held == 0) && length new.held == 0

-- a tick gave a burst, left a report, or ended such a run
abbrev pub has_acted : BusState → BusTicked → Bool
has_acted b ticked = is_some ticked.sent || has_report ticked.bus || is_run_ended b ticked.bus

abbrev pub acts : ℕ → BusState → Bool
acts now b = has_acted b (bus_ticks now b)

-- None: a report waits, or no tick at any moment does anything. A moment: not before the greatest seen, and a tick does
-- something where this moment is reached, and only there
abbrev pub IsDeadline : BusState → Option ℕ → Type 0
IsDeadline b None = (has_report b ≡ true) ⊎ ((now : ℕ) → now < 2 ^ 64 → acts now b ≡ false)
IsDeadline b (Some deadline) =
    (has_report b ≡ false) × (b.greatest ≤ deadline)
    × ((now : ℕ) → now < 2 ^ 64 → acts now b ≡ nat_le deadline (max b.greatest now))
