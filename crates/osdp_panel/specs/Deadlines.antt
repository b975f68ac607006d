-- The moment of a panel's next turn.
use Rattle.std.specs.Prelude.{◌≡◌, ℕ, ◌≤◌, ◌<◌, ◌^◌, Bool, false, ◌||◌, max, nat_le, Option, Some, None, is_some}
use Rattle.osdp_bus.specs.Buses.{has_report}
use Rattle.osdp_bus.specs.Deadlines.{acts as bus_acts}
use Rattle.osdp_panel.specs.Giving.{late_at}
use Rattle.osdp_panel.specs.Orders.{PanelState}

-- a turn at a moment does something: a report waits; bytes of the turn before brought one, so its tick is still to come; an order is late; or the bus does something
abbrev pub acts : ℕ → PanelState → Bool
acts now p = has_report p.bus || p.brought || is_some (late_at (max p.bus.greatest now) p) || bus_acts now p.bus

-- None: no turn at any moment does anything by itself. A moment: not before the greatest seen, and a turn does something where this moment is reached, and only there
abbrev pub IsDeadline : PanelState → Option ℕ → Type 0
IsDeadline p None = (now : ℕ) → now < 2 ^ 64 → acts now p ≡ false
IsDeadline p (Some deadline) =
    (p.bus.greatest ≤ deadline) × ((now : ℕ) → now < 2 ^ 64 → acts now p ≡ nat_le deadline (max p.bus.greatest now))
