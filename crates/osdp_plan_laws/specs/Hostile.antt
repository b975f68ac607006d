-- What a hostile line may do, by a plan: whatever it likes.
use Rattle.std.specs.Prelude.{List}
use Rattle.osdp_bus.specs.Buses.{BusState}
use Rattle.osdp_bus_laws.specs.Calls.{Call}
use Rattle.osdp_bus_time_laws.specs.Clock.{KeepsTime}
use Rattle.osdp_bus_time_laws.specs.Turns.{HasFew, KeepsTurns}
use Rattle.osdp_plan.specs.declared.bounds.Others.TheVariants.{Hostile}
use Rattle.osdp_plan.specs.declared.plan.Plan.{Plan}
use Rattle.osdp_plan_laws.specs.Figures.{IsAsPlanned, planned_time}

-- Where the panel's program keeps time, each turn takes no longer than that of a hostile line was planned, whatever comes from the line, BUSY too. So of the figures of a
-- hostile line nothing more is asked.
abbrev pub HostileTurnsHold : Plan → BusState → Type 0
HostileTurnsHold p b = (calls : List Call) → IsAsPlanned p b → KeepsTime p.late calls b → HasFew p.readers calls b
    → KeepsTurns p.late (planned_time Hostile p) p.readers calls b
