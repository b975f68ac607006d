-- The end of a session is told.
use Rattle.std.specs.Prelude.{◌≡◌, ℕ, true, Some}
use Rattle.osdp_controller.specs.declared.report.Report.{Report}
use Rattle.osdp_controller_laws.specs.Commands.{tells_end}
use Rattle.osdp_bus.specs.Buses.{BusState}
use Rattle.osdp_bus_laws.specs.Calls.{Call, after_call}
use Rattle.osdp_bus_time_laws.specs.Laws.{IsUnderWay}
use Rattle.osdp_bus_order_laws.specs.Pacing.{is_closed_at}

-- the report that waits says that the session of an entry has ended
pub record IsEndTold (entry : ℕ) (b : BusState) : Type 0 where
  pub report : Report
  pub waits : b.devices.report ≡ Some (entry, report)
  pub ends : tells_end (Some report) ≡ true

-- a session that was under way before a call, and is closed after it, is told ended by the report that waits then
abbrev pub EndsAreTold : BusState → Type 0
EndsAreTold b = (entry : ℕ) (call : Call) → IsUnderWay entry b → is_closed_at entry (after_call call b) ≡ true → IsEndTold entry (after_call call b)
