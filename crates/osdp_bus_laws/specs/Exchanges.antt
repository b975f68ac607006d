-- Exchanges: one at most on the whole line, and one report at most that waits.
use Rattle.std.specs.Prelude.{◌≡◌, ℕ, true, Option, Some, None, option_map}
use Rattle.osdp_frame.specs.Packet.{Packet}
use Rattle.osdp_controller.specs.declared.report.Report.{Report}
use Rattle.osdp_controller.specs.Sessions.{frame_of}
use Rattle.osdp_controller_laws.specs.Laws.{exchange_in}
use Rattle.osdp_bus.specs.declared.entry.Entry.{Entry}
use Rattle.osdp_bus.specs.Buses.{BusState, device_of, has_report, holder}
use Rattle.osdp_bus.specs.Entries.{holds}
use Rattle.osdp_bus_laws.specs.Calls.{Call, NextReport, after_call}

-- the exchange of an entry is outstanding
pub record IsOutstandingAt (entry : ℕ) (b : BusState) : Type 0 where
  pub device : Entry
  pub there : device_of entry b ≡ Some device
  pub outstanding : holds device ≡ true

-- the frame of the exchange that is outstanding
abbrev pub own_frame : Entry → Option Packet
own_frame d = option_map (λ x. frame_of x d.controller.session) (exchange_in d.controller.session.state)

-- one exchange at most is outstanding on the line, and it is the exchange of who holds the line; none while a report waits
pub record HasOneExchange (b : BusState) : Type 0 where
  pub one : (i j : ℕ) → IsOutstandingAt i b → IsOutstandingAt j b → i ≡ j
  pub has : (entry : ℕ) → holder b ≡ Some entry → IsOutstandingAt entry b
  pub belongs : (entry : ℕ) → IsOutstandingAt entry b → holder b ≡ Some entry
  pub waits : has_report b ≡ true → holder b ≡ None

-- a report that waits stays as it is whatever is called, until it is taken
abbrev pub KeepsReports : BusState → Type 0
KeepsReports b = (call : Call) (waiting : ℕ × Report) → b.devices.report ≡ Some waiting
    → ((call ≡ NextReport) → ⊥) → (after_call call b).devices.report ≡ Some waiting
