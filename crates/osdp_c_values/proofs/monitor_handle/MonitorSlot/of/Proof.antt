-- `of` keeps the pointer of a loose monitor.
use Rattle.osdp_c_values.specs.contracts.monitor_machine.MonitorMachine.{the_row}
use Rattle.osdp_c_values.specs.contracts.monitor_handle.MonitorSlot.of.Key.{name as #self}
use Rattle.osdp_c_values.proofs.Slots.{of_meets}
use Rattle.osdp_c_values.proofs.SlotForms.{monitor_form}
use Rattle.osdp_c_values.proofs.monitor_handle.MonitorSlot.of.Statement.{statement}
use Rattle.osdp_c_values.proofs.monitor_handle.MonitorSlot.of.Code as code

pub of_spec : {M : Type 1} → statement M
of_spec 𝓤 𝓛 𝓜 𝓡 wired = of_meets the_row monitor_form 𝓤 𝓛 𝓜 𝓡 #self (code.unfolded 𝓤 𝓛.H 𝓜 𝓡 wired)
