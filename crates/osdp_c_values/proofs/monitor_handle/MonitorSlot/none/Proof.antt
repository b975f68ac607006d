-- `none` is a null pointer, at which nothing is owned.
use Rattle.osdp_c_values.specs.contracts.monitor_machine.MonitorMachine.{the_row}
use Rattle.osdp_c_values.specs.contracts.monitor_handle.MonitorSlot.none.Key.{name as #self}
use Rattle.osdp_c_values.proofs.Slots.{none_meets}
use Rattle.osdp_c_values.proofs.SlotForms.{monitor_form}
use Rattle.osdp_c_values.proofs.monitor_handle.MonitorSlot.none.Statement.{statement}
use Rattle.osdp_c_values.proofs.monitor_handle.MonitorSlot.none.Code as code

pub none_spec : {M : Type 1} → statement M
none_spec 𝓤 𝓛 𝓜 𝓡 wired = none_meets the_row monitor_form 𝓤 𝓛 𝓜 𝓡 #self (code.unfolded 𝓤 𝓛.H 𝓜 𝓡 wired)
