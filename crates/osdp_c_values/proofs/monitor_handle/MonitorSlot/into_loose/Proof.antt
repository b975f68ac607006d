-- `into_loose` gives the pointer of a monitor that is there, with the allocator: each of its handles stands for the one heap.
use Rattle.osdp_c_values.specs.contracts.monitor_machine.MonitorMachine.{the_row}
use Rattle.osdp_c_values.specs.contracts.monitor_handle.MonitorSlot.into_loose.Key.{name as #self}
use Rattle.osdp_c_values.proofs.Slots.{into_meets}
use Rattle.osdp_c_values.proofs.SlotForms.{monitor_form}
use Rattle.osdp_c_values.proofs.monitor_handle.MonitorSlot.into_loose.Statement.{statement}
use Rattle.osdp_c_values.proofs.monitor_handle.MonitorSlot.into_loose.Code as code

pub into_loose_spec : {M : Type 1} → statement M
into_loose_spec 𝓤 𝓛 𝓜 𝓡 wired = into_meets the_row monitor_form 𝓤 𝓛 𝓜 𝓡 #self (code.unfolded 𝓤 𝓛.H 𝓜 𝓡 wired)
