-- `of` keeps the pointer of a loose panel.
use Rattle.osdp_c_values.specs.contracts.machine.PanelMachine.{the_row}
use Rattle.osdp_c_values.specs.contracts.panel_handle.PanelSlot.of.Key.{name as #self}
use Rattle.osdp_c_values.proofs.Slots.{of_meets}
use Rattle.osdp_c_values.proofs.SlotForms.{panel_form}
use Rattle.osdp_c_values.proofs.panel_handle.PanelSlot.of.Statement.{statement}
use Rattle.osdp_c_values.proofs.panel_handle.PanelSlot.of.Code as code

pub of_spec : {M : Type 1} → statement M
of_spec 𝓤 𝓛 𝓜 𝓡 wired = of_meets the_row panel_form 𝓤 𝓛 𝓜 𝓡 #self (code.unfolded 𝓤 𝓛.H 𝓜 𝓡 wired)
