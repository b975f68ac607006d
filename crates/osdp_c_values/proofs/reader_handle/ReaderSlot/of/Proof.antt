-- `of` keeps the pointer of a loose reader.
use Rattle.osdp_c_values.specs.contracts.machine.ReaderMachine.{the_row}
use Rattle.osdp_c_values.specs.contracts.reader_handle.ReaderSlot.of.Key.{name as #self}
use Rattle.osdp_c_values.proofs.Slots.{of_meets}
use Rattle.osdp_c_values.proofs.SlotForms.{reader_form}
use Rattle.osdp_c_values.proofs.reader_handle.ReaderSlot.of.Statement.{statement}
use Rattle.osdp_c_values.proofs.reader_handle.ReaderSlot.of.Code as code

pub of_spec : {M : Type 1} → statement M
of_spec 𝓤 𝓛 𝓜 𝓡 wired = of_meets the_row reader_form 𝓤 𝓛 𝓜 𝓡 #self (code.unfolded 𝓤 𝓛.H 𝓜 𝓡 wired)
