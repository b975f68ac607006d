-- The slots of a panel, of a reader and of a monitor.
use Rattle.std.proofs.Common.{refl}
use Rattle.osdp_c_values.specs.contracts.machine.PanelMachine as panel
use Rattle.osdp_c_values.specs.contracts.panel_handle.PanelSlot as panel_slot
use Rattle.osdp_c_values.specs.contracts.machine.ReaderMachine as reader
use Rattle.osdp_c_values.specs.contracts.reader_handle.ReaderSlot as reader_slot
use Rattle.osdp_c_values.specs.contracts.monitor_machine.MonitorMachine as monitor
use Rattle.osdp_c_values.specs.contracts.monitor_handle.MonitorSlot as monitor_slot
use Rattle.osdp_c_values.proofs.Slots.{Slot}

abbrev pub panel_form : Slot panel.the_row
panel_form = record {
  name = panel_slot.struct.name;
  D = panel_slot.struct.D;
  at = λ s. s.at;
  machine = λ s. s.machine;
  make = λ p m. record { at = p; machine = m };
  at_made = λ p m. refl;
  machine_made = λ p m. refl;
  coded = panel_slot.the_type.coded;
  shr_at = panel_slot.the_type.shr_at;
}

abbrev pub reader_form : Slot reader.the_row
reader_form = record {
  name = reader_slot.struct.name;
  D = reader_slot.struct.D;
  at = λ s. s.at;
  machine = λ s. s.machine;
  make = λ p m. record { at = p; machine = m };
  at_made = λ p m. refl;
  machine_made = λ p m. refl;
  coded = reader_slot.the_type.coded;
  shr_at = reader_slot.the_type.shr_at;
}

abbrev pub monitor_form : Slot monitor.the_row
monitor_form = record {
  name = monitor_slot.struct.name;
  D = monitor_slot.struct.D;
  at = λ s. s.at;
  machine = λ s. s.machine;
  make = λ p m. record { at = p; machine = m };
  at_made = λ p m. refl;
  machine_made = λ p m. refl;
  coded = monitor_slot.the_type.coded;
  shr_at = monitor_slot.the_type.shr_at;
}
