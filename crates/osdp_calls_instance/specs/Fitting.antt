-- Which calls of programs the laws of programs speak of: nearly all. Left out are entries that can't be added as they stand.
use Rattle.std.specs.Prelude.{◌≡◌, ◌↔◌, ℕ, Bool, ◌≤◌, true, false, List, [], ◌∷◌, Option, Some, None}
use Rattle.osdp_device.specs.declared.events.Expired.TheVariants.{InDoubt, Withdrawn}
use Rattle.osdp_msg.specs.declared.limits.Room.{Room}
use Rattle.osdp_frame.specs.declared.check_kind.CheckKind.TheVariants.{Crc}
use Rattle.osdp_bus.specs.Buses.{new_bus}
use Rattle.osdp_bus.specs.Settings.{default_config}
use Rattle.osdp_bus.specs.declared.config.BusConfig.{BusConfig}
use Rattle.osdp_c_values.specs.declared.machine.PanelMachine.{PanelMachine}
use Rattle.osdp_c_values.specs.declared.machine.ReaderMachine.{ReaderMachine}
use Rattle.osdp_line_calls.specs.PanelSessions as panel_sessions
use Rattle.osdp_panel.specs.Panels.{panel_config}
use Rattle.osdp_line_calls.specs.ReaderCalls.{CallFits}
use Rattle.osdp_line_calls.specs.ReaderSessions as device_sessions
use Rattle.osdp_line_calls.specs.declared.panel_call.PanelCall.{PanelCall}
use Rattle.osdp_line_calls.specs.declared.reader_call.ReaderCall.{ReaderCall}
use Rattle.osdp_line_calls.specs.declared.reader_call.ReaderCall.TheVariants as to_device
use Rattle.osdp_reader.specs.declared.config.ReaderConfig.{ReaderConfig}
use Rattle.osdp_calls.specs.Calls.{LapseEvent, WithdrawEvent}
use Rattle.osdp_calls.specs.Sayings.{NoneRefused}
use Rattle.osdp_calls_instance.specs.CPrograms as c
use Rattle.osdp_premises.specs.LongDay.{device_at, key}
use Rattle.osdp_calls_instance.specs.LinePrograms as lines
use Rattle.osdp_calls_instance.specs.Panels.{FirstEntry, addresses_of}

-- two entries at different addresses, of devices that never had an order
abbrev pub two_entries : List FirstEntry
two_entries = record { address = 5; next = 0 } ∷ record { address = 6; next = 0 } ∷ []

-- a call that makes a panel anew
abbrev pub makes_anew : c.PanelCall → Bool
makes_anew (c.PanelAnew config limit entries) = true
makes_anew _ = false

-- Each call of a panel's handle is one, and a panel that is made anew is one exactly where its entries can be added, as two at different addresses can. Each call of a device's
-- handle is one.
pub record CallsForCFit (H : Type 0) : Type 0 where
  pub panel : (call : c.PanelCall) (m : PanelMachine) → makes_anew call ≡ false → (c.c_panel {H = H}).Fits call m
  pub anew : (config : BusConfig) (limit : ℕ) (entries : List FirstEntry) (m : PanelMachine)
      → (c.c_panel {H = H}).Fits (c.PanelAnew config limit entries) m ↔ NoneRefused (addresses_of entries) (new_bus (panel_config config))
  pub two : (room : Room) (limit : ℕ) (m : PanelMachine) → (c.c_panel {H = H}).Fits (c.PanelAnew (default_config Crc room) limit two_entries) m
  pub device : (call : c.DeviceCall) (m : ReaderMachine) → c.c_device.Fits call m

-- a device to which no panel has spoken yet, and which lets an event go that is older than a second; a key was pressed there at moment 0
abbrev pub pressed : device_sessions.Session
pressed = lines.after_device_line (lines.SaysToDevice (Some (to_device.Event key)))
    (device_sessions.new_session (device_at 0) 4 20 (record { expire = 1000; told = false }))

-- the same device, but the key was ever offered: nobody knows whether the panel has it
abbrev pub offered : device_sessions.Session
offered = record pressed { reader = record pressed.reader { queue = record pressed.reader.queue { offered = true; ever_offered = true } } }

-- the line `at 2000`
abbrev pub two_seconds : lines.DeviceLine
two_seconds = lines.SaysToDevice (Some (to_device.At 2000))

-- Each line to a panel is one, and a panel that is run anew is one exactly where its entries can be added, as two at different addresses can. Each line to a
-- device that says nothing is one; one that says a call, exactly where its words are in their ranges; and a device that is run anew, exactly where its gap is
-- at least a millisecond. So a line is one by which a key leaves two seconds after it was pressed. It is taken back where it was never offered, and it lapses
-- where it is in doubt.
pub record LinesFit (H : Type 0) : Type 0 where
  pub panel : (said : Option PanelCall) (s : panel_sessions.Session) → (lines.line_panel {H = H}).Fits (lines.SaysToPanel said) s
  pub anew : (config : BusConfig) (entries : List FirstEntry) (s : panel_sessions.Session)
      → (lines.line_panel {H = H}).Fits (lines.PanelAnew config entries) s ↔ NoneRefused (addresses_of entries) (new_bus (panel_config config))
  pub two : (room : Room) (s : panel_sessions.Session) → (lines.line_panel {H = H}).Fits (lines.PanelAnew (default_config Crc room) two_entries) s
  pub nothing : (s : device_sessions.Session) → lines.line_device.Fits (lines.SaysToDevice None) s
  pub device : (call : ReaderCall) (s : device_sessions.Session) → lines.line_device.Fits (lines.SaysToDevice (Some call)) s ↔ CallFits call
  pub device_anew : (config : ReaderConfig) (room gap : ℕ) (s : device_sessions.Session)
      → lines.line_device.Fits (lines.DeviceAnew config room gap) s ↔ (1 ≤ gap)
  pub leaves : lines.leaving_by (to_device.At 2000) pressed ≡ Withdrawn key ∷ []
  pub taken_back : (k : ℕ) → lines.line_device.calls k two_seconds pressed ≡ WithdrawEvent k ∷ []
  pub in_doubt : lines.leaving_by (to_device.At 2000) offered ≡ InDoubt key ∷ []
  pub lapses : (k : ℕ) → lines.line_device.calls k two_seconds offered ≡ LapseEvent k ∷ []
