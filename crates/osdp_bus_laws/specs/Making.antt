-- How a bus comes about, and how a device is added to it.
use Rattle.std.specs.Prelude.{◌≡◌, ◌⊎◌, ℕ, true, [], ◌∷◌, ◌++◌, List, length, replicate, Option, Some, None, Result, Ok, Err}
use Rattle.osdp_controller.specs.Lent.{IsWritten}
use Rattle.osdp_controller.specs.States.{is_closed}
use Rattle.osdp_controller_laws.specs.Making.{AreInRange, IsWait}
use Rattle.osdp_bus.specs.declared.config.BusConfig.{BusConfig}
use Rattle.osdp_bus.specs.declared.entry.Entry.{Entry}
use Rattle.osdp_bus.specs.declared.fault.BusFault.{BusFault}
use Rattle.osdp_bus.specs.declared.fault.BusFault.TheVariants.{NoMemory, OutOfRange}
use Rattle.osdp_bus.specs.Buses.{BusState}
use Rattle.osdp_bus.specs.Entries.{address_of}
use Rattle.osdp_bus.specs.Machine.{AddEnds, NewEnds, add_refusal}
use Rattle.osdp_bus.specs.Remembering.{nothing_yet}
use Rattle.osdp_bus.specs.Settings.{controller_config}
use Rattle.osdp_frame.specs.Packet.{Packet}

-- each setting of the bus and of its controllers is in its range
abbrev pub IsInRange : BusConfig → Type 0
IsInRange c = AreInRange (controller_config 0 c) c.room.messages c.room.bytes × IsWait c.gap

-- a bus with these settings that has no device, has read nothing, has nothing to report and remembers nothing
pub record IsNew (config : BusConfig) (b : BusState) : Type 0 where
  pub settings : b.config ≡ config
  pub no_device : b.devices.entries ≡ []
  pub no_report : b.devices.report ≡ None
  pub no_bytes : b.held ≡ []
  pub no_moment : (b.last ≡ 0) × (b.greatest ≡ 0)
  pub first : b.first ≡ 0
  pub no_event : b.remembered ≡ replicate 16 nothing_yet

-- settings that are out of range are refused as such, whether there is memory or not. Of settings in range such a bus comes, or there is no memory
abbrev pub ComesOfItsSettings : Type 0
ComesOfItsSettings = (config : BusConfig) (r : Result BusState BusFault) → NewEnds config r
    → ((IsInRange config → ⊥) × (r ≡ Err OutOfRange))
    ⊎ (IsInRange config × ((r ≡ Err NoMemory) ⊎ ((b : BusState) × (r ≡ Ok b) × IsNew config b)))

-- the device comes after those that are there, and has the next number: at the address, without a session, with nothing that waits or is reserved. All else is as before
pub record IsLast (address entry : ℕ) (b c : BusState) : Type 0 where
  pub accepted : add_refusal address b ≡ None
  pub next : entry ≡ length b.devices.entries
  pub device : Entry
  pub devices : c.devices.entries ≡ b.devices.entries ++ device ∷ []
  pub address_then : address_of device ≡ address
  pub closed : is_closed device.controller.session.state ≡ true
  pub no_command : device.controller.waiting ≡ []
  pub free : device.reserved ≡ None
  pub else_same : record c { devices = b.devices } ≡ b
  pub report : c.devices.report ≡ b.devices.report

-- it is refused for its cause, or where it has none there is no memory; the bus is as before then
pub record IsRefused (address : ℕ) (b c : BusState) (fault : BusFault) : Type 0 where
  pub cause : ((fault ≡ NoMemory) × (add_refusal address b ≡ None)) ⊎ (add_refusal address b ≡ Some fault)
  pub unchanged : c ≡ b

abbrev pub AddsAsLast : Type 0
AddsAsLast = (address : ℕ) (b c : BusState) (r : Result ℕ BusFault) → AddEnds address b c r
    → ((entry : ℕ) × (r ≡ Ok entry) × IsLast address entry b c) ⊎ ((fault : BusFault) × (r ≡ Err fault) × IsRefused address b c fault)

-- what is written into what a caller lends is determined
abbrev pub WritesOnce : Type 0
WritesOnce = (frame : Option Packet) (old new other : List ℕ) → IsWritten frame old new → IsWritten frame old other → other ≡ new
