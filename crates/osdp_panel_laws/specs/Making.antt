-- How a panel comes about, and how a device is added to it.
use Rattle.std.specs.Prelude.{◌≡◌, ◌⊎◌, ℕ, true, [], ◌∷◌, ◌++◌, length, replicate, Some, None, Result, Ok, Err}
use Rattle.osdp_bus.specs.declared.config.BusConfig.{BusConfig}
use Rattle.osdp_bus.specs.declared.fault.BusFault.{BusFault}
use Rattle.osdp_bus.specs.declared.fault.BusFault.TheVariants.{NoMemory, OutOfRange}
use Rattle.osdp_bus.specs.Machine.{add_refusal, new_device}
use Rattle.osdp_bus.specs.Remembering.{nothing_yet}
use Rattle.osdp_bus.specs.Settings.{IsBusConfig}
use Rattle.osdp_panel.specs.Orders.{PanelState}
use Rattle.osdp_panel.specs.Panels.{AddEnds, NewEnds, new_orders}

-- a panel with these settings, but that a POLL stands between any two orders of a device. It has no device and no order, has read nothing, and has nothing to report
pub record IsNew (config : BusConfig) (p : PanelState) : Type 0 where
  pub settings : p.bus.config ≡ record config { poll_between_orders = true }
  pub no_device : p.bus.devices.entries ≡ []
  pub no_order : p.orders ≡ []
  pub no_bytes : p.bus.held ≡ []
  pub no_moment : p.bus.greatest ≡ 0
  pub no_report : p.bus.devices.report ≡ None
  pub no_event : p.bus.remembered ≡ replicate 16 nothing_yet

-- Settings that are out of range are refused as such, whether there is memory or not. Of settings in range such a panel comes, or there is no memory.
abbrev pub ComesOfItsSettings : Type 0
ComesOfItsSettings = (config : BusConfig) (r : Result PanelState BusFault) → NewEnds config r
    → ((IsBusConfig config → ⊥) × (r ≡ Err OutOfRange))
    ⊎ (IsBusConfig config × ((r ≡ Err NoMemory) ⊎ ((p : PanelState) × (r ≡ Ok p) × IsNew config p)))

-- The device comes after those that are there, and its entry has the next place. Its first order has the number that was told, and there is room for one order more
-- than may wait. Nothing of the others has changed, no report, no moment and no setting.
pub record IsLast (address next entry : ℕ) (x y : PanelState) : Type 0 where
  pub accepted : add_refusal address x.bus ≡ None
  pub place : entry ≡ length x.bus.devices.entries
  pub devices : y.bus.devices.entries ≡ x.bus.devices.entries ++ new_device address x.bus.config ∷ []
  pub orders : y.orders ≡ x.orders ++ new_orders x.places next ∷ []
  pub report : y.bus.devices.report ≡ x.bus.devices.report
  pub settings : y.bus.config ≡ x.bus.config
  pub greatest : y.bus.greatest ≡ x.bus.greatest

-- it is refused for what a bus refuses it, or else there is no memory. The panel is as before then
pub record IsRefused (address : ℕ) (x y : PanelState) (fault : BusFault) : Type 0 where
  pub cause : ((fault ≡ NoMemory) × (add_refusal address x.bus ≡ None)) ⊎ (add_refusal address x.bus ≡ Some fault)
  pub unchanged : y ≡ x

abbrev pub AddsAsLast : Type 0
AddsAsLast = (address next : ℕ) (x y : PanelState) (r : Result ℕ BusFault) → AddEnds address next x y r
    → ((entry : ℕ) × (r ≡ Ok entry) × IsLast address next entry x y) ⊎ ((fault : BusFault) × (r ≡ Err fault) × IsRefused address x y fault)
