-- How a panel comes about, and how a device is added to it: by the cases of the answer.
use Rattle.std.proofs.Common.{◌≡◌, inl, inr, ap, refl, ℕ, Some, Ok, Err}
use Rattle.osdp_bus.specs.declared.config.BusConfig.{BusConfig}
use Rattle.osdp_bus.specs.declared.fault.BusFault.{BusFault}
use Rattle.osdp_bus.specs.declared.fault.BusFault.TheVariants.{AddressOutOfRange, AddressTaken, Full, NoEntry, NoMemory, NotClosed, OutOfRange, PollSubmitted, TooMany}
use Rattle.osdp_bus.specs.Machine.{add_refusal}
use Rattle.osdp_panel.specs.Orders.{PanelState}
use Rattle.osdp_panel.specs.Panels.{new_panel}
use Rattle.osdp_panel_laws.specs.Making.{AddsAsLast, ComesOfItsSettings, IsNew, IsRefused}

is_new : (config : BusConfig) (p : PanelState) → p ≡ new_panel config → IsNew config p
is_new config p is = record {
  settings = ap (λ (x : PanelState). x.bus.config) is;
  no_order = ap (λ (x : PanelState). x.orders) is;
  no_device = ap (λ (x : PanelState). x.bus.devices.entries) is;
  no_bytes = ap (λ (x : PanelState). x.bus.held) is;
  no_moment = ap (λ (x : PanelState). x.bus.greatest) is;
  no_report = ap (λ (x : PanelState). x.bus.devices.report) is;
  no_event = ap (λ (x : PanelState). x.bus.remembered) is;
}

pub comes_of_its_settings : ComesOfItsSettings
comes_of_its_settings config (Ok b) is = inr (is.0, inr (b, refl, is_new config b is.1))
comes_of_its_settings config (Err OutOfRange) isnt = inl (isnt, refl)
comes_of_its_settings config (Err NoMemory) is = inr (is, inl refl)
comes_of_its_settings config (Err TooMany) is = absurd is
comes_of_its_settings config (Err AddressTaken) is = absurd is
comes_of_its_settings config (Err NoEntry) is = absurd is
comes_of_its_settings config (Err AddressOutOfRange) is = absurd is
comes_of_its_settings config (Err Full) is = absurd is
comes_of_its_settings config (Err PollSubmitted) is = absurd is
comes_of_its_settings config (Err NotClosed) is = absurd is

refused : (address : ℕ) (x y : PanelState) (fault : BusFault) → (add_refusal address x.bus ≡ Some fault) × (y ≡ x) → IsRefused address x y fault
refused address x y fault is = record { cause = inr is.0; unchanged = is.1 }

pub adds_as_last : AddsAsLast
adds_as_last address next x y (Ok entry) is = inl (
  entry,
  refl,
  record {
    accepted = is.0;
    place = is.1;
    orders = ap (λ (z : PanelState). z.orders) is.2;
    devices = ap (λ (z : PanelState). z.bus.devices.entries) is.2;
    report = ap (λ (z : PanelState). z.bus.devices.report) is.2;
    settings = ap (λ (z : PanelState). z.bus.config) is.2;
    greatest = ap (λ (z : PanelState). z.bus.greatest) is.2;
  },
)
adds_as_last address next x y (Err NoMemory) is = inr (NoMemory, refl, record { cause = inl (refl, is.0); unchanged = is.1 })
adds_as_last address next x y (Err TooMany) is = inr (TooMany, refl, refused address x y TooMany is)
adds_as_last address next x y (Err AddressTaken) is = inr (AddressTaken, refl, refused address x y AddressTaken is)
adds_as_last address next x y (Err NoEntry) is = inr (NoEntry, refl, refused address x y NoEntry is)
adds_as_last address next x y (Err OutOfRange) is = inr (OutOfRange, refl, refused address x y OutOfRange is)
adds_as_last address next x y (Err AddressOutOfRange) is = inr (AddressOutOfRange, refl, refused address x y AddressOutOfRange is)
adds_as_last address next x y (Err Full) is = inr (Full, refl, refused address x y Full is)
adds_as_last address next x y (Err PollSubmitted) is = inr (PollSubmitted, refl, refused address x y PollSubmitted is)
adds_as_last address next x y (Err NotClosed) is = inr (NotClosed, refl, refused address x y NotClosed is)
