-- How a bus comes about, and how a device is added to it: by the cases of the answer.
use Rattle.std.proofs.Common.{◌≡◌, ◌∙◌, inl, inr, ap, sym, refl, ℕ, length, None, Some, Ok, Err}
use Rattle.osdp_controller_laws.proofs.Making.{are_settings, in_range}
use Rattle.osdp_bus.specs.declared.config.BusConfig.{BusConfig}
use Rattle.osdp_bus.specs.declared.fault.BusFault.{BusFault}
use Rattle.osdp_bus.specs.declared.fault.BusFault.TheVariants.{AddressOutOfRange, AddressTaken, Full, NoEntry, NoMemory, NotClosed, OutOfRange, PollSubmitted, TooMany}
use Rattle.osdp_bus.specs.Buses.{BusState, new_bus}
use Rattle.osdp_bus.specs.Machine.{add_refusal, after_add, new_device}
use Rattle.osdp_bus.specs.Settings.{IsBusConfig, controller_config}
use Rattle.osdp_bus_laws.proofs.Resending.{same_bytes}
use Rattle.osdp_bus_laws.specs.Making.{AddsAsLast, ComesOfItsSettings, IsInRange, IsLast, IsNew, IsRefused, WritesOnce}

is_new : (config : BusConfig) (b : BusState) → b ≡ new_bus config → IsNew config b
is_new config b is = record {
  settings = ap (λ (x : BusState). x.config) is;
  no_device = ap (λ (x : BusState). x.devices.entries) is;
  no_report = ap (λ (x : BusState). x.devices.report) is;
  no_bytes = ap (λ (x : BusState). x.held) is;
  no_moment = (ap (λ (x : BusState). x.last) is, ap (λ (x : BusState). x.greatest) is);
  first = ap (λ (x : BusState). x.first) is;
  no_event = ap (λ (x : BusState). x.remembered) is;
}

ranges : (c : BusConfig) → IsBusConfig c → IsInRange c
ranges c is = (in_range (controller_config 0 c) c.room.messages c.room.bytes is.controllers, is.gap)

settings : (c : BusConfig) → IsInRange c → IsBusConfig c
settings c (are, gap) = record { controllers = are_settings (controller_config 0 c) c.room.messages c.room.bytes are; gap = gap }

pub comes_of_its_settings : ComesOfItsSettings
comes_of_its_settings config (Ok b) is = inr (ranges config is.0, inr (b, refl, is_new config b is.1))
comes_of_its_settings config (Err OutOfRange) isnt = inl (λ are. isnt (settings config are), refl)
comes_of_its_settings config (Err NoMemory) is = inr (ranges config is, inl refl)
comes_of_its_settings config (Err TooMany) is = absurd is
comes_of_its_settings config (Err AddressTaken) is = absurd is
comes_of_its_settings config (Err NoEntry) is = absurd is
comes_of_its_settings config (Err AddressOutOfRange) is = absurd is
comes_of_its_settings config (Err Full) is = absurd is
comes_of_its_settings config (Err PollSubmitted) is = absurd is
comes_of_its_settings config (Err NotClosed) is = absurd is

is_last : (address entry : ℕ) (b c : BusState) → add_refusal address b ≡ None → entry ≡ length b.devices.entries → c ≡ after_add address b → IsLast address entry b c
is_last address entry b c accepted next is = record {
  accepted = accepted;
  next = next;
  device = new_device address b.config;
  devices = ap (λ (x : BusState). x.devices.entries) is;
  address_then = refl;
  closed = refl;
  no_command = refl;
  free = refl;
  else_same = ap (λ (x : BusState). record x { devices = b.devices }) is;
  report = ap (λ (x : BusState). x.devices.report) is;
}

refused : (address : ℕ) (b c : BusState) (fault : BusFault) → (add_refusal address b ≡ Some fault) × (c ≡ b) → IsRefused address b c fault
refused address b c fault is = record { cause = inr is.0; unchanged = is.1 }

pub adds_as_last : AddsAsLast
adds_as_last address b c (Ok entry) is = inl (entry, refl, is_last address entry b c is.0 is.1 is.2)
adds_as_last address b c (Err NoMemory) is = inr (NoMemory, refl, record { cause = inl (refl, is.0); unchanged = is.1 })
adds_as_last address b c (Err TooMany) is = inr (TooMany, refl, refused address b c TooMany is)
adds_as_last address b c (Err AddressTaken) is = inr (AddressTaken, refl, refused address b c AddressTaken is)
adds_as_last address b c (Err NoEntry) is = inr (NoEntry, refl, refused address b c NoEntry is)
adds_as_last address b c (Err OutOfRange) is = inr (OutOfRange, refl, refused address b c OutOfRange is)
adds_as_last address b c (Err AddressOutOfRange) is = inr (AddressOutOfRange, refl, refused address b c AddressOutOfRange is)
adds_as_last address b c (Err Full) is = inr (Full, refl, refused address b c Full is)
adds_as_last address b c (Err PollSubmitted) is = inr (PollSubmitted, refl, refused address b c PollSubmitted is)
adds_as_last address b c (Err NotClosed) is = inr (NotClosed, refl, refused address b c NotClosed is)

pub writes_once : WritesOnce
writes_once None old new other is again = again ∙ sym is
writes_once (Some p) old new other is again = same_bytes p p new other refl is again
