-- How a panel comes about, and how a device is added.
use Rattle.std.specs.Prelude.{◌≡◌, ℕ, ◌+◌, true, false, List, [], ◌∷◌, ◌++◌, length, Option, Some, None, Result, Ok, Err}
use Rattle.osdp_bus.specs.declared.config.BusConfig.{BusConfig}
use Rattle.osdp_bus.specs.declared.fault.BusFault.{BusFault}
use Rattle.osdp_bus.specs.declared.fault.BusFault.TheVariants.{NoMemory, OutOfRange}
use Rattle.osdp_bus.specs.Buses.{BusState, new_bus}
use Rattle.osdp_bus.specs.Machine.{add_refusal, after_add}
use Rattle.osdp_bus.specs.Settings.{IsBusConfig}
use Rattle.osdp_panel.specs.Orders.{Orders, PanelState}

-- a panel asks a device for its events between any two of its orders, whatever its settings say of that
abbrev pub panel_config : BusConfig → BusConfig
panel_config config = record config { poll_between_orders = true }

-- a panel over a bus, with lists of its devices' orders, and how many orders of each device may have no end yet
abbrev pub panel_over : BusState → List Orders → ℕ → PanelState
panel_over bus orders places = record {
  bus = bus;
  orders = orders;
  places = places;
  told = 0;
  polled = 0;
  brought = false;
  withheld = false;
  last = None;
}

-- a bus without devices. Of an entry there may be one order on its way beside those that wait
abbrev pub new_panel : BusConfig → PanelState
new_panel config = panel_over (new_bus (panel_config config)) [] (config.room.messages + 1)

-- the settings are judged before memory is asked for
abbrev pub NewEnds : BusConfig → Result PanelState BusFault → Type 0
NewEnds config (Ok p) = IsBusConfig config × (p ≡ new_panel config)
NewEnds config (Err OutOfRange) = IsBusConfig config → ⊥
NewEnds config (Err NoMemory) = IsBusConfig config
NewEnds config (Err _) = ⊥

-- a new entry has no order, and its first one has the number that it is added with
abbrev pub new_orders : ℕ → ℕ → Orders
new_orders places next = record { moments = []; room = places; next = next }

abbrev pub after_add_at : ℕ → ℕ → PanelState → PanelState
after_add_at address next p = record p { bus = after_add address p.bus; orders = p.orders ++ new_orders p.places next ∷ [] }

-- how it ends: the new device's entry, or a refusal, or else there is no memory; then nothing has changed
abbrev pub AddEnds : ℕ → ℕ → PanelState → PanelState → Result ℕ BusFault → Type 0
AddEnds address next old new (Ok entry) =
    (add_refusal address old.bus ≡ None) × (entry ≡ length old.bus.devices.entries) × (new ≡ after_add_at address next old)
AddEnds address next old new (Err NoMemory) = (add_refusal address old.bus ≡ None) × (new ≡ old)
AddEnds address next old new (Err fault) = (add_refusal address old.bus ≡ Some fault) × (new ≡ old)
