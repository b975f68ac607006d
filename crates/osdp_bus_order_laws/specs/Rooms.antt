-- How much of the orders of an entry there is room for.
use Rattle.std.specs.Prelude.{◌≡◌, ℕ, List, Some}
use Rattle.osdp_bus.specs.declared.config.BusConfig.{BusConfig}
use Rattle.osdp_bus.specs.declared.entry.Entry.{Entry}
use Rattle.osdp_bus.specs.Buses.{device_of, new_bus}
use Rattle.osdp_bus_laws.specs.Calls.{Call, after_calls}

-- each entry has the room of its bus's settings after every list of calls: so many orders, and so many of their bytes, may wait
abbrev pub EntriesKeepTheirRoom : Type 0
EntriesKeepTheirRoom = (config : BusConfig) (calls : List Call) (entry : ℕ) (d : Entry) → device_of entry (after_calls calls (new_bus config)) ≡ Some d
    → (d.controller.capacity ≡ config.room.messages) × (d.controller.room ≡ config.room.bytes)
