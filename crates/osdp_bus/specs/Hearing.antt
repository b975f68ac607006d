-- What comes in from the line.
use Rattle.std.specs.Prelude.{ℕ, true, false, if◌then◌else◌, List, [], ◌∷◌, ◌++◌, Option, Some, None, slice_get, slice_set}
use Rattle.osdp_frame.specs.Items.{items, left_over}
use Rattle.osdp_frame.specs.Packet.{Packet}
use Rattle.osdp_frame.specs.Reading.{RunItem, PacketItem, SkippedItem, RefusedItem}
use Rattle.osdp_bus.specs.declared.entry.Entry.{Entry}
use Rattle.osdp_bus.specs.Buses.{BusState, Devices, is_silent, seen, waiting_after}
use Rattle.osdp_bus.specs.Entries.{entry_hears, first_from, is_at, told_of}

-- a packet reaches the device of an entry
abbrev pub hears_with : Packet → ℕ → ℕ → Option Entry → Devices → Devices
hears_with p now entry None ds = ds
hears_with p now entry (Some d) ds = record {
  entries = slice_set ds.entries entry (entry_hears p now d);
  report = waiting_after entry (told_of p now d) ds.report;
}

abbrev pub hears_at : Packet → ℕ → Option ℕ → Devices → Devices
hears_at p now None ds = ds
hears_at p now (Some entry) ds = hears_with p now entry (slice_get ds.entries entry) ds

-- a packet reaches the device at its address; one to an address where none is, is dropped
abbrev pub hears_packet : Packet → ℕ → Devices → Devices
hears_packet p now ds = hears_at p now (first_from 0 (is_at p.address) ds.entries) ds

-- so do the packets among items; a byte that belongs to none is passed over
abbrev pub hears_item : ℕ → RunItem → Devices → Devices
hears_item now (PacketItem p) ds = hears_packet p now ds
hears_item now (SkippedItem byte) ds = ds
hears_item now (RefusedItem fault) ds = ds

-- in their order
abbrev pub hears_items : ℕ → List RunItem → Devices → Devices
hears_items now [] ds = ds
hears_items now (part ∷ parts) ds = hears_items now parts (hears_item now part ds)

-- the run is over: what is held of it is read to its end. The moment is the greatest one seen
abbrev pub ends_run : BusState → BusState
ends_run b = record b { devices = hears_items b.greatest (items true b.held) b.devices; held = [] }

-- a run after which the line was silent long enough is over
abbrev pub ends_silent : BusState → BusState
ends_silent b = if is_silent b then ends_run b else b

-- bytes of the same run: the items that they decide are read
abbrev pub hears_bytes : List ℕ → BusState → BusState
hears_bytes bytes b = record b {
  devices = hears_items b.greatest (items false (b.held ++ bytes)) b.devices;
  held = left_over (b.held ++ bytes);
  last = b.greatest;
}

-- bytes at a moment; none move the greatest moment alone
abbrev pub after_bytes : List ℕ → ℕ → BusState → BusState
after_bytes [] now b = seen now b
after_bytes (byte ∷ bytes) now b = hears_bytes (byte ∷ bytes) (ends_silent (seen now b))

-- the caller saw the line silent
abbrev pub after_silence : ℕ → BusState → BusState
after_silence now b = ends_run (seen now b)
