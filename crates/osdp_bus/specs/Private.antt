-- How the parts of a bus make up what it is to its callers. No row of a table and no law speaks of these.
use Rattle.std.specs.Prelude.{◌≡◌, ◌≤◌, ◌-◌, ℕ, false, List, ◌++◌, length, drop, replicate, vec_capacity}
use Rattle.osdp_frame.specs.Items.{items, left_over}
use Rattle.osdp_frame.specs.Receiving.{IsAllRead, Received}
use Rattle.osdp_bus.specs.declared.entry_list.EntryList.{EntryList}
use Rattle.osdp_bus.specs.declared.line.Line.{Line}
use Rattle.osdp_bus.specs.Buses.{BusState, Devices}
use Rattle.osdp_bus.specs.Hearing.{hears_items}
use Rattle.osdp_bus.specs.Machine.{most_entries}
use Rattle.osdp_bus.specs.Remembering.{Remembered, nothing_yet}
use Rattle.osdp_bus.specs.Settings.{IsBusConfig}

abbrev pub devices_of : EntryList → Devices
devices_of l = record { entries = l.entries.items; report = l.report }

-- what is remembered of each entry that there may be, by the list of what is remembered of those that are there
abbrev pub memories_of : List Remembered → List Remembered
memories_of memories = memories ++ replicate (16 - length memories) nothing_yet

abbrev pub state_of : Line → BusState
state_of l = record {
  config = l.config;
  devices = devices_of l.devices;
  held = l.receiver.held.bytes;
  last = l.receiver.last;
  greatest = l.receiver.greatest;
  first = l.first;
  remembered = memories_of l.memories.items;
}

-- the list has room for all devices, so that a new one asks for its own block and its queue alone
pub record HasRoom (l : EntryList) : Type 0 where
  pub few : length l.entries.items ≤ most_entries
  pub room : most_entries ≤ vec_capacity l.entries

-- what holds of the parts between two calls
pub record IsLine (l : Line) : Type 0 where
  pub config : IsBusConfig l.config
  pub devices : HasRoom l.devices
  pub gap : l.receiver.gap ≡ l.config.gap
  pub read : IsAllRead l.receiver
  pub first : l.first ≤ length l.devices.entries.items
  pub memories : length l.memories.items ≡ length l.devices.entries.items
  pub memories_room : most_entries ≤ vec_capacity l.memories

-- the first `count` bytes were read by themselves, by devices and a receiver that has read all before them: what comes of these and the
-- others is what comes of all, and so is what is left of them
pub record ReadsHead (bytes : List ℕ) (count : ℕ) (l m : Received) (now : ℕ) (ds es : Devices) : Type 0 where
  pub within : count ≤ length bytes
  pub heard : hears_items now (items false (m.held.bytes ++ drop count bytes)) es ≡ hears_items now (items false (l.held.bytes ++ bytes)) ds
  pub left : left_over (m.held.bytes ++ drop count bytes) ≡ left_over (l.held.bytes ++ bytes)
