-- What a bus is.
use Rattle.std.specs.Prelude.{ℕ, Bool, false, max, List, [], replicate, Option, Some, None, is_some, slice_get}
use Rattle.osdp_controller.specs.declared.report.Report.{Report}
use Rattle.osdp_frame.specs.Silence.{is_silent_for}
use Rattle.osdp_bus.specs.declared.config.BusConfig.{BusConfig}
use Rattle.osdp_bus.specs.declared.entry.Entry.{Entry}
use Rattle.osdp_bus.specs.Entries.{first_from, holds}
use Rattle.osdp_bus.specs.Remembering.{Remembered, may_be_again, memory_at, nothing_yet}

-- the devices in the order of adding, so that an entry is a place in this list, and the report that waits to be taken, with
-- the entry whose controller told it
pub record Devices : Type 0 where
  pub entries : List Entry
  pub report : Option (ℕ × Report)

pub record BusState : Type 0 where
  pub config : BusConfig
  pub devices : Devices
  -- the bytes of the run that came last, as far as they belong to no item yet
  pub held : List ℕ
  -- the moment of the last bytes
  pub last : ℕ
  -- the greatest moment seen
  pub greatest : ℕ
  -- the entry that is asked first once nobody holds the line: the one after the last that held it
  pub first : ℕ
  -- what is remembered of the events of each of the entries that there may be
  pub remembered : List Remembered

-- a new bus has no devices, and nothing has happened
abbrev pub new_bus : BusConfig → BusState
new_bus config = record {
  config = config;
  devices = record { entries = []; report = None };
  held = [];
  last = 0;
  greatest = 0;
  first = 0;
  remembered = replicate 16 nothing_yet;
}

-- a moment that lies before the greatest seen counts as that one
abbrev pub seen : ℕ → BusState → BusState
seen now b = record b { greatest = max b.greatest now }

-- who holds the line: the entry whose exchange is outstanding
abbrev pub holder : BusState → Option ℕ
holder b = first_from 0 holds b.devices.entries

abbrev pub has_report : BusState → Bool
has_report b = is_some b.devices.report

-- the line has been silent long enough for a run to be over
abbrev pub is_silent : BusState → Bool
is_silent b = is_silent_for b.config.gap b.last b.greatest

abbrev pub device_of : ℕ → BusState → Option Entry
device_of entry b = slice_get b.devices.entries entry

-- what is told waits; where nothing is told, what waited stays
abbrev pub waiting_after : ℕ → Option Report → Option (ℕ × Report) → Option (ℕ × Report)
waiting_after entry None waiting = waiting
waiting_after entry (Some report) waiting = Some (entry, report)

-- the report that waits is an event that may have been reported before
abbrev pub is_told_maybe_again : Option (ℕ × Report) → List Remembered → Bool
is_told_maybe_again None remembered = false
is_told_maybe_again (Some (entry, report)) remembered = may_be_again report (memory_at entry remembered)

abbrev pub is_maybe_again : BusState → Bool
is_maybe_again b = is_told_maybe_again b.devices.report b.remembered
