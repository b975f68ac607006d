-- A tick of a bus.
use Rattle.std.specs.Prelude.{ℕ, ◌+◌, Bool, false, not, ◌&&◌, ◌||◌, if◌then◌else◌, Option, Some, None, slice_set}
use Rattle.std.specs.Option.{option_map_or}
use Rattle.osdp_frame.specs.Packet.{Packet}
use Rattle.osdp_bus.specs.declared.entry.Entry.{Entry}
use Rattle.osdp_bus.specs.Buses.{BusState, device_of, has_report, holder, seen, waiting_after}
use Rattle.osdp_bus.specs.Entries.{entry_ticks, first_around, holds, is_entry_due, step_of}
use Rattle.osdp_bus.specs.Hearing.{ends_run, ends_silent}

-- what comes of a tick: the bus after it, and the frame that goes out
pub record BusTicked : Type 0 where
  pub bus : BusState
  pub sent : Option Packet

abbrev pub stays : BusState → BusTicked
stays b = record { bus = b; sent = None }

-- the device of an entry ticks: it holds the line, or holds it from now on
abbrev pub ticks_with : ℕ → Option Entry → BusState → BusTicked
ticks_with entry None b = stays b
ticks_with entry (Some d) b = record {
  bus = record b {
    devices = record {
      entries = slice_set b.devices.entries entry (entry_ticks b.greatest d);
      report = waiting_after entry (step_of b.greatest d).report b.devices.report;
    };
    first = entry + 1;
  };
  sent = (step_of b.greatest d).frame;
}

abbrev pub ticks_at : Option ℕ → BusState → BusTicked
ticks_at None b = stays b
ticks_at (Some entry) b = ticks_with entry (device_of entry b) b

-- the device of an entry would send or report
abbrev pub is_due_at : ℕ → BusState → Bool
is_due_at entry b = option_map_or (is_entry_due b.greatest) (device_of entry b) false

-- and its exchange still stands
abbrev pub is_held_and_due : ℕ → BusState → Bool
is_held_and_due entry b = option_map_or holds (device_of entry b) false && is_due_at entry b

-- nobody holds the line: the first in turn that is due begins an exchange
abbrev pub next_due : BusState → Option ℕ
next_due b = first_around b.first (is_entry_due b.greatest) b.devices.entries

-- what the first in turn that is due comes to, or what rests where a report waits
abbrev pub asks_free : {A : Type 0} → A → (Option ℕ → A) → BusState → A
asks_free rests ticks b = if has_report b then rests else ticks (next_due b)

abbrev pub ticks_free : BusState → BusTicked
ticks_free b = asks_free (stays b) (λ entry. ticks_at entry b) b

-- a due holder, once the run has ended: what its tick comes to where its exchange still stands and is still due, or what rests
-- where that is not so or a report waits
abbrev pub asks_holder : {A : Type 0} → A → (Option ℕ → A) → ℕ → BusState → A
asks_holder rests ticks entry b = if has_report b || not (is_held_and_due entry b) then rests else ticks (Some entry)

abbrev pub ticks_held : ℕ → BusState → BusTicked
ticks_held entry b = asks_holder (stays b) (λ asked. ticks_at asked b) entry b

-- by who holds the line, once a run after which it was silent long enough has ended
abbrev pub ticks_by : Option ℕ → BusState → BusTicked
ticks_by None b = ticks_free (ends_run b)
ticks_by (Some entry) b = if is_due_at entry b then ticks_held entry (ends_run b) else stays b

abbrev pub ticks_on : BusState → BusTicked
ticks_on b = ticks_by (holder b) b

-- a tick at a moment; while a report waits nothing but the moment is seen
abbrev pub bus_ticks : ℕ → BusState → BusTicked
bus_ticks now b = if has_report b then stays (seen now b) else ticks_on (ends_silent (seen now b))
