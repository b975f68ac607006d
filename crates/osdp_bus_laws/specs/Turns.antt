-- Whose turn it is.
use Rattle.std.specs.Prelude.{◌≡◌, ◌≢◌, ◌⊎◌, ℕ, ◌+◌, ◌<◌, ◌≤◌, true, false, Some, None}
use Rattle.osdp_frame.specs.Packet.{Packet}
use Rattle.osdp_bus.specs.declared.entry.Entry.{Entry}
use Rattle.osdp_bus.specs.Buses.{BusState, device_of, has_report, holder, seen}
use Rattle.osdp_bus.specs.Entries.{holds, is_entry_due}
use Rattle.osdp_bus.specs.Hearing.{ends_run, ends_silent}
use Rattle.osdp_bus.specs.Ticking.{BusTicked, bus_ticks, stays}
use Rattle.osdp_bus_laws.specs.Exchanges.{own_frame}

-- the bus of a tick as it is judged who holds the line: a run after which the line was silent long enough is over
abbrev pub judged : ℕ → BusState → BusState
judged now b = ends_silent (seen now b)

-- and as the devices are asked: the run is over
abbrev pub asking : ℕ → BusState → BusState
asking now b = ends_run (judged now b)

-- no report waits at a tick, nobody holds the line, and the end of the run leaves no report
pub record IsFree (now : ℕ) (b : BusState) : Type 0 where
  pub before : has_report b ≡ false
  pub nobody : holder (judged now b) ≡ None
  pub after : has_report (asking now b) ≡ false

pub record IsDueEntry (entry : ℕ) (b : BusState) : Type 0 where
  pub device : Entry
  pub there : device_of entry b ≡ Some device
  pub due : is_entry_due b.greatest device ≡ true

-- around the entries, beginning with the one that is asked first, i is asked before j
abbrev pub IsBefore : ℕ → ℕ → ℕ → Type 0
IsBefore first i j = ((first ≤ i) × (i < j)) ⊎ (((i < j) × (j < first)) ⊎ ((j < first) × (first ≤ i)))

-- the first in turn that is due
pub record IsNext (entry : ℕ) (b : BusState) : Type 0 where
  pub due : IsDueEntry entry b
  pub first : (other : ℕ) → IsDueEntry other b → other ≢ entry → IsBefore b.first entry other

-- what an entry's exchange begins with: its own frame goes out, all other devices stay as they are, the turn is that of the entry after it,
-- and no report waits
pub record BeginsExchange (entry : ℕ) (b : BusState) (ticked : BusTicked) : Type 0 where
  pub device : Entry
  pub there : device_of entry ticked.bus ≡ Some device
  pub outstanding : holds device ≡ true
  pub frame : Packet
  pub sent : ticked.sent ≡ Some frame
  pub own : own_frame device ≡ Some frame
  pub others : (other : ℕ) → other ≢ entry → device_of other ticked.bus ≡ device_of other b
  pub turn : ticked.bus.first ≡ entry + 1
  pub untold : has_report ticked.bus ≡ false

-- where the line is free, the first in turn that is due begins an exchange. Where some entry is due one is the first, and where none is due
-- nothing happens
pub record TakesTurns (b : BusState) : Type 0 where
  pub sends : (now entry : ℕ) → IsFree now b → IsNext entry (asking now b) → BeginsExchange entry (asking now b) (bus_ticks now b)
  pub some : (now entry : ℕ) → IsDueEntry entry (asking now b) → (next : ℕ) × IsNext next (asking now b)
  pub none : (now : ℕ) → IsFree now b → ((entry : ℕ) → IsDueEntry entry (asking now b) → ⊥) → bus_ticks now b ≡ stays (asking now b)
