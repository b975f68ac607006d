-- What a call of the panel reads is what it hands to the controllers: its packets reach them one after the other, before a controller ticks.
use Rattle.std.specs.Prelude.{◌≡◌, ℕ, max, List, [], ◌∷◌, ◌++◌}
use Rattle.osdp_frame.specs.Packet.{Packet}
use Rattle.osdp_controller.specs.declared.report.Report.{Report}
use Rattle.osdp_bus.specs.Buses.{BusState, Devices, seen}
use Rattle.osdp_bus.specs.Entries.{first_from, is_at}
use Rattle.osdp_bus.specs.Hearing.{hears_packet}
use Rattle.osdp_bus.specs.Ticking.{bus_ticks, ticks_at}
use Rattle.osdp_bus_laws.specs.Calls as bus
use Rattle.osdp_bus_laws.specs.Reports.{told_by_entry, told_by_ticking, told_in}
use Rattle.osdp_calls.specs.Calls.{asked_at, read_by}

-- packets reach the devices at their addresses, in their order
abbrev pub hears_all : ℕ → List Packet → Devices → Devices
hears_all now [] ds = ds
hears_all now (p ∷ ps) ds = hears_all now ps (hears_packet p now ds)

-- .. and what the controllers tell then
abbrev pub told_by_all : ℕ → List Packet → Devices → List (ℕ × Report)
told_by_all now [] ds = []
told_by_all now (p ∷ ps) ds = told_by_entry p now (first_from 0 (is_at p.address) ds.entries) ds ++ told_by_all now ps (hears_packet p now ds)

-- a bus that has seen a moment, and whose controllers have heard what a call reads
abbrev pub heard : bus.Call → ℕ → BusState → BusState
heard call now b = record (seen now b) { devices = hears_all (max b.greatest now) (read_by call b) b.devices }

-- Bytes and silences do no more to the controllers than that; at a tick one of them ticks after it, the one that is asked, if there is one.
pub record HandsOver (b : BusState) : Type 0 where
  pub bytes : (bytes : List ℕ) (now : ℕ)
      → ((bus.after_call (bus.OnBytes bytes now) b).devices ≡ (heard (bus.OnBytes bytes now) now b).devices)
      × (told_in (bus.OnBytes bytes now) b ≡ told_by_all (max b.greatest now) (read_by (bus.OnBytes bytes now) b) b.devices)
  pub silence : (now : ℕ)
      → ((bus.after_call (bus.OnSilence now) b).devices ≡ (heard (bus.OnSilence now) now b).devices)
      × (told_in (bus.OnSilence now) b ≡ told_by_all (max b.greatest now) (read_by (bus.OnSilence now) b) b.devices)
  pub tick : (now : ℕ) → let before = heard (bus.Tick now) now b in
      ((bus.after_call (bus.Tick now) b).devices ≡ (ticks_at (asked_at now b) before).bus.devices)
      × ((bus_ticks now b).sent ≡ (ticks_at (asked_at now b) before).sent)
      × (told_in (bus.Tick now) b
      ≡ told_by_all (max b.greatest now) (read_by (bus.Tick now) b) b.devices ++ told_by_ticking (asked_at now b) before)
