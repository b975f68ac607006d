-- Packets and bytes that come in.
use Rattle.std.specs.Prelude.{◌≡◌, ◌≢◌, ℕ, max, List, ◌++◌, Some, slice_get, slice_set}
use Rattle.osdp_frame.specs.Bytes.{AreBytes}
use Rattle.osdp_frame.specs.Packet.{Packet}
use Rattle.osdp_frame.specs.Reading.{RunItem}
use Rattle.osdp_bus.specs.declared.entry.Entry.{Entry}
use Rattle.osdp_bus.specs.Buses.{BusState, Devices, waiting_after}
use Rattle.osdp_bus.specs.Entries.{address_of, entry_hears, told_of}
use Rattle.osdp_bus.specs.Hearing.{after_bytes, hears_items, hears_packet}

pub record GoesToItsAddress (p : Packet) (now : ℕ) (ds : Devices) : Type 0 where
  -- the device at its address hears a packet; what its controller tells waits, and where it tells nothing, what waited stays
  pub own : (entry : ℕ) (d : Entry) → slice_get ds.entries entry ≡ Some d → address_of d ≡ p.address
      → hears_packet p now ds ≡ record {
        entries = slice_set ds.entries entry (entry_hears p now d);
        report = waiting_after entry (told_of p now d) ds.report;
      }
  -- the controller has then seen the moment, also where it ignores the packet
  pub seen : (entry : ℕ) (d : Entry) → slice_get ds.entries entry ≡ Some d → address_of d ≡ p.address
      → (e : Entry) × (slice_get (hears_packet p now ds).entries entry ≡ Some e)
      × (e.controller.session.greatest ≡ max d.controller.session.greatest now)
  -- no other device changes
  pub others : (entry : ℕ) (d : Entry) → slice_get ds.entries entry ≡ Some d → address_of d ≢ p.address
      → slice_get (hears_packet p now ds).entries entry ≡ Some d
  -- and where no device is at its address, nothing does
  pub nobody : ((entry : ℕ) (d : Entry) → slice_get ds.entries entry ≡ Some d → address_of d ≢ p.address) → hears_packet p now ds ≡ ds

-- also of a packet that comes after others of its run, so that one of them may have moved a device
abbrev pub PacketsGoToTheirAddress : BusState → Type 0
PacketsGoToTheirAddress b = (before : List RunItem) (p : Packet) (now : ℕ) → GoesToItsAddress p now (hears_items now before b.devices)

-- bytes that come in two pieces at one moment come to the same as in one
abbrev pub CutsChangeNothing : BusState → Type 0
CutsChangeNothing b = (front back : List ℕ) (now : ℕ) → AreBytes b.held → AreBytes (front ++ back)
    → after_bytes back now (after_bytes front now b) ≡ after_bytes (front ++ back) now b
