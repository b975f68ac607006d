-- What goes out while an exchange holds the line, and what the beginning of a session leaves.
use Rattle.std.specs.Prelude.{◌≡◌, ◌≢◌, ℕ, ◌≤◌, false, max, Some, None, IfSome}
use Rattle.osdp_controller.specs.States.{moment_of}
use Rattle.osdp_frame.specs.Packet.{Packet}
use Rattle.osdp_bus.specs.declared.entry.Entry.{Entry}
use Rattle.osdp_bus.specs.Buses.{BusState, device_of, holder}
use Rattle.osdp_bus.specs.Entries.{holds}
use Rattle.osdp_bus.specs.Machine.{begin_refusal_at}
use Rattle.osdp_bus.specs.Ticking.{bus_ticks}
use Rattle.osdp_bus_laws.specs.Calls.{Begin, after_call}
use Rattle.osdp_bus_laws.specs.Exchanges.{own_frame}
use Rattle.osdp_bus_laws.specs.Turns.{asking, judged}

-- the moment that a device waits for is reached
abbrev pub IsReached : BusState → Entry → Type 0
IsReached b d = IfSome (moment_of d.controller.session.state) (λ moment. moment ≤ max d.controller.session.greatest b.greatest)

-- a burst that goes out at a tick while an entry holds the line is the frame of its exchange, as this stands once the run
-- has ended, and its deadline is reached
abbrev pub HoldersSendTheirFrame : BusState → Type 0
HoldersSendTheirFrame b = (now entry : ℕ) (p : Packet) → holder (judged now b) ≡ Some entry → (bus_ticks now b).sent ≡ Some p
    → (d : Entry) × (device_of entry (asking now b) ≡ Some d) × (own_frame d ≡ Some p) × IsReached (asking now b) d

-- a session that begins leaves what waits for its device, in its order, and what is reserved; none is outstanding; all
-- other devices stay as they were
pub record BeginsAlone (entry now : ℕ) (d : Entry) (b : BusState) : Type 0 where
  pub device : Entry
  pub there : device_of entry (after_call (Begin entry now) b) ≡ Some device
  pub waiting : device.controller.waiting ≡ d.controller.waiting
  pub reserved : device.reserved ≡ d.reserved
  pub outstanding : holds device ≡ false
  pub others : (other : ℕ) → other ≢ entry → device_of other (after_call (Begin entry now) b) ≡ device_of other b

abbrev pub SessionsBeginAlone : BusState → Type 0
SessionsBeginAlone b = (entry now : ℕ) (d : Entry) → device_of entry b ≡ Some d → begin_refusal_at entry b ≡ None → BeginsAlone entry now d b
