-- The frames of one exchange: the same burst again, and no other between.
use Rattle.std.specs.Prelude.{◌≡◌, ℕ, true, List, [], ◌∷◌, Option, Some, None}
use Rattle.std.specs.Option.{option_or}
use Rattle.osdp_frame.specs.Packet.{Packet}
use Rattle.osdp_frame.specs.Spelling.{Spells}
use Rattle.osdp_bus.specs.declared.config.BusConfig.{BusConfig}
use Rattle.osdp_bus.specs.declared.entry.Entry.{Entry}
use Rattle.osdp_bus.specs.Buses.{BusState, device_of, holder, new_bus}
use Rattle.osdp_bus.specs.Entries.{holds}
use Rattle.osdp_bus.specs.Settings.{IsBusConfig}
use Rattle.osdp_bus.specs.Ticking.{bus_ticks}
use Rattle.osdp_bus_laws.specs.Calls.{Call, Tick, after_call, after_calls}
use Rattle.osdp_bus_laws.specs.Exchanges.{own_frame}
use Rattle.osdp_bus_laws.specs.Turns.{judged}

-- the frame that goes out in a call: ticks alone send
abbrev pub sent_by : Call → BusState → Option Packet
sent_by (Tick now) b = (bus_ticks now b).sent
sent_by _ b = None

-- the frame that went out last on the line: in the last of the calls that sent one, or else before them
abbrev pub last_sent : List Call → BusState → Option Packet → Option Packet
last_sent [] b before = before
last_sent (call ∷ calls) b before = last_sent calls (after_call call b) (option_or (sent_by call b) before)

-- a frame is the last one again, and its burst, byte for byte, the burst of that one
pub record IsTheLastAgain (p : Packet) (last : Option Packet) : Type 0 where
  pub frame : last ≡ Some p
  pub bytes : (q : Packet) (before burst : List ℕ) → last ≡ Some q → Spells q before → Spells p burst → burst ≡ before

-- whatever was called of a new bus: the frame of an exchange that holds the line is the one that went out last on it; and what
-- goes out at a tick while an entry holds the line is this one again
pub record SendsTheSame (config : BusConfig) (calls : List Call) : Type 0 where
  pub last : (entry : ℕ) (d : Entry) → device_of entry (after_calls calls (new_bus config)) ≡ Some d → holds d ≡ true
      → (p : Packet) × (own_frame d ≡ Some p) × (last_sent calls (new_bus config) None ≡ Some p)
  pub again : (now entry : ℕ) (p : Packet) → holder (judged now (after_calls calls (new_bus config))) ≡ Some entry
      → (bus_ticks now (after_calls calls (new_bus config))).sent ≡ Some p → IsTheLastAgain p (last_sent calls (new_bus config) None)

abbrev pub HoldersSendTheSame : Type 0
HoldersSendTheSame = (config : BusConfig) (calls : List Call) → IsBusConfig config → SendsTheSame config calls
