-- What a call reads, and a device of which nothing is read.
use Rattle.std.specs.Prelude.{◌≡◌, ℕ, ◌==◌, ◌&&◌, true, false, if◌then◌else◌, All, List, [], ◌∷◌, ◌++◌, Option, Some, None}
use Rattle.osdp_frame.specs.Items.{items, whole_packets}
use Rattle.osdp_frame.specs.Packet.{Packet}
use Rattle.osdp_bus.specs.declared.entry.Entry.{Entry}
use Rattle.osdp_bus.specs.Buses.{BusState, device_of, has_report, holder, is_silent, seen}
use Rattle.osdp_bus.specs.Entries.{address_of}
use Rattle.osdp_bus.specs.Hearing.{ends_silent}
use Rattle.osdp_bus.specs.Ticking.{is_due_at}
use Rattle.osdp_bus_laws.specs.Calls.{Call, OnBytes, OnSilence, Tick, after_call}
use Rattle.osdp_bus_laws.specs.Turns.{judged}

-- the packets of what is held, as its run ends ..
abbrev pub read_to_end : BusState → List Packet
read_to_end b = whole_packets (items true b.held)

-- .. which it does where the line was silent long enough
abbrev pub read_if_silent : BusState → List Packet
read_if_silent b = if is_silent b then read_to_end b else []

-- of bytes, with what is held
abbrev pub read_of_bytes : List ℕ → BusState → List Packet
read_of_bytes [] b = []
read_of_bytes (byte ∷ bytes) b = read_if_silent b ++ whole_packets (items false ((ends_silent b).held ++ (byte ∷ bytes)))

-- a tick ends the run where nobody holds the line, or who holds it is due
abbrev pub read_by_holder : Option ℕ → BusState → List Packet
read_by_holder None b = read_to_end b
read_by_holder (Some entry) b = if is_due_at entry b then read_to_end b else []

abbrev pub read_in : Call → BusState → List Packet
read_in (OnBytes bytes now) b = read_of_bytes bytes (seen now b)
read_in (OnSilence now) b = read_to_end (seen now b)
read_in (Tick now) b = if has_report b then [] else read_if_silent (seen now b) ++ read_by_holder (holder (judged now b)) (judged now b)
read_in _ b = []

-- no reply of the device at this address
abbrev pub IsOfAnother : ℕ → Packet → Type 0
IsOfAnother address p = (p.reply && p.address == address) ≡ false

-- a call reads nothing of the device of an entry, and none of the calls does
abbrev pub ReadsNothing : ℕ → Call → BusState → Type 0
ReadsNothing entry call b = (d : Entry) → device_of entry b ≡ Some d → All (IsOfAnother (address_of d)) (read_in call b)

abbrev pub NothingIsRead : ℕ → List Call → BusState → Type 0
NothingIsRead entry [] b = Unit {0}
NothingIsRead entry (call ∷ calls) b = ReadsNothing entry call b × NothingIsRead entry calls (after_call call b)
