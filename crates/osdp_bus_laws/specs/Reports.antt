-- What the controllers tell, and what is taken.
use Rattle.std.specs.Prelude.{◌≡◌, ℕ, true, false, if◌then◌else◌, List, [], ◌∷◌, ◌++◌, Option, Some, None, option_to_list, slice_get}
use Rattle.osdp_frame.specs.Items.{items}
use Rattle.osdp_frame.specs.Packet.{Packet}
use Rattle.osdp_frame.specs.Reading.{RunItem, PacketItem, SkippedItem, RefusedItem}
use Rattle.osdp_controller.specs.declared.report.Report.{Report}
use Rattle.osdp_bus.specs.declared.config.BusConfig.{BusConfig}
use Rattle.osdp_bus.specs.declared.entry.Entry.{Entry}
use Rattle.osdp_bus.specs.Buses.{BusState, Devices, device_of, has_report, holder, is_silent, new_bus, seen}
use Rattle.osdp_bus.specs.Entries.{first_from, is_at, step_of, told_of}
use Rattle.osdp_bus.specs.Hearing.{ends_run, ends_silent, hears_item}
use Rattle.osdp_bus.specs.Settings.{IsBusConfig}
use Rattle.osdp_bus.specs.Ticking.{asks_free, asks_holder, is_due_at}
use Rattle.osdp_bus_laws.specs.Calls.{Call, OnBytes, OnSilence, Tick, NextReport, after_call, after_calls}

-- what the controller of an entry tells, with the entry
abbrev pub told_at : ℕ → Option Report → List (ℕ × Report)
told_at entry None = []
told_at entry (Some report) = (entry, report) ∷ []

-- of a packet: the controller of its address
abbrev pub told_with : Packet → ℕ → ℕ → Option Entry → List (ℕ × Report)
told_with p now entry None = []
told_with p now entry (Some d) = told_at entry (told_of p now d)

abbrev pub told_by_entry : Packet → ℕ → Option ℕ → Devices → List (ℕ × Report)
told_by_entry p now None ds = []
told_by_entry p now (Some entry) ds = told_with p now entry (slice_get ds.entries entry)

abbrev pub told_by_item : ℕ → RunItem → Devices → List (ℕ × Report)
told_by_item now (PacketItem p) ds = told_by_entry p now (first_from 0 (is_at p.address) ds.entries) ds
told_by_item now (SkippedItem byte) ds = []
told_by_item now (RefusedItem fault) ds = []

-- of items: one after the other
abbrev pub told_by_items : ℕ → List RunItem → Devices → List (ℕ × Report)
told_by_items now [] ds = []
told_by_items now (part ∷ parts) ds = told_by_item now part ds ++ told_by_items now parts (hears_item now part ds)

-- as a run ends, and where the line was silent long enough for that
abbrev pub told_by_end : BusState → List (ℕ × Report)
told_by_end b = told_by_items b.greatest (items true b.held) b.devices

abbrev pub told_by_silence : BusState → List (ℕ × Report)
told_by_silence b = if is_silent b then told_by_end b else []

-- of bytes at a moment
abbrev pub told_by_bytes : List ℕ → BusState → List (ℕ × Report)
told_by_bytes [] b = []
told_by_bytes (byte ∷ bytes) b =
    told_by_silence b ++ told_by_items (ends_silent b).greatest (items false ((ends_silent b).held ++ (byte ∷ bytes))) (ends_silent b).devices

-- of a tick: the device that ticks
abbrev pub told_by_device : ℕ → Option Entry → BusState → List (ℕ × Report)
told_by_device entry None b = []
told_by_device entry (Some d) b = told_at entry (step_of b.greatest d).report

abbrev pub told_by_ticking : Option ℕ → BusState → List (ℕ × Report)
told_by_ticking None b = []
told_by_ticking (Some entry) b = told_by_device entry (device_of entry b) b

-- by who holds the line: the end of the run, then the device
abbrev pub told_by_holder : Option ℕ → BusState → List (ℕ × Report)
told_by_holder None b =
    told_by_end b ++ asks_free [] (λ entry. told_by_ticking entry (ends_run b)) (ends_run b)
told_by_holder (Some entry) b =
    if is_due_at entry b then told_by_end b ++ asks_holder [] (λ asked. told_by_ticking asked (ends_run b)) entry (ends_run b) else []

abbrev pub told_by_tick : ℕ → BusState → List (ℕ × Report)
told_by_tick now b =
    if has_report b then []
    else told_by_silence (seen now b) ++ told_by_holder (holder (ends_silent (seen now b))) (ends_silent (seen now b))

-- what the controllers tell in a call, in its order
abbrev pub told_in : Call → BusState → List (ℕ × Report)
told_in (OnBytes bytes now) b = told_by_bytes bytes (seen now b)
told_in (OnSilence now) b = told_by_end (seen now b)
told_in (Tick now) b = told_by_tick now b
told_in _ b = []

-- what a call hands over, with its entry
abbrev pub taken_in : Call → BusState → List (ℕ × Report)
taken_in NextReport b = option_to_list b.devices.report
taken_in _ b = []

-- and over a list of calls
abbrev pub told_along : List Call → BusState → List (ℕ × Report)
told_along [] b = []
told_along (call ∷ calls) b = told_in call b ++ told_along calls (after_call call b)

abbrev pub taken_along : List Call → BusState → List (ℕ × Report)
taken_along [] b = []
taken_along (call ∷ calls) b = taken_in call b ++ taken_along calls (after_call call b)

-- from a new bus: what was taken, in its order, and then what waits, is what the controllers told, in theirs: each report once,
-- with its entry, and none is lost
abbrev pub TellsEachOnce : Type 0
TellsEachOnce = (config : BusConfig) (calls : List Call) → IsBusConfig config
    → taken_along calls (new_bus config) ++ option_to_list (after_calls calls (new_bus config)).devices.report ≡ told_along calls (new_bus config)
