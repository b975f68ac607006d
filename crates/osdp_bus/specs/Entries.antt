-- The devices of a bus: of each its controller, and the address that is reserved for it.
use Rattle.std.specs.Prelude.{ℕ, ◌+◌, Bool, false, ◌||◌, ◌==◌, if◌then◌else◌, List, [], ◌∷◌, take, drop, Option, Some, None}
use Rattle.std.specs.Option.{option_or}
use Rattle.std.specs.List.{list_any}
use Rattle.osdp_frame.specs.Packet.{Packet}
use Rattle.osdp_msg.specs.declared.command.Command.{Command}
use Rattle.osdp_msg.specs.declared.command_fields.Communication.{Communication}
use Rattle.osdp_controller.specs.declared.report.Report.{Report}
use Rattle.osdp_controller.specs.declared.report.Report.TheVariants.{Settled, Moved}
use Rattle.osdp_controller.specs.Comsets.{is_comset}
use Rattle.osdp_controller.specs.Hearing.{hears}
use Rattle.osdp_controller.specs.Machine.{after_frame, after_tick, is_due, is_outstanding}
use Rattle.osdp_controller.specs.Ticking.{Step, ticks}
use Rattle.osdp_bus.specs.declared.entry.Entry.{Entry}

abbrev pub address_of : Entry → ℕ
address_of d = d.controller.session.config.address

abbrev pub is_at : ℕ → Entry → Bool
is_at address d = address_of d == address

abbrev pub is_reserved : ℕ → Option ℕ → Bool
is_reserved address None = false
is_reserved address (Some reserved) = reserved == address

-- the address is that of the device, or reserved for it
abbrev pub takes_up : ℕ → Entry → Bool
takes_up address d = is_at address d || is_reserved address d.reserved

-- some device takes the address up
abbrev pub is_taken : ℕ → List Entry → Bool
is_taken address devices = list_any (takes_up address) devices

-- some device other than that of this entry does
abbrev pub is_taken_beside : ℕ → ℕ → List Entry → Bool
is_taken_beside entry address devices =
    is_taken address (take entry devices) || is_taken address (drop (entry + 1) devices)

-- an accepted COMSET reserves its address ..
abbrev pub reserved_for : Option Communication → Option ℕ → Option ℕ
reserved_for (Some asked) reserved = Some asked.address
reserved_for None reserved = reserved

-- .. until it is done with
abbrev pub freed_with : Command → Option ℕ → Option ℕ
freed_with command reserved = if is_comset command then None else reserved

-- which it is once it is told settled or moved; told unread or unsettled, it may have moved the device all the same
abbrev pub reserved_told : Report → Option ℕ → Option ℕ
reserved_told (Settled command reply) reserved = freed_with command reserved
reserved_told (Moved command answered) reserved = freed_with command reserved
reserved_told _ reserved = reserved

abbrev pub reserved_after : Option Report → Option ℕ → Option ℕ
reserved_after None reserved = reserved
reserved_after (Some report) reserved = reserved_told report reserved

-- an exchange of the device's controller is outstanding
abbrev pub holds : Entry → Bool
holds d = is_outstanding d.controller.session.state

-- a tick of its controller would send or report
abbrev pub is_entry_due : ℕ → Entry → Bool
is_entry_due now d = is_due now d.controller

-- what its controller tells of a packet, and the device after it
abbrev pub told_of : Packet → ℕ → Entry → Option Report
told_of p now d = (hears p now d.controller.session).report

abbrev pub entry_hears : Packet → ℕ → Entry → Entry
entry_hears p now d = record {
  controller = after_frame p now d.controller;
  reserved = reserved_after (told_of p now d) d.reserved;
}

-- what its controller sends and tells at a tick, and the device after it
abbrev pub step_of : ℕ → Entry → Step
step_of now d = (ticks now d.controller.session d.controller.waiting).step

abbrev pub entry_ticks : ℕ → Entry → Entry
entry_ticks now d = record {
  controller = after_tick now d.controller;
  reserved = reserved_after (step_of now d).report d.reserved;
}

-- the first device that passes a test, by its number; the first of the list has number `at`
abbrev pub first_from : ℕ → (Entry → Bool) → List Entry → Option ℕ
first_from at test [] = None
first_from at test (d ∷ ds) = if test d then Some at else first_from (at + 1) test ds

-- the same around the list, beginning with number `first`
abbrev pub first_around : ℕ → (Entry → Bool) → List Entry → Option ℕ
first_around first test devices =
    option_or (first_from first test (drop first devices)) (first_from 0 test (take first devices))
