-- The calls of a bus's user: when each is refused, and what it changes.
use Rattle.std.specs.Prelude.{◌≡◌, ℕ, Bool, false, ◌||◌, nat_le, nat_lt, if◌then◌else◌, max, List, [], ◌∷◌, ◌++◌, length, Option, Some, None, is_some, option_map, slice_set, Result, Ok, Err}
use Rattle.std.specs.Option.{option_map_or}
use Rattle.osdp_msg.specs.declared.command.Command.{Command}
use Rattle.osdp_msg.specs.declared.command_fields.Communication.{Communication}
use Rattle.osdp_controller.specs.declared.fault.ControllerFault.{ControllerFault}
use Rattle.osdp_controller.specs.declared.fault.ControllerFault.TheVariants as controllers
use Rattle.osdp_controller.specs.declared.report.Report.{Report}
use Rattle.osdp_controller.specs.Comsets.{has_comset}
use Rattle.osdp_controller.specs.Hearing.{comset_of}
use Rattle.osdp_controller.specs.Machine.{after_begin, after_retarget, after_submit, after_withdraw, begin_refusal, new_machine, retarget_refusal, submit_refusal, withdrawn_in}
-- what a call answers, and what it leaves, is as with a controller's
pub use Rattle.osdp_controller.specs.Machine.{changed_unless, unless_refused}
use Rattle.osdp_bus.specs.declared.config.BusConfig.{BusConfig}
use Rattle.osdp_bus.specs.declared.entry.Entry.{Entry}
use Rattle.osdp_bus.specs.declared.fault.BusFault.{BusFault}
use Rattle.osdp_bus.specs.declared.fault.BusFault.TheVariants.{NoMemory, TooMany, AddressTaken, NoEntry, OutOfRange, AddressOutOfRange, Full, PollSubmitted, NotClosed}
use Rattle.osdp_bus.specs.Buses.{BusState, device_of, new_bus, seen}
use Rattle.osdp_bus.specs.Entries.{freed_with, is_taken, is_taken_beside, reserved_for}
use Rattle.osdp_bus.specs.Remembering.{Remembered, remembers_at}
use Rattle.osdp_bus.specs.Settings.{IsBusConfig, controller_config}

-- how many devices there may be
abbrev pub most_entries : ℕ
most_entries = 16

-- a controller's refusal, told by the bus
abbrev pub bus_fault : ControllerFault → BusFault
bus_fault controllers.NoMemory = NoMemory
bus_fault controllers.OutOfRange = OutOfRange
bus_fault controllers.Full = Full
bus_fault controllers.PollSubmitted = PollSubmitted
bus_fault controllers.NotClosed = NotClosed

-- the device of an entry is changed
abbrev pub changes_entry : ℕ → (Entry → Entry) → BusState → BusState
changes_entry entry change b =
    option_map_or (λ d. record b {
      devices = record b.devices { entries = slice_set b.devices.entries entry (change d) };
    }) (device_of entry b) b

-- how a new bus comes about: the settings are judged before memory is asked for
abbrev pub NewEnds : BusConfig → Result BusState BusFault → Type 0
NewEnds config (Ok b) = IsBusConfig config × (b ≡ new_bus config)
NewEnds config (Err OutOfRange) = IsBusConfig config → ⊥
NewEnds config (Err NoMemory) = IsBusConfig config
NewEnds config (Err _) = ⊥

-- adding: where as many devices are there as there may be, then for the configuration address, then for one that is taken
abbrev pub add_refusal : ℕ → BusState → Option BusFault
add_refusal address b =
    if nat_le most_entries (length b.devices.entries) then Some TooMany
    else (if nat_lt address 127 then (if is_taken address b.devices.entries then Some AddressTaken else None)
    else Some OutOfRange)

-- a new device: closed, nothing waits and nothing is reserved
abbrev pub new_device : ℕ → BusConfig → Entry
new_device address config = record {
  controller = new_machine (controller_config address config) config.room.messages config.room.bytes;
  reserved = None;
}

abbrev pub after_add : ℕ → BusState → BusState
after_add address b =
    record b { devices = record b.devices { entries = b.devices.entries ++ new_device address b.config ∷ [] } }

-- how it ends: the new device's entry, or a refusal, or else there is no memory; then nothing has changed
abbrev pub AddEnds : ℕ → BusState → BusState → Result ℕ BusFault → Type 0
AddEnds address old new (Ok entry) =
    (add_refusal address old ≡ None) × (entry ≡ length old.devices.entries) × (new ≡ after_add address old)
AddEnds address old new (Err NoMemory) = (add_refusal address old ≡ None) × (new ≡ old)
AddEnds address old new (Err fault) = (add_refusal address old ≡ Some fault) × (new ≡ old)

-- beginning a session of an entry
abbrev pub begin_refusal_of : Option Entry → Option BusFault
begin_refusal_of None = Some NoEntry
begin_refusal_of (Some d) = option_map bus_fault (begin_refusal d.controller)

abbrev pub begin_refusal_at : ℕ → BusState → Option BusFault
begin_refusal_at entry b = begin_refusal_of (device_of entry b)

abbrev pub entry_begins : ℕ → Entry → Entry
entry_begins now d = record d { controller = after_begin now d.controller }

abbrev pub after_begin_at : ℕ → ℕ → BusState → BusState
after_begin_at entry now b = changes_entry entry (entry_begins (max b.greatest now)) (seen now b)

-- a COMSET whose address another device takes up, or of a device for which an address is reserved already
abbrev pub is_comset_refused : Option Communication → ℕ → Entry → BusState → Bool
is_comset_refused None entry d b = false
is_comset_refused (Some asked) entry d b =
    is_taken_beside entry asked.address b.devices.entries || is_some d.reserved

-- submitting: such a COMSET is refused, and as its controller any command: a POLL, which is no COMSET, and then where as
-- many wait as there is room for
abbrev pub submit_refusal_of : ℕ → Command → Option Entry → BusState → Option BusFault
submit_refusal_of entry command None b = Some NoEntry
submit_refusal_of entry command (Some d) b =
    if is_comset_refused (comset_of command) entry d b then Some AddressTaken
    else option_map bus_fault (submit_refusal command d.controller)

abbrev pub submit_refusal_at : ℕ → Command → BusState → Option BusFault
submit_refusal_at entry command b = submit_refusal_of entry command (device_of entry b) b

-- a COMSET to an address that no device has: the configuration address, which is 127, and those above
abbrev pub leads_nowhere : Option Communication → Bool
leads_nowhere None = false
leads_nowhere (Some asked) = nat_le 127 asked.address

-- a panel's order: such a COMSET is refused, since a device that follows it is out of reach; else as submitting is
abbrev pub order_refusal_of : ℕ → Command → Option Entry → BusState → Option BusFault
order_refusal_of entry command None b = Some NoEntry
order_refusal_of entry command (Some d) b =
    if leads_nowhere (comset_of command) then Some AddressOutOfRange else submit_refusal_of entry command (Some d) b

abbrev pub order_refusal_at : ℕ → Command → BusState → Option BusFault
order_refusal_at entry command b = order_refusal_of entry command (device_of entry b) b

-- the command waits, and a COMSET reserves its address
abbrev pub entry_submits : Command → Entry → Entry
entry_submits command d = record {
  controller = after_submit command d.controller;
  reserved = reserved_for (comset_of command) d.reserved;
}

abbrev pub after_submit_at : ℕ → Command → BusState → BusState
after_submit_at entry command b = changes_entry entry (entry_submits command) b

-- another address for an entry: as its controller refuses it, then where another device takes it up, or a COMSET waits here
abbrev pub or_taken : Option BusFault → Bool → Option BusFault
or_taken (Some fault) taken = Some fault
or_taken None taken = if taken then Some AddressTaken else None

abbrev pub retarget_refusal_of : ℕ → ℕ → Option Entry → BusState → Option BusFault
retarget_refusal_of entry address None b = Some NoEntry
retarget_refusal_of entry address (Some d) b =
    or_taken (option_map bus_fault (retarget_refusal address d.controller))
    (is_taken_beside entry address b.devices.entries || has_comset d.controller.waiting)

abbrev pub retarget_refusal_at : ℕ → ℕ → BusState → Option BusFault
retarget_refusal_at entry address b = retarget_refusal_of entry address (device_of entry b) b

-- the device is at the address, and nothing is reserved for it
abbrev pub entry_retargets : ℕ → Entry → Entry
entry_retargets address d = record { controller = after_retarget address d.controller; reserved = None }

abbrev pub after_retarget_at : ℕ → ℕ → BusState → BusState
after_retarget_at entry address b = changes_entry entry (entry_retargets address) b

-- withdrawing: as the controller of the entry; a withdrawn COMSET reserves nothing any more
abbrev pub reserved_without : Option Command → Option ℕ → Option ℕ
reserved_without None reserved = reserved
reserved_without (Some command) reserved = freed_with command reserved

abbrev pub withdrawn_of : Entry → Option Command
withdrawn_of d = withdrawn_in d.controller.session.state d.controller.waiting

abbrev pub entry_withdraws : Entry → Entry
entry_withdraws d = record {
  controller = after_withdraw d.controller;
  reserved = reserved_without (withdrawn_of d) d.reserved;
}

abbrev pub withdrawal_of : Option Entry → Result (Option Command) BusFault
withdrawal_of None = Err NoEntry
withdrawal_of (Some d) = Ok (withdrawn_of d)

abbrev pub withdrawal_at : ℕ → BusState → Result (Option Command) BusFault
withdrawal_at entry b = withdrawal_of (device_of entry b)

-- .. and whether one is
abbrev pub is_withdrawn_of : Option Entry → Result Bool BusFault
is_withdrawn_of None = Err NoEntry
is_withdrawn_of (Some d) = Ok (is_some (withdrawn_of d))

abbrev pub is_withdrawn_at : ℕ → BusState → Result Bool BusFault
is_withdrawn_at entry b = is_withdrawn_of (device_of entry b)

abbrev pub after_withdraw_at : ℕ → BusState → BusState
after_withdraw_at entry b = changes_entry entry entry_withdraws b

-- the report that waits is taken, and remembered of its entry
abbrev pub remembered_after : Option (ℕ × Report) → BusState → List Remembered
remembered_after None b = b.remembered
remembered_after (Some (entry, report)) b =
    option_map_or (λ d. remembers_at entry report b.remembered) (device_of entry b) b.remembered

abbrev pub after_next_report : BusState → BusState
after_next_report b = record b {
  devices = record b.devices { report = None };
  remembered = remembered_after b.devices.report b;
}
