-- The calls of a panel.
use Rattle.std.specs.Prelude.{◌≡◌, ℕ, if◌then◌else◌, List, [], length, option_map, Option, None, Some, Result, Ok, Err, is_some}
use Rattle.osdp_frame.specs.Packet.{Packet}
use Rattle.osdp_frame.specs.Spelling.{spelling}
use Rattle.osdp_msg.specs.declared.command.Command.{Command}
use Rattle.osdp_msg.specs.declared.fault.MsgFault.{MsgFault}
use Rattle.osdp_msg.specs.CommandTable.{command_of}
use Rattle.osdp_bus.specs.declared.config.BusConfig.{BusConfig}
use Rattle.osdp_bus.specs.declared.fault.BusFault.{BusFault}
use Rattle.osdp_bus.specs.declared.fault.BusFault.TheVariants.{NoEntry, OutOfRange}
use Rattle.osdp_bus.specs.Buses.{BusState, device_of}
use Rattle.osdp_bus.specs.Entries.{address_of}
use Rattle.osdp_bus.specs.Machine.{after_begin_at, after_retarget_at, begin_refusal_at, changed_unless, retarget_refusal_at, withdrawal_at}
use Rattle.osdp_controller.specs.States.{is_closed}
use Rattle.osdp_panel.specs.declared.fault.PanelFault.{PanelFault}
use Rattle.osdp_panel.specs.declared.fault.PanelFault.TheVariants.{Bus, NumbersUsedUp}
use Rattle.osdp_panel.specs.Deadlines.{IsDeadline}
use Rattle.osdp_panel.specs.Giving.{after_give, after_withdraw, give_refusal}
use Rattle.osdp_panel.specs.Orders.{PanelState, orders_at}
use Rattle.osdp_panel.specs.Panels.{AddEnds, NewEnds}
use Rattle.osdp_panel.specs.Sending.{after_hear, after_seen_silent, after_tick, after_write, sent_at, written}
use Rattle.osdp_panel.specs.Telling.{after_settle, tells}
use Rattle.osdp_c_values.specs.Clocks.{ClockState, accepts, new_clock, sees}
use Rattle.osdp_c_values.specs.declared.machine.PanelMachine.{PanelMachine}
use Rattle.osdp_c_values.specs.declared.arrays.BurstStruct.{BurstStruct}
use Rattle.osdp_c_values.specs.declared.message.MessageStruct.{MessageStruct}
use Rattle.osdp_c_values.specs.declared.moment.MomentStruct.{MomentStruct}
use Rattle.osdp_c_values.specs.declared.report.ReportStruct.{ReportStruct}
use Rattle.osdp_c_values.specs.declared.settings.PanelSettings.{PanelSettings}
use Rattle.osdp_c_values.specs.declared.status.Status.{Status}
use Rattle.osdp_c_values.specs.declared.status.Status.TheVariants as status
use Rattle.osdp_c_values.specs.Moments.{moment_struct}
use Rattle.osdp_c_values.specs.Reports.{report_struct}
use Rattle.osdp_c_values.specs.Settings.{bus_config_of, bus_config_with, limit_of}
use Rattle.osdp_c_values.specs.Statuses.{number}
use Rattle.osdp_c_values.specs.Structs.{burst_of, command_struct, flag}
use Rattle.osdp_c_values.specs.Calls.{Done}

-- the panel is another, and nothing was refused
abbrev pub does : PanelState → Done PanelState
does p = record { status = status.Done; machine = p }

abbrev pub status_of : Option BusFault → Status
status_of None = status.Done
status_of (Some fault) = status.Panel fault

-- the same of a call that has nothing to give
abbrev pub done_status : Result (Unit {0}) BusFault → Status
done_status (Ok nothing) = status.Done
done_status (Err fault) = status.Panel fault

-- .. and of an order
abbrev pub fault_status : PanelFault → Status
fault_status (Bus fault) = status.Panel fault
fault_status NumbersUsedUp = status.NumbersUsedUp

abbrev pub order_status : Option PanelFault → Status
order_status None = status.Done
order_status (Some fault) = fault_status fault

-- the bus of the panel is another, or else the call is refused and changes nothing
abbrev pub unless_refused : Option BusFault → BusState → PanelState → Done PanelState
unless_refused refusal after p = record { status = status_of refusal; machine = record p { bus = changed_unless refusal p.bus after } }

-- a call on the panel of a handle
abbrev pub on_panel : (PanelState → Done PanelState) → PanelMachine → Done PanelMachine
on_panel call m = record { status = (call m.panel).status; machine = record m { panel = (call m.panel).machine } }

-- what such a call writes
abbrev pub of_panel : {O : Type 0} → (PanelState → O → O) → PanelMachine → O → O
of_panel write m out = write m.panel out

-- the moment of a call is seen where it is done
abbrev pub sees_if_done : ℕ → Status → ClockState → ClockState
sees_if_done now status.Done c = sees now c
sees_if_done now refused c = c

-- a call at a moment; one that lies too far after the greatest one seen is refused
abbrev pub at_moment : ℕ → (PanelMachine → Done PanelMachine) → PanelMachine → Done PanelMachine
at_moment now call m =
    if accepts now m.clock then record {
      status = (call m).status;
      machine = record (call m).machine { clock = sees_if_done now (call m).status m.clock };
    } else record { status = status.MomentTooFar; machine = m }

-- .. and then nothing is written
abbrev pub where_accepted : {O : Type 0} → ℕ → (PanelMachine → O → O) → PanelMachine → O → O
where_accepted now write m out = if accepts now m.clock then write m out else out

-- a moment is seen, however far it lies after the greatest one: bytes come then, but none
abbrev pub sets_moment : ℕ → PanelMachine → Done PanelMachine
sets_moment now m = record { status = status.Done; machine = record m { panel = after_hear [] now m.panel; clock = sees now m.clock } }

-- how it ends, and what the handle holds then
abbrev pub made_status : Result PanelState BusFault → Status
made_status (Ok p) = status.Done
made_status (Err fault) = status.Panel fault

abbrev pub made_in : ℕ → Result PanelState BusFault → Option PanelMachine
made_in limit (Ok p) = Some (record { panel = p; clock = new_clock limit; turn = [] })
made_in limit (Err fault) = None

-- a new panel, by settings that may be none: those are judged before memory is asked for
abbrev pub MadeAs : Option BusConfig → Result PanelState BusFault → Type 0
MadeAs None r = r ≡ Err OutOfRange
MadeAs (Some config) r = NewEnds config r

-- the same in a handle, with the limit of its clock
abbrev pub MadeBy : Option BusConfig → ℕ → ℕ → Option PanelMachine → Type 0
MadeBy config limit answer after =
    (r : Result PanelState BusFault) × MadeAs config r × (answer ≡ number (made_status r)) × (after ≡ made_in limit r)

-- a handle in use keeps what it holds
abbrev pub NewPanelIn : Option BusConfig → ℕ → Option PanelMachine → ℕ → Option PanelMachine → Type 0
NewPanelIn config limit (Some m) answer after = (answer ≡ number status.InUse) × (after ≡ Some m)
NewPanelIn config limit None answer after = MadeBy config limit answer after

-- a panel with room for each of its commands, however long it is
abbrev pub NewPanelEnds : PanelSettings → Option PanelMachine → ℕ → Option PanelMachine → Type 0
NewPanelEnds settings before answer after = NewPanelIn (bus_config_of settings) (limit_of settings.clock_limit) before answer after

-- .. and one with room for so many bytes of those that wait for a device together
abbrev pub NewPanelWith : ℕ → PanelSettings → Option PanelMachine → ℕ → Option PanelMachine → Type 0
NewPanelWith bytes settings before answer after = NewPanelIn (bus_config_with bytes settings) (limit_of settings.clock_limit) before answer after

abbrev pub added_status : Result ℕ BusFault → Status
added_status (Ok entry) = status.Done
added_status (Err fault) = status.Panel fault

-- the entry of a new device is written
abbrev pub added_entry : Result ℕ BusFault → ℕ → ℕ
added_entry (Ok entry) out = entry
added_entry (Err fault) out = out

-- a device at an address, whose first order has the next number
abbrev pub AddsTo : ℕ → ℕ → Option PanelMachine → ℕ → Option PanelMachine → ℕ → ℕ → Type 0
AddsTo address next None answer after out out' = (answer ≡ number status.NoMachine) × (after ≡ None) × (out' ≡ out)
AddsTo address next (Some m) answer after out out' =
    (r : Result ℕ BusFault) × (p' : PanelState) × AddEnds address next m.panel p' r
    × (answer ≡ number (added_status r)) × (after ≡ Some (record m { panel = p' })) × (out' ≡ added_entry r out)

abbrev pub begins : ℕ → ℕ → PanelState → Done PanelState
begins entry now p = unless_refused (begin_refusal_at entry p.bus) (after_begin_at entry now p.bus) p

-- an order is given until a moment, or refused
abbrev pub submits : ℕ → Command → ℕ → PanelState → Done PanelState
submits entry command until p = record {
  status = order_status (give_refusal entry command p);
  machine = changed_unless (give_refusal entry command p) p (after_give entry command until p);
}

-- a command by its code and data, which may be none
abbrev pub submits_read : ℕ → Result Command MsgFault → ℕ → PanelState → Done PanelState
submits_read entry (Ok command) until p = submits entry command until p
submits_read entry (Err fault) until p = record { status = status.Message fault; machine = p }

abbrev pub submits_data : ℕ → ℕ → List ℕ → ℕ → PanelState → Done PanelState
submits_data entry code body until p = submits_read entry (command_of code body) until p

-- a command by its text, which may be that of none
abbrev pub submits_text : ℕ → Option Command → ℕ → PanelState → Done PanelState
submits_text entry None until p = record { status = status.BadText; machine = p }
submits_text entry (Some command) until p = submits entry command until p

abbrev pub told_or : Option ℕ → ℕ → ℕ
told_or None out = out
told_or (Some told) out = told

-- the number that the next order of an entry has
abbrev pub next_number : ℕ → PanelState → Option ℕ
next_number entry p = option_map (λ o. o.next) (orders_at entry p)

-- an order that is taken has it, and it is written
abbrev pub number_unless : Option PanelFault → Option ℕ → ℕ → ℕ
number_unless None next out = told_or next out
number_unless (Some fault) next out = out

abbrev pub writes_number : ℕ → Command → PanelState → ℕ → ℕ
writes_number entry command p out = number_unless (give_refusal entry command p) (next_number entry p) out

abbrev pub writes_number_read : ℕ → Result Command MsgFault → PanelState → ℕ → ℕ
writes_number_read entry (Ok command) p out = writes_number entry command p out
writes_number_read entry (Err fault) p out = out

abbrev pub writes_number_data : ℕ → ℕ → List ℕ → PanelState → ℕ → ℕ
writes_number_data entry code body p out = writes_number_read entry (command_of code body) p out

abbrev pub writes_number_text : ℕ → Option Command → PanelState → ℕ → ℕ
writes_number_text entry None p out = out
writes_number_text entry (Some command) p out = writes_number entry command p out

abbrev pub withdrawn_status : Result (Option Command) BusFault → Status
withdrawn_status (Ok command) = status.Done
withdrawn_status (Err fault) = status.Panel fault

-- the command that was taken back, if one was, is written
abbrev pub withdrawn_struct : Result (Option Command) BusFault → MessageStruct → MessageStruct
withdrawn_struct (Ok command) out = command_struct command out
withdrawn_struct (Err fault) out = out

abbrev pub withdraws : ℕ → PanelState → Done PanelState
withdraws entry p = record { status = withdrawn_status (withdrawal_at entry p.bus); machine = after_withdraw entry p }

abbrev pub writes_withdrawn : ℕ → PanelState → MessageStruct → MessageStruct
writes_withdrawn entry p out = withdrawn_struct (withdrawal_at entry p.bus) out

abbrev pub retargets : ℕ → ℕ → PanelState → Done PanelState
retargets entry address p = unless_refused (retarget_refusal_at entry address p.bus) (after_retarget_at entry address p.bus) p

abbrev pub hears : List ℕ → ℕ → PanelState → Done PanelState
hears bytes now p = does (after_hear bytes now p)

abbrev pub falls_silent : ℕ → PanelState → Done PanelState
falls_silent now p = does (after_seen_silent now p)

-- the bytes of the packet that goes out stand in the turn, or else those that stood there
abbrev pub turn_with : Option Packet → List ℕ → List ℕ
turn_with None turn = turn
turn_with (Some packet) turn = spelling packet

-- the panel has ticked
abbrev pub ticked : ℕ → PanelMachine → PanelMachine
ticked now m = record m { panel = after_tick now m.panel; turn = turn_with (sent_at now m.panel) m.turn }

abbrev pub ticks : ℕ → PanelMachine → Done PanelMachine
ticks now m = record { status = status.Done; machine = ticked now m }

-- whether a burst is to go out is written
abbrev pub writes_sends : ℕ → PanelMachine → ℕ → ℕ
writes_sends now m out = flag (is_some (after_tick now m.panel).last)

-- the packet whose bytes stand in the turn then
abbrev pub sent_in : ℕ → Option PanelMachine → Option Packet
sent_in now None = None
sent_in now (Some m) = if accepts now m.clock then sent_at now m.panel else None

-- the burst is given out, or is lost
abbrev pub gives : ℕ → PanelState → Done PanelState
gives now p = does (after_write now p)

-- .. and is written
abbrev pub writes_burst : ℕ → PanelMachine → BurstStruct → BurstStruct
writes_burst now m out = burst_of (written now m.turn m.panel) out

abbrev pub reports : PanelState → Done PanelState
reports p = does (after_settle p)

-- what is to be told is written
abbrev pub writes_report : PanelState → ReportStruct → ReportStruct
writes_report p out = report_struct (tells p) out

-- the moment of the next turn is written
abbrev pub IsDueIn : Option PanelMachine → MomentStruct → MomentStruct → Type 0
IsDueIn None out out' = out' ≡ out
IsDueIn (Some m) out out' = (due : Option ℕ) × IsDeadline m.panel due × (out' ≡ moment_struct due)

-- how many devices there are
abbrev pub writes_entries : PanelState → ℕ → ℕ
writes_entries p out = length p.bus.devices.entries

-- what is told of a device, where there is such an entry
abbrev pub status_at : {D : Type 0} → Option D → Status
status_at None = status.Panel NoEntry
status_at (Some d) = status.Done

abbrev pub looks_at : ℕ → PanelState → Done PanelState
looks_at entry p = record { status = status_at (device_of entry p.bus); machine = p }

abbrev pub writes_address : ℕ → PanelState → ℕ → ℕ
writes_address entry p out = told_or (option_map address_of (device_of entry p.bus)) out

-- .. how many commands wait for it
abbrev pub writes_waiting : ℕ → PanelState → ℕ → ℕ
writes_waiting entry p out = told_or (option_map (λ d. length d.controller.waiting) (device_of entry p.bus)) out

abbrev pub writes_closed : ℕ → PanelState → ℕ → ℕ
writes_closed entry p out = told_or (option_map (λ d. flag (is_closed d.controller.session.state)) (device_of entry p.bus)) out

-- .. and the number that its next order has
abbrev pub looks_at_number : ℕ → PanelState → Done PanelState
looks_at_number entry p = record { status = status_at (next_number entry p); machine = p }

abbrev pub writes_next_number : ℕ → PanelState → ℕ → ℕ
writes_next_number entry p out = told_or (next_number entry p) out
