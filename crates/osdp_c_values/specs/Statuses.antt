-- The numbers of statuses.
use Rattle.std.specs.Prelude.{ℕ}
use Rattle.osdp_bus.specs.declared.fault.BusFault.{BusFault}
use Rattle.osdp_bus.specs.declared.fault.BusFault.TheVariants as bus
use Rattle.osdp_msg.specs.declared.fault.MsgFault.{MsgFault}
use Rattle.osdp_msg.specs.declared.fault.MsgFault.TheVariants as message
use Rattle.osdp_reader.specs.declared.fault.ReaderFault.{ReaderFault}
use Rattle.osdp_reader.specs.declared.fault.ReaderFault.TheVariants as reader
use Rattle.osdp_c_values.specs.declared.monitor_fault.MonitorFault.{MonitorFault}
use Rattle.osdp_c_values.specs.declared.monitor_fault.MonitorFault.TheVariants as monitor
use Rattle.osdp_c_values.specs.declared.status.Status.{Status}
use Rattle.osdp_c_values.specs.declared.status.Status.TheVariants.{Done, NoMachine, InUse, BadText, NoEvent, TooSmall, NotAsked, OtherMessage, MomentTooFar, Message, Panel, NumbersUsedUp, Reader, EventsFull, Monitor}

-- M1 to M3
abbrev pub message_status : MsgFault → ℕ
message_status message.UnknownCode = 11
message_status message.Length = 12
message_status message.Count = 13

-- B1 to B6, C3 to C5
abbrev pub bus_status : BusFault → ℕ
bus_status bus.NoMemory = 21
bus_status bus.TooMany = 22
bus_status bus.AddressTaken = 23
bus_status bus.NoEntry = 24
bus_status bus.OutOfRange = 25
bus_status bus.AddressOutOfRange = 26
bus_status bus.Full = 33
bus_status bus.PollSubmitted = 34
bus_status bus.NotClosed = 35

-- N1, N3
abbrev pub reader_status : ReaderFault → ℕ
reader_status reader.NoMemory = 41
reader_status reader.OutOfRange = 43

-- L1 to L4
abbrev pub monitor_status : MonitorFault → ℕ
monitor_status monitor.NoMemory = 51
monitor_status monitor.TooLong = 52
monitor_status monitor.OutOfRange = 53
monitor_status monitor.Stopped = 54

abbrev pub number : Status → ℕ
number Done = 0
-- of a handle: it has no machine, or has one already
number NoMachine = 1
number InUse = 2
-- of a text: it is none of a message, its reply tells no event, there is too little room for it
number BadText = 3
number NoEvent = 4
number TooSmall = 5
-- of an answer: no command waits for one
number NotAsked = 7
-- of what is handed over: the message is of another kind, the moment lies too far ahead
number OtherMessage = 8
number MomentTooFar = 9
-- faults of a message, a panel, a device and a monitor
number (Message fault) = message_status fault
number (Panel fault) = bus_status fault
number (Reader fault) = reader_status fault
number (Monitor fault) = monitor_status fault
-- B7
number NumbersUsedUp = 27
-- N2
number EventsFull = 42
