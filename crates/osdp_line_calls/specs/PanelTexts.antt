-- The lines that answer a call.
use Rattle.std.specs.Prelude.{ℕ, ◌+◌, Bool, if◌then◌else◌, List, [], ◌∷◌, ◌++◌, codes, Option, Some, None, Result, Ok, Err}
use Rattle.std.specs.Fmt.{decimal}
use Rattle.osdp_bus.specs.declared.fault.BusFault.{BusFault}
use Rattle.osdp_bus.specs.declared.fault.BusFault.TheVariants.{NoMemory, TooMany, AddressTaken, NoEntry, OutOfRange, AddressOutOfRange, Full, PollSubmitted, NotClosed}
use Rattle.osdp_controller.specs.Causes.{cause_name}
use Rattle.osdp_controller.specs.declared.report.Report.{Report}
use Rattle.osdp_controller.specs.declared.report.Report.TheVariants.{Opened, Settled, Moved, Event, PollAnswered, Unread, Lost}
use Rattle.osdp_msg.specs.declared.command.Command.{Command}
use Rattle.osdp_msg.specs.declared.reply.Reply.{Reply}
use Rattle.osdp_msg.specs.declared.reply.Reply.TheVariants.{PdId, Com}
use Rattle.osdp_msg.specs.CommandText.{command_text}
use Rattle.osdp_msg.specs.Events.{event_text}
use Rattle.osdp_msg.specs.ReplyText.{reply_text}
use Rattle.osdp_panel.specs.declared.fault.PanelFault.{PanelFault}
use Rattle.osdp_panel.specs.declared.fault.PanelFault.TheVariants.{Bus, NumbersUsedUp}
use Rattle.osdp_panel.specs.declared.report.PanelReport.{PanelReport}
use Rattle.osdp_panel.specs.declared.report.What.{What}
use Rattle.osdp_panel.specs.declared.report.What.TheVariants.{Told, Expired}
use Rattle.osdp_words.specs.Word.{bytes, printed}

-- a burst is to go out
abbrev pub burst_line : Bool → List ℕ
burst_line is = if is then codes "burst\n" else []

-- the bytes that are given out, where there are some
abbrev pub send_line : List ℕ → List ℕ
send_line [] = []
send_line (byte ∷ list) = codes "send " ++ (printed (bytes (byte ∷ list)) ++ codes "\n")

-- a name, the number of an entry, from 1, and what is told of it
abbrev pub entry_line : List ℕ → ℕ → List ℕ → List ℕ
entry_line name entry text = name ++ (codes " " ++ (decimal (entry + 1) ++ (codes " " ++ (text ++ codes "\n"))))

-- what tells of an order has its number first
abbrev pub order_text : Option ℕ → List ℕ
order_text None = []
order_text (Some number) = codes "order " ++ (decimal number ++ codes " ")

-- a command and what it was answered
abbrev pub answered_text : Command → Reply → List ℕ
answered_text command reply = command_text command ++ (codes " = " ++ reply_text reply)

-- what comes before a command, where there is one
abbrev pub with_command : List ℕ → Option Command → List ℕ
with_command text None = text
with_command text (Some command) = text ++ (codes " " ++ command_text command)

abbrev pub code_text : ℕ → List ℕ
code_text code = codes "code " ++ printed (bytes (code ∷ []))

-- an event that may have been reported before has a name of its own, so that a program that knows `event` alone makes no second order of it
abbrev pub event_name : Bool → List ℕ
event_name maybe_again = if maybe_again then codes "maybe-again" else codes "event"

-- .. and from when on its device may have offered it
abbrev pub since_text : Option ℕ → List ℕ
since_text None = []
since_text (Some moment) = codes "since " ++ (decimal moment ++ codes " ")

-- why a session was lost, and whether an order was withheld in it since its last moment had passed
abbrev pub lost_text : List ℕ → Bool → List ℕ
lost_text cause too_late = if too_late then cause ++ codes " withheld" else cause

-- what an entry's controller tells: `r` is what the panel knows of it
abbrev pub told_line : PanelReport → Report → List ℕ
told_line r (Opened id) = entry_line (codes "opened") r.entry (reply_text (PdId id))
told_line r (Settled command reply) = entry_line (codes "settled") r.entry (answered_text command reply)
told_line r (Moved command answered) = entry_line (codes "moved") r.entry (answered_text command (Com answered))
told_line r (Event event) = entry_line (event_name r.maybe_again) r.entry (since_text r.since ++ event_text event)
told_line r (PollAnswered reply) = entry_line (codes "answered") r.entry (reply_text reply)
told_line r (Unread command code) = entry_line (codes "unread") r.entry (with_command (code_text code) command)
told_line r (Lost cause command) = entry_line (codes "lost") r.entry (with_command (lost_text (cause_name cause) r.too_late) command)

abbrev pub what_line : PanelReport → What → List ℕ
what_line r (Told report) = told_line r report
what_line r (Expired command) = entry_line (codes "expired") r.entry (command_text command)

-- a report of a panel, where there is one
abbrev pub report_line : Option PanelReport → List ℕ
report_line None = []
report_line (Some r) = order_text r.number ++ what_line r r.what

abbrev pub fault_name : BusFault → List ℕ
-- of the bus
fault_name NoMemory = codes "B1"
fault_name TooMany = codes "B2"
fault_name AddressTaken = codes "B3"
fault_name NoEntry = codes "B4"
fault_name OutOfRange = codes "B5"
fault_name AddressOutOfRange = codes "B6"
-- of the controller of an entry
fault_name Full = codes "C3"
fault_name PollSubmitted = codes "C4"
fault_name NotClosed = codes "C5"

-- why a call is refused, where it is
abbrev pub refusal_line : Option BusFault → List ℕ
refusal_line None = []
refusal_line (Some fault) = codes "refused " ++ (fault_name fault ++ codes "\n")

abbrev pub order_fault_name : PanelFault → List ℕ
order_fault_name (Bus fault) = fault_name fault
order_fault_name NumbersUsedUp = codes "B7"

-- an order that was accepted, with its number
abbrev pub waits_line : ℕ → Option ℕ → List ℕ
waits_line entry number = order_text number ++ (codes "waits " ++ (decimal (entry + 1) ++ codes "\n"))

-- .. or why it was refused
abbrev pub submit_line : ℕ → Option PanelFault → Option ℕ → List ℕ
submit_line entry None number = waits_line entry number
submit_line entry (Some fault) number = codes "refused " ++ (order_fault_name fault ++ codes "\n")

-- the order that was taken back, where one was, with its number, or why the call is refused
abbrev pub withdrawal_line : ℕ → ℕ → Result (Option Command) BusFault → List ℕ
withdrawal_line entry number (Ok None) = []
withdrawal_line entry number (Ok (Some command)) = order_text (Some number) ++ entry_line (codes "withdrawn") entry (command_text command)
withdrawal_line entry number (Err fault) = refusal_line (Some fault)

-- each answer ends with the moment of the next turn, or `none` where nothing would be done
abbrev pub due_line : Option ℕ → List ℕ
due_line None = codes "due none\n"
due_line (Some moment) = codes "due " ++ (decimal moment ++ codes "\n")

-- the line is none
abbrev pub no_line : List ℕ
no_line = codes "refused line\n"
