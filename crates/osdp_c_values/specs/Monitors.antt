-- What a monitor's handle keeps, and its calls.
use Rattle.std.specs.Prelude.{◌≡◌, ℕ, ◌+◌, ◌*◌, ◌^◌, ◌≤◌, ◌==◌, not, Bool, true, false, List, [], ◌∷◌, length, take, drop, if◌then◌else◌, Option, None, Some, Result, Ok, Err}
use Rattle.osdp_tool_monitor.specs.Hearing.{Hears, LineEvent, event_size, hearing_of, line_detail, load, nothing_yet}
use Rattle.osdp_tool_monitor.specs.Listening.{is_wrong, listening_of}
use Rattle.osdp_tool_show.specs.declared.detail.Detail.{Detail}
use Rattle.osdp_tool_show.specs.declared.detail.Detail.TheVariants.{Filtered, Full, Refusals}
use Rattle.osdp_tool_streams.specs.declared.fault.ToolFault.{ToolFault}
use Rattle.osdp_tool_streams.specs.declared.fault.ToolFault.TheVariants as fault
use Rattle.osdp_c_values.specs.Calls.{Done}
use Rattle.osdp_c_values.specs.declared.monitor_fault.MonitorFault.{MonitorFault}
use Rattle.osdp_c_values.specs.declared.monitor_fault.MonitorFault.TheVariants.{NoMemory, TooLong, OutOfRange, Stopped}
use Rattle.osdp_c_values.specs.declared.status.Status.{Status}
use Rattle.osdp_c_values.specs.declared.status.Status.TheVariants as status
use Rattle.osdp_c_values.specs.HeldMonitors.{HeldMonitor}
use Rattle.osdp_c_values.specs.Statuses.{number}
use Rattle.osdp_c_values.specs.Structs.{filled}
use Rattle.osdp_c_values.specs.Texts.{ended_text}

-- which items have a line of text, by the number of that: what is found and what is refused alone; orders and what follows them too; or each item
abbrev pub detail_at : ℕ → Option Detail
detail_at prints =
    if prints == 0 then Some Refusals
    else if prints == 1 then Some (Filtered (record { address = None; no_polls = true }))
    else if prints == 2 then Some Full
    else None

-- 0 stands for all accusations, and each other number for those by the standard alone
abbrev pub is_standard : ℕ → Bool
is_standard standard = not (standard == 0)

-- nothing was heard
pub record IsNew (detail : Detail) (standard : Bool) (m : HeldMonitor) : Type 0 where
  pub listens : m.listens ≡ true
  pub prints : line_detail m.line ≡ detail
  pub heard : hearing_of m.line ≡ nothing_yet standard
  pub waiting : m.waiting ≡ []

-- how a new monitor comes about: the number is judged before memory is asked for
abbrev pub MonitorMade : Option Detail → Bool → Result HeldMonitor MonitorFault → Type 0
MonitorMade None standard r = r ≡ Err OutOfRange
MonitorMade (Some detail) standard (Ok m) = IsNew detail standard m
MonitorMade (Some detail) standard (Err fault) = fault ≡ NoMemory

abbrev pub made_status : Result HeldMonitor MonitorFault → Status
made_status (Ok m) = status.Done
made_status (Err fault) = status.Monitor fault

abbrev pub made_in : Result HeldMonitor MonitorFault → Option HeldMonitor
made_in (Ok m) = Some m
made_in (Err fault) = None

-- a handle in use keeps what it holds
abbrev pub NewMonitorEnds : ℕ → ℕ → Option HeldMonitor → ℕ → Option HeldMonitor → Type 0
NewMonitorEnds prints standard (Some m) answer after = (answer ≡ number status.InUse) × (after ≡ Some m)
NewMonitorEnds prints standard None answer after =
    (r : Result HeldMonitor MonitorFault) × MonitorMade (detail_at prints) (is_standard standard) r × (answer ≡ number (made_status r)) × (after ≡ made_in r)

-- it hears nothing more, and what was told and not taken is gone
pub record IsStopped (m : HeldMonitor) : Type 0 where
  pub listens : m.listens ≡ false
  pub waiting : m.waiting ≡ []

-- why it stops, by the fault of the line, which can be no other than these two
abbrev pub stopped_by : ToolFault → Status
stopped_by fault.TooLong = status.Monitor TooLong
stopped_by _ = status.Monitor NoMemory

-- Something happens on the line: what `osdp monitor` prints of it comes after the text that waits. Without memory, and once 2^60 were counted, with five for each
-- byte held and each that comes, it stops; then it takes nothing more.
abbrev pub EventEnds : LineEvent → HeldMonitor → Status → HeldMonitor → Type 0
EventEnds event m status.Done m' =
    (m.listens ≡ true) × (m'.listens ≡ true) × Hears (event ∷ []) m.line m'.line m.waiting m'.waiting
EventEnds event m (status.Monitor NoMemory) m' = (m.listens ≡ true) × IsStopped m'
EventEnds event m (status.Monitor TooLong) m' =
    (m.listens ≡ true) × IsStopped m' × (2 ^ 60 ≤ load (hearing_of m.line) + 5 * event_size event)
EventEnds event m (status.Monitor Stopped) m' = (m.listens ≡ false) × (m' ≡ m)
EventEnds event m _ m' = ⊥

-- the same of what a handle holds
abbrev pub EventEndsIn : LineEvent → Option HeldMonitor → ℕ → Option HeldMonitor → Type 0
EventEndsIn event None answer after = (answer ≡ number status.NoMachine) × (after ≡ None)
EventEndsIn event (Some m) answer after =
    (ended : Status) × (m' : HeldMonitor) × EventEnds event m ended m' × (answer ≡ number ended) × (after ≡ Some m')

-- as much of the text that waits as there is room for
abbrev pub next_text : ℕ → HeldMonitor → List ℕ
next_text room m = take room m.waiting

-- it is taken off, and what there was no room for waits on
abbrev pub takes_text : ℕ → HeldMonitor → Done HeldMonitor
takes_text room m = record { status = status.Done; machine = record m { waiting = drop room m.waiting } }

abbrev pub writes_text : HeldMonitor → List ℕ → List ℕ
writes_text m room = filled (ended_text (next_text (length room) m) room) room

abbrev pub writes_length : ℕ → HeldMonitor → ℕ → ℕ
writes_length room m count = length (next_text room m)

-- whether somebody was accused, something refused, or of all packets none judged; it is known of no line where the monitor has stopped
abbrev pub wrong_of : HeldMonitor → Option Bool
wrong_of m = if m.listens then Some (is_wrong (listening_of m.line.listener)) else None

abbrev pub asked_status : Option Bool → Status
asked_status None = status.Monitor Stopped
asked_status (Some wrong) = status.Done

abbrev pub asks_wrong : HeldMonitor → Done HeldMonitor
asks_wrong m = record { status = asked_status (wrong_of m); machine = m }

abbrev pub wrong_number : Option Bool → ℕ → ℕ
wrong_number None out = out
wrong_number (Some wrong) out = if wrong then 1 else 0

abbrev pub writes_wrong : HeldMonitor → ℕ → ℕ
writes_wrong m out = wrong_number (wrong_of m) out
