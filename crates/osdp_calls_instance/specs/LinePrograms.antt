-- Programs by lines: a panel that `osdp panel` runs and devices that `osdp reader` runs, and which calls of a line in use their lines are.
use Rattle.std.specs.Prelude.{◌≡◌, ℕ, suc, zero, ◌≤◌, List, [], ◌∷◌, ◌++◌, drop, length, map, Option, Some, None}
use Rattle.osdp_device.specs.declared.events.Expired.{Expired}
use Rattle.osdp_device.specs.declared.events.Expired.TheVariants.{Withdrawn, InDoubt}
use Rattle.osdp_msg.specs.declared.command.Command.{Command}
use Rattle.osdp_bus.specs.Buses.{new_bus}
use Rattle.osdp_bus.specs.declared.config.BusConfig.{BusConfig}
use Rattle.osdp_device.specs.Hearing.{reads_all, turns_left}
use Rattle.osdp_frame.specs.Receiving.{IsAllRead, IsReceived, Received, after_silence, after_take, after_tick, count_taken}
use Rattle.osdp_device.specs.Status.{new_status, status_after, status_answer}
use Rattle.osdp_device.specs.Telling.{items_of, said_to_all}
use Rattle.osdp_device.specs.declared.status.DeviceStatus.{DeviceStatus}
use Rattle.osdp_line_answers.specs.Answers.{Speaks}
use Rattle.osdp_line_calls.specs.PanelLines as panel_lines
use Rattle.osdp_line_calls.specs.PanelSessions as panel
use Rattle.osdp_line_calls.specs.Runs.{IsPanelOf}
use Rattle.osdp_line_calls.specs.ReaderAbsence.{lets_go}
use Rattle.osdp_line_calls.specs.ReaderCalls.{CallFits}
use Rattle.osdp_line_calls.specs.ReaderLines as device_lines
use Rattle.osdp_line_calls.specs.ReaderSessions as device
use Rattle.osdp_msg.specs.Limits.{room_for}
use Rattle.osdp_line_calls.specs.declared.panel_call.PanelCall.{PanelCall}
use Rattle.osdp_line_calls.specs.declared.panel_call.PanelCall.TheVariants.{Add}
use Rattle.osdp_line_calls.specs.declared.reader_call.ReaderCall.{ReaderCall}
use Rattle.osdp_line_calls.specs.declared.reader_call.ReaderCall.TheVariants as line
use Rattle.osdp_line_calls.specs.Calls.{AreSaid}
use Rattle.osdp_line_calls.specs.PanelCalls as to_panel
use Rattle.osdp_line_calls.specs.ReaderCalls as to_device
use Rattle.osdp_line_laws.specs.PanelLines as panel_lines_laws
use Rattle.osdp_line_laws.specs.PanelRuns as panel_runs
use Rattle.osdp_line_laws.specs.ReaderRuns as device_runs
use Rattle.osdp_reader.specs.State.{ReaderState}
use Rattle.osdp_reader.specs.declared.config.ReaderConfig.{ReaderConfig}
use Rattle.osdp_reader.specs.declared.handler.Answer.{Answer}
use Rattle.osdp_calls.specs.Calls.{Call, NewDevice, Next, SetBusy, SetHandler, Silence, SubmitEvent, Take, TickDevice, LapseEvent, WithdrawEvent}
use Rattle.osdp_calls.specs.Sayings.{NoneRefused}
use Rattle.osdp_calls_instance.specs.OwnCalls.{ArePanelCalls, DeviceKind, PanelKind}
use Rattle.osdp_calls_instance.specs.Panels.{Calls, FirstEntry, HandleKind, MadeAnew, PanelUse, addresses_of, by_panel}
use Rattle.osdp_panel.specs.Panels.{panel_config}

-- ---- a panel

-- a line, as the call that it says, or none; or the panel is run anew with these settings, and its first lines add these entries. A POLL stands between
-- any two orders of a device, whatever the settings are
pub data PanelLine : Type 0 where
  SaysToPanel : Option PanelCall → PanelLine
  PanelAnew : BusConfig → List FirstEntry → PanelLine

-- a session after lines that add these entries
abbrev pub after_adds : List FirstEntry → panel.Session → panel.Session
after_adds [] s = s
after_adds (entry ∷ entries) s = after_adds entries (panel_runs.after_said (Some (Add entry.address entry.next)) s)

-- a session after a line
abbrev pub after_panel_line : PanelLine → panel.Session → panel.Session
after_panel_line (SaysToPanel said) s = panel_runs.after_said said s
after_panel_line (PanelAnew config entries) s = after_adds entries (panel.new_session config)

-- a panel may be run anew with entries that can be added as they stand
abbrev pub PanelLineFits : PanelLine → panel.Session → Type 0
PanelLineFits (SaysToPanel said) s = Unit {0}
PanelLineFits (PanelAnew config entries) s = NoneRefused (addresses_of entries) (new_bus (panel_config config))

-- which calls of its panel that is: a line that says a call is that one, and then each report that waits is taken; a panel that is run anew is one that is made anew
abbrev pub calls_by_lines : PanelLine → panel.Session → List PanelUse
calls_by_lines (SaysToPanel None) s = []
calls_by_lines (SaysToPanel (Some call)) s = map Calls (panel_lines_laws.calls_of call s)
calls_by_lines (PanelAnew config entries) s = MadeAnew config entries ∷ []

-- the kind of a panel by lines holds a panel, and its own calls are its lines
abbrev pub line_handle : HandleKind
line_handle = record {
  Program = panel.Session;
  panel = λ s. s.panel;
  Own = PanelLine;
  after = after_panel_line;
  Fits = PanelLineFits;
  calls = calls_by_lines;
}

abbrev pub line_panel : {H : Type 0} → PanelKind H
line_panel = by_panel line_handle

-- ---- a device

-- a line, as the call that it says, or none; or the device is run anew with these settings, with this room for events and this gap, be it the same or
-- another model in its place
pub data DeviceLine : Type 0 where
  SaysToDevice : Option ReaderCall → DeviceLine
  DeviceAnew : ReaderConfig → ℕ → ℕ → DeviceLine

-- a session after a line
abbrev pub after_device_line : DeviceLine → device.Session → device.Session
after_device_line (SaysToDevice said) s = device_runs.after_said said s
after_device_line (DeviceAnew config room gap) s = device.new_session config room gap s.absence

-- the events that leave by a line since they are too old at its moment
abbrev pub leaving : device.Session → List Expired
leaving s = (lets_go s.now s.absence.expire s.reader s.ages).expired

-- .. a line that tells a moment, and no other
abbrev pub leaving_by : ReaderCall → device.Session → List Expired
leaving_by (line.At later) s = leaving (device.comes later s)
leaving_by _ s = []

-- the words of a line are in their ranges, and a device is run anew with a gap of a millisecond at least
abbrev pub DeviceLineFits : DeviceLine → device.Session → Type 0
DeviceLineFits (SaysToDevice None) s = Unit {0}
DeviceLineFits (SaysToDevice (Some call)) s = CallFits call
DeviceLineFits (DeviceAnew config room gap) s = 1 ≤ gap

module _ {H : Type 0} where
  -- `next` is called until nothing is said
  abbrev pub nexts : ℕ → ℕ → List (Call H)
  nexts k zero = Next k ∷ []
  nexts k (suc more) = Next k ∷ nexts k more

  -- it goes on while bytes are left
  abbrev pub unless_done : List ℕ → List (Call H) → List (Call H)
  unless_done [] calls = []
  unless_done (byte ∷ bytes) calls = calls

  module _ (answer_of : H → Command → Answer) (after : H → Command → H) where
    -- .. of what is held on this line
    abbrev pub reading : ℕ → ReaderState H → Received → List (Call H)
    reading k r l = nexts k (length (said_to_all answer_of after (items_of l.held) r))

    -- As many bytes are taken as there is room for, and what is held is read. So it goes on with the bytes that were not taken, in so many turns
    -- at most.
    abbrev pub handing : ℕ → ℕ → List ℕ → ℕ → ReaderState H → Received → List (Call H)
    handing zero k bytes now r l = []
    handing (suc turns) k bytes now r l =
        let rest = drop (count_taken bytes now l) bytes in
        let read = reads_all answer_of after r (after_take bytes now l) in
        Take k bytes now ∷ (reading k r (after_take bytes now l) ++ unless_done rest (handing turns k rest now read.reader read.line))

-- each event that leaves is a call of its own: one that was never offered is taken back, and one that is in doubt lapses
abbrev pub leaving_call : ℕ → Expired → Call DeviceStatus
leaving_call k (Withdrawn event) = WithdrawEvent k
leaving_call k (InDoubt event) = LapseEvent k

-- .. of all that leave
abbrev pub leaving_calls : ℕ → List Expired → List (Call DeviceStatus)
leaving_calls k gone = map (leaving_call k) gone

-- which calls that is
abbrev pub calls_of_line : ℕ → ReaderCall → device.Session → List (Call DeviceStatus)
calls_of_line k (line.At later) s = leaving_calls k (leaving_by (line.At later) s)
calls_of_line k (line.Bytes list) s =
    handing status_answer status_after (suc (turns_left list.items s.now s.line)) k list.items s.now s.reader s.line
calls_of_line k line.Silence s = Silence k s.now ∷ reading status_answer status_after k s.reader (after_silence s.now s.line)
calls_of_line k line.Tick s = TickDevice k s.now ∷ reading status_answer status_after k s.reader (after_tick s.now s.line)
calls_of_line k (line.Event event) s = SubmitEvent k event ∷ []
calls_of_line k (line.Busy busy) s = SetBusy k busy ∷ []
calls_of_line k (line.Inputs list) s = SetHandler k (record s.reader.handler { inputs = list }) ∷ []
calls_of_line k (line.Outputs list) s = SetHandler k (record s.reader.handler { outputs = list }) ∷ []
calls_of_line k (line.Readers list) s = SetHandler k (record s.reader.handler { readers = list }) ∷ []
calls_of_line k (line.Local tamper power) s = SetHandler k (record s.reader.handler { tamper = tamper; power = power }) ∷ []

-- .. of any line; and a device that is run anew is one that is made anew
abbrev pub device_line_calls : ℕ → DeviceLine → device.Session → List (Call DeviceStatus)
device_line_calls k (SaysToDevice None) s = []
device_line_calls k (SaysToDevice (Some call)) s = calls_of_line k call s
device_line_calls k (DeviceAnew config room gap) s = NewDevice k config new_status (room_for room) gap ∷ []

-- the kind of a device by lines: its own calls are its lines, and after each of them all that came in is read
abbrev pub line_device : DeviceKind DeviceStatus
line_device = record {
  Program = device.Session;
  held = λ s. record { reader = s.reader; line = s.line };
  Sound = λ s. IsAllRead s.line × IsReceived s.line;
  Own = DeviceLine;
  after = after_device_line;
  Fits = DeviceLineFits;
  calls = device_line_calls;
}

-- ---- lines as they are written

-- What a run of lines leaves, from a panel or a device that is there on, is what the calls leave that these lines say.
abbrev pub after_panel_lines : List (Option PanelCall) → panel.Session → panel.Session
after_panel_lines [] s = s
after_panel_lines (said ∷ more) s = after_panel_lines more (after_panel_line (SaysToPanel said) s)

-- .. and of lines to a device
abbrev pub after_device_lines : List (Option ReaderCall) → device.Session → device.Session
after_device_lines [] s = s
after_device_lines (said ∷ more) s = after_device_lines more (after_device_line (SaysToDevice said) s)

-- a run of lines that `osdp panel` or `osdp reader` has answered says calls in their ranges, and leaves what these calls leave
pub record LinesAreThese : Type 0 where
  pub panel : (first last : panel.Session) (lines : List (List ℕ)) (text : List ℕ) → Speaks panel_lines.Answers first lines text last
      → (said : List (Option PanelCall)) × AreSaid to_panel.call_words to_panel.CallFits lines said × (last ≡ after_panel_lines said first)
  pub device : (first last : device.Session) (lines : List (List ℕ)) (text : List ℕ) → Speaks device_lines.Answers first lines text last
      → (said : List (Option ReaderCall)) × AreSaid to_device.call_words to_device.CallFits lines said × (last ≡ after_device_lines said first)

-- what `osdp panel` runs by any words is a panel that is run anew, without entries
abbrev pub PanelsRunAnew : Type 0
PanelsRunAnew = (given : List (List ℕ)) (first s : panel.Session) → IsPanelOf given first
    → (config : BusConfig) × (first ≡ after_panel_line (PanelAnew config []) s)

-- what lines are to a panel beside any devices, and to a device
abbrev pub PanelLinesAreCalls : Type 0 → Type 0
PanelLinesAreCalls H = ArePanelCalls (line_panel {H = H})
