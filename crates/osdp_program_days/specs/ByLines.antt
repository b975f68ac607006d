-- That day by lines: which lines a panel of `osdp panel` and two devices of `osdp reader` are given. Each line of a call comes after one of its moment.
use Rattle.std.specs.Prelude.{ℕ, false, List, [], ◌∷◌, ◌++◌, flat_map, Some}
use Rattle.osdp_device.specs.Status.{new_status, status_after, status_answer}
use Rattle.osdp_line_calls.specs.PanelSessions as panel_sessions
use Rattle.osdp_line_calls.specs.ReaderSessions as device_sessions
use Rattle.osdp_line_calls.specs.declared.panel_call.PanelCall.{PanelCall}
use Rattle.osdp_line_calls.specs.declared.panel_call.PanelCall.TheVariants as to_panel
use Rattle.osdp_line_calls.specs.declared.reader_absence.Absence.{Absence}
use Rattle.osdp_line_calls.specs.declared.reader_call.ReaderCall.{ReaderCall}
use Rattle.osdp_line_calls.specs.declared.reader_call.ReaderCall.TheVariants as to_device
use Rattle.osdp_calls_instance.specs.LinePrograms.{DeviceAnew, PanelAnew, SaysToDevice, SaysToPanel, after_adds, line_device, line_panel}
use Rattle.osdp_calls_instance.specs.OwnCalls.{AtDevice, AtPanel, Programs}
use Rattle.osdp_premises.specs.LongDay.{device_at, key, twice}
use Rattle.osdp_program_days.specs.Days.{DayKeeps, Made}
use Rattle.osdp_program_days.specs.Happening.{Begins, DeviceDoes, DeviceHears, DeviceIsMadeAnew, GetsOneMore, Happening, HasOutput, Hears, IsBusy, IsMadeAnew, KeyIsPressed, LetsOldGo, Orders, SeesSilence, Sends, TakesBack, day, first_at}

-- while the panel is gone, events leave that are older than a second, and nothing is told of the panel
abbrev pub second : Absence
second = record { expire = 1000; told = false }

-- a panel whose third entry is a device of another make, and two devices
abbrev pub programs : Programs line_panel line_device
programs = record {
  panel = after_adds (first_at 3 ∷ first_at 4 ∷ first_at 20 ∷ []) (panel_sessions.new_session twice);
  devices = device_sessions.new_session (device_at 3) 4 20 second ∷ device_sessions.new_session (device_at 4) 4 20 second ∷ [];
}

-- a line to the panel, with the places of what is read then
abbrev pub panel : PanelCall → List ℕ → Made line_panel line_device
panel call places = record { own = AtPanel (SaysToPanel (Some call)); places = places }

-- .. and one to a device
abbrev pub device : ℕ → ReaderCall → List ℕ → Made line_panel line_device
device k call places = record { own = AtDevice k (SaysToDevice (Some call)); places = places }

-- a line to the panel at this moment
abbrev pub panel_at : ℕ → PanelCall → List ℕ → List (Made line_panel line_device)
panel_at now call places = panel (to_panel.At now) [] ∷ panel call places ∷ []

-- .. and one to a device
abbrev pub device_at_moment : ℕ → ℕ → ReaderCall → List ℕ → List (Made line_panel line_device)
device_at_moment now k call places = device k (to_device.At now) [] ∷ device k call places ∷ []

-- the lines by which something happens
abbrev pub by_lines : Happening → List (Made line_panel line_device)
by_lines (Begins entry now) = panel_at now (to_panel.Begin entry) []
by_lines (Orders entry command until) = panel (to_panel.Submit entry until command) [] ∷ []
by_lines (TakesBack entry) = panel (to_panel.Withdraw entry) [] ∷ []
by_lines (Sends now) = panel_at now to_panel.Tick [] ++ panel to_panel.Write [] ∷ []
by_lines (Hears bytes now places) = panel_at now (to_panel.Bytes (record { items = bytes })) places ++ panel to_panel.Tick [] ∷ []
by_lines (IsMadeAnew entries) = record { own = AtPanel (PanelAnew twice entries); places = [] } ∷ []
by_lines (GetsOneMore address next) = panel (to_panel.Add address next) [] ∷ []
by_lines (HasOutput k) = device k (to_device.Outputs (record { items = 0 ∷ [] })) [] ∷ []
by_lines (DeviceHears k bytes now places) = device_at_moment now k (to_device.Bytes (record { items = bytes })) places
by_lines (DeviceDoes k bytes now places) = device_at_moment now k (to_device.Bytes (record { items = bytes })) places
by_lines (SeesSilence k now) = device_at_moment now k to_device.Silence []
by_lines (KeyIsPressed k) = device k (to_device.Event key) [] ∷ []
by_lines (IsBusy k busy) = device k (to_device.Busy busy) [] ∷ []
by_lines (LetsOldGo k now) = device k (to_device.At now) [] ∷ []
by_lines (DeviceIsMadeAnew k address) = record { own = AtDevice k (DeviceAnew (device_at address) 4 20); places = [] } ∷ []

-- .. the whole day
abbrev pub day_by_lines : List (Made line_panel line_device)
day_by_lines = flat_map by_lines day

-- the day by lines keeps the premises, and comes to what `DayKeeps` has
abbrev pub DayByLinesKeeps : Type 0
DayByLinesKeeps = DayKeeps line_panel line_device status_answer status_after day_by_lines programs new_status
