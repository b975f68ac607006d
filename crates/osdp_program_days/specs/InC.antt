-- That day in C: which calls of the handles of a panel and of two devices are made.
use Rattle.std.specs.Prelude.{ℕ, false, if◌then◌else◌, List, [], ◌∷◌, flat_map, Some, Ok}
use Rattle.osdp_c_values.specs.Readers.{new_machine_in}
use Rattle.osdp_c_values.specs.declared.machine.ReaderMachine.{ReaderMachine}
use Rattle.osdp_c_values.specs.declared.settings.ReaderSettings.{ReaderSettings}
use Rattle.osdp_c_values.specs.declared.states.StateList.TheVariants.{Outputs}
use Rattle.osdp_device.specs.Program.{new_program, program_after, program_answer}
use Rattle.osdp_calls_instance.specs.CPrograms.{Adds, AnswerDone, Begin, Bytes, DeviceCall, DeviceMade, DeviceSilence, DeviceTick, ExpiresEvent, Happens, NextReport, PanelAnew, PanelCall, PanelTick, PanelWrite, SetBusyTo, SetStates, SubmitText, TakesBytes, Withdraw, c_device, c_panel, panel_made}
use Rattle.osdp_calls_instance.specs.OwnCalls.{AtDevice, AtPanel, Programs}
use Rattle.osdp_premises.specs.LongDay.{four, key, twice}
use Rattle.osdp_program_days.specs.Days.{DayKeeps, Made}
use Rattle.osdp_program_days.specs.Happening.{Begins, DeviceDoes, DeviceHears, DeviceIsMadeAnew, GetsOneMore, Happening, HasOutput, Hears, IsBusy, IsMadeAnew, KeyIsPressed, LetsOldGo, Orders, SeesSilence, Sends, TakesBack, day, first_at}

-- a device at this address, by the settings of the call that makes it
abbrev pub settings_at : ℕ → ReaderSettings
settings_at address = record {
  address = address;
  capacity = 4;
  gap = 20;
  serial = 6;
  clock_limit = 0;
  product = record { vendor = 1 ∷ 2 ∷ 3 ∷ []; model = 4; version = 5; firmware_major = 7; firmware_minor = 8; firmware_build = 9 };
}

-- a device that was made by this call at this address
abbrev pub device_at : ℕ → ReaderMachine
device_at address = new_machine_in four (settings_at address) (record { items = [] })

-- how far a moment may lie after the one before, in milliseconds
abbrev pub minute : ℕ
minute = 60000

-- a panel whose third entry is a device of another make, and two devices
abbrev pub programs : Programs c_panel c_device
programs = record {
  panel = panel_made twice minute (first_at 3 ∷ first_at 4 ∷ first_at 20 ∷ []);
  devices = device_at 3 ∷ device_at 4 ∷ [];
}

-- a call of the panel's handle, with the places of what is read then
abbrev pub panel : PanelCall → List ℕ → Made c_panel c_device
panel call places = record { own = AtPanel call; places = places }

-- .. and one of the handle of a device
abbrev pub device : ℕ → DeviceCall → List ℕ → Made c_panel c_device
device k call places = record { own = AtDevice k call; places = places }

-- the calls for C by which something happens
abbrev pub in_c : Happening → List (Made c_panel c_device)
in_c (Begins entry now) = panel (Begin entry now) [] ∷ []
in_c (Orders entry command until) = panel (SubmitText entry (Some command) until) [] ∷ []
in_c (TakesBack entry) = panel (Withdraw entry) [] ∷ []
in_c (Sends now) = panel (PanelTick now) [] ∷ panel (PanelWrite now) [] ∷ panel NextReport [] ∷ []
in_c (Hears bytes now places) = panel (Bytes bytes now) places ∷ panel NextReport [] ∷ panel (PanelTick now) [] ∷ []
in_c (IsMadeAnew entries) = panel (PanelAnew twice minute entries) [] ∷ []
in_c (GetsOneMore address next) = panel (Adds address next) [] ∷ []
in_c (HasOutput k) = device k (SetStates Outputs (0 ∷ [])) [] ∷ []
in_c (DeviceHears k bytes now places) = device k (TakesBytes bytes now) places ∷ []
in_c (DeviceDoes k bytes now places) = device k (TakesBytes bytes now) [] ∷ device k AnswerDone [] ∷ device k (DeviceTick now) places ∷ []
in_c (SeesSilence k now) = device k (DeviceSilence now) [] ∷ []
in_c (KeyIsPressed k) = device k (Happens (Ok key)) [] ∷ []
in_c (IsBusy k busy) = device k (SetBusyTo (if busy then 1 else 0)) [] ∷ []
in_c (LetsOldGo k now) = device k (ExpiresEvent now 1000) [] ∷ []
in_c (DeviceIsMadeAnew k address) = device k (DeviceMade four (settings_at address) (record { items = [] })) [] ∷ []

-- .. the whole day
abbrev pub day_in_c : List (Made c_panel c_device)
day_in_c = flat_map in_c day

-- the day in C keeps the premises, and comes to what `DayKeeps` has
abbrev pub DayInCKeeps : Type 0
DayInCKeeps = DayKeeps c_panel c_device program_answer program_after day_in_c programs new_program
