-- Programs in C: their calls, each by the definition that its contract in `osdp_c` cites, and which calls of a line in use they are.
use Rattle.std.specs.Prelude.{◌≡◌, ◌⊎◌, ℕ, Bool, true, false, not, ◌==◌, if◌then◌else◌, List, [], ◌∷◌, map, Option, Some, None, Result, Ok, Err}
use Rattle.arrayvec.specs.ArrayVec.{ArrayVec}
use Rattle.osdp_msg.specs.CommandTable.{command_of}
use Rattle.osdp_msg.specs.NakReasons.{reason_of}
use Rattle.osdp_msg.specs.declared.capability.Capability.{Capability}
use Rattle.osdp_msg.specs.declared.command.Command.{Command}
use Rattle.osdp_msg.specs.declared.event.Event.{Event}
use Rattle.osdp_msg.specs.declared.fault.MsgFault.{MsgFault}
use Rattle.osdp_msg.specs.declared.limits.Room.{Room}
use Rattle.osdp_bus.specs.Buses.{new_bus}
use Rattle.osdp_bus.specs.Machine.{add_refusal, changed_unless}
use Rattle.osdp_bus.specs.declared.config.BusConfig.{BusConfig}
use Rattle.osdp_bus.specs.declared.fault.BusFault.TheVariants as fault
use Rattle.osdp_device.specs.Deciding.{is_asked, pending_of}
use Rattle.osdp_device.specs.Program.{new_program, program_after, program_answer}
use Rattle.osdp_frame.specs.Receiving.{Received, after_silence, after_take, after_tick}
use Rattle.osdp_device.specs.Telling.{next_told}
use Rattle.osdp_device.specs.declared.program.ProgramAnswers.{ProgramAnswers}
use Rattle.osdp_device.specs.declared.question.Question.{Question}
use Rattle.osdp_device.specs.declared.question.Question.TheVariants.{Answered, Asked, NotAsked}
use Rattle.osdp_device.specs.declared.status.DeviceStatus.{DeviceStatus}
use Rattle.osdp_reader.specs.State.{ReaderState}
use Rattle.osdp_reader.specs.declared.handler.Answer.{Answer}
use Rattle.osdp_reader.specs.declared.handler.Answer.TheVariants as answer
use Rattle.osdp_c_values.specs.Clocks.{accepts, new_clock}
use Rattle.osdp_c_values.specs.declared.machine.PanelMachine.{PanelMachine}
use Rattle.osdp_c_values.specs.declared.machine.ReaderMachine.{ReaderMachine}
use Rattle.osdp_c_values.specs.declared.settings.ReaderSettings.{ReaderSettings}
use Rattle.osdp_c_values.specs.declared.states.StateList.{StateList}
use Rattle.osdp_c_values.specs.declared.settings.PanelSettings.{PanelSettings}
use Rattle.osdp_c_values.specs.declared.status.Status.{Status}
use Rattle.osdp_c_values.specs.declared.status.Status.TheVariants as status
use Rattle.osdp_c_values.specs.Statuses.{number}
use Rattle.osdp_c_values.specs.Settings.{bus_config_of, bus_config_with, id_of, limit_of}
use Rattle.osdp_c_values.specs.Addresses.{device_address}
use Rattle.osdp_c_values.specs.Calls.{Done, IsDone, frees}
use Rattle.osdp_c_values.specs.Panels as panel
use Rattle.osdp_c_values.specs.Readers as reader
use Rattle.osdp_calls.specs.Calls.{Call, NewDevice, Next, Pending, SetBusy, SetHandler, Silence, SubmitEvent, Take, TickDevice, LapseEvent, WithdrawEvent}
use Rattle.osdp_calls.specs.Sayings.{NoneRefused}
use Rattle.osdp_panel.specs.Panels.{after_add_at, panel_config}
use Rattle.osdp_panel_laws.specs.Calls as calls
use Rattle.osdp_calls_instance.specs.OwnCalls.{ArePanelCalls, DeviceKind, PanelKind}
use Rattle.osdp_calls_instance.specs.Panels.{Calls, FirstEntry, HandleKind, MadeAnew, PanelUse, addresses_of, by_panel}
use Rattle.osdp_calls_instance.specs.Panels as panels

-- ---- a panel

-- the calls of a panel's handle: of a text what was read of it, and `Looks` for each call that only tells something. `Adds` is an `osdp_panel_add` that
-- finds memory. Made anew: freed, made with these settings and with this limit of its clock, and its devices added, all done.
pub data PanelCall : Type 0 where
  Begin : ℕ → ℕ → PanelCall
  Submit : ℕ → ℕ → List ℕ → ℕ → PanelCall
  SubmitText : ℕ → Option Command → ℕ → PanelCall
  Withdraw : ℕ → PanelCall
  Retarget : ℕ → ℕ → PanelCall
  Bytes : List ℕ → ℕ → PanelCall
  PanelSilence : ℕ → PanelCall
  PanelTick : ℕ → PanelCall
  PanelWrite : ℕ → PanelCall
  NextReport : PanelCall
  SetPanelMoment : ℕ → PanelCall
  LooksAt : ℕ → PanelCall
  LooksAtNumber : ℕ → PanelCall
  Looks : PanelCall
  Adds : ℕ → ℕ → PanelCall
  PanelAnew : BusConfig → ℕ → List FirstEntry → PanelCall

-- a panel that was made with these settings, and to which these devices were added
abbrev pub panel_made : BusConfig → ℕ → List FirstEntry → PanelMachine
panel_made config limit entries = record { panel = panels.panel_made config entries; clock = new_clock limit; turn = [] }

-- a device is added, or refused
abbrev pub adds : ℕ → ℕ → PanelMachine → Done PanelMachine
adds address next m = record {
  status = panel.status_of (add_refusal address m.panel.bus);
  machine = record m { panel = changed_unless (add_refusal address m.panel.bus) m.panel (after_add_at address next m.panel) };
}

-- each by its definition
abbrev pub panel_call : PanelCall → PanelMachine → Done PanelMachine
panel_call (Begin entry now) m = panel.at_moment now (panel.on_panel (panel.begins entry now)) m
panel_call (Submit entry code body until) m = panel.on_panel (panel.submits_data entry code body until) m
panel_call (SubmitText entry read until) m = panel.on_panel (panel.submits_text entry read until) m
panel_call (Withdraw entry) m = panel.on_panel (panel.withdraws entry) m
panel_call (Retarget entry address) m = panel.on_panel (panel.retargets entry (device_address address)) m
panel_call (Bytes bytes now) m = panel.at_moment now (panel.on_panel (panel.hears bytes now)) m
panel_call (PanelSilence now) m = panel.at_moment now (panel.on_panel (panel.falls_silent now)) m
panel_call (PanelTick now) m = panel.at_moment now (panel.ticks now) m
panel_call (PanelWrite now) m = panel.at_moment now (panel.on_panel (panel.gives now)) m
panel_call NextReport m = panel.on_panel panel.reports m
panel_call (SetPanelMoment now) m = panel.sets_moment now m
panel_call (LooksAt entry) m = panel.on_panel (panel.looks_at entry) m
panel_call (LooksAtNumber entry) m = panel.on_panel (panel.looks_at_number entry) m
panel_call Looks m = panel.on_panel panel.does m
panel_call (Adds address next) m = adds (device_address address) next m
panel_call (PanelAnew config limit entries) m = record { status = status.Done; machine = panel_made config limit entries }

-- a panel is made anew with entries that can be added as they stand
abbrev pub PanelCallFits : PanelCall → PanelMachine → Type 0
PanelCallFits (PanelAnew config limit entries) m = NoneRefused (addresses_of entries) (new_bus (panel_config config))
PanelCallFits _ m = Unit {0}

-- a call at a moment that is not accepted is none
abbrev pub if_accepted : ℕ → PanelMachine → calls.Call → List PanelUse
if_accepted now m call = if accepts now m.clock then Calls call ∷ [] else []

-- an order, of a command that was read
abbrev pub submitted : ℕ → Option Command → ℕ → List PanelUse
submitted entry None until = []
submitted entry (Some command) until = Calls (calls.Submit entry command until) ∷ []

-- the command that was read of a code and data, if one was
abbrev pub if_read : Result Command MsgFault → Option Command
if_read (Ok command) = Some command
if_read (Err fault) = None

-- which calls of its panel that is: a moment that is set is a read of no bytes
abbrev pub calls_for_c : PanelCall → PanelMachine → List PanelUse
calls_for_c (Begin entry now) m = if_accepted now m (calls.Begin entry now)
calls_for_c (Submit entry code body until) m = submitted entry (if_read (command_of code body)) until
calls_for_c (SubmitText entry read until) m = submitted entry read until
calls_for_c (Withdraw entry) m = Calls (calls.Withdraw entry) ∷ []
calls_for_c (Retarget entry address) m = Calls (calls.Retarget entry (device_address address)) ∷ []
calls_for_c (Bytes bytes now) m = if_accepted now m (calls.Hear bytes now)
calls_for_c (PanelSilence now) m = if_accepted now m (calls.Silence now)
calls_for_c (PanelTick now) m = if_accepted now m (calls.Tick now)
calls_for_c (PanelWrite now) m = if_accepted now m (calls.Write now)
calls_for_c NextReport m = Calls calls.NextReport ∷ []
calls_for_c (SetPanelMoment now) m = Calls (calls.Hear [] now) ∷ []
calls_for_c (LooksAt entry) m = []
calls_for_c (LooksAtNumber entry) m = []
calls_for_c Looks m = []
calls_for_c (Adds address next) m = Calls (calls.Add (device_address address) next) ∷ []
calls_for_c (PanelAnew config limit entries) m = MadeAnew config entries ∷ []

-- the kind of a panel in C holds a panel, and its own calls are those of its handle
abbrev pub c_handle : HandleKind
c_handle = record {
  Program = PanelMachine;
  panel = λ m. m.panel;
  Own = PanelCall;
  after = λ call m. (panel_call call m).machine;
  Fits = PanelCallFits;
  calls = calls_for_c;
}

abbrev pub c_panel : {H : Type 0} → PanelKind H
c_panel = by_panel c_handle

-- what leads to a panel that is made anew: its handle is freed, and the contracts of the call that makes it and of an `osdp_panel_add` for each of these
-- entries are met, each with the answer that it is done
abbrev pub AddsEach : List FirstEntry → Option PanelMachine → Option PanelMachine → Type 0
AddsEach [] m last = last ≡ m
AddsEach (entry ∷ entries) m last =
    (next : Option PanelMachine) × (out : ℕ) × (out' : ℕ)
    × panel.AddsTo (device_address entry.address) entry.next m (number status.Done) next out out' × AddsEach entries next last

-- these entries, at the addresses that these numbers name
abbrev pub at_addresses : List FirstEntry → List FirstEntry
at_addresses entries = map (λ (e : FirstEntry). record e { address = device_address e.address }) entries

-- By a call that makes a panel of such settings: what leads to a panel made anew comes to the panel that `panel_made` has, by a call that fits.
abbrev pub MakesAnewBy : (PanelSettings → Option BusConfig) → (PanelSettings → Option PanelMachine → ℕ → Option PanelMachine → Type 0) → Type 0
MakesAnewBy config_of NewEnds = (settings : PanelSettings) (m : PanelMachine) (freed made last : Option PanelMachine) (entries : List FirstEntry)
    → IsDone (frees (Some m)) (number status.Done) freed → NewEnds settings freed (number status.Done) made → AddsEach entries made last
    → (config : BusConfig) × (config_of settings ≡ Some config) × PanelCallFits (PanelAnew config (limit_of settings.clock_limit) (at_addresses entries)) m
    × (last ≡ Some (panel_made config (limit_of settings.clock_limit) (at_addresses entries)))

-- by the call that makes it with room for each command, and by the one with room for so many bytes of them
pub record MakesAnew : Type 0 where
  pub each : MakesAnewBy bus_config_of panel.NewPanelEnds
  pub bytes : (bytes : ℕ) → MakesAnewBy (bus_config_with bytes) (panel.NewPanelWith bytes)

-- an `osdp_panel_add` to a panel in use is `Adds`, or it finds no memory and leaves the panel as it is
abbrev pub AddsInUse : Type 0
AddsInUse = (address first : ℕ) (m : PanelMachine) (answer : ℕ) (next : Option PanelMachine) (out out' : ℕ)
    → panel.AddsTo (device_address address) first (Some m) answer next out out'
    → let done = panel_call (Adds address first) m in
    ((answer ≡ number done.status) × (next ≡ Some done.machine)) ⊎ ((answer ≡ number (status.Panel fault.NoMemory)) × (next ≡ Some m))

-- ---- a device

-- the calls of a device's handle: of a text, or of a code and data, what was read of it, and `LooksIn` for each call that only tells something. Made
-- anew: freed, and made with this room for events, these settings and what it can do, which may be those of another model.
pub data DeviceCall : Type 0 where
  SetStates : StateList → List ℕ → DeviceCall
  SetLocal : ℕ → ℕ → DeviceCall
  SetBusyTo : ℕ → DeviceCall
  Happens : Result Event Status → DeviceCall
  HappensText : Option Event → DeviceCall
  TakesBytes : List ℕ → ℕ → DeviceCall
  DeviceTick : ℕ → DeviceCall
  DeviceSilence : ℕ → DeviceCall
  SetDeviceMoment : ℕ → DeviceCall
  LooksAhead : DeviceCall
  AnswerDone : DeviceCall
  AnswerLocal : ℕ → ℕ → DeviceCall
  AnswerList : List ℕ → DeviceCall
  AnswerRefused : ℕ → DeviceCall
  AnswerMaker : List ℕ → List ℕ → DeviceCall
  WithdrawsEvent : DeviceCall
  LapsesEvent : DeviceCall
  ExpiresEvent : (now limit : ℕ) → DeviceCall
  LooksIn : DeviceCall
  DeviceMade : Room → ReaderSettings → ArrayVec Capability → DeviceCall

-- each by its definition
abbrev pub device_call : DeviceCall → ReaderMachine → Done ReaderMachine
device_call (SetStates which states) m = reader.sets_states which states m
device_call (SetLocal tamper power) m = reader.sets_local tamper power m
device_call (SetBusyTo busy) m = reader.sets_busy busy m
device_call (Happens read) m = reader.submits_read read m
device_call (HappensText read) m = reader.submits_text read m
device_call (TakesBytes bytes now) m = reader.at_moment now (reader.steps bytes now) m
device_call (DeviceTick now) m = reader.at_moment now (reader.ticks now) m
device_call (DeviceSilence now) m = reader.at_moment now (reader.falls_silent now) m
device_call (SetDeviceMoment now) m = reader.sets_moment now m
device_call LooksAhead m = reader.looks m
device_call AnswerDone m = reader.answers_done m
device_call (AnswerLocal tamper power) m = reader.answers_local tamper power m
device_call (AnswerList states) m = reader.answers_list states m
device_call (AnswerRefused reason) m = reader.answers_refused reason m
device_call (AnswerMaker vendor bytes) m = reader.answers_maker vendor bytes m
device_call WithdrawsEvent m = reader.withdraws_event m
device_call LapsesEvent m = reader.lapses_event m
device_call (ExpiresEvent now limit) m = reader.at_moment now (reader.expires_event now limit) m
device_call LooksIn m = reader.does m
device_call (DeviceMade room settings caps) m = reader.does (reader.new_machine_in room settings caps)

-- the handler is another
abbrev pub told_status : ℕ → DeviceStatus → ReaderMachine → List (Call ProgramAnswers)
told_status k told m = SetHandler k (record m.device.reader.handler { status = told }) ∷ []

-- .. with these states, where they could be read
abbrev pub told_states : ℕ → StateList → Option (ArrayVec ℕ) → ReaderMachine → List (Call ProgramAnswers)
told_states k which None m = []
told_states k which (Some states) m = told_status k (reader.with_states which states m.device.reader.handler.status) m

-- the event that was read, if one was
abbrev pub event_read : Result Event Status → Option Event
event_read (Ok event) = Some event
event_read (Err refused) = None

-- an event that was read is submitted
abbrev pub event_calls : ℕ → Option Event → List (Call ProgramAnswers)
event_calls k None = []
event_calls k (Some event) = SubmitEvent k event ∷ []

-- what is said to the command that the program was asked about
abbrev pub answer_calls : ℕ → Option Answer → ReaderMachine → List (Call ProgramAnswers)
answer_calls k None m = []
answer_calls k (Some answer) m =
    if is_asked m.device.reader.handler.question then SetHandler k (record m.device.reader.handler { question = Answered answer }) ∷ [] else []

-- what is held of a line is read up to the first packet that is answered, or to a command about which the program has not been asked yet
abbrev pub settles_by : ℕ → Question → Option Command → ReaderState ProgramAnswers → Received → List (Call ProgramAnswers)
settles_by k NotAsked (Some command) r l = Pending k ∷ SetHandler k (record r.handler { question = Asked }) ∷ []
settles_by k _ _ r l = Next k ∷ SetHandler k (record (next_told program_answer program_after r l.held).reader.handler { question = NotAsked }) ∷ []

-- .. by the question that the program has had, and the command that is pending on this line
abbrev pub settle_calls : ℕ → ReaderMachine → Received → List (Call ProgramAnswers)
settle_calls k m l = settles_by k m.device.reader.handler.question (pending_of m.device.reader l.held) m.device.reader l

-- the oldest event leaves where it is too old: it lapses where it was ever offered, and is taken back where not
abbrev pub leaving_call : ℕ → Bool → Call ProgramAnswers
leaving_call k true = LapseEvent k
leaving_call k false = WithdrawEvent k

-- .. and none leaves where none is too old
abbrev pub expiry_calls : ℕ → Bool → Bool → List (Call ProgramAnswers)
expiry_calls k expires ever_offered = if expires then leaving_call k ever_offered ∷ [] else []

-- a call at a moment that is not accepted is none
abbrev pub if_seen : ℕ → ReaderMachine → List (Call ProgramAnswers) → List (Call ProgramAnswers)
if_seen now m calls = if accepts now m.clock then calls else []

-- which calls that is
abbrev pub device_calls : ℕ → DeviceCall → ReaderMachine → List (Call ProgramAnswers)
device_calls k (SetStates which states) m = told_states k which (reader.states_of states) m
device_calls k (SetLocal tamper power) m = told_status k (record m.device.reader.handler.status { tamper = tamper; power = power }) m
device_calls k (SetBusyTo busy) m = SetBusy k (not (busy == 0)) ∷ []
device_calls k (Happens read) m = event_calls k (event_read read)
device_calls k (HappensText read) m = event_calls k read
device_calls k (TakesBytes bytes now) m = if_seen now m (Take k bytes now ∷ settle_calls k m (after_take bytes now m.device.line))
device_calls k (DeviceTick now) m = if_seen now m (TickDevice k now ∷ settle_calls k m (after_tick now m.device.line))
device_calls k (DeviceSilence now) m = if_seen now m (Silence k now ∷ settle_calls k m (after_silence now m.device.line))
device_calls k (SetDeviceMoment now) m = Take k [] now ∷ []
device_calls k LooksAhead m = Pending k ∷ []
device_calls k AnswerDone m = answer_calls k (Some answer.Done) m
device_calls k (AnswerLocal tamper power) m = answer_calls k (Some (answer.Local tamper power)) m
device_calls k (AnswerList states) m = answer_calls k (reader.list_answer states) m
device_calls k (AnswerRefused reason) m = answer_calls k (Some (answer.Refuse (reason_of reason))) m
device_calls k (AnswerMaker vendor bytes) m = answer_calls k (reader.maker_answer vendor bytes) m
device_calls k WithdrawsEvent m = WithdrawEvent k ∷ []
device_calls k LapsesEvent m = LapseEvent k ∷ []
device_calls k (ExpiresEvent now limit) m = if_seen now m (expiry_calls k (reader.is_expired now limit m) m.device.reader.queue.ever_offered)
device_calls k LooksIn m = []
device_calls k (DeviceMade room settings caps) m =
    NewDevice k (record { address = settings.address; id = id_of settings; caps = caps }) new_program room settings.gap ∷ []

-- the kind of a device in C: its own calls are those of its handle, and each of them fits
abbrev pub c_device : DeviceKind ProgramAnswers
c_device = record {
  Program = ReaderMachine;
  held = λ m. record { reader = m.device.reader; line = m.device.line };
  Sound = λ m. Unit {0};
  Own = DeviceCall;
  after = λ call m. (device_call call m).machine;
  Fits = λ call d. Unit {0};
  calls = device_calls;
}

-- what calls for C are to a panel, beside any devices
abbrev pub PanelCallsAreCalls : Type 0 → Type 0
PanelCallsAreCalls H = ArePanelCalls (c_panel {H = H})
