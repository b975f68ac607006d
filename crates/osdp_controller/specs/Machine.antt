-- What a controller is to its callers.
use Rattle.std.specs.Prelude.{◌≡◌, ◌≢◌, ℕ, ◌+◌, ◌-◌, ◌*◌, ◌≤◌, Bool, true, false, nat_le, nat_lt, if◌then◌else◌, max, All, List, [], ◌∷◌, ◌++◌, drop, length, slice_get, Option, Some, None, is_some, IfSome, ◌&&◌, ◌||◌, Result, Ok, Err}
use Rattle.std.specs.Option.{option_map_or}
use Rattle.osdp_frame.specs.Packet.{Packet}
use Rattle.osdp_msg.specs.CommandTable.{command_code, command_data}
use Rattle.osdp_msg.specs.Limits.{most_data, most_waiting}
use Rattle.osdp_msg.specs.declared.command.Command.{Command}
use Rattle.osdp_msg.specs.declared.command.Command.TheVariants.{Poll}
use Rattle.osdp_controller.specs.declared.config.ControllerConfig.{ControllerConfig}
use Rattle.osdp_controller.specs.declared.exchange.Exchange.TheVariants.{Opening}
use Rattle.osdp_controller.specs.declared.exchange.Outstanding.{Outstanding}
use Rattle.osdp_controller.specs.declared.fault.ControllerFault.{ControllerFault}
use Rattle.osdp_controller.specs.declared.fault.ControllerFault.TheVariants.{NoMemory, OutOfRange, Full, PollSubmitted, NotClosed}
use Rattle.osdp_controller.specs.declared.session.Session.{Session}
use Rattle.osdp_controller.specs.declared.state.State.{State}
use Rattle.osdp_controller.specs.declared.state.State.TheVariants.{Closed, Quiet, Idle, Waiting, Pausing}
use Rattle.osdp_controller.specs.Exchanges.{submitted_command}
use Rattle.osdp_controller.specs.Held.{on_its_way}
use Rattle.osdp_controller.specs.Settings.{IsConfig}
use Rattle.osdp_controller.specs.Sessions.{later, new_session, seen}
use Rattle.osdp_controller.specs.Ticking.{Step, ticks}
use Rattle.osdp_controller.specs.Hearing.{hears}

-- the session, the commands that wait in their order, how many there may be, and for how many bytes there is room
pub record Machine : Type 0 where
  pub session : Session
  pub waiting : List Command
  pub capacity : ℕ
  pub room : ℕ

-- the settings and the room for waiting commands are in their ranges
pub record AreSettings (config : ControllerConfig) (capacity together : ℕ) : Type 0 where
  pub config_in_range : IsConfig config
  pub room : 1 ≤ capacity
  pub limit : capacity ≤ most_waiting
  pub bytes : (1 ≤ together) × (together ≤ most_waiting * (1 + most_data))

-- a new controller: closed, and nothing waits
abbrev pub new_machine : ControllerConfig → ℕ → ℕ → Machine
new_machine config capacity room = record {
  session = new_session config;
  waiting = [];
  capacity = capacity;
  room = room;
}

-- how a new controller comes about: the settings are judged before memory is asked for
abbrev pub NewEnds : ControllerConfig → ℕ → ℕ → Result Machine ControllerFault → Type 0
NewEnds config capacity room (Ok m) = AreSettings config capacity room × (m ≡ new_machine config capacity room)
NewEnds config capacity room (Err OutOfRange) = AreSettings config capacity room → ⊥
NewEnds config capacity room (Err NoMemory) = AreSettings config capacity room
NewEnds config capacity room (Err _) = ⊥

-- the answer of a call that has nothing to give
abbrev pub unless_refused : {Fault : Type 0} → Option Fault → Result (Unit {0}) Fault
unless_refused None = Ok tt
unless_refused (Some fault) = Err fault

-- a machine after a call: as before where it was refused
abbrev pub changed_unless : {Fault Changed : Type 0} → Option Fault → Changed → Changed → Changed
changed_unless None old new = new
changed_unless (Some fault) old new = old

abbrev pub refused_unless_closed : State → Option ControllerFault
refused_unless_closed Closed = None
refused_unless_closed _ = Some NotClosed

-- how many bytes a command has: its code and its data
abbrev pub command_size : Command → ℕ
command_size command = length (command_code command ∷ command_data command)

-- .. and commands have together
abbrev pub bytes_waiting : List Command → ℕ
bytes_waiting [] = 0
bytes_waiting (command ∷ commands) = command_size command + bytes_waiting commands

-- those of the command that is on its way, which count too; but where there is room for each message however long, there is room for one more
abbrev pub bytes_on_its_way : Machine → ℕ
bytes_on_its_way m =
    if nat_le (m.capacity * (1 + most_data)) m.room then 0 else option_map_or command_size (on_its_way m.session.state) 0

abbrev pub bytes_kept : Machine → ℕ
bytes_kept m = bytes_on_its_way m + bytes_waiting m.waiting

-- there is a place for one more command, and room for its bytes beside those that are kept
abbrev pub has_room : Command → Machine → Bool
has_room command m = nat_lt (length m.waiting) m.capacity && nat_le (command_size command) (m.room - bytes_kept m)

-- submitting: a POLL is refused, then a command that has no room
abbrev pub submit_refusal : Command → Machine → Option ControllerFault
submit_refusal Poll m = Some PollSubmitted
submit_refusal command m = if has_room command m then None else Some Full

abbrev pub after_submit : Command → Machine → Machine
after_submit command m = record m { waiting = m.waiting ++ command ∷ [] }

-- withdrawing: where no command is on its way, the one that has waited longest leaves and comes back; else nothing happens
abbrev pub withdrawn_in : State → List Command → Option Command
withdrawn_in state waiting = if is_some (on_its_way state) then None else slice_get waiting 0

abbrev pub kept_in : State → List Command → List Command
kept_in state waiting = if is_some (on_its_way state) then waiting else drop 1 waiting

abbrev pub after_withdraw : Machine → Machine
after_withdraw m = record m { waiting = kept_in m.session.state m.waiting }

-- a session begins with a quiet line; the commands that wait stay, in their order
abbrev pub begin_refusal : Machine → Option ControllerFault
begin_refusal m = refused_unless_closed m.session.state

abbrev pub begun : Session → Session
begun s = record s { state = Quiet (later s.config.quiet_wait s) }

abbrev pub after_begin : ℕ → Machine → Machine
after_begin now m = record m { session = begun (seen now m.session) }

-- another address: the session must be closed, then the address one of a device
abbrev pub or_no_device : Option ControllerFault → ℕ → Option ControllerFault
or_no_device (Some fault) address = Some fault
or_no_device None address = if nat_lt address 127 then None else Some OutOfRange

abbrev pub retarget_refusal : ℕ → Machine → Option ControllerFault
retarget_refusal address m = or_no_device (refused_unless_closed m.session.state) address

abbrev pub after_retarget : ℕ → Machine → Machine
after_retarget address m =
    record m { session = record m.session { config = record m.session.config { address = address } } }

-- a tick at a moment
abbrev pub after_tick : ℕ → Machine → Machine
after_tick now m =
    record m { session = (ticks now m.session m.waiting).session; waiting = (ticks now m.session m.waiting).waiting }

-- a frame at a moment leaves the waiting commands
abbrev pub after_frame : Packet → ℕ → Machine → Machine
after_frame p now m = record m { session = (hears p now m.session).session }

-- an exchange waits for its answer, in a pause too
abbrev pub is_outstanding : State → Bool
is_outstanding (Waiting until sends o) = true
is_outstanding (Pausing until o) = true
is_outstanding _ = false

-- how many frames the outstanding exchange has sent
abbrev pub sent_in : State → ℕ
sent_in (Waiting until sends o) = o.sent
sent_in (Pausing until o) = o.sent
sent_in _ = 0

-- a step sends or tells something
abbrev pub acts : Step → Bool
acts step = is_some step.frame || is_some step.report

-- a tick at this moment would send or report
abbrev pub is_due : ℕ → Machine → Bool
is_due now m = acts (ticks now m.session m.waiting).step

-- None: no tick at any moment is due. A moment: not before the greatest seen, and a tick is due where this moment is reached,
-- and only there. So it is the only one
abbrev pub IsDeadline : Machine → Option ℕ → Type 0
IsDeadline m None = (now : ℕ) → is_due now m ≡ false
IsDeadline m (Some deadline) =
    (m.session.greatest ≤ deadline) × ((now : ℕ) → is_due now m ≡ nat_le deadline (max m.session.greatest now))

-- a POLL is never submitted
abbrev pub IsSubmitted : Command → Type 0
IsSubmitted command = command ≢ Poll

-- what holds of an outstanding exchange: it was sent once or more, at most `sends` times since the last of its
-- BUSY answers, and at most as often as is allowed before each
pub record IsOutstanding (c : ControllerConfig) (sends : ℕ) (o : Outstanding) : Type 0 where
  pub command : IfSome (submitted_command o.exchange) IsSubmitted
  pub busies : o.busies ≤ c.busy_limit
  pub some : 1 ≤ o.sent
  pub sent : o.sent ≤ c.sends * o.busies + sends

abbrev pub IsState : ControllerConfig → State → Type 0
IsState c Closed = Unit {0}
IsState c (Quiet until) = Unit {0}
IsState c (Idle due) = Unit {0}
IsState c (Waiting until sends o) = (1 ≤ sends) × (sends ≤ c.sends) × IsOutstanding c sends o
IsState c (Pausing until o) = IsOutstanding c 0 o

-- the opening ID is outstanding with number 0
abbrev pub OpensAtZero : State → ℕ → Type 0
OpensAtZero Closed number = Unit {0}
OpensAtZero (Quiet until) number = Unit {0}
OpensAtZero (Idle due) number = Unit {0}
OpensAtZero (Waiting until sends o) number = o.exchange ≡ Opening → number ≡ 0
OpensAtZero (Pausing until o) number = o.exchange ≡ Opening → number ≡ 0

pub record IsSession (s : Session) : Type 0 where
  pub config : IsConfig s.config
  pub state : IsState s.config s.state
  pub opening : OpensAtZero s.state s.number

-- what holds of each controller at all times
pub record IsMachine (m : Machine) : Type 0 where
  pub session : IsSession m.session
  pub capacity : (1 ≤ m.capacity) × (m.capacity ≤ most_waiting)
  pub waiting : All IsSubmitted m.waiting
  pub room : length m.waiting ≤ m.capacity
