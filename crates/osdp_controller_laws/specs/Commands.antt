-- What becomes of the commands: an exchange that ends is told, and over a run of calls each accepted command is asked
-- and told once, by its place.
use Rattle.std.specs.Prelude.{◌≡◌, ℕ, Bool, true, false, ◌||◌, if◌then◌else◌, is_none, List, [], ◌∷◌, ◌++◌, Option, Some, None, option_to_list, ◌⊎◌}
use Rattle.osdp_frame.specs.Packet.{Packet}
use Rattle.osdp_msg.specs.declared.command.Command.{Command}
use Rattle.osdp_controller.specs.declared.exchange.Exchange.{Exchange}
use Rattle.osdp_controller.specs.declared.report.LostCause.TheVariants.{NoReply}
use Rattle.osdp_controller.specs.declared.report.Report.{Report}
use Rattle.osdp_controller.specs.declared.report.Report.TheVariants.{Settled, Moved, Unread, Lost}
use Rattle.osdp_controller.specs.declared.session.Session.{Session}
use Rattle.osdp_controller.specs.declared.state.State.{State}
use Rattle.osdp_controller.specs.Exchanges.{submitted_command}
use Rattle.osdp_controller.specs.Hearing.{hears}
use Rattle.osdp_controller_laws.specs.Laws.{exchange_in}
use Rattle.osdp_controller.specs.Machine.{Machine, submit_refusal, withdrawn_in}
use Rattle.osdp_controller_laws.specs.Runs.{Call, Submit, Withdraw, after_call, after_calls, begins_exchange, told_by}
use Rattle.osdp_controller.specs.States.{is_closed}
use Rattle.osdp_controller.specs.Ticking.{ticks}

-- the command that a report settles, by its answer or by one that moves the reader, or tells unread or unsettled
abbrev pub told_command : Option Report → Option Command
told_command (Some (Settled command reply)) = Some command
told_command (Some (Moved command answered)) = Some command
told_command (Some (Unread command code)) = command
told_command (Some (Lost cause command)) = command
told_command _ = None

-- a report that the session has ended
abbrev pub tells_end : Option Report → Bool
tells_end (Some (Moved command answered)) = true
tells_end (Some (Lost cause command)) = true
tells_end _ = false

-- an exchange stays outstanding in a state, and nothing is told
pub record GoesOn (x : Exchange) (state : State) (report : Option Report) : Type 0 where
  pub outstanding : exchange_in state ≡ Some x
  pub nothing : report ≡ None

-- a frame ends it: the command that was submitted for it is told
pub record IsAnswered (x : Exchange) (state : State) (report : Option Report) : Type 0 where
  pub ended : exchange_in state ≡ None
  pub told : told_command report ≡ submitted_command x

-- a tick ends it, and the session: that command is unsettled
pub record IsGivenUp (x : Exchange) (state : State) (report : Option Report) : Type 0 where
  pub ended : is_closed state ≡ true
  pub told : report ≡ Some (Lost NoReply (submitted_command x))

-- whatever comes: an outstanding exchange goes on untold, or it ends and is told; and a session ends exactly where
-- that is told
pub record TellsEnds (now : ℕ) (s : Session) : Type 0 where
  pub by_tick : (x : Exchange) (waiting : List Command) → exchange_in s.state ≡ Some x
      → GoesOn x (ticks now s waiting).session.state (ticks now s waiting).step.report
      ⊎ IsGivenUp x (ticks now s waiting).session.state (ticks now s waiting).step.report
  pub by_frame : (x : Exchange) (p : Packet) → exchange_in s.state ≡ Some x
      → GoesOn x (hears p now s).session.state (hears p now s).report ⊎ IsAnswered x (hears p now s).session.state (hears p now s).report
  pub closed_by_tick : (waiting : List Command)
      → is_closed (ticks now s waiting).session.state ≡ (is_closed s.state || tells_end (ticks now s waiting).step.report)
  pub closed_by_frame : (p : Packet)
      → is_closed (hears p now s).session.state ≡ (is_closed s.state || tells_end (hears p now s).report)

-- the command of an exchange, where one was submitted for it
abbrev pub command_of : Option Exchange → Option Command
command_of None = None
command_of (Some x) = submitted_command x

-- the command that is outstanding in a state
abbrev pub asked_in : State → Option Command
asked_in state = command_of (exchange_in state)

-- the command that a call makes wait: one that was submitted and not refused
abbrev pub accepted_by : Call → Machine → Option Command
accepted_by (Submit command) m = if is_none (submit_refusal command m) then Some command else None
accepted_by _ m = None

-- the command that a call takes back from those that wait
abbrev pub withdrawn_by : Call → Machine → Option Command
withdrawn_by Withdraw m = withdrawn_in m.session.state m.waiting
withdrawn_by _ m = None

-- the command for which a call begins an exchange, with its first frame
abbrev pub asked_by : Call → Machine → Option Command
asked_by call m = if begins_exchange call m then asked_in (after_call call m).session.state else None

-- those of a list of calls, in order: the accepted, the asked, the withdrawn and the told ones, and those that no longer wait,
-- asked or withdrawn
abbrev pub accepted : List Call → Machine → List Command
accepted [] m = []
accepted (call ∷ calls) m = option_to_list (accepted_by call m) ++ accepted calls (after_call call m)

abbrev pub asked : List Call → Machine → List Command
asked [] m = []
asked (call ∷ calls) m = option_to_list (asked_by call m) ++ asked calls (after_call call m)

abbrev pub withdrawn : List Call → Machine → List Command
withdrawn [] m = []
withdrawn (call ∷ calls) m = option_to_list (withdrawn_by call m) ++ withdrawn calls (after_call call m)

abbrev pub left : List Call → Machine → List Command
left [] m = []
left (call ∷ calls) m = option_to_list (asked_by call m) ++ option_to_list (withdrawn_by call m) ++ left calls (after_call call m)

abbrev pub told : List Call → Machine → List Command
told [] m = []
told (call ∷ calls) m = option_to_list (told_command (told_by call m)) ++ told calls (after_call call m)

-- by place, whatever is called: the commands that waited and then those accepted are asked or withdrawn once, in this order, and
-- the others wait; where none was withdrawn all that no longer wait were asked; the outstanding command and then those asked are told once, in this order, but for the one that is
-- outstanding in the end. So a told command is asked again only where it is accepted again.
pub record CommandsByPlace (m : Machine) (calls : List Call) : Type 0 where
  pub left_once : left calls m ++ (after_calls calls m).waiting ≡ m.waiting ++ accepted calls m
  pub asked_once : withdrawn calls m ≡ [] → asked calls m ++ (after_calls calls m).waiting ≡ m.waiting ++ accepted calls m
  pub told_once : option_to_list (asked_in m.session.state) ++ asked calls m
      ≡ told calls m ++ option_to_list (asked_in (after_calls calls m).session.state)
