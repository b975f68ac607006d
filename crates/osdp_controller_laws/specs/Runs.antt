-- Runs: one call of a controller after the other, and what holds of the exchanges over each of them.
use Rattle.std.specs.Prelude.{◌≡◌, ℕ, ◌+◌, ◌*◌, ◌≤◌, Bool, true, false, ◌&&◌, ◌==◌, if◌then◌else◌, All, List, [], ◌∷◌, ◌++◌, length, Option, Some, None, is_some, option_to_list}
use Rattle.osdp_frame.specs.Packet.{Packet}
use Rattle.osdp_msg.specs.declared.command.Command.{Command}
use Rattle.osdp_controller.specs.declared.config.ControllerConfig.{ControllerConfig}
use Rattle.osdp_controller.specs.declared.report.Report.{Report}
use Rattle.osdp_controller.specs.Exchanges.{exchange_number}
use Rattle.osdp_controller.specs.Hearing.{hears}
use Rattle.osdp_controller.specs.Machine.{AreSettings, IsMachine, Machine, after_begin, after_frame, after_retarget, after_submit, after_tick, after_withdraw, begin_refusal, changed_unless, is_outstanding, new_machine, retarget_refusal, sent_in, submit_refusal}
use Rattle.osdp_controller.specs.States.{is_closed}
use Rattle.osdp_controller.specs.Ticking.{ticks}

-- a call that may change a controller
pub data Call : Type 0 where
  Submit : Command → Call
  Begin : ℕ → Call
  Retarget : ℕ → Call
  Withdraw : Call
  Tick : ℕ → Call
  Hear : Packet → ℕ → Call

-- the machine after it: as before where it was refused
abbrev pub after_call : Call → Machine → Machine
after_call (Submit command) m = changed_unless (submit_refusal command m) m (after_submit command m)
after_call (Begin now) m = changed_unless (begin_refusal m) m (after_begin now m)
after_call (Retarget address) m = changed_unless (retarget_refusal address m) m (after_retarget address m)
after_call Withdraw m = after_withdraw m
after_call (Tick now) m = after_tick now m
after_call (Hear p now) m = after_frame p now m

-- the machine after a list of them
abbrev pub after_calls : List Call → Machine → Machine
after_calls [] m = m
after_calls (call ∷ calls) m = after_calls calls (after_call call m)

-- the frame that it sends: ticks alone send
abbrev pub sent_by : Call → Machine → Option Packet
sent_by (Tick now) m = (ticks now m.session m.waiting).step.frame
sent_by _ m = None

-- what it tells: ticks and frames from the line alone tell something
abbrev pub told_by : Call → Machine → Option Report
told_by (Tick now) m = (ticks now m.session m.waiting).step.report
told_by (Hear p now) m = (hears p now m.session).report
told_by _ m = None

-- the frames that a list of them sends, in order
abbrev pub frames : List Call → Machine → List Packet
frames [] m = []
frames (call ∷ calls) m = option_to_list (sent_by call m) ++ frames calls (after_call call m)

-- an exchange begins with its first frame
abbrev pub begins_exchange : Call → Machine → Bool
begins_exchange call m = is_some (sent_by call m) && sent_in (after_call call m).session.state == 1

-- a call begins a session: one that is refused doesn't
abbrev pub begins_session : Call → Machine → Bool
begins_session (Begin now) m = is_closed m.session.state
begins_session _ m = false

-- how many exchanges the session has begun after a call, by how many it had before
abbrev pub count_after : Call → Machine → ℕ → ℕ
count_after call m count =
    if begins_session call m then 0 else if begins_exchange call m then count + 1 else count

-- and after a list of calls of a machine that had no session before
abbrev pub count_from : ℕ → List Call → Machine → ℕ
count_from count [] m = count
count_from count (call ∷ calls) m = count_from (count_after call m count) calls (after_call call m)

abbrev pub exchanges_begun : List Call → Machine → ℕ
exchanges_begun calls m = count_from 0 calls m

-- the latest of so many exchanges has the number of its place, counted from 0
abbrev pub HasNumberOfPlace : ℕ → ℕ → Type 0
HasNumberOfPlace count number = (k : ℕ) × (count ≡ k + 1) × (number ≡ exchange_number k)

-- whatever is called: while exchange k of a session is outstanding the session has the number of place k, and so has
-- each frame that a call sends after them
pub record NumbersByPlace (m : Machine) (calls : List Call) : Type 0 where
  pub outstanding : is_outstanding (after_calls calls m).session.state ≡ true
      → HasNumberOfPlace (exchanges_begun calls m) (after_calls calls m).session.number
  pub sent : (call : Call) (p : Packet) → sent_by call (after_calls calls m) ≡ Some p
      → HasNumberOfPlace (count_after call (after_calls calls m) (exchanges_begun calls m)) p.sequence

-- an exchange is outstanding, and stays so after each of the calls
abbrev pub Lasts : List Call → Machine → Type 0
Lasts [] m = is_outstanding m.session.state ≡ true
Lasts (call ∷ calls) m = (is_outstanding m.session.state ≡ true) × Lasts calls (after_call call m)

-- as long as the exchange lasts each frame after one of its frames is the same packet, byte for byte
abbrev pub ResendsTheSame : Type 0
ResendsTheSame = (m : Machine) (call : Call) (p : Packet) (calls : List Call) → sent_by call m ≡ Some p → Lasts calls (after_call call m)
    → All (λ q. q ≡ p) (frames calls (after_call call m))

-- and these are no more than the settings allow, with the first of them
abbrev pub SendsFew : Type 0
SendsFew = (m : Machine) (call : Call) (p : Packet) (calls : List Call) → IsMachine m → sent_by call m ≡ Some p → Lasts calls (after_call call m)
    → 1 + length (frames calls (after_call call m)) ≤ m.session.config.sends * (m.session.config.busy_limit + 1)

-- what holds of each controller: of a new one, and after whatever is called
pub record StaysWell : Type 0 where
  pub new : (config : ControllerConfig) (capacity room : ℕ) → AreSettings config capacity room → IsMachine (new_machine config capacity room)
  pub later : (m : Machine) (calls : List Call) → IsMachine m → IsMachine (after_calls calls m)
