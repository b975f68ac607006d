-- What each call keeps to: when exchanges begin, what changes the settings, and the ranges of numbers, deadlines and
-- packets.
use Rattle.std.specs.Prelude.{◌≡◌, ◌≢◌, ℕ, ◌<◌, ◌≤◌, true, false, if◌then◌else◌, is_none, is_some, max, List, Option, Some, IfSome}
use Rattle.osdp_frame.specs.Packet.{IsPacket, Packet}
use Rattle.osdp_msg.specs.CommandTable.{CommandFits}
use Rattle.osdp_controller.specs.declared.config.ControllerConfig.{ControllerConfig}
use Rattle.osdp_controller.specs.declared.exchange.Exchange.{Exchange}
use Rattle.osdp_controller.specs.declared.exchange.Exchange.TheVariants.{Opening}
use Rattle.osdp_controller.specs.declared.report.Report.{Report}
use Rattle.osdp_controller.specs.declared.report.Report.TheVariants.{Moved}
use Rattle.osdp_controller.specs.declared.session.Session.{Session}
use Rattle.osdp_controller.specs.declared.state.State.TheVariants.{Closed}
use Rattle.osdp_controller_laws.specs.Commands.{asked_in}
use Rattle.osdp_controller_laws.specs.Laws.{exchange_in}
use Rattle.osdp_controller.specs.Machine.{IsMachine, Machine, is_due, is_outstanding, new_machine, retarget_refusal}
use Rattle.osdp_controller_laws.specs.Runs.{Call, Retarget, after_call, after_calls, sent_by, told_by}
use Rattle.osdp_controller.specs.Sessions.{later, seen}
use Rattle.osdp_controller.specs.States.{moment_of}
use Rattle.osdp_controller.specs.Ticking.{stays, ticks}

-- the address of the reader after a call: another where a COM tells that the reader moved, or it is set
abbrev pub told_address : Option Report → ℕ → ℕ
told_address (Some (Moved command answered)) old = answered.address
told_address _ old = old

abbrev pub address_after : Call → Machine → ℕ
address_after (Retarget address) m = if is_none (retarget_refusal address m) then address else m.session.config.address
address_after call m = told_address (told_by call m) m.session.config.address

-- an exchange begins with a frame, and with nothing else
abbrev pub BeginsWithFrame : Call → Machine → Type 0
BeginsWithFrame call m = is_outstanding m.session.state ≡ false → is_outstanding (after_call call m).session.state ≡ true
    → is_some (sent_by call m) ≡ true

-- no other setting changes than the address
abbrev pub KeepsSettings : Call → Machine → Type 0
KeepsSettings call m = (after_call call m).session.config ≡ record m.session.config { address = address_after call m }

-- a tick that is not due changes nothing but the greatest moment seen
abbrev pub WaitsUntilDue : ℕ → Machine → Type 0
WaitsUntilDue now m = is_due now m ≡ false → ticks now m.session m.waiting ≡ stays (seen now m.session) m.waiting

-- the longest of the four waits
abbrev pub longest_wait : ControllerConfig → ℕ
longest_wait c = max (max c.reply_wait c.poll_interval) (max c.busy_wait c.quiet_wait)

-- so much later than the greatest moment seen, and the last moment that there is where it would lie after that
abbrev pub latest : Session → ℕ
latest s = max s.greatest (later (longest_wait s.config) s)

-- the number of an exchange, 0 for the opening ID alone, and the moment that is waited for
pub record IsInRange (s : Session) : Type 0 where
  pub number : s.number < 4
  pub above_zero : (x : Exchange) → exchange_in s.state ≡ Some x → x ≢ Opening → 0 < s.number
  pub deadline : IfSome (moment_of s.state) (λ moment. moment ≤ latest s)

-- these hold of a new controller, and after whatever is called
pub record StaysInRange : Type 0 where
  pub new : (config : ControllerConfig) (capacity room : ℕ) → IsInRange (new_machine config capacity room).session
  pub later : (m : Machine) (calls : List Call) → IsInRange m.session → IsInRange (after_calls calls m).session

-- then a tick that comes so much later is due, unless the controller is closed
abbrev pub ComesDue : Type 0
ComesDue = (now : ℕ) (m : Machine) → IsInRange m.session → m.session.state ≢ Closed → later (longest_wait m.session.config) m.session ≤ now
    → is_due now m ≡ true

-- and each frame that goes out is a packet, where the command that it asks is in its ranges
abbrev pub SendsPackets : Type 0
SendsPackets = (m : Machine) (call : Call) (p : Packet) → IsMachine m → IsInRange m.session → sent_by call m ≡ Some p
    → IfSome (asked_in (after_call call m).session.state) CommandFits → IsPacket p
