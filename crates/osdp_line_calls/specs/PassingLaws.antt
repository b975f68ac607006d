-- What it means that a reply is told as passed over.
use Rattle.std.specs.Prelude.{◌≡◌, ◌↔◌, ℕ, true, IsSome}
use Rattle.osdp_controller.specs.declared.exchange.Exchange.{Exchange}
use Rattle.osdp_controller.specs.declared.exchange.Exchange.TheVariants.{Opening}
use Rattle.osdp_controller.specs.declared.session.Session.{Session}
use Rattle.osdp_controller.specs.declared.state.State.{State}
use Rattle.osdp_controller.specs.declared.state.State.TheVariants.{Closed, Quiet, Idle, Waiting, Pausing}
use Rattle.osdp_controller.specs.Hearing.{hears, ignores}
use Rattle.osdp_controller.specs.Sessions.{seen}
use Rattle.osdp_frame.specs.Packet.{Packet}
use Rattle.osdp_line_calls.specs.Passing.{passed_text}

-- the opening is outstanding, with its number
pub record IsOpening (x : Exchange) (number : ℕ) : Type 0 where
  pub exchange : x ≡ Opening
  pub at_zero : number ≡ 0

-- by the state: closed, waiting for quiet, or opening
abbrev pub IsNotOpenIn : State → ℕ → Type 0
IsNotOpenIn Closed number = Unit {0}
IsNotOpenIn (Quiet until) number = Unit {0}
IsNotOpenIn (Idle due) number = ⊥
IsNotOpenIn (Waiting until sends o) number = IsOpening o.exchange number
IsNotOpenIn (Pausing until o) number = IsOpening o.exchange number

abbrev pub IsNotOpen : Session → Type 0
IsNotOpen s = IsNotOpenIn s.state s.number

-- each session that isn't open does nothing on this packet but see the moment
abbrev pub IsPassedOver : Packet → Type 0
IsPassedOver p = (now : ℕ) (s : Session) → IsNotOpen s → hears p now s ≡ ignores (seen now s)

-- of the replies those are told that all sessions which aren't open pass over
abbrev pub TellsWhatIsPassedOver : Type 0
TellsWhatIsPassedOver = (p : Packet) → p.reply ≡ true → IsSome (passed_text p) ↔ IsPassedOver p
