-- The packets of a line that goes on as it should: in nearly all of them nothing is found.
use Rattle.std.specs.Prelude.{◌≡◌, ◌==◌, ◌<◌, ℕ, Bool, true, false, Option, None, Some, Ok}
use Rattle.osdp_frame.specs.declared.check_kind.CheckKind.{CheckKind}
use Rattle.osdp_frame.specs.Packet.{Packet, next_sequence}
use Rattle.osdp_msg.specs.declared.command.Command.TheVariants.{Poll}
use Rattle.osdp_msg.specs.declared.reply.Reply.TheVariants.{Ack}
use Rattle.osdp_monitor.specs.Known.{Known}
use Rattle.osdp_monitor.specs.Line.{Knowledge}
use Rattle.osdp_monitor.specs.Saying.{asked, reply_told}
use Rattle.osdp_rules.specs.Packets.{same_check}

-- the number of a packet that is known
abbrev pub number_of : Option Packet → Option ℕ
number_of None = None
number_of (Some p) = Some p.sequence

-- the number is the next after a known one
abbrev pub is_next : Option ℕ → ℕ → Bool
is_next None number = false
is_next (Some taken) number = next_sequence taken == number

-- a packet is the next one after one that was answered
pub record IsNext (k : Known) (p : Packet) : Type 0 where
  pub next : is_next (number_of k.last) p.sequence ≡ true
  pub replied : k.replied ≡ true
  pub answered : k.answered ≡ true
  pub settled : k.owing ≡ false

-- it is known, and a POLL with this number and this check
abbrev pub IsPollTo : Option Packet → ℕ → CheckKind → Type 0
IsPollTo None number check = ⊥
IsPollTo (Some p) number check = (asked p ≡ Ok Poll) × (p.sequence ≡ number) × (same_check check p.check ≡ true)

-- a reply is the first to the last packet, a POLL, which has the number after the one taken last; and it has the number and the check of that packet
pub record AnswersPoll (k : Known) (r : Packet) : Type 0 where
  pub last : IsPollTo k.last r.sequence r.check
  pub first : k.replied ≡ false
  pub next : is_next k.taken r.sequence ≡ true

-- an ACK that answers a POLL in turn, or a POLL after a packet that was answered
abbrev pub IsPlainTurn : Bool → Known → Packet → Type 0
IsPlainTurn true k r = (reply_told r ≡ Ok Ack) × AnswersPoll k r
IsPlainTurn false k p = (asked p ≡ Ok Poll) × IsNext k p

-- .. of a device, without a security block
pub record IsPlain (line : Knowledge) (p : Packet) : Type 0 where
  pub device : p.address < 127
  pub unsecured : p.block ≡ false
  pub turn : IsPlainTurn p.reply (line.devices p.address) p
