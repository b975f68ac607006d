-- What the rules come to, in the words of their reader.
use Rattle.std.specs.Prelude.{◌≡◌, ◌≢◌, ◌≤◌, ◌↔◌, ◌⊎◌, ℕ, true, false, None, Some, Ok, Err}
use Rattle.osdp_frame.specs.Packet.{Packet}
use Rattle.osdp_msg.specs.declared.command.Command.TheVariants.{Comset}
use Rattle.osdp_msg.specs.declared.command_fields.Communication.{Communication}
use Rattle.osdp_msg.specs.declared.fault.MsgFault.TheVariants.{UnknownCode}
use Rattle.osdp_msg.specs.declared.reply.Reply.TheVariants.{Com}
use Rattle.osdp_monitor.specs.Line.{Knowledge, copies_last, found_in, moves_to}
use Rattle.osdp_monitor.specs.Plain.{IsPlain}
use Rattle.osdp_monitor.specs.Saying.{asked, is_foreign, reply_told}

-- its code is none of the tables, those of replies or those of commands
abbrev pub HasUnknownCode : Packet → Type 0
HasUnknownCode p = ((p.reply ≡ true) × (reply_told p ≡ Err UnknownCode)) ⊎ ((p.reply ≡ false) × (asked p ≡ Err UnknownCode))

-- what is passed over: a packet with a security block, and one whose code the tables don't have; nothing else is
abbrev pub PassesOver : Type 0
PassesOver = (p : Packet) → (is_foreign p ≡ true) ↔ ((p.block ≡ true) ⊎ HasUnknownCode p)

-- a COM that answers a COMSET names this address, another than its own and that of a device
abbrev pub NamesAnother : Packet → Packet → ℕ → Type 0
NamesAnother p r address =
    (wanted : Communication) × (named : Communication) × (asked p ≡ Ok (Comset wanted)) × (reply_told r ≡ Ok (Com named))
    × (named.address ≡ address) × (address ≢ r.address) × (address ≤ 126)

-- a device moves exactly where such a COM comes after the COMSET
abbrev pub MovesByCom : Type 0
MovesByCom = (p r : Packet) (address : ℕ) → (moves_to (Some p) r ≡ Some address) ↔ NamesAnother p r address

-- a plain packet breaks no rule, nothing in it is worth a look, and it was judged; and a command is no repeat
pub record IsFine (line : Knowledge) (p : Packet) : Type 0 where
  pub accusation : (found_in line p).accusation ≡ None
  pub notice : (found_in line p).notice ≡ None
  pub judged : (found_in line p).judged ≡ true
  pub fresh : p.reply ≡ false → copies_last line p ≡ false

abbrev pub PlainIsFine : Type 0
PlainIsFine = (line : Knowledge) (p : Packet) → IsPlain line p → IsFine line p
