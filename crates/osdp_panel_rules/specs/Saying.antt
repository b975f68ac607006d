-- What a packet says to a panel that waits for an answer.
use Rattle.std.specs.Prelude.{ℕ, ◌==◌, Bool, true, false, ◌&&◌, not, if◌then◌else◌, Result, Ok, Err}
use Rattle.osdp_frame.specs.Packet.{Packet}
use Rattle.osdp_msg.specs.declared.fault.MsgFault.{MsgFault}
use Rattle.osdp_msg.specs.declared.nak.NakReason.{NakReason}
use Rattle.osdp_msg.specs.declared.nak.NakReason.TheVariants.{CheckCharacters, UnexpectedSequence}
use Rattle.osdp_msg.specs.declared.reply.Reply.{Reply}
use Rattle.osdp_msg.specs.declared.reply.Reply.TheVariants as reply
use Rattle.osdp_panel_rules.specs.declared.said.Said.{Said}
use Rattle.osdp_panel_rules.specs.declared.said.Said.TheVariants.{Astray, Busy, Damage, Refusal, Answer}
use Rattle.osdp_rules.specs.Packets.{told}

abbrev pub by_reason : NakReason → Said
by_reason CheckCharacters = Damage
by_reason UnexpectedSequence = Refusal
by_reason _ = Answer

abbrev pub by_reply : Reply → Said
by_reply reply.Busy = Busy
by_reply (reply.Nak nak) = by_reason nak.reason
by_reply _ = Answer

-- what can't be read answers all the same
abbrev pub by_reading : Result Reply MsgFault → Said
by_reading (Ok reply) = by_reply reply
by_reading (Err fault) = Answer

abbrev pub is_answer : Said → Bool
is_answer Answer = true
is_answer _ = false

abbrev pub is_busy : Said → Bool
is_busy Busy = true
is_busy _ = false

-- with number 0 only BUSY speaks to a packet that has another number
abbrev pub by_number : ℕ → ℕ → Said → Said
by_number asked said sense =
    if said == asked then sense else if said == 0 && is_busy sense then Busy else Astray

-- a packet speaks to the panel that waits for an answer to the first if a device at its address says it, in clear
abbrev pub says : Packet → Packet → Said
says p r =
    if r.reply && r.address == p.address && not r.block then by_number p.sequence r.sequence (by_reading (told r)) else Astray
