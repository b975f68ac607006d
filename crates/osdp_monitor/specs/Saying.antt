-- What a packet says to somebody who listens.
use Rattle.std.specs.Prelude.{ℕ, ◌==◌, Bool, true, false, ◌&&◌, ◌||◌, not, nat_le, if◌then◌else◌, drop, slice_index, Option, None, Some, Result, Ok, Err}
use Rattle.osdp_controller.specs.Answers.{meaning_of}
use Rattle.osdp_controller.specs.declared.meaning.ReplyMeaning.{ReplyMeaning}
use Rattle.osdp_controller.specs.declared.meaning.ReplyMeaning.TheVariants.{NotTaken, Damaged, NumberRefused, Plain, Unreadable}
use Rattle.osdp_frame.specs.Packet.{Packet}
use Rattle.osdp_msg.specs.CommandTable.{command_of}
use Rattle.osdp_msg.specs.declared.command.Command.{Command}
use Rattle.osdp_msg.specs.declared.command.Command.TheVariants.{Comset}
use Rattle.osdp_msg.specs.declared.fault.MsgFault.{MsgFault}
use Rattle.osdp_msg.specs.declared.fault.MsgFault.TheVariants.{UnknownCode}
use Rattle.osdp_monitor.specs.declared.said.Said.{Said}
use Rattle.osdp_monitor.specs.declared.said.Said.TheVariants.{Busy, Damage, Refusal, Answer}
use Rattle.osdp_msg.specs.declared.reply.Reply.{Reply}
use Rattle.osdp_msg.specs.declared.reply.Reply.TheVariants.{Com}
use Rattle.osdp_msg.specs.ReplyTable.{reply_of}

-- the command that a packet to a device is
abbrev pub asked : Packet → Result Command MsgFault
asked p = command_of (slice_index p.body 0) (drop 1 p.body)

-- the reply that a packet from a device is
abbrev pub reply_told : Packet → Result Reply MsgFault
reply_told r = reply_of (slice_index r.body 0) (drop 1 r.body)

-- the tables don't have the code
abbrev pub is_unknown : {M : Type 0} → Result M MsgFault → Bool
is_unknown (Ok message) = false
is_unknown (Err UnknownCode) = true
is_unknown (Err _) = false

-- what is no matter of these rules: a security block, or a code that the tables don't have
abbrev pub is_foreign : Packet → Bool
is_foreign p = p.block || (if p.reply then is_unknown (reply_told p) else is_unknown (asked p))

-- by what the controller makes of a reply: only what it takes as an answer is one, and it takes that also where it can't be read
abbrev pub said_by : ReplyMeaning → Said
said_by NotTaken = Busy
said_by Damaged = Damage
said_by NumberRefused = Refusal
said_by (Plain reply) = Answer
said_by (Unreadable code) = Answer

abbrev pub said : Packet → Said
said r = said_by (meaning_of r)

abbrev pub is_answer : Said → Bool
is_answer Busy = false
is_answer Damage = false
is_answer Refusal = false
is_answer Answer = true

abbrev pub is_damage : Said → Bool
is_damage Busy = false
is_damage Damage = true
is_damage Refusal = false
is_damage Answer = false

abbrev pub is_refusal : Said → Bool
is_refusal Busy = false
is_refusal Damage = false
is_refusal Refusal = true
is_refusal Answer = false

-- the address that a COM names which answers a COMSET, where it is another one and that of a device
abbrev pub moved_by : Result Command MsgFault → Result Reply MsgFault → ℕ → Option ℕ
moved_by (Ok (Comset asked)) (Ok (Com named)) address =
    if not (named.address == address) && nat_le named.address 126 then Some named.address else None
moved_by _ _ address = None
