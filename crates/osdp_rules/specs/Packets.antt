-- What packets say to somebody who tests a device.
use Rattle.std.specs.Prelude.{◌≡◌, ◌↔◌, ℕ, ◌==◌, Bool, true, false, ◌&&◌, ◌||◌, not, nat_lt, length, drop, slice_index, Result, Ok}
use Rattle.std.specs.Bool.{beq}
use Rattle.std.specs.Str.{bytes_eq}
use Rattle.osdp_frame.specs.Check.{check_size}
use Rattle.osdp_frame.specs.Packet.{Packet}
use Rattle.osdp_frame.specs.declared.check_kind.CheckKind.{CheckKind}
use Rattle.osdp_msg.specs.CommandTable.{command_of}
use Rattle.osdp_msg.specs.declared.command.Command.{Command}
use Rattle.osdp_msg.specs.declared.command.Command.TheVariants.{Comset}
use Rattle.osdp_msg.specs.ReplyTable.{reply_of}
use Rattle.osdp_msg.specs.declared.reply.Reply.{Reply}
use Rattle.osdp_msg.specs.declared.fault.MsgFault.{MsgFault}

-- the command that a packet asks
abbrev pub asked : Packet → Result Command MsgFault
asked p = command_of (slice_index p.body 0) (drop 1 p.body)

-- the reply that a packet tells
abbrev pub told : Packet → Result Reply MsgFault
told a = reply_of (slice_index a.body 0) (drop 1 a.body)

abbrev pub is_comset : Result Command MsgFault → Bool
is_comset (Ok (Comset c)) = true
is_comset _ = false

-- the packet goes to the device at an address, or to 127
abbrev pub is_to : ℕ → Packet → Bool
is_to address p = not p.reply && (p.address == address || p.address == 127)

-- the code of a message
abbrev pub code_of : Packet → ℕ
code_of p = slice_index p.body 0

abbrev pub is_busy : Packet → Bool
is_busy a = code_of a == 0x79

abbrev pub is_nak : Packet → Bool
is_nak a = code_of a == 0x41

-- a NAK with this reason
abbrev pub has_reason : ℕ → Packet → Bool
has_reason reason a = is_nak a && (nat_lt 0 (length (drop 1 a.body)) && slice_index (drop 1 a.body) 0 == reason)

-- BUSY, NAK 1 and NAK 4 say that the packet wasn't taken
abbrev pub takes_nothing : Packet → Bool
takes_nothing a = is_busy a || (has_reason 1 a || has_reason 4 a)

-- the same kind of check: each has a size of its own
abbrev pub same_check : CheckKind → CheckKind → Bool
same_check c d = check_size c == check_size d

-- two packets with the same bytes: a packet has one spelling
abbrev pub same_packet : Packet → Packet → Bool
same_packet p q =
    beq p.reply q.reply && p.address == q.address && p.sequence == q.sequence && same_check p.check q.check
    && beq p.block q.block && p.reserved == q.reserved && bytes_eq p.body q.body

-- packets are compared as a whole
abbrev pub ComparesPackets : Type 0
ComparesPackets = (p q : Packet) → (same_packet p q ≡ true) ↔ (p ≡ q)
