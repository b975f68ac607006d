-- The rules of the reader: how the last packet to its address may be answered.
use Rattle.std.specs.Prelude.{ℕ, ◌==◌, Bool, true, false, ◌&&◌, ◌||◌, not, is_some, if◌then◌else◌, Option, None, Some, Result, Ok, Err}
use Rattle.osdp_frame.specs.Packet.{Packet, next_sequence}
use Rattle.osdp_msg.specs.declared.command.Command.{Command}
use Rattle.osdp_msg.specs.declared.command.Command.TheVariants.{Poll}
use Rattle.osdp_msg.specs.declared.fault.MsgFault.{MsgFault}
use Rattle.osdp_msg.specs.declared.reply.Reply.{Reply}
use Rattle.osdp_msg.specs.declared.reply.Reply.TheVariants.{Ack, Nak}
use Rattle.osdp_msg.specs.Fitting.{reply_fits}
use Rattle.osdp_monitor.specs.declared.accusation.Accusation.{Accusation}
use Rattle.osdp_monitor.specs.declared.accusation.Accusation.TheVariants.{SecondReply, AnotherNumber, AnotherCheck, BusyToRepeat, RefusedZero, AnotherReply, TakenOutOfTurn, UnreadReply, UnfitReply, EventAtZero}
use Rattle.osdp_monitor.specs.Known.{Known, is_number, nothing_known}
use Rattle.osdp_monitor.specs.declared.said.Said.{Said}
use Rattle.osdp_monitor.specs.declared.said.Said.TheVariants.{Busy, Damage, Refusal, Answer}
use Rattle.osdp_monitor.specs.Saying.{asked, is_answer, is_damage, reply_told, said}
use Rattle.osdp_rules.specs.Packets.{same_check, same_packet}

-- the reply that the packet must have, where it is known to be a repeat: it has the number taken last, which isn't 0
abbrev pub repeat_reply : Known → Packet → Option Packet
repeat_reply k p = if not (p.sequence == 0) && is_number k.taken p.sequence then k.stored else None

-- BUSY has the packet's number or 0, and its check, and answers no known repeat
abbrev pub busy_accused : Known → Packet → Packet → Option Accusation
busy_accused k p r =
    if not (r.sequence == p.sequence || r.sequence == 0) then Some AnotherNumber
    else if not (same_check r.check p.check) then Some AnotherCheck
    else if is_some (repeat_reply k p) then Some BusyToRepeat
    else None

-- NAK 4 has the packet's number and check, and the number isn't 0
abbrev pub refusal_accused : Packet → Packet → Option Accusation
refusal_accused p r =
    if not (r.sequence == p.sequence) then Some AnotherNumber
    else if not (same_check r.check p.check) then Some AnotherCheck
    else if p.sequence == 0 then Some RefusedZero
    else None

-- what a POLL at number 0 is answered: no event
abbrev pub is_plain : Reply → Bool
is_plain Ack = true
is_plain (Nak n) = true
is_plain _ = false

abbrev pub is_event_at_zero : Command → Reply → ℕ → Bool
is_event_at_zero Poll reply sequence = sequence == 0 && not (is_plain reply)
is_event_at_zero _ reply sequence = false

-- a reply that can be read fits the command, where that can be read
abbrev pub fit_accused : Result Command MsgFault → Reply → ℕ → Option Accusation
fit_accused (Err fault) reply sequence = None
fit_accused (Ok command) reply sequence =
    if not (reply_fits command reply) then Some UnfitReply
    else if is_event_at_zero command reply sequence then Some EventAtZero
    else None

abbrev pub reading_accused : Result Reply MsgFault → Packet → Option Accusation
reading_accused (Ok reply) p = fit_accused (asked p) reply p.sequence
reading_accused (Err fault) p = Some UnreadReply

-- the packet was taken now, as a new one
abbrev pub taken_accused : Packet → Packet → Option Accusation
taken_accused p r = if same_check r.check p.check then reading_accused (reply_told r) p else Some AnotherCheck

-- by the number taken last: number 0 and the next number are taken, and a third one isn't; where it is unknown no more is judged
abbrev pub turn_accused : Option ℕ → Packet → Packet → Option Accusation
turn_accused None p r = if p.sequence == 0 then taken_accused p r else None
turn_accused (Some taken) p r =
    if p.sequence == 0 || p.sequence == next_sequence taken then taken_accused p r
    else if p.sequence == taken then None
    else Some TakenOutOfTurn

-- a known repeat has the stored reply byte for byte, and nothing else is asked of it
abbrev pub answer_accused : Option Packet → Known → Packet → Packet → Option Accusation
answer_accused (Some stored) k p r = if same_packet stored r then None else Some AnotherReply
answer_accused None k p r = if r.sequence == p.sequence then turn_accused k.taken p r else Some AnotherNumber

-- by what the reply says; NAK 1 is never judged
abbrev pub reply_accused : Said → Known → Packet → Packet → Option Accusation
reply_accused Busy k p r = busy_accused k p r
reply_accused Damage k p r = None
reply_accused Refusal k p r = refusal_accused p r
reply_accused Answer k p r = answer_accused (repeat_reply k p) k p r

-- a reply has the number of the packet that it answers, but a BUSY with number 0, which may answer any
abbrev pub tells_number : Said → ℕ → Bool
tells_number Busy number = not (number == 0)
tells_number Damage number = false
tells_number Refusal number = true
tells_number Answer number = true

-- a packet before the last one, to which a reply may still come, has this number; or may have it, where it isn't known
abbrev pub is_owed_number : Known → ℕ → Bool
is_owed_number k number = not k.settled || is_number k.earlier number || is_number k.older number

abbrev pub has_earlier_number : Known → Packet → Bool
has_earlier_number k r = tells_number (said r) r.sequence && is_owed_number k r.sequence

-- A reply with this number comes late, where the last packet has another: the panel waits no more for it.
abbrev pub is_late : Known → Packet → Packet → Bool
is_late k p r = has_earlier_number k r && not (r.sequence == p.sequence)

-- Where both packets have number 0 nobody can tell which of them it answers.
abbrev pub is_of_either : Known → Packet → Packet → Bool
is_of_either k p r = has_earlier_number k r && p.sequence == 0

-- It has the next number, and the last packet was answered: the packet that it answers wasn't heard.
abbrev pub is_unheard : Known → Packet → Packet → Bool
is_unheard k p r = is_answer (said r) && k.answered && r.sequence == next_sequence p.sequence

-- a reply may still come to the packet before, or to an earlier copy
abbrev pub is_owed : Known → Bool
is_owed k = k.owing || is_some k.earlier

-- a BUSY with number 0, which doesn't say what it answers
abbrev pub has_no_number : Said → ℕ → Bool
has_no_number Busy number = number == 0
has_no_number Damage number = false
has_no_number Refusal number = false
has_no_number Answer number = false

-- .. where a reply may still come to another packet or to another copy: nobody can tell which it answers
abbrev pub is_stray : Known → Packet → Bool
is_stray k r = has_no_number (said r) r.sequence && is_owed k

-- .. to another packet, since the last one is no known repeat
abbrev pub is_busy_of_either : Known → Packet → Packet → Bool
is_busy_of_either k p r = is_stray k r && not (is_some (repeat_reply k p))

-- what is not judged
abbrev pub is_doubtful : Known → Packet → Packet → Bool
is_doubtful k p r = is_late k p r || is_of_either k p r || is_unheard k p r || is_busy_of_either k p r

-- one more reply to this copy
abbrev pub is_one_more : Known → Packet → Bool
is_one_more k r = k.replied && not (is_damage (said r))

-- one reply to each copy
abbrev pub reader_accused : Known → Packet → Packet → Option Accusation
reader_accused k p r =
    if is_doubtful k p r then None
    else if is_one_more k r && not (is_owed k) then Some SecondReply
    else reply_accused (said r) k p r

-- A reply with the packet's number takes it, but to a known repeat, whose stored reply stays. All packets before are answered then, if ever; but where
-- the number is 0 it may be the packet before that was answered.
abbrev pub after_own : Bool → ℕ → Known → Packet → Known
after_own is_repeat number k r = record k {
  replied = true;
  answered = true;
  taken = if is_repeat then k.taken else Some number;
  stored = if is_repeat then k.stored else (if number == 0 then None else Some r);
  earlier = if number == 0 then k.earlier else None;
  older = if number == 0 then k.older else None;
}

-- after one with another number nobody knows which the reader took, but at a known repeat
abbrev pub after_other : Bool → Known → Known
after_other is_repeat k = record k {
  replied = true;
  taken = if is_repeat then k.taken else None;
  stored = if is_repeat then k.stored else None;
}

abbrev pub after_answer : Bool → ℕ → Known → Packet → Known
after_answer is_repeat number k r = if r.sequence == number then after_own is_repeat number k r else after_other is_repeat k

-- after a NAK 4 the last number is unknown: a restart
abbrev pub after_reply_of : Said → Known → Packet → Packet → Known
after_reply_of Busy k p r = record k { replied = true }
after_reply_of Damage k p r = k
after_reply_of Refusal k p r = record k { replied = true; taken = None; stored = None }
after_reply_of Answer k p r = after_answer (is_some (repeat_reply k p)) p.sequence k r

-- What comes late changes nothing, nor does a BUSY of which nobody can tell what it answers. Where a packet wasn't heard nothing is known any more.
abbrev pub after_reply : Known → Packet → Packet → Known
after_reply k p r = if is_late k p r || is_stray k r then k else if is_unheard k p r then nothing_known else after_reply_of (said r) k p r

-- a NAK, whatever its reason
abbrev pub is_nak : Result Reply MsgFault → Bool
is_nak (Ok (Nak n)) = true
is_nak _ = false

-- the packet with number 0 is answered for the first time, and not by a NAK: then no session is open
abbrev pub is_opening : Known → Packet → Packet → Bool
is_opening k p r = p.sequence == 0 && r.sequence == 0 && not k.answered && is_answer (said r) && not (is_nak (reply_told r))
