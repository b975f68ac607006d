-- What an answer to a packet shows of each rule.
use Rattle.std.specs.Prelude.{ℕ, ◌==◌, Bool, true, false, ◌||◌, not, nat_lt, Result, Ok, Err, if◌then◌else◌}
use Rattle.std.specs.List.{list_any}
use Rattle.osdp_frame.specs.Packet.{Packet}
use Rattle.osdp_msg.specs.Fitting.{fitting_codes}
use Rattle.osdp_msg.specs.declared.command.Command.{Command}
use Rattle.osdp_msg.specs.declared.command.Command.TheVariants.{Poll, Id, Cap}
use Rattle.osdp_msg.specs.declared.fault.MsgFault.{MsgFault}
use Rattle.osdp_msg.specs.declared.fault.MsgFault.TheVariants.{UnknownCode, Length, Count}
use Rattle.osdp_msg.specs.declared.reply.Reply.{Reply}
use Rattle.osdp_rules.specs.Packets.{asked, told, code_of, has_reason, is_busy, is_nak, same_check, same_packet}
use Rattle.osdp_rules.specs.declared.aspect.Aspect.{Aspect}
use Rattle.osdp_rules.specs.declared.aspect.Aspect.TheVariants as aspect
use Rattle.osdp_rules.specs.declared.finding.Finding.{Finding}
use Rattle.osdp_rules.specs.declared.finding.Finding.TheVariants.{Nothing, Kept, Either, Broken}
use Rattle.osdp_rules.specs.declared.known.Known.{Known}
use Rattle.osdp_rules.specs.declared.known.Known.TheVariants.{Took}

abbrev pub kept_if : Bool → Finding
kept_if true = Kept
kept_if false = Broken

-- a refusal with this reason is asked; one with another, and BUSY, are left open
abbrev pub refusal_finding : ℕ → Packet → Finding
refusal_finding reason a = if has_reason reason a then Kept else if is_nak a || is_busy a then Either else Broken

-- the code fits a command, by the table of replies
abbrev pub is_fitting : Command → ℕ → Bool
is_fitting command code = list_any (λ fitting. fitting == code) (fitting_codes command)

-- the codes that answer some command, or tell an event: all of the table but NAK, BUSY and MFGREP
abbrev pub is_answer : ℕ → Bool
is_answer code =
    code == 0x40 || (code == 0x45 || (code == 0x46 || (code == 0x48 || (code == 0x49 || (code == 0x4A || (code == 0x4B
    || (code == 0x50 || (code == 0x51 || (code == 0x53 || code == 0x54)))))))))

-- an answer that fits; the answer of another command is none; what else a maker answers is left open
abbrev pub fit_finding : Command → ℕ → Finding
fit_finding command code = if is_fitting command code then Kept else if is_answer code then Broken else Either

abbrev pub fit_read : Result Command MsgFault → ℕ → Finding
fit_read (Ok command) code = fit_finding command code
fit_read (Err fault) code = Nothing

-- POLL, ID and CAP, which each device has
abbrev pub must_have : Result Command MsgFault → Bool
must_have (Ok Poll) = true
must_have (Ok (Id kept)) = true
must_have (Ok (Cap kept)) = true
must_have _ = false

abbrev pub served_finding : Result Command MsgFault → Packet → Finding
served_finding asked a = if must_have asked then kept_if (not (is_nak a)) else Nothing

-- a code below 60, which the standard gives to no command, is refused by NAK 3
abbrev pub code_finding : Result Command MsgFault → ℕ → Packet → Finding
code_finding (Err UnknownCode) code a = if nat_lt code 0x60 then refusal_finding 3 a else Nothing
code_finding _ code a = Nothing

-- a command with a wrong length or count is refused by NAK 2
abbrev pub length_finding : Result Command MsgFault → Packet → Finding
length_finding (Err Length) a = refusal_finding 2 a
length_finding (Err Count) a = refusal_finding 2 a
length_finding _ a = Nothing

-- a reply of the table has a length and counts that it allows
abbrev pub read_finding : Result Reply MsgFault → Finding
read_finding (Ok reply) = Kept
read_finding (Err UnknownCode) = Either
read_finding (Err fault) = Broken

-- BUSY has number 0; with the number of its packet it is understood too
abbrev pub busy_finding : Packet → Packet → Finding
busy_finding p a =
    if is_busy a then (if a.sequence == 0 then Kept else if a.sequence == p.sequence then Either else Broken) else Nothing

-- from 127 a device may answer with its own address
abbrev pub address_finding : Packet → Packet → Finding
address_finding p a = if p.address == 127 then Either else kept_if (a.address == p.address)

abbrev pub number_finding : Packet → Packet → Finding
number_finding p a = if is_busy a then Nothing else kept_if (a.sequence == p.sequence)

-- what the answer to a packet with a new number shows, which the device took
abbrev pub taken_finding : Aspect → Packet → Packet → Finding
taken_finding aspect.Address p a = address_finding p a
taken_finding aspect.Check p a = kept_if (same_check a.check p.check)
taken_finding aspect.Number p a = number_finding p a
taken_finding aspect.Plain p a = kept_if (not a.block)
taken_finding aspect.Turn p a = Kept
taken_finding aspect.Fit p a = fit_read (asked p) (code_of a)
taken_finding aspect.Served p a = served_finding (asked p) a
taken_finding aspect.Code p a = code_finding (asked p) (code_of p) a
taken_finding aspect.Length p a = length_finding (asked p) a
taken_finding aspect.Read p a = read_finding (told a)
taken_finding aspect.Busy p a = busy_finding p a
taken_finding _ p a = Nothing

-- .. or refused by NAK 4
abbrev pub turned_away : Aspect → Finding
turned_away aspect.Turn = Broken
turned_away _ = Nothing

abbrev pub new_finding : Aspect → Packet → Packet → Finding
new_finding aspect p a = if has_reason 4 a then turned_away aspect else taken_finding aspect p a

-- a number out of turn is refused by NAK 4
abbrev pub wrong_finding : Aspect → Packet → Finding
wrong_finding aspect.Wrong a = refusal_finding 4 a
wrong_finding _ a = Nothing

-- a packet that comes once more has the answer that it had, byte for byte; whether a busy device says BUSY then is left open
abbrev pub again_finding : Packet → Packet → Finding
again_finding first a = if same_packet first a then Kept else if is_busy a then Either else Broken

abbrev pub repeat_finding : Aspect → Known → Packet → Packet → Finding
repeat_finding aspect.Repeat (Took sent first) p a = if same_packet sent p then again_finding first a else Nothing
repeat_finding _ k p a = Nothing

-- a security block that it doesn't have is refused by NAK 5; what else it does with one is left open
abbrev pub block_finding : Aspect → Packet → Finding
block_finding aspect.Block a = if has_reason 5 a then Kept else Either
block_finding _ a = Nothing

-- what isn't to the device it doesn't answer
abbrev pub quiet_finding : Aspect → Bool → Finding
quiet_finding aspect.Quiet answered = kept_if (not answered)
quiet_finding _ answered = Nothing

-- bytes that hold no packet are passed over; a NAK is left open
abbrev pub deaf_finding : Aspect → Packet → Finding
deaf_finding aspect.Deaf a = if is_nak a then Either else Broken
deaf_finding _ a = Nothing

abbrev pub silent_finding : Aspect → Finding
silent_finding aspect.Deaf = Kept
silent_finding _ = Nothing

-- an answer begins within 200 ms
abbrev pub prompt_finding : ℕ → Finding
prompt_finding delay = if nat_lt 200 delay then Broken else Kept

-- one packet has one answer
abbrev pub single_finding : ℕ → Finding
single_finding count = if count == 0 then Nothing else kept_if (count == 1)
