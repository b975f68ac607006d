-- What an answer shows of what the device says by CAP.
use Rattle.std.specs.Prelude.{ℕ, ◌==◌, Bool, true, ◌&&◌, ◌||◌, nat_lt, List, [], ◌∷◌, length, Option, Some, None, Result, Ok, if◌then◌else◌}
use Rattle.osdp_frame.specs.Packet.{Packet}
use Rattle.osdp_msg.specs.declared.command.Command.{Command}
use Rattle.osdp_msg.specs.declared.command.Command.TheVariants.{InputStatus, OutputStatus, ReaderStatus, Output, Led, Text}
use Rattle.osdp_msg.specs.declared.fault.MsgFault.{MsgFault}
use Rattle.osdp_msg.specs.declared.leds.LedRecord.{LedRecord}
use Rattle.osdp_msg.specs.declared.outputs.OutputRecord.{OutputRecord}
use Rattle.osdp_msg.specs.declared.reply.Reply.{Reply}
use Rattle.osdp_msg.specs.declared.reply.Reply.TheVariants.{Ack, Nak, Inputs, Outputs, Readers}
use Rattle.osdp_rules.specs.Claims.{is_anew}
use Rattle.osdp_rules.specs.Findings.{kept_if}
use Rattle.osdp_rules.specs.Packets.{asked, takes_nothing, told}
use Rattle.osdp_rules.specs.declared.aspect.Aspect.{Aspect}
use Rattle.osdp_rules.specs.declared.aspect.Aspect.TheVariants as aspect
use Rattle.osdp_rules.specs.declared.claims.Claims.{Claims}
use Rattle.osdp_rules.specs.declared.finding.Finding.{Finding}
use Rattle.osdp_rules.specs.declared.finding.Finding.TheVariants.{Nothing, Kept, Either, Broken}
use Rattle.osdp_rules.specs.declared.known.Known.{Known}

-- a list has as many entries as CAP tells; where CAP doesn't speak of them any number is left open
abbrev pub agrees : Option ℕ → ℕ → Finding
agrees None entries = Either
agrees (Some count) entries = kept_if (entries == count)

-- whether a device counts itself among its readers is left open
abbrev pub may_agree : Option ℕ → ℕ → Finding
may_agree None entries = Either
may_agree (Some count) entries = if entries == count then Kept else Either

-- a status list has as many entries as CAP tells; to have no such command is left open
abbrev pub listed_finding : Claims → Result Command MsgFault → Result Reply MsgFault → Finding
listed_finding claims (Ok InputStatus) (Ok (Inputs states)) = agrees claims.inputs (length states.items)
listed_finding claims (Ok OutputStatus) (Ok (Outputs states)) = agrees claims.outputs (length states.items)
listed_finding claims (Ok ReaderStatus) (Ok (Readers states)) = may_agree claims.readers (length states.items)
listed_finding claims (Ok InputStatus) (Ok (Nak n)) = Either
listed_finding claims (Ok OutputStatus) (Ok (Nak n)) = Either
listed_finding claims (Ok ReaderStatus) (Ok (Nak n)) = Either
listed_finding claims asked told = Nothing

-- each record is of an output that there is, or changes nothing
abbrev pub are_outputs : ℕ → List OutputRecord → Bool
are_outputs count [] = true
are_outputs count (r ∷ rs) = (nat_lt r.output count || r.control == 0) && are_outputs count rs

-- .. and of an LED
abbrev pub are_leds : ℕ → List LedRecord → Bool
are_leds count [] = true
are_leds count (r ∷ rs) =
    (nat_lt r.led count || (r.temporary_control == 0 && r.permanent_control == 0)) && are_leds count rs

-- characters of a display of this level
abbrev pub text_room : ℕ → ℕ
text_room level = if level == 1 then 16 else if level == 2 then 32 else if level == 3 then 64 else 255

-- what there isn't is refused; ACK and OSTATR say that it was done
abbrev pub refused_finding : Result Reply MsgFault → Finding
refused_finding (Ok (Nak n)) = Kept
refused_finding (Ok Ack) = Broken
refused_finding (Ok (Outputs states)) = Broken
refused_finding told = Nothing

-- what a display does with a text that is longer than itself is left open
abbrev pub longer_finding : Result Reply MsgFault → Finding
longer_finding (Ok (Nak n)) = Kept
longer_finding (Ok Ack) = Either
longer_finding told = Nothing

abbrev pub outputs_finding : Option ℕ → List OutputRecord → Result Reply MsgFault → Finding
outputs_finding None records told = Nothing
outputs_finding (Some count) records told = if are_outputs count records then Nothing else refused_finding told

abbrev pub leds_finding : Option ℕ → List LedRecord → Result Reply MsgFault → Finding
leds_finding None records told = Nothing
leds_finding (Some count) records told = if are_leds count records then Nothing else refused_finding told

-- level 0 is no display
abbrev pub text_finding : Option ℕ → ℕ → Result Reply MsgFault → Finding
text_finding None characters told = Nothing
text_finding (Some level) characters told =
    if level == 0 then refused_finding told
    else if nat_lt (text_room level) characters then longer_finding told
    else Nothing

-- what the device doesn't have by CAP it refuses; where CAP doesn't speak of it nothing is shown
abbrev pub beyond_finding : Claims → Result Command MsgFault → Result Reply MsgFault → Finding
beyond_finding claims (Ok (Output records)) told = outputs_finding claims.outputs records told
beyond_finding claims (Ok (Led records)) told = leds_finding claims.leds records told
beyond_finding claims (Ok (Text text)) told = text_finding claims.text (length text.characters.items) told
beyond_finding claims asked told = Nothing

abbrev pub claim_finding : Aspect → Claims → Result Command MsgFault → Result Reply MsgFault → Finding
claim_finding aspect.Listed claims asked told = listed_finding claims asked told
claim_finding aspect.Beyond claims asked told = beyond_finding claims asked told
claim_finding aspect claims asked told = Nothing

-- BUSY, NAK 1 and NAK 4 say nothing of the command
abbrev pub claim_heard : Aspect → Claims → Result Command MsgFault → Option Packet → Finding
claim_heard aspect claims asked None = Nothing
claim_heard aspect claims asked (Some a) = if takes_nothing a then Nothing else claim_finding aspect claims asked (told a)

-- what a packet with a new number and its answer show of what the device said by CAP
abbrev pub claim_judged : Aspect → ℕ → Known → Claims → Packet → Option Packet → Finding
claim_judged aspect address k claims p heard =
    if is_anew address k p then claim_heard aspect claims (asked p) heard else Nothing
