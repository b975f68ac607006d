-- What a packet and what was heard after it show of a rule.
use Rattle.std.specs.Prelude.{ℕ, Option, Some, None, is_some, if◌then◌else◌}
use Rattle.osdp_frame.specs.Packet.{Packet}
use Rattle.osdp_rules.specs.Findings.{block_finding, new_finding, quiet_finding, repeat_finding, wrong_finding, deaf_finding, silent_finding, single_finding}
use Rattle.osdp_rules.specs.Known.{last_number, turn_of}
use Rattle.osdp_rules.specs.Packets.{has_reason, is_to}
use Rattle.osdp_rules.specs.declared.aspect.Aspect.{Aspect}
use Rattle.osdp_rules.specs.declared.aspect.Aspect.TheVariants as aspect
use Rattle.osdp_rules.specs.declared.finding.Finding.{Finding}
use Rattle.osdp_rules.specs.declared.finding.Finding.TheVariants.{Nothing}
use Rattle.osdp_rules.specs.declared.known.Known.{Known}
use Rattle.osdp_rules.specs.declared.known.Turn.{Turn}
use Rattle.osdp_rules.specs.declared.known.Turn.TheVariants.{New, Again, Out, NobodyKnows}
use Rattle.osdp_rules.specs.declared.known.Known.TheVariants.{Gone}

-- by the turn of its number
abbrev pub turn_judged : Turn → Aspect → Known → Packet → Packet → Finding
turn_judged New aspect k p a = new_finding aspect p a
turn_judged Again aspect k p a = repeat_finding aspect k p a
turn_judged Out aspect k p a = wrong_finding aspect a
turn_judged NobodyKnows aspect k p a = Nothing

-- an answer to a packet that is to the device; NAK 1 says that the packet came damaged
abbrev pub answer_judged : Aspect → Known → Packet → Packet → Finding
answer_judged aspect k p a =
    if has_reason 1 a then Nothing
    else if p.block then block_finding aspect a
    else turn_judged (turn_of (last_number k) p.sequence) aspect k p a

-- silence may be a loss: it shows nothing
abbrev pub heard_judged : Aspect → Known → Packet → Option Packet → Finding
heard_judged aspect k p None = Nothing
heard_judged aspect k p (Some a) = answer_judged aspect k p a

abbrev pub sent_judged : Aspect → ℕ → Known → Packet → Option Packet → Finding
sent_judged aspect address k p heard =
    if is_to address p then heard_judged aspect k p heard else quiet_finding aspect (is_some heard)

-- what a packet and its answer show of a rule
abbrev pub judged : Aspect → ℕ → Known → Packet → Option Packet → Finding
judged aspect address Gone p heard = Nothing
judged aspect address k p heard = sent_judged aspect address k p heard

-- .. and of bytes without a packet
abbrev pub noise_judged : Aspect → Option Packet → Finding
noise_judged aspect None = silent_finding aspect
noise_judged aspect (Some a) = deaf_finding aspect a

-- .. and of how many answers came to one packet
abbrev pub count_judged : Aspect → ℕ → Finding
count_judged aspect.Single count = single_finding count
count_judged _ count = Nothing
