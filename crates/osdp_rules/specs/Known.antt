-- What is known of a device from its answers.
use Rattle.std.specs.Prelude.{ℕ, ◌==◌, ◌&&◌, not, Option, Some, None, if◌then◌else◌}
use Rattle.osdp_frame.specs.Packet.{Packet, next_sequence}
use Rattle.osdp_rules.specs.Packets.{asked, is_comset, is_to, takes_nothing}
use Rattle.osdp_rules.specs.declared.known.Known.{Known}
use Rattle.osdp_rules.specs.declared.known.Turn.{Turn}
use Rattle.osdp_rules.specs.declared.known.Turn.TheVariants.{New, Again, Out, NobodyKnows}
use Rattle.osdp_rules.specs.declared.known.Known.TheVariants.{Gone, Unknown, Opened, Took}

-- the number that it took last
abbrev pub last_number : Known → Option ℕ
last_number Gone = None
last_number Unknown = None
last_number Opened = Some 0
last_number (Took p a) = Some p.sequence

-- the number of the packet to come: the one after the last, and 0 where that isn't known
abbrev pub number_after : Option ℕ → ℕ
number_after None = 0
number_after (Some last) = next_sequence last

abbrev pub next_number : Known → ℕ
next_number k = number_after (last_number k)

-- the turn of a number: number 0 is new, and the number after the last
abbrev pub turn_of : Option ℕ → ℕ → Turn
turn_of None number = if number == 0 then New else NobodyKnows
turn_of (Some last) number =
    if number == 0 then New
    else if number == last then Again
    else if number == next_sequence last then New
    else Out

-- an answer tells that the packet was taken, or that it wasn't
abbrev pub after_answer : Packet → Packet → Known → Known
after_answer p a k = if takes_nothing a then k else if p.sequence == 0 then Opened else Took p a

-- where none was heard the packet is lost, or its answer
abbrev pub after_heard : Packet → Option Packet → Known → Known
after_heard p None k = Unknown
after_heard p (Some a) k = after_answer p a k

-- what goes to nobody, or has a security block, changes nothing; after a COMSET the device may be anywhere
abbrev pub after_sent : ℕ → Packet → Option Packet → Known → Known
after_sent address p heard k =
    if is_comset (asked p) then Gone
    else if is_to address p && not p.block then after_heard p heard k
    else k

abbrev pub known_after : ℕ → Packet → Option Packet → Known → Known
known_after address p heard Gone = Gone
known_after address p heard k = after_sent address p heard k
