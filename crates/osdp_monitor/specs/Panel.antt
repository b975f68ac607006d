-- The rules of the panel: what may be sent to an address after what is known of it.
use Rattle.std.specs.Prelude.{ℕ, ◌==◌, ◌-◌, Bool, true, false, ◌&&◌, ◌||◌, not, if◌then◌else◌, Option, None, Some}
use Rattle.osdp_frame.specs.Packet.{Packet, next_sequence}
use Rattle.osdp_monitor.specs.declared.accusation.Accusation.{Accusation}
use Rattle.osdp_monitor.specs.declared.accusation.Accusation.TheVariants.{AnotherPacket, NotAnswered, SentOutOfTurn}
use Rattle.osdp_monitor.specs.Known.{Known, is_number, nothing_known}
use Rattle.osdp_rules.specs.Packets.{same_packet}

-- Number 0 is in order: a new session. Else it is the last number, with the last packet byte for byte; or the next one, where the
-- last packet was answered.
abbrev pub sent_after : Packet → Bool → Packet → Option Accusation
sent_after last answered p =
    if p.sequence == 0 then None
    else if p.sequence == last.sequence then (if same_packet last p then None else Some AnotherPacket)
    else if p.sequence == next_sequence last.sequence then (if answered then None else Some NotAnswered)
    else Some SentOutOfTurn

-- the next number, though no answer to the last packet was heard: the panel gave that one up, or this listener alone missed the answer
abbrev pub is_doubt : Packet → Bool → Packet → Bool
is_doubt last answered p = p.sequence == next_sequence last.sequence && not answered

-- one packet that the listener missed explains the first doubt, where none came shortly before
abbrev pub is_first_doubt : Option Packet → Known → Packet → Bool
is_first_doubt None k p = false
is_first_doubt (Some last) k p = is_doubt last k.answered p && k.suspected == 0

-- after a doubt, for so many packets to the device
abbrev pub suspected_for : ℕ
suspected_for = 8

abbrev pub still_suspected : Option Packet → Known → Packet → ℕ
still_suspected None k p = 0
still_suspected (Some last) k p = if is_doubt last k.answered p then suspected_for else k.suspected - 1

-- where the last packet is known
abbrev pub panel_accused : Option Packet → Known → Packet → Option Accusation
panel_accused None k p = None
panel_accused (Some last) k p = if is_first_doubt (Some last) k p then None else sent_after last k.answered p

-- The number that the reader took last is known no more after another packet than the last, where that one had no reply: it may have been
-- taken. One that has the number taken last is not taken again. And number 0 begins anew.
abbrev pub keeps_number : Packet → Known → Packet → Bool
keeps_number last k p = not (p.sequence == 0) && (k.replied || is_number k.taken last.sequence)

-- a copy of the last packet has had no reply: one may still come
abbrev pub is_waiting : Known → Bool
is_waiting k = k.owing || not k.replied

abbrev pub left_waiting : Packet → Known → Option ℕ
left_waiting last k = if is_waiting k then Some last.sequence else None

-- Both have number 0, and a reply to the last packet may still come: the panel begins a session, and goes on to begin it. Such packets count as one.
abbrev pub is_in_row : Option ℕ → Packet → Bool
is_in_row earlier p = is_number earlier 0 && p.sequence == 0

-- the number of the packet before all of these, where a reply to it may still come
abbrev pub before_row : Known → Option ℕ
before_row k = if is_number k.earlier 0 then k.older else k.earlier

-- another packet than the last
abbrev pub after_another : Bool → Option ℕ → Known → Packet → Known
after_another keeps earlier k p = record {
  last = Some p;
  replied = false;
  answered = false;
  missed = not k.replied;
  taken = if keeps then k.taken else None;
  stored = if keeps then k.stored else None;
  earlier = earlier;
  older = if is_in_row earlier p then before_row k else None;
  owing = is_number earlier p.sequence;
  settled = not (is_in_row earlier p) || k.settled;
  suspected = still_suspected k.last k p;
}

-- the last packet once more, at number 0 too
abbrev pub after_copy : Known → Known
after_copy k = record k { replied = false; missed = not k.replied; owing = is_waiting k; suspected = k.suspected - 1 }

-- the first one that is known may be a copy
abbrev pub after_sent : Option Packet → Known → Packet → Known
after_sent None k p = record nothing_known { last = Some p; owing = true }
after_sent (Some last) k p =
    if same_packet last p then after_copy k else after_another (keeps_number last k p) (left_waiting last k) k p

-- the last packet had no reply, and the one before it had one, or wasn't known
abbrev pub is_missed : Option Packet → Known → Bool
is_missed None k = false
is_missed (Some last) k = not k.replied && not k.missed
