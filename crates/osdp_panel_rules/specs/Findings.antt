-- What the next packet of a panel shows of each rule.
use Rattle.std.specs.Prelude.{ℕ, ◌==◌, nat_le, Bool, if◌then◌else◌}
use Rattle.osdp_frame.specs.Packet.{Packet, next_sequence}
use Rattle.osdp_panel_rules.specs.declared.sequel.Sequel.{Sequel}
use Rattle.osdp_panel_rules.specs.declared.sequel.Sequel.TheVariants.{Again, Anew, Altered, Next, Out}
use Rattle.osdp_rules.specs.Packets.{code_of, same_packet}
use Rattle.osdp_rules.specs.declared.finding.Finding.{Finding}
use Rattle.osdp_rules.specs.declared.finding.Finding.TheVariants.{Nothing, Kept, Either, Broken}

-- how a packet follows the one before
abbrev pub sequel_of : Packet → Packet → Sequel
sequel_of p q =
    if same_packet p q then Again
    else if q.sequence == 0 then Anew
    else if q.sequence == p.sequence then Altered
    else if q.sequence == next_sequence p.sequence then Next
    else Out

-- a number is 0, the last one or the next
abbrev pub turn_finding : Sequel → Finding
turn_finding Next = Kept
turn_finding Out = Broken
turn_finding _ = Nothing

-- a packet with the last number, which isn't 0, is the last packet
abbrev pub copy_finding : Sequel → Finding
copy_finding Again = Kept
copy_finding Altered = Broken
copy_finding _ = Nothing

-- without an answer the packet comes again; a new session is left open
abbrev pub again_finding : Sequel → Finding
again_finding Again = Kept
again_finding Anew = Either
again_finding Next = Broken
again_finding _ = Nothing

-- whether NAK 1 is an answer is left open
abbrev pub damage_finding : Sequel → Finding
damage_finding Again = Kept
damage_finding Anew = Either
damage_finding Next = Either
damage_finding _ = Nothing

-- a copy begins a session where it has number 0, and else tells nothing, since what was said may be lost
abbrev pub copy_anew : ℕ → Finding
copy_anew number = if number == 0 then Kept else Nothing

-- after NAK 4 a session begins with number 0, and no other packet comes
abbrev pub refusal_finding : ℕ → Sequel → Finding
refusal_finding number Again = copy_anew number
refusal_finding number Anew = Kept
refusal_finding number _ = Broken

-- so it does after a long silence; another packet with the last number is a wrong copy
abbrev pub lapse_finding : ℕ → Sequel → Finding
lapse_finding number Again = copy_anew number
lapse_finding number Anew = Kept
lapse_finding number Altered = Nothing
lapse_finding number _ = Broken

-- an answer is followed by the next number; a copy tells nothing, since the answer may be lost
abbrev pub taken_finding : Sequel → Finding
taken_finding Next = Kept
taken_finding Anew = Either
taken_finding _ = Nothing

-- a device may begin its answer 200 ms after a packet; the clocks of both ends may differ by 50 ms
abbrev pub wait_finding : ℕ → Finding
wait_finding wait = if nat_le 200 wait then Kept else if nat_le 150 wait then Either else Broken

-- a device is offline after 8 seconds without a packet; the clocks may differ by 500 ms
abbrev pub online_finding : ℕ → Finding
online_finding wait = if nat_le wait 8000 then Kept else if nat_le wait 8500 then Either else Broken

-- POLL, ID, CAP and the status commands change nothing; all others are orders
abbrev pub is_order : Packet → Bool
is_order p = nat_le 0x68 (code_of p)
