-- The packets of an exchange, each with what was heard of it.
use Rattle.std.specs.Prelude.{ℕ, ◌==◌, Bool, false, true, ◌&&◌, if◌then◌else◌, is_some, List, [], ◌∷◌, length, Option, None}
use Rattle.osdp_frame.specs.Packet.{Packet}
use Rattle.osdp_tool_test.specs.Runs.{first_of, packets_of, second_of}
use Rattle.osdp_tool_test.specs.declared.exchange.Exchange.{Exchange}

-- a packet, or bytes that hold none, the first answer, how many answers came, and how many milliseconds later
pub record Seen : Type 0 where
  pub packet : Option Packet
  pub answer : Option Packet
  pub count : ℕ
  pub delay : ℕ

abbrev pub seen : Option Packet → Option Packet → ℕ → ℕ → Seen
seen packet answer count delay = record { packet = packet; answer = answer; count = count; delay = delay }

abbrev pub sent : Exchange → List Packet
sent x = packets_of false x.sent.items

abbrev pub answers : Exchange → List Packet
answers x = packets_of true x.heard.items

-- a packet was sent, and a device answered
abbrev pub is_answered : Exchange → Bool
is_answered x = is_some (first_of (sent x)) && is_some (first_of (answers x))

abbrev pub first_two : List Packet → Option Packet × Option Packet
first_two packets = (first_of packets, second_of packets)

-- two packets without a pause between them: each has its answer where two came, else it isn't known whose answer was heard
abbrev pub in_a_row : Option Packet × Option Packet → Option Packet × Option Packet → Bool → ℕ → List Seen
in_a_row packets answers true delay = seen packets.0 answers.0 1 delay ∷ seen packets.1 answers.1 1 delay ∷ []
in_a_row packets answers false delay = seen packets.0 None 0 delay ∷ seen packets.1 None 0 delay ∷ []

abbrev pub seen_of : List Packet → List Packet → ℕ → List Seen
seen_of packets answers delay =
    if length packets == 2 then in_a_row (first_two packets) (first_two answers) (length answers == 2) delay
    else seen (first_of packets) (first_of answers) (length answers) delay ∷ []

abbrev pub seen_in : Exchange → List Seen
seen_in x = seen_of (sent x) (answers x) x.delay
