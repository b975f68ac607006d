-- One direction of a line: bursts of bytes, the oldest first, each of them a run of its own.
use Rattle.std.specs.Prelude.{ℕ, Bool, true, false, List, [], ◌∷◌, map, Option, Some, None}
use Rattle.arrayvec.specs.ArrayVec.{ArrayVec}
use Rattle.osdp_frame.specs.Items.{reading}
use Rattle.osdp_frame.specs.Packet.{Packet}
use Rattle.osdp_frame.specs.Reading.{RunItem, PacketItem, SkippedItem, RefusedItem}
use Rattle.osdp_frame.specs.Spelling.{Spells, spelling}
use Rattle.osdp_sim.specs.declared.step.Move.{Move}
use Rattle.osdp_sim.specs.declared.step.Move.TheVariants.{Deliver, Drop, Repeat, Damage}

-- whether a packet is among the items
abbrev pub has_packet : List RunItem → Bool
has_packet [] = false
has_packet (PacketItem p ∷ parts) = true
has_packet (SkippedItem b ∷ parts) = has_packet parts
has_packet (RefusedItem fault ∷ parts) = has_packet parts

-- whether one stands in a run of bytes
abbrev pub holds_packet : List ℕ → Bool
holds_packet run = has_packet (reading run)

-- the run that a move hands to the other end; no bytes where it hands nothing over
abbrev pub handed : Move → List (List ℕ) → List ℕ
handed move [] = []
handed Deliver (burst ∷ rest) = burst
handed Drop (burst ∷ rest) = []
handed Repeat (burst ∷ rest) = burst
handed (Damage bytes) (burst ∷ rest) = bytes.items

-- the bursts that are on the way after it
abbrev pub left : Move → List (List ℕ) → List (List ℕ)
left move [] = []
left Deliver (burst ∷ rest) = rest
left Drop (burst ∷ rest) = rest
left Repeat (burst ∷ rest) = burst ∷ rest
left (Damage bytes) (burst ∷ rest) = rest

-- a packet as a burst; without one nothing goes out
abbrev pub sent : Option Packet → List (List ℕ)
sent None = []
sent (Some p) = spelling p ∷ []

-- the bursts of a line, as bytes
abbrev pub bytes_of : List (ArrayVec ℕ) → List (List ℕ)
bytes_of bursts = map (λ (burst : ArrayVec ℕ). burst.items) bursts

-- a burst as an end sends it: one packet
abbrev pub IsSent : List ℕ → Type 0
IsSent burst = (p : Packet) × Spells p burst
