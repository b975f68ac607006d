-- What is kept of a reply.
use Rattle.std.proofs.Common.{◌≡◌, ◌↔◌, ℕ, true, List, Option, Some, refl, ap, sym, subst}
use Rattle.osdp_frame.specs.Held.{decided}
use Rattle.osdp_frame.specs.Packet.{Packet}
use Rattle.osdp_frame.specs.Reading.{RunItem, PacketItem, IsFirst}
use Rattle.osdp_frame.specs.Spelling.{Spells}
use Rattle.osdp_reader.specs.Spelled.{IsSpelled, first_packet, packet_if}

-- what spells a packet has it first
pub first_of_spelling : (p : Packet) (bytes : List ℕ) → Spells p bytes
    → ((part : RunItem) → (decided true bytes ≡ Some part) ↔ IsFirst true bytes part) → first_packet bytes ≡ Some p
first_of_spelling p bytes spelled decides =
    ap packet_if ((decides (PacketItem p)).1 (λ more ends. record { bytes = bytes; after = more; spelled = spelled; parts = refl }))

pub is_spelled : (p : Packet) (bytes : List ℕ) → Spells p bytes → first_packet bytes ≡ Some p
    → IsSpelled (first_packet bytes) bytes
is_spelled p bytes spelled first = subst (λ (o : Option Packet). IsSpelled o bytes) (sym first) spelled
