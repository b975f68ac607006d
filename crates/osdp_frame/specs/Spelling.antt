-- How a packet is spelled in bytes.
use Rattle.std.specs.Prelude.{◌≡◌, ℕ, ◌+◌, ◌*◌, ◌/◌, ◌%◌, if◌then◌else◌, List, ◌∷◌, ◌++◌, length}
use Rattle.osdp_frame.specs.declared.check_kind.CheckKind.{CheckKind}
use Rattle.osdp_frame.specs.declared.check_kind.CheckKind.TheVariants.{Sum, Crc}
use Rattle.osdp_frame.specs.Check.{check_of}
use Rattle.osdp_frame.specs.Packet.{Packet, IsPacket, packet_length}

-- the byte that each packet begins with
abbrev pub start_of_message : ℕ
start_of_message = 0x53

-- bits 0 to 6 the address, bit 7 set in a reply
abbrev pub address_byte : Packet → ℕ
address_byte p = p.address + (if p.reply then 128 else 0)

abbrev pub crc_bit : CheckKind → ℕ
crc_bit Sum = 0
crc_bit Crc = 4

-- bits 0 and 1 the sequence number, bit 2 set for a CRC, bit 3 for a security block, bits 4 to 7 the
-- reserved ones
abbrev pub control_byte : Packet → ℕ
control_byte p = p.sequence + crc_bit p.check + (if p.block then 8 else 0) + 16 * p.reserved

-- what stands before the check, where all bytes of the packet are this many: the start, the address,
-- the length with its low byte first, the control byte and the body
abbrev pub front : Packet → ℕ → List ℕ
front p count =
    start_of_message ∷ address_byte p ∷ count % 256 ∷ count / 256 ∷ control_byte p ∷ p.body

-- the bytes spell the packet: its front with the count of them all, and the check of the front
pub record Spells (p : Packet) (bytes : List ℕ) : Type 0 where
  pub fits : IsPacket p
  pub whole : bytes ≡ front p (length bytes) ++ check_of p.check (front p (length bytes))

-- the one spelling
abbrev pub spelling : Packet → List ℕ
spelling p = front p (packet_length p) ++ check_of p.check (front p (packet_length p))
