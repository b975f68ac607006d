-- The bytes of a spelling, and its reading.
use Rattle.osdp_frame_laws.proofs.Common.{ℕ, zero, suc, ◌+◌, ◌*◌, ◌/◌, ◌%◌, ◌^◌, ◌<◌, ◌≤◌, Bool, true, false, cond, List, [], ◌∷◌, ◌++◌, length, sym, subst, arith, append-nil, drop_all, get_or_default, Sum, Crc, AreBytes, Packet, IsPacket, packet_length, Spells, front, address_byte, control_byte, crc_bit, PacketItem, IsReading, AreBytes-append, AreBytes-cons, AreBytes-nil, length-spelled}
use Rattle.osdp_check.specs.Checksum.{checksum}
use Rattle.osdp_check.specs.Crc.{IsBytes, crc}
use Rattle.osdp_check.proofs.Pieces.{crc-lt}
use Rattle.osdp_frame.specs.declared.check_kind.CheckKind.{CheckKind}
use Rattle.osdp_frame.specs.Check.{check_of}

-- the same in the words of the checks
IsBytes-AreBytes : (bytes : List ℕ) → AreBytes bytes → IsBytes bytes
IsBytes-AreBytes bytes h k d lt = subst (λ (b : ℕ). b < 256) (get_or_default bytes k 0 d lt) (h k)

AreBytes-check_of : (check : CheckKind) (bytes : List ℕ) → AreBytes bytes → AreBytes (check_of check bytes)
AreBytes-check_of Sum bytes h = AreBytes-cons (checksum bytes) [] (omega arith) AreBytes-nil
AreBytes-check_of Crc bytes h =
    let small : crc bytes < 2 ^ 16 = crc-lt bytes (IsBytes-AreBytes bytes h) in
    AreBytes-cons (crc bytes % 256) (crc bytes / 256 ∷ []) (omega arith) (AreBytes-cons (crc bytes / 256) [] (omega arith) AreBytes-nil)

address_byte-lt : (p : Packet) → p.address < 128 → address_byte p < 256
address_byte-lt p lt = by_flag p.reply
  where
    by_flag : (r : Bool) → p.address + cond r 128 0 < 256
    by_flag true = omega arith
    by_flag false = omega arith

control_byte-lt : (p : Packet) → p.sequence < 4 → p.reserved < 16 → control_byte p < 256
control_byte-lt p a b = by_flags p.check p.block
  where
    by_flags : (c : CheckKind) (f : Bool) → p.sequence + crc_bit c + cond f 8 0 + 16 * p.reserved < 256
    by_flags Sum true = omega arith
    by_flags Sum false = omega arith
    by_flags Crc true = omega arith
    by_flags Crc false = omega arith

AreBytes-front : (p : Packet) (n : ℕ) → IsPacket p → n ≤ 1440 → AreBytes (front p n)
AreBytes-front p n fits le =
    let control = AreBytes-cons (control_byte p) p.body (control_byte-lt p fits.sequence fits.reserved) fits.body in
    let high = AreBytes-cons (n / 256) (control_byte p ∷ p.body) (omega arith) control in
    let low = AreBytes-cons (n % 256) (n / 256 ∷ control_byte p ∷ p.body) (omega arith) high in
    let address = AreBytes-cons (address_byte p) (n % 256 ∷ n / 256 ∷ control_byte p ∷ p.body) (address_byte-lt p fits.address) low in
    AreBytes-cons 83 (address_byte p ∷ n % 256 ∷ n / 256 ∷ control_byte p ∷ p.body) (omega arith) address

pub AreBytes-Spells : (p : Packet) (bytes : List ℕ) → Spells p bytes → AreBytes bytes
AreBytes-Spells p bytes s =
    let n = length bytes in
    let le : n ≤ 1440 = omega (arith, length-spelled p bytes s, s.fits.room) in
    let whole = AreBytes-front p n s.fits le in
    subst (λ l. AreBytes l) (sym s.whole) (AreBytes-append (front p n) (check_of p.check (front p n)) whole (AreBytes-check_of p.check (front p n) whole))

pub IsReading-Spells : (p : Packet) (bytes : List ℕ) → Spells p bytes → IsReading bytes (PacketItem p ∷ [])
IsReading-Spells p bytes s = (
  record { bytes = bytes; after = []; spelled = s; parts = sym (append-nil bytes) },
  drop_all (packet_length p) bytes (omega (arith, length-spelled p bytes s)),
)
