-- Packets that are compared field by field.
use Rattle.std.proofs.Common.{◌≡◌, ◌==◌, ◌&&◌, ℕ, Bool, true, false, refl, arith}
use Rattle.std.specs.Bool.{beq}
use Rattle.std.specs.Cmp.{booleans_Decides}
use Rattle.std.specs.Str.{bytes_eq}
use Rattle.std.proofs.lemmas.Slice.Eq.{bytes_eq-Decides}
use Rattle.osdp_frame.specs.declared.check_kind.CheckKind.{CheckKind}
use Rattle.osdp_frame.specs.declared.check_kind.CheckKind.TheVariants.{Sum, Crc}
use Rattle.osdp_frame.specs.Check.{check_size}
use Rattle.osdp_frame.specs.Packet.{Packet}
use Rattle.osdp_rules.specs.Packets.{ComparesPackets, same_check, same_packet}

both : (a b : Bool) → (a && b) ≡ true → (a ≡ true) × (b ≡ true)
both true true h = (refl, refl)
both true false h = cc
both false b h = cc

pub same_kind : (c d : CheckKind) → same_check c d ≡ true → c ≡ d
same_kind Sum Sum h = refl
same_kind Sum Crc h = cc
same_kind Crc Sum h = cc
same_kind Crc Crc h = refl

number_same : (m n : ℕ) → (m == n) ≡ true → m ≡ n
number_same m n h = grind arith

number_self : (n : ℕ) → (n == n) ≡ true
number_self n = grind arith

pub check_same : (c : CheckKind) → same_check c c ≡ true
check_same c = number_self (check_size c)

fields_same : (p q : Packet) → p.reply ≡ q.reply → p.address ≡ q.address → p.sequence ≡ q.sequence → p.check ≡ q.check
    → p.block ≡ q.block → p.reserved ≡ q.reserved → p.body ≡ q.body → p ≡ q
fields_same p q reply address sequence check block reserved body =
    rw (reply, address, sequence, check, block, reserved, body) refl

pub packet_is : (p q : Packet) → same_packet p q ≡ true → p ≡ q
packet_is p q h =
    let body = both _ (bytes_eq p.body q.body) h in
    let reserved = both _ (p.reserved == q.reserved) body.0 in
    let block = both _ (beq p.block q.block) reserved.0 in
    let check = both _ (same_check p.check q.check) block.0 in
    let sequence = both _ (p.sequence == q.sequence) check.0 in
    let address = both (beq p.reply q.reply) (p.address == q.address) sequence.0 in
    fields_same p q ((booleans_Decides p.reply q.reply).0 address.0) (number_same p.address q.address address.1)
    (number_same p.sequence q.sequence sequence.1) (same_kind p.check q.check check.1) ((booleans_Decides p.block q.block).0 block.1)
    (number_same p.reserved q.reserved reserved.1) ((bytes_eq-Decides p.body q.body).0 body.1)

pub is_packet : (p : Packet) → same_packet p p ≡ true
is_packet p =
    rw (
      (booleans_Decides p.reply p.reply).1 refl,
      number_self p.address,
      number_self p.sequence,
      number_self (check_size p.check),
      (booleans_Decides p.block p.block).1 refl,
      number_self p.reserved,
      (bytes_eq-Decides p.body p.body).1 refl,
    ) refl

pub compares_packets_lem : ComparesPackets
compares_packets_lem p q = (packet_is p q, λ e. rw e (is_packet q))
