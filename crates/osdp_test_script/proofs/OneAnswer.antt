-- Of what was heard one answer alone fits.
use Rattle.osdp_test_script.proofs.Common.{◌≡◌, ◌==◌, ◌&&◌, ℕ, Bool, true, false, not, List, [], ◌∷◌, Option, Some, None, drop, refl, sym, ap, subst, arith, Packet, RunItem, PacketItem, SkippedItem, RefusedItem, Stands, item_size, EndsWith, IsAnswerIn, PassesTo, is_reply_to, is_passed}
use Rattle.osdp_frame.proofs.Decided.{one_item}
use Rattle.osdp_test_script.specs.declared.run.Exchange.{Exchange}
use Rattle.osdp_test_script.proofs.Passing.{has_room}

packet_in : RunItem → Option Packet
packet_in (PacketItem p) = Some p
packet_in (SkippedItem b) = None
packet_in (RefusedItem f) = None

same_packet : (a b : Packet) → PacketItem a ≡ PacketItem b → Some a ≡ Some b
unfolding packet_in
same_packet a b e = ap packet_in e

-- nothing stands where no bytes are
nothing_stands : (part : RunItem) → Stands [] part → ⊥
nothing_stands (PacketItem p) s = let room = has_room [] p s in omega (arith, room)
nothing_stands (SkippedItem b) s = let e = s.1 in cc
nothing_stands (RefusedItem f) s = let e = s.1 in cc

none_there : (rest : List ℕ) (part : RunItem) → rest ≡ [] → Stands rest part → ⊥
none_there rest part e s = nothing_stands part (subst (λ l. Stands l part) e s)

-- an answer is not passed over
not_passed : (x : Option Exchange) (a : Packet) → is_reply_to x a ≡ true → is_passed x (PacketItem a) ≡ true → ⊥
not_passed x a answers passed = let e : not (is_reply_to x a) ≡ true = passed in cc

one_end : (x : Option Exchange) (rest : List ℕ) (a b : Option Packet) → EndsWith x rest a → EndsWith x rest b → a ≡ b
one_end x rest (Some a) (Some b) h k = same_packet a b (one_item rest (PacketItem a) (PacketItem b) h.0 k.0)
one_end x rest (Some a) None h k = absurd (none_there rest (PacketItem a) k h.0)
one_end x rest None (Some b) h k = absurd (none_there rest (PacketItem b) h k.0)
one_end x rest None None h k = refl

-- where an answer stands, or nothing, nothing is passed over
ended_there : (x : Option Exchange) (rest : List ℕ) (a : Option Packet) (part : RunItem) → EndsWith x rest a → Stands rest part → is_passed x part ≡ true → ⊥
ended_there x rest (Some a) part h s passed =
    not_passed x a h.1 (subst (λ p. is_passed x p ≡ true) (one_item rest part (PacketItem a) s h.0) passed)
ended_there x rest None part h s passed = none_there rest part h s

one_by_parts : (x : Option Exchange) (bytes : List ℕ) (ps qs : List RunItem) (r s : List ℕ) (a b : Option Packet) → PassesTo x bytes ps r → PassesTo x bytes qs s → EndsWith x r a → EndsWith x s b → a ≡ b
one_by_parts x bytes [] [] r s a b h k end other =
    one_end x bytes a b (subst (λ l. EndsWith x l a) (sym h) end) (subst (λ l. EndsWith x l b) (sym k) other)
one_by_parts x bytes [] (q ∷ qs) r s a b h k end other = absurd (ended_there x bytes a q (subst (λ l. EndsWith x l a) (sym h) end) k.0 k.1)
one_by_parts x bytes (p ∷ ps) [] r s a b h k end other = absurd (ended_there x bytes b p (subst (λ l. EndsWith x l b) (sym k) other) h.0 h.1)
one_by_parts x bytes (p ∷ ps) (q ∷ qs) r s a b h k end other =
    one_by_parts x (drop (item_size p) bytes) ps qs r s a b h.2 (subst (λ i. PassesTo x (drop (item_size i) bytes) qs s) (sym (one_item bytes p q h.0 k.0)) k.2) end other

pub one_answer : (x : Option Exchange) (bytes : List ℕ) (a b : Option Packet) → IsAnswerIn x bytes a → IsAnswerIn x bytes b → a ≡ b
one_answer x bytes a b h k = one_by_parts x bytes h.parts k.parts h.rest k.rest a b h.passed k.passed h.ends k.ends

both : (a b : Bool) → (a && b) ≡ true → (a ≡ true) × (b ≡ true)
both true true e = (refl, refl)
both true false e = absurd cc
both false b e = absurd cc

same_number : (m n : ℕ) → (m == n) ≡ true → m ≡ n
same_number m n h = grind arith

-- it is a reply, and has the address to which the packet went
pub answers_itself : (x : Exchange) (bytes : List ℕ) (a : Packet) → IsAnswerIn (Some x) bytes (Some a) → (a.reply ≡ true) × (a.address ≡ x.sent.address)
answers_itself x bytes a h =
    let parts = both a.reply (a.address == x.sent.address) h.ends.1 in
    (parts.0, same_number a.address x.sent.address parts.1)
