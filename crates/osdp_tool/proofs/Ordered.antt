-- Words order one packet, whose bytes are read as it.
use Rattle.osdp_tool.proofs.Common.{◌≡◌, ◌↔◌, ◌<◌, ◌≤◌, ℕ, suc, false, List, [], ◌∷◌, length, codes, refl, sym, ap, ◌∙◌, subst, arith, false≢true, bytes_eq, CheckKind, Sum, Crc, IsBytes, IsPacket, Packet, Spells, spelling, AllStandFor, command_code, command_data, Message, Command, Reply, PacketOrder, check_name, MessageFits, message_body, message_is_reply, message_words, order_packet}
use Rattle.std.specs.Fmt.{decimal}
use Rattle.osdp_frame.specs.Reading.{IsReading, PacketItem}
use Rattle.osdp_words.proofs.WordLaws.{is_decimal}
use Rattle.osdp_msg.specs.ReplyTable.{reply_code, reply_data}
use Rattle.osdp_msg_laws.proofs.CommandLaws.{command_laws}
use Rattle.osdp_msg_laws.proofs.ReplyLaws.{reply_laws}
use Rattle.osdp_msg_laws.proofs.CommandTexts.{command_texts}
use Rattle.osdp_msg_laws.proofs.ReplyTexts.{reply_texts}
use Rattle.osdp_tool.specs.Laws.{HasOneOrder, IsReadAs, ReadsBack}
use Rattle.osdp_tool.proofs.Names.{not_both}
use Rattle.osdp_tool.proofs.Orders.{is_packet}

one_number : (m n : ℕ) (given : List ℕ) → m < 128 → n < 128 → given ≡ decimal m → given ≡ decimal n → m ≡ n
one_number m n given small other a b =
    sym ((is_decimal m given (omega (arith, small))).0 a).2 ∙ ((is_decimal n given (omega (arith, other))).0 b).2

sum_is_not_crc : codes "sum" ≡ codes "crc" → ⊥
sum_is_not_crc e = false≢true (ap (bytes_eq (codes "sum")) (sym e))

one_check : (k l : CheckKind) (given : List ℕ) → given ≡ check_name k → given ≡ check_name l → k ≡ l
one_check Sum Sum given a b = refl
one_check Crc Crc given a b = refl
one_check Sum Crc given a b = absurd (sum_is_not_crc (sym a ∙ b))
one_check Crc Sum given a b = absurd (sum_is_not_crc (sym b ∙ a))

one_message : (m n : Message) (given : List (List ℕ)) → MessageFits m → MessageFits n → AllStandFor (message_words m) given
    → AllStandFor (message_words n) given → m ≡ n
one_message (Command c) (Command d) given h k a b = ap Command (command_texts.one_meaning given c d h k a b)
one_message (Reply c) (Reply d) given h k a b = ap Reply (reply_texts.one_meaning given c d h k a b)
one_message (Command c) (Reply d) given h k a b = absurd (not_both c d given a b)
one_message (Reply c) (Command d) given h k a b = absurd (not_both d c given b a)

order_of : ℕ → ℕ → CheckKind → Message → PacketOrder
order_of address seq check message = record { address = address; seq = seq; check = check; message = message }

same_order : (a b : PacketOrder) → a.address ≡ b.address → a.seq ≡ b.seq → a.check ≡ b.check → a.message ≡ b.message → a ≡ b
unfolding order_of
same_order a b p q r s =
    ap (λ x. order_of x a.seq a.check a.message) p ∙ ap (λ x. order_of b.address x a.check a.message) q
    ∙ ap (λ x. order_of b.address b.seq x a.message) r ∙ ap (order_of b.address b.seq b.check) s

pub one_order : HasOneOrder
one_order [] a b f g = absurd f.1
one_order (w ∷ []) a b f g = absurd f.1.1
one_order (w ∷ v ∷ []) a b f g = absurd f.1.1.1
one_order (w ∷ v ∷ u ∷ given) a b f g =
    same_order a b
    (one_number a.address b.address w f.0.address g.0.address f.1.0 g.1.0)
    (one_number a.seq b.seq v (omega (arith, f.0.sequence)) (omega (arith, g.0.sequence)) f.1.1.0 g.1.1.0)
    (one_check a.check b.check u f.1.1.1.0 g.1.1.1.0)
    (one_message a.message b.message given f.0.message g.0.message f.1.1.1.1 g.1.1.1.1)

-- ---- reading back

body_bytes : (m : Message) → MessageFits m → IsBytes (message_body m) × (length (message_body m) ≤ 1433)
body_bytes (Command c) h =
    let fit = command_laws.fits (command_code c) (command_data c) c (record { code_is = refl; data_is = refl; fits = h }) in
    (fit.0, omega (arith, fit.1))
body_bytes (Reply r) h =
    let fit = reply_laws.fits (reply_code r) (reply_data r) r (record { code_is = refl; data_is = refl; fits = h }) in
    (fit.0, omega (arith, fit.1))

read_message : (o : PacketOrder) (m : Message) → o.message ≡ m → MessageFits m → IsReadAs (order_packet o) m
unfolding order_of
read_message o (Command c) e h =
    let bytes = body_bytes (Command c) h in
    let read = (command_laws.reads (command_code c) (command_data c) c (λ i. bytes.0 (suc i))).1 (record { code_is = refl; data_is = refl; fits = h }) in
    subst (λ x. IsReadAs (order_packet (order_of o.address o.seq o.check x)) (Command c)) (sym e) (refl, read)
read_message o (Reply r) e h =
    let bytes = body_bytes (Reply r) h in
    let read = (reply_laws.reads (reply_code r) (reply_data r) r (λ i. bytes.0 (suc i))).1 (record { code_is = refl; data_is = refl; fits = h }) in
    subst (λ x. IsReadAs (order_packet (order_of o.address o.seq o.check x)) (Reply r)) (sym e) (refl, read)

-- with the law of spellings, and that of a run which is one
pub read_back : ((p : Packet) (bytes : List ℕ) → Spells p bytes ↔ (IsPacket p × (bytes ≡ spelling p)))
    → ((p : Packet) (bytes : List ℕ) → Spells p bytes → IsReading bytes (PacketItem p ∷ [])) → ReadsBack
read_back spells reads o fits =
    let body = body_bytes o.message fits.message in
    let packet = is_packet (message_is_reply o.message) o.address o.seq o.check false 0 o.message (message_body o.message) fits.address fits.sequence (omega arith) refl (λ place. body.0 place) body.1 in
    record {
      packet = reads (order_packet o) (spelling (order_packet o)) ((spells (order_packet o) (spelling (order_packet o))).1 (packet, refl));
      fields = (refl, refl, refl);
      plain = (refl, refl);
      message = read_message o o.message refl fits.message;
    }
