-- A line is that of one item.
use Rattle.osdp_tool_show.proofs.Common.{◌≡◌, ℕ, ◌<◌, ◌^◌, ◌==◌, cond, inl, inr, Bool, true, false, List, [], ◌∷◌, ◌++◌, length, get_or, slice_index, codes, drop, lit<, refl, sym, ap, ◌∙◌, arith, append_assoc, eqb-true, append_cancel_left, append_cancel_right, decimal, LacksByte, IsBytes, encode_upper, CheckKind, Sum, Crc, FrameFault, IsPacket, Packet, RunItem, PacketItem, SkippedItem, RefusedItem, check_name, bits_text, body_text, direction_name, fault_name, item_line, item_text, message_text, HasOneItem, IsItem}
use Rattle.osdp_frame.specs.declared.fault.FrameFault.TheVariants.{TooShort, TooLong, BadCheck, Ended}
use Rattle.osdp_msg.proofs.RowTexts.{differ}
use Rattle.osdp_msg_laws.proofs.TextWords.{name_word}
use Rattle.osdp_tool_show.proofs.Cuts.{cut, cut_decimal, differ_at, one_byte, one_list}
use Rattle.osdp_tool_show.proofs.OneMessage.{message_first, one_message}

-- ---- bodies

abbrev told_body : Bool → Bool → List ℕ → List ℕ
told_body block reply body =
    cond block (codes "block " ++ encode_upper body) (message_text reply (slice_index body 0) (drop 1 body))

-- a code and data
one_unblocked : (reply : Bool) (xs ys : List ℕ) → IsBytes xs → IsBytes ys → 0 < length xs → 0 < length ys
    → message_text reply (slice_index xs 0) (drop 1 xs) ≡ message_text reply (slice_index ys 0) (drop 1 ys) → xs ≡ ys
one_unblocked reply [] ys h k some more e = absurd (omega arith)
one_unblocked reply (x ∷ xs) [] h k some more e = absurd (omega arith)
one_unblocked reply (x ∷ xs) (y ∷ ys) h k some more e =
    let same = one_message reply x y xs ys h k e in
    cc (same.0, same.1)

one_body : (reply block other : Bool) (xs ys : List ℕ) → IsBytes xs → IsBytes ys → 0 < length xs → 0 < length ys
    → told_body block reply xs ≡ told_body other reply ys → (block ≡ other) × (xs ≡ ys)
one_body reply true true xs ys h k some more e =
    (refl, one_list xs ys h k (append_cancel_left (codes "block ") (encode_upper xs) (encode_upper ys) e))
one_body reply false false xs ys h k some more e = (refl, one_unblocked reply xs ys h k some more e)
one_body reply true false xs ys h k some more e =
    absurd (message_first reply (slice_index ys 0) (drop 1 ys) (sym (ap (λ (t : List ℕ). get_or t 0 0) e)))
one_body reply false true xs ys h k some more e =
    absurd (message_first reply (slice_index xs 0) (drop 1 xs) (ap (λ (t : List ℕ). get_or t 0 0) e))

-- no body is told as bits are
no_bits : (reply block : Bool) (body text : List ℕ) → told_body block reply body ≡ codes "bits " ++ text → ⊥
no_bits reply true body text e = differ_at 1 (codes "block " ++ encode_upper body) (codes "bits " ++ text) refl e
no_bits reply false body text e = message_first reply (slice_index body 0) (drop 1 body) (ap (λ (t : List ℕ). get_or t 0 0) e)

-- ---- heads

one_direction : (reply other : Bool) → direction_name reply ≡ direction_name other → reply ≡ other
one_direction true true e = refl
one_direction false false e = refl
one_direction reply other e = absurd (differ (direction_name reply) (direction_name other) refl e)

direction_lacks : (reply : Bool) → LacksByte 32 (direction_name reply)
direction_lacks true = (name_word (codes "reply") (lit< tt) refl).1
direction_lacks false = (name_word (codes "cmd") (lit< tt) refl).1

one_check : (check other : CheckKind) (front back : List ℕ) → check_name check ++ front ≡ check_name other ++ back
    → (check ≡ other) × (front ≡ back)
one_check Sum Sum front back e = (refl, append_cancel_left (codes "sum") front back e)
one_check Crc Crc front back e = (refl, append_cancel_left (codes "crc") front back e)
one_check Sum Crc front back e = absurd (differ_at 0 (codes "sum" ++ front) (codes "crc" ++ back) refl e)
one_check Crc Sum front back e = absurd (differ_at 0 (codes "crc" ++ front) (codes "sum" ++ back) refl e)

-- reserved bits in front of a body
abbrev told_bits : Bool → ℕ → List ℕ
told_bits none reserved = cond none [] (codes " bits " ++ decimal reserved)

one_bits : (reserved other : ℕ) (zero none : Bool) (front back : List ℕ) → (reserved == 0) ≡ zero → (other == 0) ≡ none
    → reserved < 2 ^ 64 → other < 2 ^ 64
    → ((text : List ℕ) → front ≡ codes "bits " ++ text → ⊥) → ((text : List ℕ) → back ≡ codes "bits " ++ text → ⊥)
    → told_bits zero reserved ++ (codes " " ++ front) ≡ told_bits none other ++ (codes " " ++ back)
    → (reserved ≡ other) × (front ≡ back)
one_bits reserved other true true front back p q small fits hf hb e =
    (eqb-true reserved 0 p ∙ sym (eqb-true other 0 q), append_cancel_left (codes " ") front back e)
one_bits reserved other true false front back p q small fits hf hb e =
    absurd (hf (decimal other ++ (codes " " ++ back))
    (append_cancel_left (codes " ") front (codes "bits " ++ (decimal other ++ (codes " " ++ back))) e))
one_bits reserved other false true front back p q small fits hf hb e =
    absurd (hb (decimal reserved ++ (codes " " ++ front))
    (append_cancel_left (codes " ") back (codes "bits " ++ (decimal reserved ++ (codes " " ++ front))) (sym e)))
one_bits reserved other false false front back p q small fits hf hb e =
    cut_decimal 32 reserved other front back (inl (lit< tt)) small fits
    (append_cancel_left (codes " bits ") (decimal reserved ++ (codes " " ++ front)) (decimal other ++ (codes " " ++ back)) e)

-- ---- packets

-- what stands after the direction, piece by piece
abbrev after_direction : Packet → List ℕ
after_direction p =
    decimal p.address ++ (codes " seq "
    ++ (decimal p.sequence ++ (codes " " ++ (check_name p.check ++ (bits_text p.reserved ++ (codes " " ++ body_text p))))))

packet_pieces : (p : Packet) → item_text (PacketItem p) ≡ direction_name p.reply ++ (codes " " ++ after_direction p)
packet_pieces p = pieces (direction_name p.reply) (decimal p.address) (decimal p.sequence) (check_name p.check)
    (bits_text p.reserved) (codes " " ++ body_text p)
  where
    pieces : (d a s c b t : List ℕ) → (d ++ (codes " " ++ (a ++ (codes " seq " ++ (s ++ (codes " " ++ (c ++ b))))))) ++ t
        ≡ d ++ (codes " " ++ (a ++ (codes " seq " ++ (s ++ (codes " " ++ (c ++ (b ++ t)))))))
    pieces d a s c b t = simp append_assoc

one_packet : (p q : Packet) → IsPacket p → IsPacket q → item_text (PacketItem p) ≡ item_text (PacketItem q) → p ≡ q
one_packet p q h k e =
    let address : p.address < 128 = h.address in
    let other_address : q.address < 128 = k.address in
    let number : p.sequence < 4 = h.sequence in
    let other_number : q.sequence < 4 = k.sequence in
    let bits : p.reserved < 16 = h.reserved in
    let other_bits : q.reserved < 16 = k.reserved in
    let d = cut 32 (direction_name p.reply) (direction_name q.reply) (after_direction p) (after_direction q)
    (direction_lacks p.reply) (direction_lacks q.reply) (sym (packet_pieces p) ∙ e ∙ packet_pieces q) in
    let reply = one_direction p.reply q.reply d.0 in
    let a = cut_decimal 32 p.address q.address _ _ (inl (lit< tt)) (omega arith) (omega arith) d.1 in
    let s = cut_decimal 32 p.sequence q.sequence _ _ (inl (lit< tt)) (omega arith) (omega arith) (ap (drop 4) a.1) in
    let c = one_check p.check q.check _ _ s.1 in
    let r = one_bits p.reserved q.reserved (p.reserved == 0) (q.reserved == 0) (body_text p) (body_text q) refl refl
    (omega arith) (omega arith)
    (λ text. no_bits p.reply p.block p.body text) (λ text. no_bits q.reply q.block q.body text) c.1 in
    let b = one_body q.reply p.block q.block p.body q.body h.body k.body h.code k.code
    (ap (λ (way : Bool). told_body p.block way p.body) (sym reply) ∙ r.1) in
    λ i. record {
      reply = reply i;
      address = a.0 i;
      sequence = s.0 i;
      check = c.0 i;
      block = b.0 i;
      reserved = r.0 i;
      body = b.1 i;
    }

-- ---- items

one_fault : (fault other : FrameFault) → fault_name fault ≡ fault_name other → fault ≡ other
one_fault TooShort TooShort e = refl
one_fault TooLong TooLong e = refl
one_fault BadCheck BadCheck e = refl
one_fault Ended Ended e = refl
one_fault fault other e = absurd (differ (fault_name fault) (fault_name other) refl e)

not_skipped : (reply : Bool) (front back : List ℕ) → direction_name reply ++ front ≡ codes "skip " ++ back → ⊥
not_skipped true front back e = differ_at 0 (codes "reply" ++ front) (codes "skip " ++ back) refl e
not_skipped false front back e = differ_at 0 (codes "cmd" ++ front) (codes "skip " ++ back) refl e

not_refused : (reply : Bool) (front back : List ℕ) → direction_name reply ++ front ≡ codes "refused " ++ back → ⊥
not_refused true front back e = differ_at 2 (codes "reply" ++ front) (codes "refused " ++ back) refl e
not_refused false front back e = differ_at 0 (codes "cmd" ++ front) (codes "refused " ++ back) refl e

one_text : (a b : RunItem) → IsItem a → IsItem b → item_text a ≡ item_text b → a ≡ b
one_text (PacketItem p) (PacketItem q) h k e = ap PacketItem (one_packet p q h k e)
one_text (PacketItem p) (SkippedItem b) h k e = absurd
    (not_skipped p.reply (codes " " ++ after_direction p) (encode_upper (b ∷ [])) (sym (packet_pieces p) ∙ e))
one_text (PacketItem p) (RefusedItem f) h k e = absurd
    (not_refused p.reply (codes " " ++ after_direction p) (fault_name f) (sym (packet_pieces p) ∙ e))
one_text (SkippedItem a) (PacketItem q) h k e = absurd
    (not_skipped q.reply (codes " " ++ after_direction q) (encode_upper (a ∷ [])) (sym (packet_pieces q) ∙ sym e))
one_text (SkippedItem a) (SkippedItem b) h k e =
    ap (λ (list : List ℕ). SkippedItem (get_or list 0 0))
    (one_list (a ∷ []) (b ∷ []) (one_byte a h) (one_byte b k)
    (append_cancel_left (codes "skip ") (encode_upper (a ∷ [])) (encode_upper (b ∷ [])) e))
one_text (SkippedItem a) (RefusedItem f) h k e = absurd
    (differ_at 0 (codes "skip " ++ encode_upper (a ∷ [])) (codes "refused " ++ fault_name f) refl e)
one_text (RefusedItem f) (PacketItem q) h k e = absurd
    (not_refused q.reply (codes " " ++ after_direction q) (fault_name f) (sym (packet_pieces q) ∙ sym e))
one_text (RefusedItem f) (SkippedItem b) h k e = absurd
    (differ_at 0 (codes "refused " ++ fault_name f) (codes "skip " ++ encode_upper (b ∷ [])) refl e)
one_text (RefusedItem f) (RefusedItem g) h k e = ap RefusedItem (one_fault f g (append_cancel_left (codes "refused ") (fault_name f) (fault_name g) e))

-- ---- lines

line_pieces : (run place : ℕ) (item : RunItem)
    → item_line run place item ≡ decimal run ++ (codes ":" ++ (decimal place ++ (codes " " ++ (item_text item ++ codes "\n"))))
line_pieces run place item = pieces (decimal run) (decimal place) (item_text item ++ codes "\n")
  where
    pieces : (r p t : List ℕ) → (r ++ (codes ":" ++ (p ++ codes " "))) ++ t ≡ r ++ (codes ":" ++ (p ++ (codes " " ++ t)))
    pieces r p t = simp append_assoc

pub one_item : HasOneItem
one_item run place other_run other_place item other small low fits room h k e =
    let r = cut_decimal 58 run other_run _ _ (inr (lit< tt)) small fits
    (sym (line_pieces run place item) ∙ e ∙ line_pieces other_run other_place other) in
    let p = cut_decimal 32 place other_place _ _ (inl (lit< tt)) low room r.1 in
    (r.0, p.0, one_text item other h k (append_cancel_right (item_text item) (item_text other) (codes "\n") p.1))
