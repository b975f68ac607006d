-- What is told of a code and data is told of no other.
use Rattle.osdp_tool_show.proofs.Common.{◌≡◌, ℕ, suc, ◌<◌, Bool, true, false, List, [], ◌∷◌, ◌++◌, get_or, codes, take, drop, Result, Ok, Err, lit<, refl, ap, subst, arith, append_cancel_left, MsgFault, UnknownCode, Length, Count, CommandFits, IsCommand, command_of, IsReply, ReplyFits, reply_of, HasOneSpelling, HasOneText, ReadsTheTable, command_laws, reply_laws, data_text, message_text, told_text, unread_text}
use Rattle.hex.specs.Hex.{IsBytes, encode_upper, encode_with}
use Rattle.osdp_msg.specs.declared.command.Command.{Command}
use Rattle.osdp_msg.specs.declared.command.Command.TheVariants.{Poll}
use Rattle.osdp_msg.specs.declared.reply.Reply.{Reply}
use Rattle.osdp_msg.specs.declared.reply.Reply.TheVariants.{Ack}
use Rattle.osdp_msg.specs.CommandText.{command_text}
use Rattle.osdp_msg.specs.ReplyText.{reply_text}
use Rattle.osdp_msg_laws.proofs.CommandTexts.{command_texts}
use Rattle.osdp_msg_laws.proofs.ReplyTexts.{reply_texts}
use Rattle.osdp_tool_show.proofs.Cuts.{differ_at, one_byte, one_list}

-- ---- no message

one_data : (xs ys : List ℕ) → IsBytes xs → IsBytes ys → data_text xs ≡ data_text ys → xs ≡ ys
unfolding encode_with
one_data [] [] h k e = refl
one_data [] (y ∷ ys) h k e = cc e
one_data (x ∷ xs) [] h k e = cc e
one_data (x ∷ xs) (y ∷ ys) h k e = one_list (x ∷ xs) (y ∷ ys) h k
    (append_cancel_left (codes " ") (encode_upper (x ∷ xs)) (encode_upper (y ∷ ys)) e)

one_code : (code other : ℕ) (bytes others : List ℕ) → IsBytes (code ∷ bytes) → IsBytes (other ∷ others)
    → encode_upper (code ∷ []) ++ data_text bytes ≡ encode_upper (other ∷ []) ++ data_text others
    → (code ≡ other) × (bytes ≡ others)
unfolding encode_with
one_code code other bytes others h k e =
    let digits : encode_upper (code ∷ []) ≡ encode_upper (other ∷ []) = ap (take 2) e in
    let rest : data_text bytes ≡ data_text others = ap (drop 2) e in (
      ap (λ (list : List ℕ). get_or list 0 0) (one_list (code ∷ []) (other ∷ []) (one_byte code (h 0)) (one_byte other (k 0))
          digits),
      one_data bytes others (λ i. h (suc i)) (λ i. k (suc i)) rest,
    )

one_unread : (fault wrong : MsgFault) (code other : ℕ) (bytes others : List ℕ) → IsBytes (code ∷ bytes) → IsBytes (other ∷ others)
    → unread_text fault code bytes ≡ unread_text wrong other others → (code ≡ other) × (bytes ≡ others)
one_unread UnknownCode UnknownCode code other bytes others h k e =
    one_code code other bytes others h k (append_cancel_left (codes "code ") (encode_upper (code ∷ []) ++ data_text bytes)
    (encode_upper (other ∷ []) ++ data_text others) e)
one_unread Length Length code other bytes others h k e =
    one_code code other bytes others h k (append_cancel_left (codes "refused M2 code ")
    (encode_upper (code ∷ []) ++ data_text bytes) (encode_upper (other ∷ []) ++ data_text others) e)
one_unread Count Count code other bytes others h k e =
    one_code code other bytes others h k (append_cancel_left (codes "refused M3 code ")
    (encode_upper (code ∷ []) ++ data_text bytes) (encode_upper (other ∷ []) ++ data_text others) e)
one_unread Length Count code other bytes others h k e =
    absurd (differ_at 9 (unread_text Length code bytes) (unread_text Count other others) refl e)
one_unread Count Length code other bytes others h k e =
    absurd (differ_at 9 (unread_text Count code bytes) (unread_text Length other others) refl e)
one_unread fault wrong code other bytes others h k e =
    absurd (differ_at 0 (unread_text fault code bytes) (unread_text wrong other others) refl e)

-- it begins in lower case, and not as a block does
unread_first : (fault : MsgFault) (code : ℕ) (bytes : List ℕ) → 98 < get_or (unread_text fault code bytes) 0 0
unread_first UnknownCode code bytes = lit< tt
unread_first fault code bytes = lit< tt

-- ---- messages of a table

module _ {M : Type 0} (Is : ℕ → List ℕ → M → Type 0) (Fits : M → Type 0) (read : ℕ → List ℕ → Result M MsgFault) (text : M → List ℕ) (reads : ReadsTheTable Is read) (spelling : HasOneSpelling Is) (one_text : HasOneText Fits text) (fits : (code : ℕ) (bytes : List ℕ) (m : M) → Is code bytes m → Fits m) (upper : (m : M) → get_or (text m) 0 0 < 98) where
  one_reading : (code other : ℕ) (bytes others : List ℕ) (r s : Result M MsgFault) → IsBytes (code ∷ bytes)
      → IsBytes (other ∷ others)
      → read code bytes ≡ r → read other others ≡ s → told_text text r code bytes ≡ told_text text s other others
      → (code ≡ other) × (bytes ≡ others)
  one_reading code other bytes others (Ok m) (Ok n) h k p q e =
      let first = (reads code bytes m (λ i. h (suc i))).0 p in
      let second = (reads other others n (λ i. k (suc i))).0 q in
      let same : m ≡ n = one_text m n (fits code bytes m first) (fits other others n second) e in
      spelling code other bytes others n (subst (Is code bytes) same first) second
  one_reading code other bytes others (Ok m) (Err wrong) h k p q e =
      let low = upper m in
      let high = unread_first wrong other others in
      let same = ap (λ (t : List ℕ). get_or t 0 0) e in
      absurd (omega arith)
  one_reading code other bytes others (Err fault) (Ok n) h k p q e =
      let low = upper n in
      let high = unread_first fault code bytes in
      let same = ap (λ (t : List ℕ). get_or t 0 0) e in
      absurd (omega arith)
  one_reading code other bytes others (Err fault) (Err wrong) h k p q e = one_unread fault wrong code other bytes others h k e

  pub one_told : (code other : ℕ) (bytes others : List ℕ) → IsBytes (code ∷ bytes) → IsBytes (other ∷ others)
      → told_text text (read code bytes) code bytes ≡ told_text text (read other others) other others
      → (code ≡ other) × (bytes ≡ others)
  one_told code other bytes others h k e =
      one_reading code other bytes others (read code bytes) (read other others) h k refl refl e

  told_first : (r : Result M MsgFault) (code : ℕ) (bytes : List ℕ) → get_or (told_text text r code bytes) 0 0 ≡ 98 → ⊥
  told_first (Ok m) code bytes e = let low = upper m in omega arith
  told_first (Err fault) code bytes e = let high = unread_first fault code bytes in omega arith

-- names are in upper case
command_first : (m : Command) → get_or (command_text m) 0 0 < 98
unfolding command_text
command_first Poll = lit< tt
command_first m = lit< tt

reply_first : (m : Reply) → get_or (reply_text m) 0 0 < 98
unfolding reply_text
reply_first Ack = lit< tt
reply_first m = lit< tt

-- ---- both directions

pub one_message : (reply : Bool) (code other : ℕ) (bytes others : List ℕ) → IsBytes (code ∷ bytes) → IsBytes (other ∷ others)
    → message_text reply code bytes ≡ message_text reply other others → (code ≡ other) × (bytes ≡ others)
one_message true = one_told IsReply ReplyFits reply_of reply_text reply_laws.reads reply_laws.one_spelling reply_texts.one_text
    (λ code bytes m is. is.fits) reply_first
one_message false = one_told IsCommand CommandFits command_of command_text command_laws.reads command_laws.one_spelling
    command_texts.one_text (λ code bytes m is. is.fits) command_first

pub message_first : (reply : Bool) (code : ℕ) (bytes : List ℕ) → get_or (message_text reply code bytes) 0 0 ≡ 98 → ⊥
message_first true code bytes = told_first IsReply ReplyFits reply_of reply_text reply_laws.reads reply_laws.one_spelling
    reply_texts.one_text (λ code bytes m is. is.fits) reply_first (reply_of code bytes) code bytes
message_first false code bytes = told_first IsCommand CommandFits command_of command_text command_laws.reads command_laws.one_spelling
    command_texts.one_text (λ code bytes m is. is.fits) command_first (command_of code bytes) code bytes
