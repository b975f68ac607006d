-- The text of an item has no line feed in it.
use Rattle.osdp_tool_show.proofs.Common.{◌≡◌, ◌≢◌, ℕ, ◌<◌, ◌^◌, inl, inr, Bool, true, false, not, eqb, ◌&&◌, List, [], ◌∷◌, ◌++◌, codes, Result, Ok, Err, lit<, refl, arith, eqb-false, decimal, flat_map, LacksByte, decimal_lacks, MsgFault, UnknownCode, CommandFits, IsCommand, command_of, IsReply, ReplyFits, reply_of, HasPlainWords, IsPlainCharacter, ReadsTheTable, command_laws, reply_laws, data_text, message_text, refusal_text, told_text, unread_text}
use Rattle.hex.specs.Hex.{IsBytes, encode_upper, encode_with}
use Rattle.osdp_words.specs.Word.{Word, plain, printed, text_of}
use Rattle.osdp_words.proofs.WordLaws.{lacks-append, lacks-cons}
use Rattle.osdp_msg.specs.CommandText.{command_text}
use Rattle.osdp_msg.proofs.CommandTextRows.{command_fields, command_name}
use Rattle.osdp_msg.specs.ReplyText.{reply_text}
use Rattle.osdp_msg.proofs.ReplyTextRows.{reply_fields, reply_name}
use Rattle.osdp_msg_laws.proofs.PlainCommands.{plain_commands}
use Rattle.osdp_msg_laws.proofs.PlainReplies.{plain_replies}
use Rattle.osdp_msg_laws.proofs.PlainWords.{ArePlain, ArePlainWords, bytes_plain}

pub record HasNoFeed (text : List ℕ) : Type 0 where
  pub lacks : LacksByte 10 text

no_feed : {text : List ℕ} → LacksByte 10 text → HasNoFeed text
no_feed h = record { lacks = h }

pub both : {xs ys : List ℕ} → HasNoFeed xs → HasNoFeed ys → HasNoFeed (xs ++ ys)
both {xs} {ys} hx hy = no_feed (lacks-append 10 xs ys hx.lacks hy.lacks)

pub nothing : HasNoFeed []
nothing = no_feed (λ k lt. absurd (omega arith))

-- what is written out in the definitions
abbrev pub lacks_feed : List ℕ → Bool
lacks_feed [] = true
lacks_feed (c ∷ rest) = not (eqb c 10) && lacks_feed rest

pub literal : (text : List ℕ) → lacks_feed text ≡ true → HasNoFeed text
literal [] e = nothing
literal (c ∷ rest) e =
    let p = parts (eqb c 10) (lacks_feed rest) e in
    let more = literal rest p.1 in
    no_feed (lacks-cons 10 c rest (eqb-false c 10 p.0) more.lacks)
  where
    parts : (a b : Bool) → (not a && b) ≡ true → (a ≡ false) × (b ≡ true)
    parts false true e = (refl, refl)
    parts false false e = absurd cc
    parts true b e = absurd cc

pub decimal_no_feed : (n : ℕ) → n < 2 ^ 64 → HasNoFeed (decimal n)
decimal_no_feed n small = no_feed (decimal_lacks 10 n (inl (lit< tt)) small)

-- ---- words of digits, colons and letters

plain_no_feed : (text : List ℕ) → ArePlain text → HasNoFeed text
plain_no_feed [] h = nothing
plain_no_feed (c ∷ rest) h =
    let more = plain_no_feed rest h.1 in
    no_feed (lacks-cons 10 c rest (no_character h.0) more.lacks)
  where
    no_character : IsPlainCharacter c → c ≢ 10
    no_character (inl range) e = absurd (omega (arith, range.0, e))
    no_character (inr (inl range)) e = absurd (omega (arith, range.0, e))
    no_character (inr (inr range)) e = absurd (omega (arith, range.0, e))

pub digits_no_feed : (bs : List ℕ) → IsBytes bs → HasNoFeed (encode_upper bs)
unfolding encode_with
digits_no_feed [] fits = nothing
digits_no_feed (b ∷ bs) fits = plain_no_feed (encode_upper (b ∷ bs)) (bytes_plain (b ∷ bs) fits).each

after_no_feed : (words : List Word) → ArePlainWords words → HasNoFeed (flat_map (λ word. codes " " ++ printed word) words)
after_no_feed [] h = nothing
after_no_feed (word ∷ words) h =
    both {xs = codes " " ++ printed word} (both {xs = codes " "} (literal (codes " ") refl) (plain_no_feed (printed word) h.0.each))
    (after_no_feed words h.1)

text_no_feed : (word : Word) (words : List Word) → ArePlainWords (word ∷ words) → HasNoFeed (text_of (word ∷ words))
text_no_feed word words h = both (plain_no_feed (printed word) h.0.each) (after_no_feed words h.1)

-- ---- messages

data_no_feed : (bs : List ℕ) → IsBytes bs → HasNoFeed (data_text bs)
data_no_feed [] h = nothing
data_no_feed (b ∷ bs) h = both {xs = codes " "} (literal (codes " ") refl) (digits_no_feed (b ∷ bs) h)

fault_no_feed : (fault : MsgFault) → lacks_feed (refusal_text fault) ≡ true
fault_no_feed UnknownCode = refl
fault_no_feed fault = refl

unread_no_feed : (fault : MsgFault) (code : ℕ) (bs : List ℕ) → IsBytes (code ∷ []) → IsBytes bs
    → HasNoFeed (unread_text fault code bs)
unread_no_feed fault code bs h k =
    both {xs = refusal_text fault} (literal (refusal_text fault) (fault_no_feed fault))
    (both {xs = codes "code "} (literal (codes "code ") refl)
    (both {xs = encode_upper (code ∷ [])} (digits_no_feed (code ∷ []) h) (data_no_feed bs k)))

module _ {M : Type 0} (Is : ℕ → List ℕ → M → Type 0) (Fits : M → Type 0) (read : ℕ → List ℕ → Result M MsgFault) (name : M → List ℕ) (fields : M → List Word) (reads : ReadsTheTable Is read) (fits : (code : ℕ) (bs : List ℕ) (m : M) → Is code bs m → Fits m) (plain_words : HasPlainWords Fits (λ m. plain (name m) ∷ fields m)) where
  told_no_feed : (code : ℕ) (bs : List ℕ) (r : Result M MsgFault) → IsBytes (code ∷ []) → IsBytes bs → read code bs ≡ r
      → HasNoFeed (told_text (λ m. text_of (plain (name m) ∷ fields m)) r code bs)
  told_no_feed code bs (Ok m) h k e =
      text_no_feed (plain (name m)) (fields m) (plain_words m (fits code bs m ((reads code bs m k).0 e)))
  told_no_feed code bs (Err fault) h k e = unread_no_feed fault code bs h k

pub message_no_feed : (reply : Bool) (code : ℕ) (bs : List ℕ) → IsBytes (code ∷ []) → IsBytes bs
    → HasNoFeed (message_text reply code bs)
unfolding command_text reply_text
message_no_feed true code bs h k = told_no_feed IsReply ReplyFits reply_of reply_name reply_fields reply_laws.reads (λ c b m is. is.fits)
    plain_replies code bs (reply_of code bs) h k refl
message_no_feed false code bs h k = told_no_feed IsCommand CommandFits command_of command_name command_fields command_laws.reads
    (λ c b m is. is.fits) plain_commands code bs (command_of code bs) h k refl
