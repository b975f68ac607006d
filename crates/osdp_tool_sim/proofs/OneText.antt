-- A text of lines is of one list of values.
use Rattle.osdp_tool_sim.proofs.Common.{◌≡◌, ◌≢◌, ◌<◌, ◌^◌, inl, inr, lit<, ℕ, List, [], ◌∷◌, ◌++◌, codes, drop, length, map, get_or, refl, sym, ap, subst, ◌∙◌, append_assoc, arith, decimal, All, AllByRecursion, join_with_byte, append_cancel_left, append_cancel_right, map-append, All-head, All-tail, Command, Reply, CommandFits, EventFits, event_reply, event_text, event_words, ArePrintedWords, IsPrintedWord, IsTextCharacter, both_printed, name_printed, plain_words_printed, same_printed, text_shown, Word, plain, printed, text_of, command_line, end_name, ended_line, line_text, lines_text, reported_line, settled_line, PairFits}
use Rattle.std.specs.Str.Parse.{digits_value}
use Rattle.osdp_controller.specs.declared.report.LostCause.TheVariants.{NoReply, TooBusy, NumberRefused}
use Rattle.osdp_msg.specs.CommandText.{command_text, command_words}
use Rattle.osdp_msg.specs.ReplyTable.{ReplyFits}
use Rattle.osdp_msg.specs.ReplyText.{reply_text, reply_words}
use Rattle.osdp_msg.proofs.RowTexts.{differ}
use Rattle.osdp_msg_laws.specs.Laws.{IsPlainCharacter, IsPlainWord}
use Rattle.osdp_msg_laws.proofs.CommandTexts.{command_texts}
use Rattle.osdp_msg_laws.proofs.EventReplies.{same_event}
use Rattle.osdp_msg_laws.proofs.PlainCommands.{plain_commands}
use Rattle.osdp_msg_laws.proofs.PlainReplies.{plain_events, plain_replies}
use Rattle.osdp_msg_laws.proofs.ReplyTexts.{reply_texts}
use Rattle.osdp_sim.specs.declared.account.End.{End}
use Rattle.osdp_sim.specs.declared.account.End.TheVariants.{Lost, Moved}
use Rattle.osdp_words.proofs.TextLaws.{joins_by_spaces}
use Rattle.osdp_words.proofs.WordLaws.{is_decimal}

-- ---- lines

feed : (c : ℕ) → IsTextCharacter c → 10 ≡ c → ⊥
feed c range is = let low = range.0 in omega arith

head : (x y : ℕ) (xs ys : List ℕ) → x ∷ xs ≡ y ∷ ys → x ≡ y
head x y xs ys e = ap (λ (l : List ℕ). get_or l 0 0) e

-- the first line of a text, and what stands after it
pub first_line : (xs ys more others : List ℕ) → AllByRecursion IsTextCharacter xs → AllByRecursion IsTextCharacter ys
    → xs ++ 10 ∷ more ≡ ys ++ 10 ∷ others → (xs ≡ ys) × (more ≡ others)
first_line [] [] more others h k e = (refl, ap (λ (l : List ℕ). drop 1 l) e)
first_line [] (y ∷ ys) more others h k e = absurd (feed y k.0 (head 10 y more (ys ++ 10 ∷ others) e))
first_line (x ∷ xs) [] more others h k e = absurd (feed x h.0 (sym (head x 10 (xs ++ 10 ∷ more) others e)))
first_line (x ∷ xs) (y ∷ ys) more others h k e =
    let rest = first_line xs ys more others h.1 k.1 (ap (λ (l : List ℕ). drop 1 l) e) in
    let same = head x y (xs ++ 10 ∷ more) (ys ++ 10 ∷ others) e in
    (ap (λ (c : ℕ). c ∷ xs) same ∙ ap (λ (l : List ℕ). y ∷ l) rest.0, rest.1)

abbrev pub HasText : {X : Type 0} → (X → List Word) → (X → Type 0) → Type 0
HasText {X} line Fits = (x : X) → Fits x → AllByRecursion IsTextCharacter (text_of (line x))

-- a line is of one value
abbrev pub HasOne : {X : Type 0} → (X → List Word) → (X → Type 0) → Type 0
HasOne {X} line Fits = (x y : X) → Fits x → Fits y → text_of (line x) ≡ text_of (line y) → x ≡ y

-- a line, the lines after it, and what stands after them
pub after_line : (words : List Word) (lines more : List ℕ) → (line_text words ++ lines) ++ more ≡ text_of words ++ 10 ∷ (lines ++ more)
after_line words lines more = append_assoc (line_text words) lines more ∙ append_assoc (text_of words) (codes "\n") (lines ++ more)

-- as many lines are of one list, and leave the same
pub same_list : {X : Type 0} (line : X → List Word) (Fits : X → Type 0) → HasText line Fits → HasOne line Fits → (xs ys : List X) (more others : List ℕ)
    → All Fits xs → All Fits ys → length xs ≡ length ys → lines_text (map line xs) ++ more ≡ lines_text (map line ys) ++ others
    → (xs ≡ ys) × (more ≡ others)
same_list line Fits text one [] [] more others h k long e = (refl, e)
same_list line Fits text one [] (y ∷ ys) more others h k long e = absurd (omega arith)
same_list line Fits text one (x ∷ xs) [] more others h k long e = absurd (omega arith)
same_list {X} line Fits text one (x ∷ xs) (y ∷ ys) more others h k long e =
    let left = lines_text (map line xs) in
    let right = lines_text (map line ys) in
    let fits = All-head Fits x xs h in
    let suits = All-head Fits y ys k in
    let cut = first_line (text_of (line x)) (text_of (line y)) (left ++ more) (right ++ others) (text x fits) (text y suits)
    (sym (after_line (line x) left more) ∙ e ∙ after_line (line y) right others) in
    let rest = same_list line Fits text one xs ys more others (All-tail Fits x xs h) (All-tail Fits y ys k) (omega arith) cut.1 in
    (ap (λ (z : X). z ∷ xs) (one x y fits suits cut.0) ∙ ap (λ (l : List X). y ∷ l) rest.0, rest.1)

-- ---- numbers

decimal_back : (n : ℕ) → n < 2 ^ 64 → digits_value 10 (decimal n) ≡ n
decimal_back n small = ((is_decimal n (decimal n) small).0 refl).2

pub one_count : (n m : ℕ) → n < 2 ^ 64 → m < 2 ^ 64 → decimal n ≡ decimal m → n ≡ m
one_count n m h k e = sym (decimal_back n h) ∙ ap (digits_value 10) e ∙ decimal_back m k

-- ---- commands

pub command_shown : (name : List ℕ) → IsPrintedWord (plain name) → HasText (command_line name) CommandFits
command_shown name held c fits = text_shown (command_line name c) (held, plain_words_printed (command_words c) (plain_commands c fits))

pub one_command : (name : List ℕ) → HasOne (command_line name) CommandFits
unfolding command_text
one_command name c d h k e =
    command_texts.one_text c d h k (ap (λ (l : List ℕ). drop 1 l) (append_cancel_left name (codes " " ++ command_text c) (codes " " ++ command_text d) e))

-- ---- commands and their answers

-- no word is this sign
abbrev LacksSign : List (List ℕ) → Type 0
LacksSign words = AllByRecursion (λ word. word ≢ codes "=") words

sign_is_not_plain : IsPlainCharacter 61 → ⊥
sign_is_not_plain (inl range) = let high = range.1 in omega arith
sign_is_not_plain (inr (inl range)) = let low = range.0 in omega arith
sign_is_not_plain (inr (inr range)) = let low = range.0 in omega arith

plain_lack : (words : List Word) → AllByRecursion IsPlainWord words → LacksSign (map printed words)
plain_lack [] h = tt
plain_lack (word ∷ words) h =
    (λ same. sign_is_not_plain (subst (λ (l : List ℕ). AllByRecursion IsPlainCharacter l) same h.0.each).0, plain_lack words h.1)

-- the words before the first sign, and those after it
at_sign : (xs ys one other : List (List ℕ)) → LacksSign xs → LacksSign ys → xs ++ codes "=" ∷ one ≡ ys ++ codes "=" ∷ other
    → (xs ≡ ys) × (one ≡ other)
at_sign [] [] one other h k e = (refl, ap (λ (l : List (List ℕ)). drop 1 l) e)
at_sign [] (y ∷ ys) one other h k e = absurd (k.0 (sym (ap (λ (l : List (List ℕ)). get_or l 0 []) e)))
at_sign (x ∷ xs) [] one other h k e = absurd (h.0 (ap (λ (l : List (List ℕ)). get_or l 0 []) e))
at_sign (x ∷ xs) (y ∷ ys) one other h k e =
    let rest = at_sign xs ys one other h.1 k.1 (ap (λ (l : List (List ℕ)). drop 1 l) e) in
    let same : x ≡ y = ap (λ (l : List (List ℕ)). get_or l 0 []) e in
    (ap (λ (word : List ℕ). word ∷ xs) same ∙ ap (λ (l : List (List ℕ)). y ∷ l) rest.0, rest.1)

pair_words : (c : Command) (r : Reply) → CommandFits c → ReplyFits r → ArePrintedWords (settled_line (c, r))
pair_words c r h k = (
  name_printed (codes "settled") (lit< tt) refl,
  both_printed (command_words c) (plain (codes "=") ∷ reply_words r) (plain_words_printed (command_words c) (plain_commands c h))
      (name_printed (codes "=") (lit< tt) refl, plain_words_printed (reply_words r) (plain_replies r k)),
)

pub pair_shown : HasText settled_line PairFits
pair_shown (c, r) fits = text_shown (settled_line (c, r)) (pair_words c r fits.0 fits.1)

same_text : (ws vs : List Word) → map printed ws ≡ map printed vs → text_of ws ≡ text_of vs
same_text ws vs e = joins_by_spaces ws ∙ ap (λ (l : List (List ℕ)). join_with_byte 32 l) e ∙ sym (joins_by_spaces vs)

pub one_pair : HasOne settled_line PairFits
unfolding command_text reply_text
one_pair (c, r) (d, s) h k e =
    let cr = command_words c ++ plain (codes "=") ∷ reply_words r in
    let ds = command_words d ++ plain (codes "=") ∷ reply_words s in
    let words = same_printed (plain (codes "settled")) (plain (codes "settled")) cr ds (pair_words c r h.0 h.1) (pair_words d s k.0 k.1) e in
    let parts = at_sign (map printed (command_words c)) (map printed (command_words d)) (map printed (reply_words r)) (map printed (reply_words s))
    (plain_lack (command_words c) (plain_commands c h.0)) (plain_lack (command_words d) (plain_commands d k.0))
    (sym (map-append printed (command_words c) (plain (codes "=") ∷ reply_words r))
    ∙ ap (λ (l : List (List ℕ)). drop 1 l) words
    ∙ map-append printed (command_words d) (plain (codes "=") ∷ reply_words s)) in
    let command : c ≡ d = command_texts.one_text c d h.0 k.0 (same_text (command_words c) (command_words d) parts.0) in
    let answer : r ≡ s = reply_texts.one_text r s h.1 k.1 (same_text (reply_words r) (reply_words s) parts.1) in
    ap (λ (x : Command). let pair : Command × Reply = (x, r) in pair) command ∙ ap (λ (x : Reply). let pair : Command × Reply = (d, x) in pair) answer

-- ---- events

pub event_shown : HasText reported_line EventFits
event_shown x fits =
    text_shown (reported_line x) (name_printed (codes "reported") (lit< tt) refl, plain_words_printed (event_words x) (plain_events x fits))

pub one_event : HasOne reported_line EventFits
unfolding reply_text
one_event x y h k e =
    let texts = ap (λ (l : List ℕ). drop 1 l) (append_cancel_left (codes "reported") (codes " " ++ event_text x) (codes " " ++ event_text y) e) in
    same_event x y (reply_texts.one_text (event_reply x) (event_reply y) h k texts)

-- ---- ends

name_held : (x : End) → IsPrintedWord (plain (end_name x))
name_held (Lost NoReply) = name_printed (codes "no-reply") (lit< tt) refl
name_held (Lost TooBusy) = name_printed (codes "too-busy") (lit< tt) refl
name_held (Lost NumberRefused) = name_printed (codes "number-refused") (lit< tt) refl
name_held Moved = name_printed (codes "moved") (lit< tt) refl

end_shown : (x : End) → AllByRecursion IsTextCharacter (text_of (ended_line x))
end_shown x = text_shown (ended_line x) (name_printed (codes "ended") (lit< tt) refl, (name_held x, tt))

one_name : (x y : End) → end_name x ≡ end_name y → x ≡ y
one_name (Lost NoReply) (Lost NoReply) e = refl
one_name (Lost TooBusy) (Lost TooBusy) e = refl
one_name (Lost NumberRefused) (Lost NumberRefused) e = refl
one_name Moved Moved e = refl
one_name Moved (Lost NoReply) e = absurd (differ (codes "moved") (codes "no-reply") refl e)
one_name Moved (Lost TooBusy) e = absurd (differ (codes "moved") (codes "too-busy") refl e)
one_name Moved (Lost NumberRefused) e = absurd (differ (codes "moved") (codes "number-refused") refl e)
one_name x y e = absurd (differ (end_name x) (end_name y) refl e)

one_end : (x y : End) → text_of (ended_line x) ≡ text_of (ended_line y) → x ≡ y
one_end x y e =
    one_name x y (append_cancel_right (end_name x) (end_name y) [] (append_cancel_left (codes "ended ") (end_name x ++ []) (end_name y ++ []) e))

-- what may stand after the ends: it doesn't begin as a line of an end does
abbrev pub MayFollow : List ℕ → Type 0
MayFollow text = get_or text 0 0 ≢ 101

-- the ends are one list, however many they are, and leave the same
pub same_ends : (xs ys : List End) (more others : List ℕ) → MayFollow more → MayFollow others
    → lines_text (map ended_line xs) ++ more ≡ lines_text (map ended_line ys) ++ others → (xs ≡ ys) × (more ≡ others)
same_ends [] [] more others h k e = (refl, e)
same_ends [] (y ∷ ys) more others h k e = absurd (h (ap (λ (l : List ℕ). get_or l 0 0) e))
same_ends (x ∷ xs) [] more others h k e = absurd (k (sym (ap (λ (l : List ℕ). get_or l 0 0) e)))
same_ends (x ∷ xs) (y ∷ ys) more others h k e =
    let left = lines_text (map ended_line xs) in
    let right = lines_text (map ended_line ys) in
    let cut = first_line (text_of (ended_line x)) (text_of (ended_line y)) (left ++ more) (right ++ others) (end_shown x) (end_shown y)
    (sym (after_line (ended_line x) left more) ∙ e ∙ after_line (ended_line y) right others) in
    let rest = same_ends xs ys more others h k cut.1 in
    (ap (λ (z : End). z ∷ xs) (one_end x y cut.0) ∙ ap (λ (l : List End). y ∷ l) rest.0, rest.1)
