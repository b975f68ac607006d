-- A line as it is printed says what it was printed of.
use Rattle.osdp_script.proofs.Common.{◌≡◌, ◌≢◌, ◌<◌, ◌≤◌, ◌^◌, lit<, ℕ, zero, suc, Bool, true, false, not, cond, eqb, List, [], ◌∷◌, codes, filter, length, map, inr, refl, sym, ap, subst, ◌∙◌, arith, AllByRecursion, ne_eqb, check_name, CheckKind, Crc, Sum, command_words, event_words, Move, Deliver, Drop, Repeat, Damage, Issue, Queue, Busy, Wait, ToReader, ToController, Reopen, IsLine, AllStandFor, Word, bytes, plain, printed, text_of, words_in, ScriptLine, Check, Reader, Step, Clean, LineFits, MoveFits, line_fields, line_name, line_words, move_words, switch_word, IsInPlace, IsRead, Says, Plan, with_line}
use Rattle.std.specs.Str.{IsAscii}
use Rattle.std.proofs.lemmas.Str.{IsUtf8-from_ascii}
use Rattle.osdp_msg_laws.proofs.PlainCommands.{plain_commands}
use Rattle.osdp_msg_laws.proofs.PlainReplies.{plain_events}
use Rattle.osdp_msg_laws.proofs.PlainWords.{bytes_plain}
use Rattle.osdp_msg_laws.proofs.PrintedWords.{ArePrintedWords, IsPrintedWord, IsTextCharacter, name_printed, number_printed, plain_words_printed, printed_stand, text_shown, words_held}
use Rattle.osdp_words.proofs.TextLaws.{parts_at_spaces}
use Rattle.osdp_script.specs.Words.{characters, is_passed_over}

-- ---- words

check_held : (kind : CheckKind) → IsPrintedWord (plain (check_name kind))
check_held Sum = name_printed (codes "sum") (lit< tt) refl
check_held Crc = name_printed (codes "crc") (lit< tt) refl

switch_held : (busy : Bool) → IsPrintedWord (switch_word busy)
switch_held true = name_printed (codes "on") (lit< tt) refl
switch_held false = name_printed (codes "off") (lit< tt) refl

move_held : (move : Move) → MoveFits move → ArePrintedWords (move_words move)
move_held Deliver h = (name_printed (codes "deliver") (lit< tt) refl, tt)
move_held Drop h = (name_printed (codes "drop") (lit< tt) refl, tt)
move_held Repeat h = (name_printed (codes "repeat") (lit< tt) refl, tt)
move_held (Damage burst) h =
    (name_printed (codes "damage") (lit< tt) refl, plain_words_printed (bytes burst.items ∷ []) (bytes_plain burst.items h.1, tt))

within : (n most : ℕ) → most < 2 ^ 64 → n ≤ most → n < 2 ^ 64
within n most small h = omega arith

-- each word of a line is printed as characters from `!` to `~`
pub line_held : (readers : ℕ) (line : ScriptLine) → LineFits readers line → ArePrintedWords (line_words line)
line_held readers (Check kind) h = (name_printed (codes "check") (lit< tt) refl, (check_held kind, tt))
line_held readers (Reader address room) h = (
  name_printed (codes "reader") (lit< tt) refl,
  (number_printed address (within address 126 (omega arith) h.device), (number_printed room (within room 1024 (omega arith) h.limit), tt)),
)
line_held readers (Step (Issue reader command)) h = (
  name_printed (codes "issue") (lit< tt) refl,
  (number_printed reader (within reader 16 (omega arith) h.there.most), plain_words_printed (command_words command) (plain_commands command h.fits)),
)
line_held readers (Step (Queue reader event)) h = (
  name_printed (codes "queue") (lit< tt) refl,
  (number_printed reader (within reader 16 (omega arith) h.there.most), plain_words_printed (event_words event) (plain_events event h.fits)),
)
line_held readers (Step (Busy reader busy)) h = (
  name_printed (codes "busy") (lit< tt) refl,
  (number_printed reader (within reader 16 (omega arith) h.most), (switch_held busy, tt)),
)
line_held readers (Step (Wait time)) h =
    (name_printed (codes "wait") (lit< tt) refl, (number_printed time (within time 3600000 (omega arith) h), tt))
line_held readers (Step (ToReader move)) h = (name_printed (codes "to-reader") (lit< tt) refl, move_held move h)
line_held readers (Step (ToController move)) h = (name_printed (codes "to-controller") (lit< tt) refl, move_held move h)
line_held readers (Step (Reopen reader)) h =
    (name_printed (codes "reopen") (lit< tt) refl, (number_printed reader (within reader 16 (omega arith) h.most), tt))
line_held readers (Clean n) h = (name_printed (codes "clean") (lit< tt) refl, (number_printed n (within n 1000 (omega arith) h), tt))

-- ---- characters

-- the line without the line feed after it
abbrev pub plain_text : ScriptLine → List ℕ
plain_text line = text_of (line_words line)

abbrev AreShown : List ℕ → Type 0
AreShown text = AllByRecursion IsTextCharacter text

shown : (readers : ℕ) (line : ScriptLine) → LineFits readers line → AreShown (plain_text line)
shown readers line h = text_shown (line_words line) (line_held readers line h)

-- it holds no line feed ..
no_feed : (text : List ℕ) → AreShown text → IsLine text
no_feed [] h = tt
no_feed (c ∷ rest) h = (λ same. let low = h.0.0 in omega arith, no_feed rest h.1)

pub is_line : (readers : ℕ) (line : ScriptLine) → LineFits readers line → IsLine (plain_text line)
is_line readers line h = no_feed (plain_text line) (shown readers line h)

-- .. and no carriage return ..
all_kept : (text : List ℕ) → AreShown text → characters text ≡ text
all_kept [] h = refl
all_kept (c ∷ rest) h =
    let other : c ≢ 13 = λ same. let low = h.0.0 in omega arith in
    ap (λ t. cond (not t) (c ∷ characters rest) (characters rest)) (ne_eqb c 13 other) ∙ ap (λ (l : List ℕ). c ∷ l) (all_kept rest h.1)

-- .. and is text
is_ascii : (text : List ℕ) → AreShown text → IsAscii text
is_ascii [] h i = omega arith
is_ascii (c ∷ rest) h zero = let high = h.0.1 in omega arith
is_ascii (c ∷ rest) h (suc i) = is_ascii rest h.1 i

-- it begins by a letter
not_passed : (line : ScriptLine) → is_passed_over (plain_text line) ≡ false
unfolding is_passed_over
not_passed (Check kind) = refl
not_passed (Reader address room) = refl
not_passed (Step (Issue reader command)) = refl
not_passed (Step (Queue reader event)) = refl
not_passed (Step (Busy reader busy)) = refl
not_passed (Step (Wait time)) = refl
not_passed (Step (ToReader move)) = refl
not_passed (Step (ToController move)) = refl
not_passed (Step (Reopen reader)) = refl
not_passed (Clean n) = refl

-- ---- words of a text

some_kept : (words : List Word) → AllByRecursion (λ word. 0 < length (printed word)) words
    → filter (λ part. not (eqb (length part) 0)) (map printed words) ≡ map printed words
some_kept [] h = refl
some_kept (word ∷ words) h =
    let rest = filter (λ (part : List ℕ). not (eqb (length part) 0)) (map printed words) in
    let some : length (printed word) ≢ 0 = λ none. let long = h.0 in omega arith in
    ap (λ t. cond (not t) (printed word ∷ rest) rest) (ne_eqb (length (printed word)) 0 some)
    ∙ ap (λ (l : List (List ℕ)). printed word ∷ l) (some_kept words h.1)

words_again : (word : Word) (words : List Word) → ArePrintedWords (word ∷ words) → words_in (text_of (word ∷ words)) ≡ map printed (word ∷ words)
words_again word words h =
    let parts = parts_at_spaces word words (words_held (word ∷ words) h) in
    ap (λ (l : List (List ℕ)). filter (λ part. not (eqb (length part) 0)) l) parts.0 ∙ some_kept (word ∷ words) parts.1

stands : (readers : ℕ) (line : ScriptLine) → LineFits readers line → AllStandFor (line_words line) (words_in (plain_text line))
stands readers line h =
    let held = line_held readers line h in
    subst (λ (given : List (List ℕ)). AllStandFor (line_words line) given)
    (sym (words_again (plain (line_name line)) (line_fields line) held))
    (printed_stand (line_words line) held)

-- ---- the line

-- a line that is in its ranges and in its place, printed, is read as that line
pub is_read : (p : Plan) (line : ScriptLine) → LineFits (length p.readers) line → IsInPlace p line → IsRead p (plain_text line) (with_line line p)
is_read p line fits place =
    let kept = all_kept (plain_text line) (shown (length p.readers) line fits) in
    let says : Says p (plain_text line) line =
    record {
      utf8 = IsUtf8-from_ascii (plain_text line) (is_ascii (plain_text line) (shown (length p.readers) line fits));
      words = stands (length p.readers) line fits;
      fits = fits;
      place = place;
    } in
    inr (
      ap is_passed_over kept ∙ not_passed line,
      record { line = line; says = subst (λ (text : List ℕ). Says p text line) (sym kept) says; plan = refl },
    )
