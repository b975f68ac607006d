-- Words that are printed as characters from `!` to `~`, and texts of them.
use Rattle.osdp_msg_laws.proofs.Common.{◌≡◌, ◌<◌, ◌≤◌, ◌^◌, inl, inr, ℕ, Bool, true, ◌&&◌, List, [], ◌∷◌, ◌++◌, codes, length, map, eqb, sym, ap, ◌∙◌, arith, nat_le, AllByRecursion, flat_map, slice_split, LacksByte, leb-true, AllStandFor, AreWords, IsWord, Word, number, plain, printed, text_of, parts_at_spaces, lacks-cons, IsPlainCharacter, IsPlainWord}
use Rattle.osdp_msg_laws.proofs.PlainWords.{both, numbers_plain}
use Rattle.osdp_msg_laws.proofs.TextWords.{all_printed}

abbrev pub IsPrintable : ℕ → Type 0
IsPrintable c = (33 ≤ c) × (c ≤ 126)

pub record IsPrintedWord (word : Word) : Type 0 where
  pub held : IsWord word
  pub some : 0 < length (printed word)
  pub each : AllByRecursion IsPrintable (printed word)

abbrev pub ArePrintedWords : List Word → Type 0
ArePrintedWords words = AllByRecursion IsPrintedWord words

-- a character of a text
abbrev pub IsTextCharacter : ℕ → Type 0
IsTextCharacter c = (32 ≤ c) × (c ≤ 126)

-- ---- words

plain_printable : (c : ℕ) → IsPlainCharacter c → IsPrintable c
plain_printable c (inl range) = (omega (arith, range.0), omega (arith, range.1))
plain_printable c (inr (inl range)) = (omega (arith, range.0), omega (arith, range.1))
plain_printable c (inr (inr range)) = (omega (arith, range.0), omega (arith, range.1))

all_printable : (text : List ℕ) → AllByRecursion IsPlainCharacter text → AllByRecursion IsPrintable text
all_printable [] h = tt
all_printable (c ∷ rest) h = (plain_printable c h.0, all_printable rest h.1)

pub plain_words_printed : (ws : List Word) → AllByRecursion IsPlainWord ws → ArePrintedWords ws
plain_words_printed [] h = tt
plain_words_printed (w ∷ ws) h =
    (record { held = h.0.held; some = h.0.some; each = all_printable (printed w) h.0.each }, plain_words_printed ws h.1)

pub number_printed : (n : ℕ) → n < 2 ^ 64 → IsPrintedWord (number n)
number_printed n small = (plain_words_printed (number n ∷ []) (numbers_plain (n ∷ []) [] (small, tt) tt)).0

abbrev pub are_printable : List ℕ → Bool
are_printable [] = true
are_printable (c ∷ rest) = (nat_le 33 c && nat_le c 126) && are_printable rest

tested : (text : List ℕ) → are_printable text ≡ true → AllByRecursion IsPrintable text
tested [] e = tt
tested (c ∷ rest) e =
    let p = both (nat_le 33 c && nat_le c 126) (are_printable rest) e in
    let q = both (nat_le 33 c) (nat_le c 126) p.0 in
    ((leb-true 33 c q.0, leb-true c 126 q.1), tested rest p.1)

no_spaces : (text : List ℕ) → AllByRecursion IsPrintable text → LacksByte 32 text
no_spaces [] h = λ k lt. absurd (omega arith)
no_spaces (c ∷ rest) h = lacks-cons 32 c rest (omega (arith, h.0.0)) (no_spaces rest h.1)

-- a name of printable characters
pub name_printed : (text : List ℕ) → 0 < length text → are_printable text ≡ true → IsPrintedWord (plain text)
name_printed text some e =
    let each = tested text e in
    record { held = (some, no_spaces text each); some = some; each = each }

pub both_printed : (ws vs : List Word) → ArePrintedWords ws → ArePrintedWords vs → ArePrintedWords (ws ++ vs)
both_printed [] vs h k = k
both_printed (w ∷ ws) vs h k = (h.0, both_printed ws vs h.1 k)

-- ---- texts

pub words_held : (ws : List Word) → ArePrintedWords ws → AreWords ws
words_held [] h = tt
words_held (w ∷ ws) h = (h.0.held, words_held ws h.1)

pub printed_stand : (ws : List Word) → ArePrintedWords ws → AllStandFor ws (map printed ws)
printed_stand ws h = all_printed ws (words_held ws h)

shown : (text : List ℕ) → AllByRecursion IsPrintable text → AllByRecursion IsTextCharacter text
shown [] h = tt
shown (c ∷ rest) h = ((omega (arith, h.0.0), h.0.1), shown rest h.1)

characters_append : (xs ys : List ℕ) → AllByRecursion IsTextCharacter xs → AllByRecursion IsTextCharacter ys → AllByRecursion IsTextCharacter (xs ++ ys)
characters_append [] ys h k = k
characters_append (x ∷ xs) ys h k = (h.0, characters_append xs ys h.1 k)

rest_shown : (ws : List Word) → ArePrintedWords ws → AllByRecursion IsTextCharacter (flat_map (λ word. codes " " ++ printed word) ws)
rest_shown [] h = tt
rest_shown (w ∷ ws) h =
    characters_append (codes " " ++ printed w) (flat_map (λ word. codes " " ++ printed word) ws)
    ((omega arith, omega arith), shown (printed w) h.0.each)
    (rest_shown ws h.1)

-- a text of such words has no other characters
pub text_shown : (ws : List Word) → ArePrintedWords ws → AllByRecursion IsTextCharacter (text_of ws)
text_shown [] h = tt
text_shown (w ∷ ws) h =
    characters_append (printed w) (flat_map (λ word. codes " " ++ printed word) ws) (shown (printed w) h.0.each) (rest_shown ws h.1)

-- words of one text are printed word by word as the same
pub same_printed : (w v : Word) (ws vs : List Word) → ArePrintedWords (w ∷ ws) → ArePrintedWords (v ∷ vs)
    → text_of (w ∷ ws) ≡ text_of (v ∷ vs) → map printed (w ∷ ws) ≡ map printed (v ∷ vs)
same_printed w v ws vs h k e =
    let first = (parts_at_spaces w ws (words_held (w ∷ ws) h)).0 in
    let second = (parts_at_spaces v vs (words_held (v ∷ vs) k)).0 in
    sym first ∙ ap (λ (text : List ℕ). slice_split (λ c. eqb c 32) text) e ∙ second
