-- The words of messages are words that a text can hold.
use Rattle.osdp_msg_laws.proofs.Common.{◌≡◌, ◌<◌, ℕ, Bool, true, false, not, eqb, ◌&&◌, List, [], ◌∷◌, ◌++◌, length, map, refl, sym, ap, subst, ◌∙◌, arith, slice_split, LacksByte, eqb-false, AllStandFor, AreWords, IsWord, Word, numbers, plain, printed, text_of, parts_at_spaces, are_all_words, lacks-cons, stands_for_itself}
use Rattle.osdp_msg_laws.proofs.OneMeaning.{AreSmall}

-- a name has no space
abbrev pub has_no_space : List ℕ → Bool
has_no_space [] = true
has_no_space (c ∷ rest) = not (eqb c 32) && has_no_space rest

lacks : (text : List ℕ) → has_no_space text ≡ true → LacksByte 32 text
lacks [] e = λ k lt. absurd (omega arith)
lacks (c ∷ rest) e = let p = parts (eqb c 32) (has_no_space rest) e in lacks-cons 32 c rest (eqb-false c 32 p.0) (lacks rest p.1)
  where
    parts : (a b : Bool) → (not a && b) ≡ true → (a ≡ false) × (b ≡ true)
    parts false true e = (refl, refl)
    parts false false e = absurd cc
    parts true b e = absurd cc

pub name_word : (text : List ℕ) → 0 < length text → has_no_space text ≡ true → IsWord (plain text)
name_word text some e = (some, lacks text e)

pub record_word : (n : ℕ) (ns : List ℕ) → AreSmall (n ∷ ns) → IsWord (numbers (n ∷ ns))
record_word n ns h = (are_all_words n ns h).1

pub all_printed : (ws : List Word) → AreWords ws → AllStandFor ws (map printed ws)
all_printed [] h = tt
all_printed (w ∷ ws) h = (stands_for_itself w h.0, all_printed ws h.1)

-- what one text is printed of is printed word by word
pub text_parts : (w v : Word) (ws vs : List Word) → AreWords (w ∷ ws) → AreWords (v ∷ vs) → text_of (w ∷ ws) ≡ text_of (v ∷ vs)
    → AllStandFor (w ∷ ws) (map printed (w ∷ ws)) × AllStandFor (v ∷ vs) (map printed (w ∷ ws))
text_parts w v ws vs h k e =
    let first = (parts_at_spaces w ws h).0 in
    let second = (parts_at_spaces v vs k).0 in
    let same : map printed (w ∷ ws) ≡ map printed (v ∷ vs) = sym first ∙ ap (λ (text : List ℕ). slice_split (λ c. eqb c 32) text) e ∙ second in
    (all_printed (w ∷ ws) h, subst (λ (given : List (List ℕ)). AllStandFor (v ∷ vs) given) (sym same) (all_printed (v ∷ vs) k))
