-- The pieces of a line between spaces, one after the other, and the words among them.
use Rattle.std.proofs.Common.{lit<, ◌≡◌, ◌<◌, ℕ, arith, Bool, true, false, List, [], ◌∷◌, ◌++◌, filter, length, Bor, Option, Some, None, cond, eqb, not, refl, sym, ap, subst, ◌∙◌, append_assoc, append-nil}
use Rattle.osdp_words.proofs.Common.{map-append, All-from_get_or, slice_split_first, slice_split_none, after_first, before_first, position_or_len, slice_split, MatchOption, IsTrue, ◌↔◌, split_has_more, split_pattern, split_steps, split_text, YieldsList-from_str_split, texts, words_in}
use Rattle.std.proofs.lemmas.List.Sums.{fails_before_first}
use Rattle.std.proofs.lemmas.Str.Pattern.{IsSplitOnceResult, split_once_first}
use Rattle.std.specs.Str.Pattern.{FindsChar}
use Rattle.std.specs.declared.str.Split.{Split}
use Rattle.std.proofs.lemmas.Iterator.{YieldsList}

-- those that have characters
abbrev some_characters : List (List ℕ) → List (List ℕ)
some_characters parts = filter (λ part. not (eqb (length part) 0)) parts

-- the pieces that are left of a line
abbrev pub AreLeft : Split ℕ → List (List ℕ) → Type 0
AreLeft s left = YieldsList (split_steps FindsChar (λ a b. b ≡ a)) (λ x. x.now) s left

-- a piece is the first of them
pub next_piece : (s t : Split ℕ) (x : Bor (List ℕ)) (left : List (List ℕ)) → AreLeft s left → split_steps FindsChar (λ a b. b ≡ a) s (Some x) t
    → (rest : List (List ℕ)) × (left ≡ x.now ∷ rest) × AreLeft t rest
next_piece s t x [] y k = absurd (y.runs x t k)
next_piece s t x (p ∷ ps) y k = (ps, ap (λ q. q ∷ ps) (sym (y.runs.1 x t k).0), record { runs = (y.runs.1 x t k).1 })

no_piece : (s t : Split ℕ) (left : List (List ℕ)) → AreLeft s left → split_steps FindsChar (λ a b. b ≡ a) s None t → left ≡ []
no_piece s t [] y k = refl
no_piece s t (p ∷ ps) y k = absurd (y.runs.0 t k)

empty_piece : (x : List ℕ) (rest : List (List ℕ)) → eqb (length x) 0 ≡ true → some_characters (x ∷ rest) ≡ some_characters rest
empty_piece x rest e = ap (λ b. cond (not b) (x ∷ some_characters rest) (some_characters rest)) e

a_word : (x : List ℕ) (rest : List (List ℕ)) → eqb (length x) 0 ≡ false → some_characters (x ∷ rest) ≡ x ∷ some_characters rest
a_word x rest e = ap (λ b. cond (not b) (x ∷ some_characters rest) (some_characters rest)) e

-- the words so far, and those among the pieces that are left, are all words
pub record IsCutTo (all words : List (List ℕ)) (s : Split ℕ) : Type 0 where
  pub left : List (List ℕ)
  pub are : AreLeft s left
  pub whole : words ++ some_characters left ≡ all

pub begun : (text : List ℕ) (s : Split ℕ) → split_text s ≡ text → split_has_more s ≡ true → split_pattern s ≡ 32 → IsCutTo (words_in text) [] s
begun text s rest more pattern = record {
  left = slice_split (λ c. eqb c 32) text;
  are = YieldsList-from_str_split 32 text (lit< tt) rest more pattern;
  whole = refl;
}

pub passed : (all words : List (List ℕ)) (s t : Split ℕ) (x : Bor (List ℕ)) → IsCutTo all words s → split_steps FindsChar (λ a b. b ≡ a) s (Some x) t
    → eqb (length x.now) 0 ≡ true → IsCutTo all words t
passed all words s t x cut k e =
    let p = next_piece s t x cut.left cut.are k in
    record {
      left = p.0;
      are = p.2;
      whole = ap (λ l. words ++ l) (sym (empty_piece x.now p.0 e)) ∙ ap (λ l. words ++ some_characters l) (sym p.1) ∙ cut.whole;
    }

pub taken : (all words : List (List ℕ)) (s t : Split ℕ) (x : Bor (List ℕ)) → IsCutTo all words s → split_steps FindsChar (λ a b. b ≡ a) s (Some x) t
    → eqb (length x.now) 0 ≡ false → IsCutTo all (words ++ x.now ∷ []) t
taken all words s t x cut k e =
    let p = next_piece s t x cut.left cut.are k in
    record {
      left = p.0;
      are = p.2;
      whole = append_assoc words (x.now ∷ []) (some_characters p.0) ∙ ap (λ l. words ++ l) (sym (a_word x.now p.0 e))
          ∙ ap (λ l. words ++ some_characters l) (sym p.1) ∙ cut.whole;
    }

-- the same of words as they are lent: none at first, then one more after the others
pub lent_begun : (text : List ℕ) (words : List (Bor (List ℕ))) (s t : Split ℕ) → split_text s ≡ text → split_has_more s ≡ true → split_pattern s ≡ 32
    → words ≡ [] → t ≡ s → IsCutTo (words_in text) (texts words) t
lent_begun text words s t rest more pattern none same =
    subst (λ ws. IsCutTo (words_in text) (texts ws) t) (sym none) (subst (λ u. IsCutTo (words_in text) [] u) (sym same) (begun text s rest more pattern))

pub lent_taken : (all : List (List ℕ)) (words others : List (Bor (List ℕ))) (s t : Split ℕ) (x : Bor (List ℕ)) → IsCutTo all (texts words) s
    → split_steps FindsChar (λ a b. b ≡ a) s (Some x) t → eqb (length x.now) 0 ≡ false → others ≡ words ++ x ∷ [] → IsCutTo all (texts others) t
lent_taken all words others s t x cut k e pushed =
    subst (λ ws. IsCutTo all ws t) (sym (ap texts pushed ∙ map-append (λ w. w.now) words (x ∷ []))) (taken all (texts words) s t x cut k e)

pub all_taken : (all words : List (List ℕ)) (s t : Split ℕ) → IsCutTo all words s → split_steps FindsChar (λ a b. b ≡ a) s None t → words ≡ all
all_taken all words s t cut k =
    sym (append-nil words) ∙ ap (λ l. words ++ some_characters l) (sym (no_piece s t cut.left cut.are k)) ∙ cut.whole

-- ---- one word after another

-- a line is cut at its first space, or not at all
abbrev pub CutsOnce : List ℕ → Option (Bor (List ℕ) × Bor (List ℕ)) → Type 0
CutsOnce line r =
    MatchOption r (slice_split (λ c. eqb c 32) line ≡ line ∷ []) (λ x. slice_split (λ c. eqb c 32) line ≡ x.0.now ∷ slice_split (λ c. eqb c 32) x.1.now)

pub cuts_once : (line : List ℕ) (r : Option (Bor (List ℕ) × Bor (List ℕ))) → IsSplitOnceResult 32 line r → CutsOnce line r
cuts_once line r h = go r (split_once_first 32 line r h (lit< tt))
  where
    go : (q : Option (Bor (List ℕ) × Bor (List ℕ)))
        → MatchOption q (position_or_len (λ b. eqb b 32) line ≡ length line) (λ x. (position_or_len (λ b. eqb b 32) line < length line) × (x.0.now ≡ before_first (λ b. eqb b 32) line) × (x.1.now ≡ after_first (λ b. eqb b 32) line))
        → CutsOnce line q
    go None k = slice_split_none (λ c. eqb c 32) line (All-from_get_or (λ c. eqb c 32 ≡ false) line 0 (λ i lt. fails_before_first (λ c. eqb c 32) line i 0 (omega (arith, k))))
    go (Some x) k = rw (k.1, k.2) (slice_split_first (λ c. eqb c 32) line 0 k.0)

pub passed_over : (line part more : List ℕ) → slice_split (λ c. eqb c 32) line ≡ part ∷ slice_split (λ c. eqb c 32) more → eqb (length part) 0 ≡ true
    → words_in line ≡ words_in more
passed_over line part more e none = ap some_characters e ∙ empty_piece part (slice_split (λ c. eqb c 32) more) none

pub begins_with : (line part more : List ℕ) → slice_split (λ c. eqb c 32) line ≡ part ∷ slice_split (λ c. eqb c 32) more → eqb (length part) 0 ≡ false
    → words_in line ≡ part ∷ words_in more
begins_with line part more e some = ap some_characters e ∙ a_word part (slice_split (λ c. eqb c 32) more) some

pub no_word : (line : List ℕ) → slice_split (λ c. eqb c 32) line ≡ line ∷ [] → eqb (length line) 0 ≡ true → words_in line ≡ []
no_word line e none = ap some_characters e ∙ empty_piece line [] none

pub one_word : (line : List ℕ) → slice_split (λ c. eqb c 32) line ≡ line ∷ [] → eqb (length line) 0 ≡ false → words_in line ≡ line ∷ []
one_word line e some = ap some_characters e ∙ a_word line [] some

-- where a slice has words, some are left
pub not_none : (words : List (Bor (List ℕ))) (after all : List (List ℕ)) (empty : Bool) → texts words ++ after ≡ all → empty ≡ eqb (length words) 0 → empty ≡ false
    → IsTrue empty ↔ (all ≡ [])
not_none [] after all empty e is other = absurd (cc (is, other))
not_none (word ∷ words) after all empty e is other = (λ yes. absurd (cc (yes, other)), λ none. absurd (cc (e, none)))
