-- A line says one thing at most, and of lines one is the first that is bad.
use Rattle.osdp_tool_test.proofs.Common.{◌≡◌, ◌∙◌, ℕ, suc, ◌+◌, ◌==◌, Bool, cond, not, List, [], ◌∷◌, ◌++◌, length, filter, Option, Some, None, inl, inr, refl, sym, ap, subst, arith, ne_eqb, onto_first, slice_split, AllStandFor, Word, words_in, IsComment, IsFirstBad, LineSays, LinesSay, SaysNone, WordsSay}

abbrev head_or : {A : Type 0} → A → List A → A
head_or x [] = x
head_or x (y ∷ ys) = y

abbrev tail_of : {A : Type 0} → List A → List A
tail_of [] = []
tail_of (y ∷ ys) = ys

-- the first word of a comment begins with a #
record BeginsSo (words : List (List ℕ)) : Type 0 where
  word : List ℕ
  others : List (List ℕ)
  are : words ≡ (35 ∷ word) ∷ others

parts_begin : (parts : List (List ℕ)) → BeginsSo (filter (λ part. not (length part == 0)) (onto_first 35 parts))
parts_begin [] = record { word = []; others = []; are = refl }
parts_begin (part ∷ parts) =
    let others : List (List ℕ) = filter (λ p. not (length p == 0)) parts in
    record {
      word = part;
      others = others;
      are = ap (λ (b : Bool). cond (not b) ((35 ∷ part) ∷ others) others) (ne_eqb (length (35 ∷ part)) 0 (λ is. omega arith));
    }

comment_begins : (line : List ℕ) → IsComment line → BeginsSo (words_in line)
comment_begins [] is = absurd is
comment_begins (c ∷ line) is = subst (λ (b : ℕ). BeginsSo (words_in (b ∷ line))) (sym is) (parts_begin (slice_split (λ b. b == 32) line))

-- what may be said is one thing by its words, of which there are some, and the first begins with no #
pub record AreNamed {C : Type 0} (words_of : C → List Word) (Fits : C → Type 0) : Type 0 where
  pub one : (given : List (List ℕ)) (a b : C) → Fits a → Fits b → AllStandFor (words_of a) given → AllStandFor (words_of b) given → a ≡ b
  pub some : (c : C) → AllStandFor (words_of c) [] → ⊥
  pub plain : (c : C) (word : List ℕ) (others : List (List ℕ)) → AllStandFor (words_of c) ((35 ∷ word) ∷ others) → ⊥

module _ {C : Type 0} (words_of : C → List Word) (Fits : C → Type 0) (named : AreNamed words_of Fits) where
  words_once : (words : List (List ℕ)) (a b : Option C) → WordsSay words_of Fits words a → WordsSay words_of Fits words b → a ≡ b
  words_once words None None h g = refl
  words_once words None (Some b) h g = absurd (named.some b (subst (AllStandFor (words_of b)) h g.0))
  words_once words (Some a) None h g = absurd (named.some a (subst (AllStandFor (words_of a)) g h.0))
  words_once words (Some a) (Some b) h g = ap Some (named.one words a b h.1 g.1 h.0 g.0)

  no_words : (words : List (List ℕ)) (said : Option C) → BeginsSo words → WordsSay words_of Fits words said → ⊥
  no_words words None begins h = cc (h, begins.are)
  no_words words (Some c) begins h = named.plain c begins.word begins.others (subst (AllStandFor (words_of c)) begins.are h.0)

  line_once : (line : List ℕ) (a b : Option C) → LineSays words_of Fits line a → LineSays words_of Fits line b → a ≡ b
  line_once line a b (inl h) (inl g) = h.1 ∙ sym g.1
  line_once line a b (inl h) (inr g) = absurd (no_words (words_in line) b (comment_begins line h.0) g.1)
  line_once line a b (inr h) (inl g) = absurd (no_words (words_in line) a (comment_begins line g.0) h.1)
  line_once line a b (inr h) (inr g) = words_once (words_in line) a b h.1 g.1

  pub lines_once : (lines : List (List ℕ)) (a b : List (Option C)) → LinesSay words_of Fits lines a → LinesSay words_of Fits lines b → a ≡ b
  lines_once [] [] [] h g = refl
  lines_once [] [] (y ∷ b) h g = absurd g
  lines_once [] (x ∷ a) b h g = absurd h
  lines_once (line ∷ lines) [] b h g = absurd h
  lines_once (line ∷ lines) (x ∷ a) [] h g = absurd g
  lines_once (line ∷ lines) (x ∷ a) (y ∷ b) h g =
      ap (λ (s : Option C). s ∷ a) (line_once line x y h.0 g.0) ∙ ap (λ (l : List (Option C)). y ∷ l) (lines_once lines a b h.1 g.1)

  abbrev Says : List (List ℕ) → List (Option C) → Type 0
  Says = LinesSay words_of Fits

  abbrev Bad : List ℕ → Type 0
  Bad = SaysNone words_of Fits

  -- a line that says something isn't bad
  not_bad : (line other : List ℕ) (said : Option C) → line ≡ other → LineSays words_of Fits line said → Bad other → ⊥
  not_bad line other said e h bad = bad said (subst (λ (l : List ℕ). LineSays words_of Fits l said) e h)

  same_place : (xs ys : List (List ℕ)) (line other : List ℕ) (below beneath : List (List ℕ)) (s t : List (Option C))
      → xs ++ line ∷ below ≡ ys ++ other ∷ beneath → Says xs s → Says ys t → Bad line → Bad other → length xs ≡ length ys
  same_place [] [] line other below beneath s t e h g bad ill = refl
  same_place [] (y ∷ ys) line other below beneath s [] e h g bad ill = absurd g
  same_place [] (y ∷ ys) line other below beneath s (b ∷ t) e h g bad ill = absurd (not_bad y line b (sym (ap (head_or line) e)) g.0 bad)
  same_place (x ∷ xs) ys line other below beneath [] t e h g bad ill = absurd h
  same_place (x ∷ xs) [] line other below beneath (a ∷ s) t e h g bad ill = absurd (not_bad x other a (ap (head_or other) e) h.0 ill)
  same_place (x ∷ xs) (y ∷ ys) line other below beneath (a ∷ s) [] e h g bad ill = absurd g
  same_place (x ∷ xs) (y ∷ ys) line other below beneath (a ∷ s) (b ∷ t) e h g bad ill =
      ap (λ (n : ℕ). suc n) (same_place xs ys line other below beneath s t (ap tail_of e) h.1 g.1 bad ill)

  pub first_bad_once : (lines : List (List ℕ)) (m n : ℕ) → IsFirstBad words_of Fits lines m → IsFirstBad words_of Fits lines n → m ≡ n
  first_bad_once lines m n h g =
      h.place ∙ ap (λ (k : ℕ). k + 1) (same_place h.above g.above h.line g.line h.below g.below h.said g.said (sym h.whole ∙ g.whole) h.good g.good h.bad g.bad) ∙ sym g.place

  none_among : (above : List (List ℕ)) (line : List ℕ) (below : List (List ℕ)) (s : List (Option C)) → Says (above ++ line ∷ below) s → Bad line → ⊥
  none_among [] line below [] h bad = h
  none_among [] line below (a ∷ s) h bad = bad a h.0
  none_among (x ∷ above) line below [] h bad = h
  none_among (x ∷ above) line below (a ∷ s) h bad = none_among above line below s h.1 bad

  -- where all lines say something, none is bad
  pub none_bad : (lines : List (List ℕ)) (s : List (Option C)) (n : ℕ) → Says lines s → IsFirstBad words_of Fits lines n → ⊥
  none_bad lines s n h bad = none_among bad.above bad.line bad.below s (subst (λ (l : List (List ℕ)). Says l s) bad.whole h) bad.bad
