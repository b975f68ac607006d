-- What is read in two parts: a first word, and the words after it.
use Rattle.osdp_tool_test.proofs.Common.{◌≡◌, ◌<◌, ◌^◌, ℕ, Bool, true, false, List, ◌∷◌, Option, Some, None, refl, sym, ap, subst, ◌∙◌, true≢false, ArrayVec, AllStandFor, Word, bytes, number, ExchangeFits, HeardFits, IsList, PairFits, SentFits, exchange_words, heard_words, pair_words, sent_words, Exchange}
use Rattle.osdp_words.specs.Reading.{Reads, ReadsWords}

abbrev pub is_none : {X : Type 0} → Option X → Bool
is_none None = true
is_none (Some x) = false

none_some : {X Y : Type 0} (x : X) → None ≡ Some x → Y
none_some {X} x e = absurd (true≢false (ap (λ (o : Option X). is_none o) e))

abbrev pub or_this : {X : Type 0} → X → Option X → X
or_this x None = x
or_this x (Some z) = z

some_same : {X : Type 0} (x y : X) → Some x ≡ Some y → x ≡ y
some_same {X} x y e = ap (λ (o : Option X). or_this x o) e

-- a value is made of its parts, and has their words
pub record IsPair {A B C : Type 0} (word : A → Word) (First : A → Type 0) (rest : B → List Word) (Rest : B → Type 0) (words : C → List Word) (Fits : C → Type 0)
    (one : C → A) (other : C → B) (make : A → B → C) : Type 0 where
  pub same : (c : C) → make (one c) (other c) ≡ c
  pub words_are : (a : A) (b : B) → words (make a b) ≡ word a ∷ rest b
  pub parts : (c : C) → Fits c → First (one c) × Rest (other c)
  pub whole : (a : A) (b : B) → First a → Rest b → Fits (make a b)

module _ {A B C : Type 0} (word : A → Word) (First : A → Type 0) (rest : B → List Word) (Rest : B → Type 0) (words : C → List Word) (Fits : C → Type 0)
    (one : C → A) (other : C → B) (make : A → B → C) (pair : IsPair word First rest Rest words Fits one other make) (given : List ℕ) (left : List (List ℕ)) where
  stand : (c : C) → AllStandFor (words c) (given ∷ left) → AllStandFor (word (one c) ∷ rest (other c)) (given ∷ left)
  stand c stands = subst (λ (ws : List Word). AllStandFor ws (given ∷ left)) (ap words (sym (pair.same c)) ∙ pair.words_are (one c) (other c)) stands

  pub first_none : (r : Option C) → Reads word First given None → r ≡ None → ReadsWords words Fits (given ∷ left) r
  first_none r reads e = rw e record {
    value = tt;
    only = λ c fits stands. none_some (one c) (reads.only (one c) (pair.parts c fits).0 (stand c stands).0);
  }

  pub rest_none : (r : Option C) → ReadsWords rest Rest left None → r ≡ None → ReadsWords words Fits (given ∷ left) r
  rest_none r reads e = rw e record {
    value = tt;
    only = λ c fits stands. none_some (other c) (reads.only (other c) (pair.parts c fits).1 (stand c stands).1);
  }

  pub both_some : (a : A) (b : B) → Reads word First given (Some a) → ReadsWords rest Rest left (Some b) → ReadsWords words Fits (given ∷ left) (Some (make a b))
  both_some a b first others = record {
    value = (
      subst (λ (ws : List Word). AllStandFor ws (given ∷ left)) (sym (pair.words_are a b)) (first.value.0, others.value.0),
      pair.whole a b first.value.1 others.value.1,
    );
    only = λ c fits stands.
        let one_is : a ≡ one c = some_same a (one c) (first.only (one c) (pair.parts c fits).0 (stand c stands).0) in
        let other_is : b ≡ other c = some_same b (other c) (others.only (other c) (pair.parts c fits).1 (stand c stands).1) in
        ap Some (ap (λ x. make x b) one_is ∙ ap (make (one c)) other_is ∙ pair.same c);
  }

-- ---- the parts of a line

abbrev pub Heard : Type 0
Heard = ℕ × ArrayVec ℕ

abbrev pub Pair : Type 0
Pair = ArrayVec ℕ × ℕ × ArrayVec ℕ

abbrev pub Sent : Type 0
Sent = ℕ × ArrayVec ℕ × ℕ × ArrayVec ℕ

pub pair_parts : IsPair (λ (l : ArrayVec ℕ). bytes l.items) IsList (λ (x : Heard). heard_words x) (λ (x : Heard). HeardFits x) (λ (x : Pair). pair_words x) (λ (x : Pair). PairFits x)
    (λ x. x.0) (λ x. (x.1, x.2)) (λ l y. (l, y.0, y.1))
pair_parts = record { same = λ c. refl; words_are = λ a b. refl; parts = λ c f. (f.0, (f.1, f.2)); whole = λ a b f g. (f, g.0, g.1) }

pub sent_parts : IsPair number (λ n. n < 2 ^ 64) (λ (x : Pair). pair_words x) (λ (x : Pair). PairFits x) (λ (x : Sent). sent_words x) (λ (x : Sent). SentFits x)
    (λ x. x.0) (λ x. (x.1, x.2, x.3)) (λ n y. (n, y.0, y.1, y.2))
sent_parts = record { same = λ c. refl; words_are = λ a b. refl; parts = λ c f. (f.0, (f.1, f.2, f.3)); whole = λ a b f g. (f, g.0, g.1, g.2) }

abbrev pub exchange_of : ℕ → Sent → Exchange
exchange_of n y = record { number = n; moment = y.0; sent = y.1; delay = y.2; heard = y.3 }

pub exchange_parts : (IsNumber : ℕ → Type 0) → IsPair number IsNumber (λ (x : Sent). sent_words x) (λ (x : Sent). SentFits x) exchange_words (ExchangeFits IsNumber)
    (λ x. x.number) (λ x. (x.moment, x.sent, x.delay, x.heard)) exchange_of
exchange_parts IsNumber = record { same = λ c. refl; words_are = λ a b. refl; parts = λ c f. (f.0, (f.1, f.2, f.3, f.4)); whole = λ a b f g. (f, g.0, g.1, g.2, g.3) }
