-- For callers: the values of several words, put together of what was taken for their parts.
use Rattle.osdp_words.proofs.Common.{◌≡◌, ℕ, ◌<◌, List, [], ◌∷◌, ◌++◌, Option, Some, None, refl, sym, ap, subst, ◌∙◌, append-nil, append_assoc, IfSome, ◌↔◌, option_map, ReadsWords, Takes, AllStandFor, Word}

-- ---- lists of words

stand-append : (ws vs : List Word) (a b : List (List ℕ)) → AllStandFor ws a → AllStandFor vs b → AllStandFor (ws ++ vs) (a ++ b)
stand-append [] vs [] b h k = k
stand-append [] vs (text ∷ a) b h k = absurd h
stand-append (w ∷ ws) vs [] b h k = absurd h
stand-append (w ∷ ws) vs (text ∷ a) b h k = (h.0, stand-append ws vs a b h.1 k)

stand_parts : (ws vs : List Word) (texts : List (List ℕ)) → AllStandFor (ws ++ vs) texts
    → (a : List (List ℕ)) × (b : List (List ℕ)) × (texts ≡ a ++ b) × AllStandFor ws a × AllStandFor vs b
stand_parts [] vs texts h = ([], texts, refl, tt, h)
stand_parts (w ∷ ws) vs [] h = absurd h
stand_parts (w ∷ ws) vs (text ∷ texts) h =
    let r = stand_parts ws vs texts h.1 in
    (text ∷ r.0, r.1, ap (λ (rest : List (List ℕ)). text ∷ rest) r.2, (h.0, r.3), r.4)

-- ---- a value of a part's value

-- f makes a value of what was taken, and g gives back what it was made of
pub record IsMadeOf {A B : Type 0} (words : A → List Word) (Allowed : A → Type 0) (made_words : B → List Word) (Fits : B → Type 0) (f : A → B) (g : B → A) : Type 0 where
  pub back : (b : B) → Fits b → f (g b) ≡ b
  pub parts_allowed : (b : B) → Fits b → Allowed (g b)
  pub parts_words : (b : B) → Fits b → made_words b ≡ words (g b)
  pub fits : (a : A) → Allowed a → Fits (f a)
  pub same_words : (a : A) → Allowed a → made_words (f a) ≡ words a

module _ {A B : Type 0} (words : A → List Word) (Allowed : A → Type 0) (made_words : B → List Word) (Fits : B → Type 0) (f : A → B) (g : B → A) (made : IsMadeOf words Allowed made_words Fits f g) (given left : List (List ℕ)) where
  made_value : (r : Option A) → IfSome r (λ a. (first : List (List ℕ)) × (given ≡ first ++ left) × AllStandFor (words a) first × Allowed a)
      → IfSome (option_map f r) (λ b. (first : List (List ℕ)) × (given ≡ first ++ left) × AllStandFor (made_words b) first × Fits b)
  made_value (Some a) h =
      (h.0, h.1, subst (λ (ws : List Word). AllStandFor ws h.0) (sym (made.same_words a h.3)) h.2, made.fits a h.3)
  made_value None h = tt

  pub made_taken : (r : Option A) → Takes words Allowed given left r → Takes made_words Fits given left (option_map f r)
  made_taken r h = record {
    value = made_value r h.value;
    only = λ b first rest fits e stands.
        let stands' = subst (λ (ws : List Word). AllStandFor ws first) (made.parts_words b fits) stands in
        let one = h.only (g b) first rest (made.parts_allowed b fits) e stands' in
        (ap (option_map f) one.0 ∙ ap Some (made.back b fits), one.1);
  }

-- ---- two values in a row

module _ {A B : Type 0} (front_words : A → List Word) (FrontAllowed : A → Type 0) (back_words : B → List Word) (BackAllowed : B → Type 0) where
  -- the words of a pair
  abbrev pub pair_words : A × B → List Word
  pair_words p = front_words p.0 ++ back_words p.1

  abbrev pub PairAllowed : A × B → Type 0
  PairAllowed p = FrontAllowed p.0 × BackAllowed p.1

  abbrev pub with_front : A → Option B → Option (A × B)
  with_front a r = option_map (λ (b : B). let p : A × B = (a, b) in p) r

  pair_value : (given mid left : List (List ℕ)) (a : A) (r : Option B) → Takes front_words FrontAllowed given mid (Some a)
      → IfSome r (λ b. (first : List (List ℕ)) × (mid ≡ first ++ left) × AllStandFor (back_words b) first × BackAllowed b)
      → IfSome (with_front a r) (λ p. (first : List (List ℕ)) × (given ≡ first ++ left) × AllStandFor (pair_words p) first × PairAllowed p)
  pair_value given mid left a (Some b) h k = (
    h.value.0 ++ k.0,
    h.value.1 ∙ ap (λ (rest : List (List ℕ)). h.value.0 ++ rest) k.1 ∙ sym (append_assoc h.value.0 k.0 left),
    stand-append (front_words a) (back_words b) h.value.0 k.0 h.value.2 k.2,
    (h.value.3, k.3),
  )
  pair_value given mid left a None h k = tt

  pub pair_taken : (given mid left : List (List ℕ)) (a : A) (r : Option B) → Takes front_words FrontAllowed given mid (Some a)
      → Takes back_words BackAllowed mid left r → Takes pair_words PairAllowed given left (with_front a r)
  pair_taken given mid left a r h k = record {
    value = pair_value given mid left a r h k.value;
    only = λ p first rest allowed e stands.
        let parts = stand_parts (front_words p.0) (back_words p.1) first stands in
        let whole : given ≡ parts.0 ++ (parts.1 ++ rest) =
        e ∙ ap (λ (texts : List (List ℕ)). texts ++ rest) parts.2 ∙ append_assoc parts.0 parts.1 rest in
        let front = h.only p.0 parts.0 (parts.1 ++ rest) allowed.0 whole parts.3 in
        let back = k.only p.1 parts.1 rest allowed.1 front.1 parts.4 in
        let same : a ≡ p.0 = cc (front.0) in
        (ap (with_front a) back.0 ∙ ap (λ (x : A). let p' : A × B = (x, p.1) in Some p') same, back.1);
  }

  pub front_missing : (given left : List (List ℕ)) → Takes front_words FrontAllowed given left None → Takes pair_words PairAllowed given left None
  front_missing given left h = record {
    value = tt;
    only = λ p first rest allowed e stands.
        let parts = stand_parts (front_words p.0) (back_words p.1) first stands in
        let whole : given ≡ parts.0 ++ (parts.1 ++ rest) =
        e ∙ ap (λ (texts : List (List ℕ)). texts ++ rest) parts.2 ∙ append_assoc parts.0 parts.1 rest in
        let front = h.only p.0 parts.0 (parts.1 ++ rest) allowed.0 whole parts.3 in
        cc (front.0);
  }

-- ---- all words of a text

module _ {A : Type 0} (words : A → List Word) (Allowed : A → Type 0) (given left : List (List ℕ)) where
  pub all_read : (a : A) → left ≡ [] → Takes words Allowed given left (Some a) → ReadsWords words Allowed given (Some a)
  all_read a none h = record {
    value =
        let whole : given ≡ h.value.0 = h.value.1 ∙ ap (λ (rest : List (List ℕ)). h.value.0 ++ rest) none ∙ append-nil h.value.0 in
        (subst (λ (texts : List (List ℕ)). AllStandFor (words a) texts) (sym whole) h.value.2, h.value.3);
    only = λ b allowed stands. (h.only b given [] allowed (sym (append-nil given)) stands).0;
  }

  pub more_left : (a : A) → (left ≡ [] → ⊥) → Takes words Allowed given left (Some a) → ReadsWords words Allowed given None
  more_left a some h = record {
    value = tt;
    only = λ b allowed stands. absurd (some (h.only b given [] allowed (sym (append-nil given)) stands).1);
  }

  pub none_read : Takes words Allowed given left None → ReadsWords words Allowed given None
  none_read h = record {
    value = tt;
    only = λ b allowed stands. (h.only b given [] allowed (sym (append-nil given)) stands).0;
  }

-- the value that was taken, if the words end there

-- after a name

-- ---- numbers in a row
