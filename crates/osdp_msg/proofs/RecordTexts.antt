-- Records read from words, one word for each.
use Rattle.osdp_msg.proofs.Common.{◌≡◌, ◌<◌, ◌≤◌, ℕ, zero, suc, List, [], ◌∷◌, ◌++◌, length, map, get_or, Option, Some, None, refl, sym, ap, subst, ◌∙◌, append_assoc, arith, IfSome, option_map, All, append-nil, length-append, map_push, All-head, All-nil, All-push, All-tail, Reads, ReadsWords, AllStandFor, AreWithin, StandsFor, Word}

-- ---- a record of one word

-- f makes a value of what was read, and g gives back what it was made of
pub record IsMadeOfWord {A B : Type 0} (word : A → Word) (Allowed : A → Type 0) (made_word : B → Word) (Fits : B → Type 0) (f : A → B) (g : B → A) : Type 0 where
  pub back : (b : B) → Fits b → f (g b) ≡ b
  pub parts_allowed : (b : B) → Fits b → Allowed (g b)
  pub parts_word : (b : B) → Fits b → made_word b ≡ word (g b)
  pub fits : (a : A) → Allowed a → Fits (f a)
  pub same_word : (a : A) → Allowed a → made_word (f a) ≡ word a

module _ {A B : Type 0} (word : A → Word) (Allowed : A → Type 0) (made_word : B → Word) (Fits : B → Type 0) (f : A → B) (g : B → A) (made : IsMadeOfWord word Allowed made_word Fits f g) (given : List ℕ) where
  word_value : (r : Option A) → IfSome r (λ a. StandsFor (word a) given × Allowed a) → IfSome (option_map f r) (λ b. StandsFor (made_word b) given × Fits b)
  word_value (Some a) h = (subst (λ (w : Word). StandsFor w given) (sym (made.same_word a h.1)) h.0, made.fits a h.1)
  word_value None h = tt

  pub word_made : (r : Option A) (made_of : Option B) → Reads word Allowed given r → made_of ≡ option_map f r → Reads made_word Fits given made_of
  word_made r made_of h e = rw e record {
    value = word_value r h.value;
    only = λ b fits stands. ap (option_map f) (h.only (g b) (made.parts_allowed b fits) (subst (λ (w : Word). StandsFor w given) (made.parts_word b fits) stands)) ∙ ap Some (made.back b fits);
  }

-- numbers within their limits

pub within_length : (limits ns : List ℕ) → AreWithin limits ns → length ns ≡ length limits
within_length [] [] h = refl
within_length [] (n ∷ ns) h = absurd h
within_length (limit ∷ limits) [] h = absurd h
within_length (limit ∷ limits) (n ∷ ns) h = ap suc (within_length limits ns h.1)

pub within_at : (limits ns : List ℕ) (i : ℕ) → AreWithin limits ns → i < length limits → get_or ns i 0 ≤ get_or limits i 0
within_at [] ns i h lt = absurd (omega arith)
within_at (limit ∷ limits) [] i h lt = absurd h
within_at (limit ∷ limits) (n ∷ ns) zero h lt = h.0
within_at (limit ∷ limits) (n ∷ ns) (suc i) h lt = within_at limits ns i h.1 (omega arith)

-- ---- records of several words

stand-push : (ws : List Word) (gs : List (List ℕ)) (w : Word) (given : List ℕ) → AllStandFor ws gs → StandsFor w given → AllStandFor (ws ++ w ∷ []) (gs ++ given ∷ [])
stand-push [] [] w given h k = (k, tt)
stand-push [] (g ∷ gs) w given h k = absurd h
stand-push (v ∷ ws) [] w given h k = absurd h
stand-push (v ∷ ws) (g ∷ gs) w given h k = (h.0, stand-push ws gs w given h.1 k)

module _ {R : Type 0} (word : R → Word) (Fits : R → Type 0) (given : List (List ℕ)) where
  -- the records of the words that were taken: others begin with these too
  pub record Parsed (left : List (List ℕ)) (records : List R) : Type 0 where
    pub front : List (List ℕ)
    pub whole : given ≡ front ++ left
    pub stands : AllStandFor (map word records) front
    pub fits : All Fits records
    pub only : (a : List R) → All Fits a → AllStandFor (map word a) given
        → (rest : List R) × (a ≡ records ++ rest) × All Fits rest × AllStandFor (map word rest) left

  abbrev pub list_word : List R → List Word
  list_word records = map word records

  abbrev pub ListFits : ℕ → List R → Type 0
  ListFits room records = (length records ≤ room) × All Fits records

  pub parsed_none : Parsed given []
  parsed_none = record { front = []; whole = refl; stands = tt; fits = All-nil Fits; only = λ a fits stands. (a, refl, fits, stands) }

  one_more : (records a : List R) (w : List ℕ) (more : List (List ℕ)) (x : R) (rest : List R) → Reads word Fits w (Some x)
      → a ≡ records ++ rest → All Fits rest → AllStandFor (map word rest) (w ∷ more)
      → (others : List R) × (a ≡ (records ++ x ∷ []) ++ others) × All Fits others × AllStandFor (map word others) more
  one_more records a w more x [] reads e fits stands = absurd stands
  one_more records a w more x (y ∷ ys) reads e fits stands =
      let found = reads.only y (All-head Fits y ys fits) stands.0 in
      let same : x ≡ y = cc found in
      (ys, e ∙ ap (λ (z : R). records ++ z ∷ ys) (sym same) ∙ sym (append_assoc records (x ∷ []) ys), All-tail Fits y ys fits, stands.1)

  value_of : (w : List ℕ) (x : R) → Reads word Fits w (Some x) → StandsFor (word x) w × Fits x
  value_of w x reads = reads.value

  pub parsed_more : (left more : List (List ℕ)) (records : List R) (w : List ℕ) (x : R) → left ≡ w ∷ more → Reads word Fits w (Some x)
      → Parsed left records → Parsed more (records ++ x ∷ [])
  parsed_more left more records w x next reads so_far =
      let one = value_of w x reads in
      record {
        front = so_far.front ++ w ∷ [];
        whole = so_far.whole ∙ ap (λ (l : List (List ℕ)). so_far.front ++ l) next ∙ sym (append_assoc so_far.front (w ∷ []) more);
        stands = rw (map_push word records x) (stand-push (map word records) so_far.front (word x) w so_far.stands one.0);
        fits = All-push Fits records x so_far.fits one.1;
        only = λ a fits stands.
            let s = so_far.only a fits stands in
            one_more records a w more x s.0 reads s.1 s.2 (subst (λ (l : List (List ℕ)). AllStandFor (map word s.0) l) next s.3);
      }

  no_more : (w : List ℕ) (more : List (List ℕ)) (rest : List R) → Reads word Fits w None → All Fits rest → AllStandFor (map word rest) (w ∷ more) → ⊥
  no_more w more [] reads fits stands = stands
  no_more w more (y ∷ ys) reads fits stands = let found = reads.only y (All-head Fits y ys fits) stands.0 in cc found

  pub parsed_stuck : (room : ℕ) (left more : List (List ℕ)) (records : List R) (w : List ℕ) → left ≡ w ∷ more → Reads word Fits w None
      → Parsed left records → ReadsWords list_word (ListFits room) given None
  parsed_stuck room left more records w next reads so_far = record {
    value = tt;
    only = λ a fits stands.
        let s = so_far.only a fits.1 stands in
        absurd (no_more w more s.0 reads s.2 (subst (λ (l : List (List ℕ)). AllStandFor (map word s.0) l) next s.3));
  }

  goes_on : (w : List ℕ) (more : List (List ℕ)) (rest : List R) → AllStandFor (map word rest) (w ∷ more) → 0 < length rest
  goes_on w more [] stands = absurd stands
  goes_on w more (y ∷ ys) stands = omega arith

  pub parsed_full : (room : ℕ) (left more : List (List ℕ)) (records : List R) (w : List ℕ) → left ≡ w ∷ more → length records ≡ room
      → Parsed left records → ReadsWords list_word (ListFits room) given None
  parsed_full room left more records w next full so_far = record {
    value = tt;
    only = λ a fits stands.
        let s = so_far.only a fits.1 stands in
        let some = goes_on w more s.0 (subst (λ (l : List (List ℕ)). AllStandFor (map word s.0) l) next s.3) in
        let few = fits.0 in
        absurd (omega (arith, few, full, some, ap length s.1, length-append records s.0));
  }

  no_others : (rest : List R) → AllStandFor (map word rest) [] → rest ≡ []
  no_others [] stands = refl
  no_others (y ∷ ys) stands = absurd stands

  pub parsed_all : (room : ℕ) (left : List (List ℕ)) (list : List R) → left ≡ [] → length list ≤ room → Parsed left list
      → ReadsWords list_word (ListFits room) given (Some list)
  parsed_all room left list end fits so_far =
      let whole : given ≡ so_far.front = so_far.whole ∙ ap (λ (l : List (List ℕ)). so_far.front ++ l) end ∙ append-nil so_far.front in
      record {
        value = (subst (λ (l : List (List ℕ)). AllStandFor (map word list) l) (sym whole) so_far.stands, (fits, so_far.fits));
        only = λ a allowed stands.
            let s = so_far.only a allowed.1 stands in
            let none = no_others s.0 (subst (λ (l : List (List ℕ)). AllStandFor (map word s.0) l) end s.3) in
            let same : a ≡ list = s.1 ∙ ap (λ (rest : List R). list ++ rest) none ∙ append-nil list in
            ap Some (sym same);
      }
  -- ---- one record at least
