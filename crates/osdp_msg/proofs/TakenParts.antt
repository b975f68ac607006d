-- Values read from words: what each part takes, put together.
use Rattle.osdp_msg.proofs.Common.{◌≡◌, ◌↔◌, ◌<◌, ◌≤◌, ℕ, Bool, true, false, IsTrue, List, [], ◌∷◌, length, map, Option, Some, None, refl, sym, ap, subst, ◌∙◌, arith, then_some, le-leb, IfSome, nat_le, option_map, ArrayVec, array_vec_len, IsBytes, ReadsWords, Takes, AllStandFor, Word, bytes, number, IsMadeOf, all_read, front_missing, made_taken, more_left, none_read, pair_taken, pair_words, PairAllowed}

-- ---- the parts

abbrev pub numbers_words : List ℕ → List Word
numbers_words ns = map number ns

abbrev pub AreNumbers : ℕ → List ℕ → Type 0
AreNumbers n ns = (length ns ≡ n) × IsBytes ns

abbrev pub number_words : ℕ → List Word
number_words n = number n ∷ []

abbrev pub IsBelow : ℕ → ℕ → Type 0
IsBelow limit n = n < limit

abbrev pub list_words : ArrayVec ℕ → List Word
list_words list = bytes list.items ∷ []

abbrev pub IsList : ℕ → ArrayVec ℕ → Type 0
IsList room list = (array_vec_len list ≤ room) × IsBytes list.items

abbrev pub vendor_words : List ℕ → List Word
vendor_words v = bytes v ∷ []

abbrev pub IsVendor : List ℕ → Type 0
IsVendor v = (length v ≡ 3) × IsBytes v

pub not_true : IsTrue false → ⊥
not_true h = cc

-- what was taken is the value itself
pub itself : {A : Type 0} (words : A → List Word) (Allowed : A → Type 0) → IsMadeOf words Allowed words Allowed (λ a. a) (λ a. a)
itself words Allowed = record {
  back = λ a fits. refl;
  parts_allowed = λ a fits. fits;
  parts_words = λ a fits. refl;
  fits = λ a h. h;
  same_words = λ a h. refl;
}

-- ---- a value of one part

module _ {A B : Type 0} (words : A → List Word) (Allowed : A → Type 0) (made_words : B → List Word) (Fits : B → Type 0) (f : A → B) (g : B → A) (made : IsMadeOf words Allowed made_words Fits f g) where
  made_value : (given : List (List ℕ)) (r : Option A) → IfSome r (λ a. AllStandFor (words a) given × Allowed a)
      → IfSome (option_map f r) (λ b. AllStandFor (made_words b) given × Fits b)
  made_value given (Some a) h = (subst (λ (ws : List Word). AllStandFor ws given) (sym (made.same_words a h.1)) h.0, made.fits a h.1)
  made_value given None h = tt

  -- a value made of what was read of all the words
  pub made_read : (given : List (List ℕ)) (r : Option A) (made_of : Option B) → ReadsWords words Allowed given r → made_of ≡ option_map f r
      → ReadsWords made_words Fits given made_of
  made_read given r made_of h e = rw e record {
    value = made_value given r h.value;
    only = λ b fits stands.
        let parts = subst (λ (ws : List Word). AllStandFor ws given) (made.parts_words b fits) stands in
        ap (option_map f) (h.only (g b) (made.parts_allowed b fits) parts) ∙ ap Some (made.back b fits);
  }

  by_end : (given left : List (List ℕ)) (a : A) (ended : Bool) → (IsTrue ended ↔ (left ≡ [])) → Takes made_words Fits given left (Some (f a))
      → ReadsWords made_words Fits given (then_some ended (f a))
  by_end given left a true end taken = all_read made_words Fits given left (f a) (end.0 refl) taken
  by_end given left a false end taken = more_left made_words Fits given left (f a) (λ e. absurd (not_true (end.1 e))) taken

  pub one_whole : (given left : List (List ℕ)) (a : A) (ended : Bool) (r : Option B) → Takes words Allowed given left (Some a)
      → (IsTrue ended ↔ (left ≡ [])) → r ≡ then_some ended (f a) → ReadsWords made_words Fits given r
  one_whole given left a ended r taken end e =
      rw e (by_end given left a ended end (made_taken words Allowed made_words Fits f g made given left (Some a) taken))

  pub one_missing : (given left : List (List ℕ)) (r : Option B) → Takes words Allowed given left None → r ≡ None → ReadsWords made_words Fits given r
  one_missing given left r taken e =
      rw e (none_read made_words Fits given left (made_taken words Allowed made_words Fits f g made given left None taken))

-- ---- a value of two parts

module _ {A B C : Type 0} (front_words : A → List Word) (FrontAllowed : A → Type 0) (back_words : B → List Word) (BackAllowed : B → Type 0) (made_words : C → List Word) (Fits : C → Type 0) (f : A × B → C) (g : C → A × B) (made : IsMadeOf (pair_words front_words FrontAllowed back_words BackAllowed) (PairAllowed front_words FrontAllowed back_words BackAllowed) made_words Fits f g) (given mid left : List (List ℕ)) (a : A) where
  pub two_whole : (b : B) (ended : Bool) (r : Option C) → Takes front_words FrontAllowed given mid (Some a) → Takes back_words BackAllowed mid left (Some b)
      → (IsTrue ended ↔ (left ≡ [])) → r ≡ then_some ended (f (a, b)) → ReadsWords made_words Fits given r
  two_whole b ended r front back end e =
      one_whole (pair_words front_words FrontAllowed back_words BackAllowed) (PairAllowed front_words FrontAllowed back_words BackAllowed) made_words Fits f g made given left (a, b) ended r
      (pair_taken front_words FrontAllowed back_words BackAllowed given mid left a (Some b) front back) end e

  pub two_no_back : (r : Option C) → Takes front_words FrontAllowed given mid (Some a) → Takes back_words BackAllowed mid left None → r ≡ None → ReadsWords made_words Fits given r
  two_no_back r front back e =
      one_missing (pair_words front_words FrontAllowed back_words BackAllowed) (PairAllowed front_words FrontAllowed back_words BackAllowed) made_words Fits f g made given left r
      (pair_taken front_words FrontAllowed back_words BackAllowed given mid left a None front back) e

module _ {A B C : Type 0} (front_words : A → List Word) (FrontAllowed : A → Type 0) (back_words : B → List Word) (BackAllowed : B → Type 0) (made_words : C → List Word) (Fits : C → Type 0) (f : A × B → C) (g : C → A × B) (made : IsMadeOf (pair_words front_words FrontAllowed back_words BackAllowed) (PairAllowed front_words FrontAllowed back_words BackAllowed) made_words Fits f g) (given left : List (List ℕ)) where
  pub two_no_front : (r : Option C) → Takes front_words FrontAllowed given left None → r ≡ None → ReadsWords made_words Fits given r
  two_no_front r front e =
      one_missing (pair_words front_words FrontAllowed back_words BackAllowed) (PairAllowed front_words FrontAllowed back_words BackAllowed) made_words Fits f g made given left r
      (front_missing front_words FrontAllowed back_words BackAllowed given left front) e

-- ---- a list of fewer bytes than there is a place for

module _ (big room : ℕ) (given left : List (List ℕ)) where
  pub none_narrowed : room ≤ big → Takes list_words (IsList big) given left None → Takes list_words (IsList room) given left None
  none_narrowed le h = record {
    value = tt;
    only = λ a first rest fits whole stands. let found = h.only a first rest (omega (arith, fits.0, le), fits.1) whole stands in absurd (cc found.0);
  }

  pub too_long : (list : ArrayVec ℕ) → room ≤ big → room < length list.items → Takes list_words (IsList big) given left (Some list) → Takes list_words (IsList room) given left None
  too_long list le long h = record {
    value = tt;
    only = λ a first rest fits whole stands.
        let found = h.only a first rest (omega (arith, fits.0, le), fits.1) whole stands in
        let same : list ≡ a = cc found.0 in
        let few : length a.items ≤ room = fits.0 in
        absurd (omega (arith, few, long, ap (λ (l : ArrayVec ℕ). length l.items) same));
  }

  pub narrowed : (list : ArrayVec ℕ) → room ≤ big → length list.items ≤ room → Takes list_words (IsList big) given left (Some list) → Takes list_words (IsList room) given left (Some list)
  narrowed list le few h = record {
    value = (h.value.0, h.value.1, h.value.2, (few, h.value.3.1));
    only = λ a first rest fits whole stands. h.only a first rest (omega (arith, fits.0, le), fits.1) whole stands;
  }

-- what is made of a list that was taken, where it has room
pub within : {C : Type 0} (room : ℕ) (given left : List (List ℕ)) (list : ArrayVec ℕ) (lent : List ℕ) (make : ArrayVec ℕ → C) → Takes list_words (IsList room) given left (Some list)
    → lent ≡ list.items → then_some (nat_le (length lent) room) (make (record { items = lent })) ≡ Some (make list)
within room given left list lent make taken is =
    let few : length list.items ≤ room = taken.value.3.0 in
    let fits : nat_le (length lent) room ≡ true = le-leb (length lent) room (omega (arith, few, ap length is)) in
    ap (λ (b : Bool). then_some b (make (record { items = lent }))) fits ∙ ap (λ (xs : List ℕ). Some (make (record { items = xs }))) is
