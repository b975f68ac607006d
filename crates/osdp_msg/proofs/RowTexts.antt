-- A row of texts: a name, and the words of the fields after it.
use Rattle.osdp_msg.proofs.Common.{◌≡◌, ℕ, Bool, true, false, ◌&&◌, eqb, List, [], ◌∷◌, Option, Some, None, refl, sym, ap, subst, ◌∙◌, IfSome, option_map, eq-eqb, true≢false, ReadsWords, AllStandFor, Word, plain}

-- two texts, character by character
abbrev pub same : List ℕ → List ℕ → Bool
same [] [] = true
same [] (b ∷ rest) = false
same (a ∷ front) [] = false
same (a ∷ front) (b ∷ rest) = eqb a b && same front rest

same_self : (a : List ℕ) → same a a ≡ true
same_self [] = refl
same_self (b ∷ rest) = rw (eq-eqb b b refl, same_self rest) refl

-- texts that differ somewhere
pub differ : (a b : List ℕ) → same a b ≡ false → a ≡ b → ⊥
differ a b no_match e = true≢false (sym (same_self a) ∙ ap (same a) e ∙ no_match)

-- what goes by another name is no value of a row
pub apart : {A : Type 0} (a b : List ℕ) → same a b ≡ false → a ≡ b → A
apart a b no_match e = absurd (differ a b no_match e)

-- the values of a row: those that go by its name
pub record IsRow {M X : Type 0} (name_of : M → List ℕ) (fields_of : M → List Word) (Fits : M → Type 0) (words : X → List Word) (Allowed : X → Type 0) (name : List ℕ) (make : X → M) : Type 0 where
  pub named : (x : X) → name_of (make x) ≡ name
  pub fields : (x : X) → fields_of (make x) ≡ words x
  pub fits : (x : X) → Allowed x → Fits (make x)
  pub allowed : (x : X) → Fits (make x) → Allowed x
  pub only : (m : M) → name_of m ≡ name → (x : X) × (m ≡ make x)

-- a value that goes by a name is one of those made so
abbrev pub IsMadeBy : {M X : Type 0} → (M → List ℕ) → List ℕ → (X → M) → M → Type 0
IsMadeBy {M} {X} name_of name make m = name_of m ≡ name → (x : X) × (m ≡ make x)

module _ {M X : Type 0} (name_of : M → List ℕ) (fields_of : M → List Word) (Fits : M → Type 0) (words : X → List Word) (Allowed : X → Type 0) (name : List ℕ) (make : X → M) (row : IsRow name_of fields_of Fits words Allowed name make) where
  abbrev pub named_words : M → List Word
  named_words m = plain (name_of m) ∷ fields_of m

  row_value : (given : List (List ℕ)) (r : Option X) → IfSome r (λ x. AllStandFor (words x) given × Allowed x)
      → IfSome (option_map make r) (λ m. AllStandFor (named_words m) (name ∷ given) × Fits m)
  row_value given (Some x) h = ((sym (row.named x), subst (λ (ws : List Word). AllStandFor ws given) (sym (row.fields x)) h.0), row.fits x h.1)
  row_value given None h = tt

  row_only : (given : List (List ℕ)) (r : Option X) → ReadsWords words Allowed given r
      → (m : M) (x : X) → m ≡ make x → Fits m → AllStandFor (fields_of m) given → option_map make r ≡ Some m
  row_only given r reads m x e fits stands =
      let made_fits = subst Fits e fits in
      let made_stands = subst (λ (n : M). AllStandFor (fields_of n) given) e stands in
      ap (option_map make) (reads.only x (row.allowed x made_fits) (subst (λ (ws : List Word). AllStandFor ws given) (row.fields x) made_stands)) ∙ ap Some (sym e)

  pub row_read : (given : List (List ℕ)) (r : Option X) (result : Option M) → ReadsWords words Allowed given r → result ≡ option_map make r
      → ReadsWords named_words Fits (name ∷ given) result
  row_read given r result reads e = rw e record {
    value = row_value given r reads.value;
    only = λ m fits stands. let x = row.only m (sym stands.0) in row_only given r reads m x.0 x.1 fits stands.1;
  }

-- the same of a row whose fields and ranges are those that the table has for its values
pub made_row_read : {M X : Type 0} (name_of : M → List ℕ) (fields_of : M → List Word) (Fits : M → Type 0) (name : List ℕ) (make : X → M)
    → ((x : X) → name_of (make x) ≡ name) → ((m : M) → IsMadeBy name_of name make m)
    → (given : List (List ℕ)) (r : Option X) (result : Option M) → ReadsWords (λ x. fields_of (make x)) (λ x. Fits (make x)) given r
    → result ≡ option_map make r → ReadsWords (λ m. plain (name_of m) ∷ fields_of m) Fits (name ∷ given) result
made_row_read name_of fields_of Fits name make named only =
    row_read name_of fields_of Fits (λ x. fields_of (make x)) (λ x. Fits (make x)) name make
    (record { named = named; fields = λ x. refl; fits = λ x h. h; allowed = λ x h. h; only = only })
