-- The settings that were read, and the first words that are none.
use Rattle.osdp_settings.proofs.Common.{◌≡◌, ◌∙◌, ℕ, List, [], ◌∷◌, ◌++◌, Option, Some, None, refl, sym, ap, subst, append_assoc, option_and_then, ReadsWords, AllStandFor, Word, Entry, Give, SettingFits, after, setting_words, Begin}
use Rattle.osdp_settings.proofs.Reading.{Stands, more_set, some_same, stands_first}

-- what is known of the words that were read, and of those that are left
pub record Known {S C : Type 0} (words : S → List Word) (Fits : S → Type 0) (put : S → C → Option C) (defaults : C)
    (given left : List (List ℕ)) (config : C) : Type 0 where
  pub stands : Stands words Fits put defaults given left config
  pub begins : Begin words Fits put defaults given config left

known_first : {S C : Type 0} (words : S → List Word) (Fits : S → Type 0) (put : S → C → Option C) (defaults : C) (given : List (List ℕ))
    → Known words Fits put defaults given given defaults
known_first words Fits put defaults given = record {
  stands = stands_first words Fits put defaults given;
  begins = record { first = []; split = refl; settings = []; give = record { stand = tt; fit = tt }; make = refl };
}

-- by what is left and what is set then
pub known_at_first : {S C : Type 0} (words : S → List Word) (Fits : S → Type 0) (put : S → C → Option C) (defaults : C) (given left : List (List ℕ)) (config : C)
    → left ≡ given → config ≡ defaults → Known words Fits put defaults given left config
known_at_first words Fits put defaults given left config all unset =
    subst (λ c. Known words Fits put defaults given left c) (sym unset)
    (subst (λ l. Known words Fits put defaults given l defaults) (sym all) (known_first words Fits put defaults given))

module _ {S C : Type 0} (entry : S → Entry) (put : S → C → Option C) (defaults : C) (given : List (List ℕ)) where
  -- one setting more
  give_push : (n v : List ℕ) (s : S) → ReadsWords (setting_words entry) (SettingFits entry) (n ∷ v ∷ []) (Some s)
      → (first : List (List ℕ)) (settings : List S) → Give (setting_words entry) (SettingFits entry) first settings
      → Give (setting_words entry) (SettingFits entry) (first ++ n ∷ v ∷ []) (settings ++ s ∷ [])
  give_push n v s reads [] [] g = record { stand = (reads.value.0.0, (reads.value.0.1.0, tt)); fit = (reads.value.1, tt) }
  give_push n v s reads (x ∷ first) [] g = absurd g.stand
  give_push n v s reads [] (t ∷ settings) g = absurd g.stand
  give_push n v s reads (x ∷ []) (t ∷ settings) g = absurd g.stand.1
  give_push n v s reads (x ∷ y ∷ first) (t ∷ settings) g =
      let more = give_push n v s reads first settings (record { stand = g.stand.1.1; fit = g.fit.1 }) in
      record { stand = (g.stand.0, (g.stand.1.0, more.stand)); fit = (g.fit.0, more.fit) }

  after_push : (settings : List S) (s : S) (start config next : C) → after put settings start ≡ Some config → put s config ≡ Some next
      → after put (settings ++ s ∷ []) start ≡ Some next
  after_push [] s start config next is puts =
      ap (λ c. option_and_then (after put []) (put s c)) (some_same start config is) ∙ ap (option_and_then (after put [])) puts
  after_push (t ∷ settings) s start config next is puts = go (put t start) is (λ set goes. after_push settings s set config next goes puts)
    where
      go : (o : Option C) → option_and_then (after put settings) o ≡ Some config
          → ((set : C) → after put settings set ≡ Some config → after put (settings ++ s ∷ []) set ≡ Some next)
          → option_and_then (after put (settings ++ s ∷ [])) o ≡ Some next
      go None none more = absurd cc
      go (Some set) goes more = more set goes

  abbrev Begins : C → List (List ℕ) → Type 0
  Begins = Begin (setting_words entry) (SettingFits entry) put defaults given

  begin_more : (n v : List ℕ) (before between left : List (List ℕ)) (s : S) (config next : C) → Begins config before
      → before ≡ n ∷ between → between ≡ v ∷ left → ReadsWords (setting_words entry) (SettingFits entry) (n ∷ v ∷ []) (Some s)
      → put s config ≡ Some next → Begins next left
  begin_more n v before between left s config next b takes_name takes_value reads puts = record {
    first = b.first ++ n ∷ v ∷ [];
    split = b.split ∙ ap (λ l. b.first ++ l) (takes_name ∙ ap (λ l. n ∷ l) takes_value) ∙ sym (append_assoc b.first (n ∷ v ∷ []) left);
    settings = b.settings ++ s ∷ [];
    give = give_push n v s reads b.first b.settings b.give;
    make = after_push b.settings s defaults config next b.make puts;
  }

  abbrev Knows : C → List (List ℕ) → Type 0
  Knows config left = Known (setting_words entry) (SettingFits entry) put defaults given left config

  pub known_more : (n v : List ℕ) (before between left : List (List ℕ)) (s : S) (config next : C) → Knows config before
      → before ≡ n ∷ between → between ≡ v ∷ left → ReadsWords (setting_words entry) (SettingFits entry) (n ∷ v ∷ []) (Some s)
      → put s config ≡ Some next → Knows next left
  known_more n v before between left s config next known takes_name takes_value reads puts = record {
    stands = more_set entry put defaults given n v before between left s config next known.stands takes_name takes_value reads puts;
    begins = begin_more n v before between left s config next known.begins takes_name takes_value reads puts;
  }

  -- a last word alone
  pub begin_alone : (n : List ℕ) (before between : List (List ℕ)) (config : C) → Begins config before → before ≡ n ∷ between → between ≡ []
      → Begins config (n ∷ [])
  begin_alone n before between config b takes_name none = subst (Begins config) (takes_name ∙ ap (λ l. n ∷ l) none) b

  -- two words
  pub begin_two : (n v : List ℕ) (before between left : List (List ℕ)) (config : C) → Begins config before → before ≡ n ∷ between → between ≡ v ∷ left
      → Begins config (n ∷ v ∷ left)
  begin_two n v before between left config b takes_name takes_value = subst (Begins config) (takes_name ∙ ap (λ l. n ∷ l) takes_value) b

  none_some : (s : S) → None ≡ Some s → ⊥
  none_some s e = cc

  pub none_stands : (n v : List ℕ) → ReadsWords (setting_words entry) (SettingFits entry) (n ∷ v ∷ []) None
      → (s : S) → SettingFits entry s → AllStandFor (setting_words entry s) (n ∷ v ∷ []) → ⊥
  none_stands n v reads s fits stands = none_some s (reads.only s fits stands)
