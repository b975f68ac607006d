-- Settings that are read one after the other.
use Rattle.osdp_settings.proofs.Common.{◌≡◌, ℕ, List, [], ◌∷◌, Option, Some, None, refl, sym, ap, subst, ◌∙◌, option_and_then, ReadsWords, Word, Entry, Give, ReadsSettings, SettingFits, after, setting_words}
use Rattle.std.specs.Option.{unwrap_or}

pub some_same : {A : Type 0} (a b : A) → Some a ≡ Some b → a ≡ b
some_same a b e = ap (λ o. unwrap_or o a) e

-- what is read of the words and what is left of them: settings of what is left are the last of all settings
pub record Stands {S C : Type 0} (words : S → List Word) (Fits : S → Type 0) (put : S → C → Option C) (defaults : C)
    (given left : List (List ℕ)) (config : C) : Type 0 where
  pub all : (rest : List S) → Give words Fits left rest
      → (settings : List S) × Give words Fits given settings × (after put settings defaults ≡ after put rest config)
  pub last : (settings : List S) → Give words Fits given settings
      → (rest : List S) × Give words Fits left rest × (after put settings defaults ≡ after put rest config)

pub stands_first : {S C : Type 0} (words : S → List Word) (Fits : S → Type 0) (put : S → C → Option C) (defaults : C) (given : List (List ℕ))
    → Stands words Fits put defaults given given defaults
stands_first words Fits put defaults given = record { all = λ rest g. (rest, g, refl); last = λ settings g. (settings, g, refl) }

module _ {S C : Type 0} (entry : S → Entry) (put : S → C → Option C) (defaults : C) (given : List (List ℕ)) where
  -- a setting more in front
  in_front : (n v : List ℕ) (left : List (List ℕ)) (s : S) (rest : List S) → ReadsWords (setting_words entry) (SettingFits entry) (n ∷ v ∷ []) (Some s)
      → Give (setting_words entry) (SettingFits entry) left rest → Give (setting_words entry) (SettingFits entry) (n ∷ v ∷ left) (s ∷ rest)
  in_front n v left s rest reads g = record {
    stand = (reads.value.0.0, (reads.value.0.1.0, g.stand));
    fit = (reads.value.1, g.fit);
  }

  -- the first of settings whose words begin with two that are one
  record Front (n v : List ℕ) (left : List (List ℕ)) (r : Option S) (rest : List S) : Type 0 where
    first : S
    others : List S
    split : rest ≡ first ∷ others
    is : r ≡ Some first
    gives : Give (setting_words entry) (SettingFits entry) left others

  front_of : (n v : List ℕ) (left : List (List ℕ)) (r : Option S) (rest : List S) → ReadsWords (setting_words entry) (SettingFits entry) (n ∷ v ∷ []) r
      → Give (setting_words entry) (SettingFits entry) (n ∷ v ∷ left) rest → Front n v left r rest
  front_of n v left r [] reads g = absurd g.stand
  front_of n v left r (s ∷ rest) reads g = record {
    first = s;
    others = rest;
    split = refl;
    is = reads.only s g.fit.0 (g.stand.0, (g.stand.1.0, tt));
    gives = record { stand = g.stand.1.1; fit = g.fit.1 };
  }

  put_first : (s : S) (rest : List S) (config next : C) → put s config ≡ Some next → after put (s ∷ rest) config ≡ after put rest next
  put_first s rest config next e = ap (option_and_then (after put rest)) e

  pub stands_more : (n v : List ℕ) (left : List (List ℕ)) (s : S) (config next : C) → Stands (setting_words entry) (SettingFits entry) put defaults given (n ∷ v ∷ left) config
      → ReadsWords (setting_words entry) (SettingFits entry) (n ∷ v ∷ []) (Some s) → put s config ≡ Some next → Stands (setting_words entry) (SettingFits entry) put defaults given left next
  stands_more n v left s config next so_far reads e = record {
    all = λ rest g.
        let a = so_far.all (s ∷ rest) (in_front n v left s rest reads g) in
        (a.0, a.1, a.2 ∙ put_first s rest config next e);
    last = λ settings g.
        let l = so_far.last settings g in
        let f = front_of n v left (Some s) l.0 reads l.1 in
        let same = some_same s f.first f.is in
        (f.others, f.gives, l.2 ∙ ap (λ r. after put r config) f.split ∙ put_first f.first f.others config next (subst (λ x. put x config ≡ Some next) same e));
  }

  -- the next two words are no setting
  pub no_setting : (n v : List ℕ) (left : List (List ℕ)) (config : C) → Stands (setting_words entry) (SettingFits entry) put defaults given (n ∷ v ∷ left) config
      → ReadsWords (setting_words entry) (SettingFits entry) (n ∷ v ∷ []) None → ReadsSettings (setting_words entry) (SettingFits entry) put defaults given None
  no_setting n v left config so_far reads = record {
    value = tt;
    only = λ settings g.
        let l = so_far.last settings g in
        let f = front_of n v left None l.0 reads l.1 in
        absurd (none_some f.first f.is);
  }
    where
      none_some : (s : S) → None ≡ Some s → ⊥
      none_some s e = cc

  -- there is no room for the setting
  pub no_room : (n v : List ℕ) (left : List (List ℕ)) (s : S) (config : C) → Stands (setting_words entry) (SettingFits entry) put defaults given (n ∷ v ∷ left) config
      → ReadsWords (setting_words entry) (SettingFits entry) (n ∷ v ∷ []) (Some s) → put s config ≡ None → ReadsSettings (setting_words entry) (SettingFits entry) put defaults given None
  no_room n v left s config so_far reads e = record {
    value = tt;
    only = λ settings g.
        let l = so_far.last settings g in
        let f = front_of n v left (Some s) l.0 reads l.1 in
        let same = some_same s f.first f.is in
        sym (l.2 ∙ ap (λ r. after put r config) f.split ∙ ap (option_and_then (after put f.others)) (subst (λ x. put x config ≡ None) same e));
  }

  all_read : (config : C) (rest : List S) → Give (setting_words entry) (SettingFits entry) [] rest → after put rest config ≡ Some config
  all_read config [] g = refl
  all_read config (s ∷ rest) g = absurd g.stand

  one_left : (x : List ℕ) (rest : List S) → Give (setting_words entry) (SettingFits entry) (x ∷ []) rest → ⊥
  one_left x [] g = g.stand
  one_left x (s ∷ rest) g = g.stand.1

  pub stands_last : (config : C) → Stands (setting_words entry) (SettingFits entry) put defaults given [] config → ReadsSettings (setting_words entry) (SettingFits entry) put defaults given (Some config)
  stands_last config so_far = record {
    value = so_far.all [] (record { stand = tt; fit = tt });
    only = λ settings g. let l = so_far.last settings g in sym (l.2 ∙ all_read config l.0 l.1);
  }

  pub stands_odd : (x : List ℕ) (config : C) → Stands (setting_words entry) (SettingFits entry) put defaults given (x ∷ []) config → ReadsSettings (setting_words entry) (SettingFits entry) put defaults given None
  stands_odd x config so_far = record {
    value = tt;
    only = λ settings g. let l = so_far.last settings g in absurd (one_left x l.0 l.1);
  }

  -- ---- the same, by what was taken from the front

  pub more_set : (n v : List ℕ) (before between left : List (List ℕ)) (s : S) (config next : C) → Stands (setting_words entry) (SettingFits entry) put defaults given before config
      → before ≡ n ∷ between → between ≡ v ∷ left → ReadsWords (setting_words entry) (SettingFits entry) (n ∷ v ∷ []) (Some s) → put s config ≡ Some next
      → Stands (setting_words entry) (SettingFits entry) put defaults given left next
  more_set n v before between left s config next so_far first second reads e =
      stands_more n v left s config next (subst (λ l. Stands (setting_words entry) (SettingFits entry) put defaults given l config) (first ∙ ap (λ l. n ∷ l) second) so_far) reads e

  pub none_read : (n v : List ℕ) (before between left : List (List ℕ)) (config : C) → Stands (setting_words entry) (SettingFits entry) put defaults given before config
      → before ≡ n ∷ between → between ≡ v ∷ left → ReadsWords (setting_words entry) (SettingFits entry) (n ∷ v ∷ []) None → ReadsSettings (setting_words entry) (SettingFits entry) put defaults given None
  none_read n v before between left config so_far first second reads =
      no_setting n v left config (subst (λ l. Stands (setting_words entry) (SettingFits entry) put defaults given l config) (first ∙ ap (λ l. n ∷ l) second) so_far) reads

  pub none_put : (n v : List ℕ) (before between left : List (List ℕ)) (s : S) (config : C) → Stands (setting_words entry) (SettingFits entry) put defaults given before config
      → before ≡ n ∷ between → between ≡ v ∷ left → ReadsWords (setting_words entry) (SettingFits entry) (n ∷ v ∷ []) (Some s) → put s config ≡ None
      → ReadsSettings (setting_words entry) (SettingFits entry) put defaults given None
  none_put n v before between left s config so_far first second reads e =
      no_room n v left s config (subst (λ l. Stands (setting_words entry) (SettingFits entry) put defaults given l config) (first ∙ ap (λ l. n ∷ l) second) so_far) reads e

  pub no_value : (n : List ℕ) (before between : List (List ℕ)) (config : C) → Stands (setting_words entry) (SettingFits entry) put defaults given before config
      → before ≡ n ∷ between → between ≡ [] → ReadsSettings (setting_words entry) (SettingFits entry) put defaults given None
  no_value n before between config so_far first second =
      stands_odd n config (subst (λ l. Stands (setting_words entry) (SettingFits entry) put defaults given l config) (first ∙ ap (λ l. n ∷ l) second) so_far)

  pub none_left : (before : List (List ℕ)) (config : C) → Stands (setting_words entry) (SettingFits entry) put defaults given before config → before ≡ []
      → ReadsSettings (setting_words entry) (SettingFits entry) put defaults given (Some config)
  none_left before config so_far none = stands_last config (subst (λ l. Stands (setting_words entry) (SettingFits entry) put defaults given l config) none so_far)
