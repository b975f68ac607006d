-- One thing is told of words.
use Rattle.osdp_settings.proofs.Common.{◌≡◌, ◌∙◌, ℕ, List, [], ◌∷◌, ◌++◌, Option, Some, None, refl, sym, ap, option_and_then, ReadsWords, AllStandFor, Entry, Give, Make, ReadsSettings, SettingFits, after, setting_words, Begin, IsTold, Told, LacksValue, IsNoSetting, LacksRoom}
use Rattle.std.proofs.lemmas.List.{append-nil}
use Rattle.osdp_settings.specs.Laws.{AreReadBy, AreToldOnce, TellsOnce}
use Rattle.osdp_settings.proofs.Reading.{some_same}

-- what words come to, one name and value after the other
data Came (C : Type 0) : Type 0 where
  sets : C → Came C
  tells : Told → Came C

-- what is told
abbrev told_in : {C : Type 0} → Came C → Told
told_in (sets config) = LacksValue []
told_in (tells told) = told

module _ {S C : Type 0} (entry : S → Entry) (put : S → C → Option C) (read : List ℕ → List ℕ → Option S)
    (reads : AreReadBy entry read) where
  not_set : (a : Told) (config : C) → tells a ≡ sets config → ⊥
  not_set a config e = cc

  abbrev if_put : List ℕ → List ℕ → Option C → (C → Came C) → Came C
  if_put n v None more = tells (LacksRoom n v)
  if_put n v (Some next) more = more next

  abbrev if_read : List ℕ → List ℕ → Option S → C → (C → Came C) → Came C
  if_read n v None config more = tells (IsNoSetting n v)
  if_read n v (Some s) config more = if_put n v (put s config) more

  abbrev came : List (List ℕ) → C → Came C
  came [] config = sets config
  came (n ∷ []) config = tells (LacksValue n)
  came (n ∷ v ∷ rest) config = if_read n v (read n v) config (λ next. came rest next)

  -- settings at the front set what they set
  along : (first left : List (List ℕ)) (settings : List S) (start config : C) → Give (setting_words entry) (SettingFits entry) first settings
      → after put settings start ≡ Some config → came (first ++ left) start ≡ came left config
  along [] left [] start config g is = ap (λ c. came left c) (some_same start config is)
  along (n ∷ first) left [] start config g is = absurd g.stand
  along [] left (s ∷ settings) start config g is = absurd g.stand
  along (n ∷ []) left (s ∷ settings) start config g is = absurd g.stand.1
  along (n ∷ v ∷ first) left (s ∷ settings) start config g is =
      ap (λ r. if_read n v r start (λ next. came (first ++ left) next)) ((reads n v).only s g.fit.0 (g.stand.0, (g.stand.1.0, tt)))
      ∙ go (put s start) is (λ set goes. along first left settings set config (record { stand = g.stand.1.1; fit = g.fit.1 }) goes)
    where
      go : (o : Option C) → option_and_then (after put settings) o ≡ Some config
          → ((set : C) → after put settings set ≡ Some config → came (first ++ left) set ≡ came left config)
          → if_put n v o (λ next. came (first ++ left) next) ≡ came left config
      go None none more = absurd cc
      go (Some set) goes more = more set goes

  module _ (defaults : C) (given : List (List ℕ)) where
    -- what comes of all words is what comes of those that are left
    left_of : (config : C) (left : List (List ℕ)) → Begin (setting_words entry) (SettingFits entry) put defaults given config left
        → came given defaults ≡ came left config
    left_of config left b = ap (λ l. came l defaults) b.split ∙ along b.first left b.settings defaults config b.give b.make

    no_setting : (n v : List ℕ) (o : Option S) → ReadsWords (setting_words entry) (SettingFits entry) (n ∷ v ∷ []) o
        → ((s : S) → SettingFits entry s → AllStandFor (setting_words entry s) (n ∷ v ∷ []) → ⊥) → o ≡ None
    no_setting n v None r none = refl
    no_setting n v (Some s) r none = absurd (none s r.value.1 r.value.0)

    told_came : (a : Told) → IsTold (setting_words entry) (SettingFits entry) put defaults given a → came given defaults ≡ tells a
    told_came (LacksValue name) w = left_of w.0 (name ∷ []) w.1
    told_came (IsNoSetting name value) w =
        left_of w.0 (name ∷ value ∷ w.1) w.2
        ∙ ap (λ r. if_read name value r w.0 (λ next. came w.1 next)) (no_setting name value (read name value) (reads name value) w.3)
    told_came (LacksRoom name value) w =
        left_of w.0 (name ∷ value ∷ w.1) w.2
        ∙ ap (λ r. if_read name value r w.0 (λ next. came w.1 next)) ((reads name value).only w.3.0 w.3.1 w.3.2)
        ∙ ap (λ c. if_put name value c (λ next. came w.1 next)) w.3.3

    made_came : (config : C) → Make (setting_words entry) (SettingFits entry) put defaults given config → came given defaults ≡ sets config
    made_came config m = ap (λ l. came l defaults) (sym (append-nil given)) ∙ along given [] m.0 defaults config m.1 m.2

    one_result : (a b : Option C) → ReadsSettings (setting_words entry) (SettingFits entry) put defaults given a
        → ReadsSettings (setting_words entry) (SettingFits entry) put defaults given b → a ≡ b
    one_result None None h g = refl
    one_result (Some a) b h g = sym (g.only h.value.0 h.value.1 ∙ h.value.2)
    one_result None (Some b) h g = h.only g.value.0 g.value.1 ∙ g.value.2

    pub told_once : AreToldOnce entry put defaults given
    told_once = record {
      result = one_result;
      wrong = λ a b h g. ap told_in (sym (told_came a h) ∙ told_came b g);
      not_both = λ a config h m. not_set a config (sym (told_came a h) ∙ made_came config m);
    }

pub tells_once : {S C : Type 0} (entry : S → Entry) (put : S → C → Option C) (defaults : C) → TellsOnce entry put defaults
tells_once entry put defaults read reads given = told_once entry put read reads defaults given
