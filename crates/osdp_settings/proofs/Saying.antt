-- A name and a value set what the setting does that they say.
use Rattle.osdp_settings.proofs.Common.{◌≡◌, ◌∙◌, ℕ, List, [], ◌∷◌, Option, Some, None, refl, option_and_then, Entry, Give, ReadsSettings, SettingFits, after, setting_words}
use Rattle.osdp_settings.specs.Laws.{Says, SetsWhatIsSaid, SetsWhatTheySay}

module _ {S C : Type 0} (entry : S → Entry) (put : S → C → Option C) (defaults : C) (name value : List ℕ) where
  abbrev Gives : List S → Type 0
  Gives settings = Give (setting_words entry) (SettingFits entry) (name ∷ value ∷ []) settings

  given : (s : S) → Says name value (entry s) → Gives (s ∷ [])
  given s says = record { stand = (says.name_is, (says.value_is, tt)); fit = (says.fits, tt) }

  last_put : (o : Option C) → option_and_then (after put []) o ≡ o
  last_put None = refl
  last_put (Some config) = refl

  none_given : (settings : List S) → Gives settings → ((s : S) → Says name value (entry s) → ⊥) → ⊥
  none_given [] g none = g.stand
  none_given (s ∷ []) g none = none s (record { name_is = g.stand.0; value_is = g.stand.1.0; fits = g.fit.0 })
  none_given (s ∷ t ∷ settings) g none = g.stand.1.1

  unset : (result : Option C) → ReadsSettings (setting_words entry) (SettingFits entry) put defaults (name ∷ value ∷ []) result
      → ((s : S) → Says name value (entry s) → ⊥) → result ≡ None
  unset None reads none = refl
  unset (Some config) reads none = absurd (none_given reads.value.0 reads.value.1 none)

  sets : (result : Option C) → ReadsSettings (setting_words entry) (SettingFits entry) put defaults (name ∷ value ∷ []) result
      → SetsWhatTheySay entry put defaults name value result
  sets result reads = record {
    says = λ s says. reads.only (s ∷ []) (given s says) ∙ last_put (put s defaults);
    says_none = unset result reads;
  }

pub sets_what_is_said : {S C : Type 0} (entry : S → Entry) (put : S → C → Option C) (defaults : C) → SetsWhatIsSaid entry put defaults
sets_what_is_said entry put defaults name value result reads = sets entry put defaults name value result reads
