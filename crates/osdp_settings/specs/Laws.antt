-- What words come to, where a name and its value say one setting at most.
use Rattle.std.specs.Prelude.{◌≡◌, ℕ, List, [], ◌∷◌, Option, None}
use Rattle.osdp_words.specs.Reading.{ReadsWords}
use Rattle.osdp_words.specs.Word.{StandsFor}
use Rattle.osdp_settings.specs.Settings.{Entry, Make, ReadsSettings, SettingFits, setting_words}
use Rattle.osdp_settings.specs.Wrong.{IsTold, Told}

-- each name with a value is read as the setting that it says, or says none
abbrev pub AreReadBy : {S : Type 0} → (S → Entry) → (List ℕ → List ℕ → Option S) → Type 0
AreReadBy entry read = (name value : List ℕ) → ReadsWords (setting_words entry) (SettingFits entry) (name ∷ value ∷ []) (read name value)

-- a name and a value say a setting: its name, a value that stands for its own, and within its range
pub record Says (name value : List ℕ) (e : Entry) : Type 0 where
  pub name_is : name ≡ e.name
  pub value_is : StandsFor e.value value
  pub fits : e.Fits

module _ {S C : Type 0} (entry : S → Entry) (put : S → C → Option C) (defaults : C) where
  -- of words one thing is told
  pub record AreToldOnce (given : List (List ℕ)) : Type 0 where
    pub result : (a b : Option C) → ReadsSettings (setting_words entry) (SettingFits entry) put defaults given a
        → ReadsSettings (setting_words entry) (SettingFits entry) put defaults given b → a ≡ b
    pub wrong : (a b : Told) → IsTold (setting_words entry) (SettingFits entry) put defaults given a
        → IsTold (setting_words entry) (SettingFits entry) put defaults given b → a ≡ b
    pub not_both : (a : Told) (config : C) → IsTold (setting_words entry) (SettingFits entry) put defaults given a
        → Make (setting_words entry) (SettingFits entry) put defaults given config → ⊥

  -- .. whatever the words are
  abbrev pub TellsOnce : Type 0
  TellsOnce = (read : List ℕ → List ℕ → Option S) → AreReadBy entry read → (given : List (List ℕ)) → AreToldOnce given

  -- two words set what the setting does that they say, and nothing where they say none
  pub record SetsWhatTheySay (name value : List ℕ) (result : Option C) : Type 0 where
    pub says : (s : S) → Says name value (entry s) → result ≡ put s defaults
    pub says_none : ((s : S) → Says name value (entry s) → ⊥) → result ≡ None

  abbrev pub SetsWhatIsSaid : Type 0
  SetsWhatIsSaid = (name value : List ℕ) (result : Option C)
      → ReadsSettings (setting_words entry) (SettingFits entry) put defaults (name ∷ value ∷ []) result → SetsWhatTheySay name value result
