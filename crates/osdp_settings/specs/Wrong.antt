-- What is wrong with words that are no settings: the first that are none, after settings that are.
use Rattle.std.specs.Prelude.{◌≡◌, ℕ, List, [], ◌∷◌, ◌++◌, Option, Some, None}
use Rattle.osdp_words.specs.Word.{AllStandFor, Word}
use Rattle.osdp_settings.specs.declared.wrong.WrongSetting.{WrongSetting}
use Rattle.osdp_settings.specs.declared.wrong.WrongSetting.TheVariants.{NoValue, NoSetting, OneTooMany}
use Rattle.osdp_settings.specs.Settings.{Give, after}

-- what is told of words that are no settings: a name that has no value; a name and a value that are no setting; or those of a setting for which there is no room
pub data Told : Type 0 where
  LacksValue : List ℕ → Told
  IsNoSetting : List ℕ → List ℕ → Told
  LacksRoom : List ℕ → List ℕ → Told

-- an error tells words of a command, wherever they stand
abbrev pub told_by : WrongSetting → Told
told_by (NoValue name) = LacksValue name.now
told_by (NoSetting name value) = IsNoSetting name.now value.now
told_by (OneTooMany name value) = LacksRoom name.now value.now

module _ {S C : Type 0} (words : S → List Word) (Fits : S → Type 0) (put : S → C → Option C) (defaults : C) (given : List (List ℕ)) where
  -- the first words are settings, which make this of the defaults, and then come these
  pub record Begin (config : C) (left : List (List ℕ)) : Type 0 where
    pub first : List (List ℕ)
    pub split : given ≡ first ++ left
    pub settings : List S
    pub give : Give words Fits first settings
    pub make : after put settings defaults ≡ Some config

  -- it is true of the words: a last name has no value; a name and a value are no setting; or there is no room for the setting that they say
  abbrev pub IsTold : Told → Type 0
  IsTold (LacksValue name) = (config : C) × Begin config (name ∷ [])
  IsTold (IsNoSetting name value) =
      (config : C) × (rest : List (List ℕ)) × Begin config (name ∷ value ∷ rest)
      × ((s : S) → Fits s → AllStandFor (words s) (name ∷ value ∷ []) → ⊥)
  IsTold (LacksRoom name value) =
      (config : C) × (rest : List (List ℕ)) × Begin config (name ∷ value ∷ rest)
      × ((s : S) × Fits s × AllStandFor (words s) (name ∷ value ∷ []) × (put s config ≡ None))

  abbrev pub IsWrong : WrongSetting → Type 0
  IsWrong wrong = IsTold (told_by wrong)
