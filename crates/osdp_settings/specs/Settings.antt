-- Settings as words: a name and its value, then the next name and its value, and so on.
use Rattle.std.specs.Prelude.{◌≡◌, ℕ, List, [], ◌∷◌, flat_map, IfSome, Option, Some, option_and_then}
use Rattle.std.specs.List.{AllByRecursion}
use Rattle.osdp_words.specs.Word.{AllStandFor, Word, plain}

-- how a setting stands in words: its name, then its value, which is within a range
pub record Entry : Type 1 where
  pub name : List ℕ
  pub value : Word
  pub Fits : Type 0

module _ {S : Type 0} (entry : S → Entry) where
  abbrev pub setting_words : S → List Word
  setting_words s = plain (entry s).name ∷ (entry s).value ∷ []

  abbrev pub SettingFits : S → Type 0
  SettingFits s = (entry s).Fits

-- the words are these settings, one after the other, each within its range
pub record Give {S : Type 0} (words : S → List Word) (Fits : S → Type 0) (given : List (List ℕ)) (settings : List S) : Type 0 where
  pub stand : AllStandFor (flat_map words settings) given
  pub fit : AllByRecursion Fits settings

-- what settings make of what is set already, each after those before it; none where there is no room for one
abbrev pub after : {S C : Type 0} → (S → C → Option C) → List S → C → Option C
after put [] config = Some config
after put (s ∷ settings) config = option_and_then (after put settings) (put s config)

module _ {S C : Type 0} (words : S → List Word) (Fits : S → Type 0) (put : S → C → Option C) (defaults : C) (given : List (List ℕ)) where
  -- the words are settings, and these make this of the defaults
  abbrev pub Make : C → Type 0
  Make config = (settings : List S) × Give words Fits given settings × (after put settings defaults ≡ Some config)

  -- what the words set: it comes of settings that they are, and there are no others
  pub record ReadsSettings (result : Option C) : Type 0 where
    pub value : IfSome result Make
    pub only : (settings : List S) → Give words Fits given settings → result ≡ after put settings defaults
