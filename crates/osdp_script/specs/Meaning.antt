-- A script's meaning is determined by its bytes.
use Rattle.std.specs.Prelude.{◌≡◌, ℕ, List}
use Rattle.osdp_script.specs.declared.script.Script.{Script}
use Rattle.osdp_script.specs.Reading.{IsBadLine, IsScriptOf}

-- two scripts say the same, wherever they are kept
pub record SaySame (a b : Script) : Type 0 where
  pub check : a.check ≡ b.check
  pub readers : a.readers.items ≡ b.readers.items
  pub below : a.lines ≡ b.lines

-- bytes are one script at most, or have one first bad line at most, and never both
pub record MeansOne (bytes : List ℕ) : Type 0 where
  pub script : (a b : Script) → IsScriptOf bytes a → IsScriptOf bytes b → SaySame a b
  pub bad : (n m : ℕ) → IsBadLine bytes n → IsBadLine bytes m → n ≡ m
  pub either : (script : Script) (n : ℕ) → IsScriptOf bytes script → IsBadLine bytes n → ⊥

abbrev pub HasOneMeaning : Type 0
HasOneMeaning = (bytes : List ℕ) → MeansOne bytes
