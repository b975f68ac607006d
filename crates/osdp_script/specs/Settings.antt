-- The settings of a script that was read.
use Rattle.std.specs.Prelude.{◌≢◌, ℕ, ◌≤◌, All, List, [], ◌∷◌, length}
use Rattle.osdp_script.specs.declared.script.Script.{Script}
use Rattle.osdp_script.specs.Lines.{IsSetting}
use Rattle.osdp_script.specs.Reading.{IsFree, IsScriptOf}

-- no two readers are at one address
abbrev pub AreApart : List (ℕ × ℕ) → Type 0
AreApart [] = Unit {0}
AreApart (reader ∷ others) = IsFree reader.0 others × AreApart others

-- there is a reader, and there are at most sixteen; each has a device's address and some room for events
pub record AreReaders (readers : List (ℕ × ℕ)) : Type 0 where
  pub some : readers ≢ []
  pub most : length readers ≤ 16
  pub each : All (λ (r : ℕ × ℕ). IsSetting r.0 r.1) readers
  pub apart : AreApart readers

-- no setting of a script is out of its range
abbrev pub HasReaders : Type 0
HasReaders = (bytes : List ℕ) (script : Script) → IsScriptOf bytes script → AreReaders script.readers.items
