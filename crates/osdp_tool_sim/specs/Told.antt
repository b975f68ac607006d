-- What is told of a script.
use Rattle.std.specs.Prelude.{◌≡◌, ℕ, List, [], ◌∷◌, Result}
use Rattle.osdp_script.specs.declared.script.Script.{Script}
use Rattle.osdp_script.specs.Reading.{IsBadLine, IsScriptOf}
use Rattle.osdp_sim.specs.Account.{Account}
use Rattle.osdp_tool_streams.specs.declared.fault.ToolFault.{ToolFault}
use Rattle.osdp_tool_streams.specs.declared.fault.ToolFault.TheVariants.{BadStep, NoMemory}
use Rattle.osdp_tool_sim.specs.AccountText.{account_text, texts_from}
use Rattle.osdp_tool_sim.specs.One.{TellsOne}
use Rattle.osdp_tool_sim.specs.Several.{TellsEach}

-- of one reader the text is that of its account
pub record IsTextOfOne (script : Script) (reader : ℕ × ℕ) (text : List ℕ) (end : Result (Unit {0}) ToolFault) : Type 0 where
  pub lists : Account
  pub told : TellsOne script reader lists end
  pub is : text ≡ account_text 1 lists

-- .. and of several it is the texts of theirs
pub record IsTextOfEach (script : Script) (text : List ℕ) (end : Result (Unit {0}) ToolFault) : Type 0 where
  pub accounts : List Account
  pub told : TellsEach script accounts end
  pub is : text ≡ texts_from 1 accounts

-- by the count of the readers, of which a script has one or more
abbrev pub TellsReaders : List (ℕ × ℕ) → Script → List ℕ → Result (Unit {0}) ToolFault → Type 0
TellsReaders (reader ∷ []) script text end = IsTextOfOne script reader text end
TellsReaders _ script text end = IsTextOfEach script text end

-- this text is told of a script, and this end ..
abbrev pub TellsScript : Script → List ℕ → Result (Unit {0}) ToolFault → Type 0
TellsScript script text end = TellsReaders script.readers.items script text end

-- .. and of bytes that are a script
pub record Tells (bytes text : List ℕ) (end : Result (Unit {0}) ToolFault) : Type 0 where
  pub script : Script
  pub said : IsScriptOf bytes script
  pub told : TellsScript script text end

-- why nothing is told
abbrev pub IsUntold : List ℕ → ToolFault → Type 0
IsUntold bytes (BadStep number) = IsBadLine bytes number
IsUntold bytes NoMemory = Unit {0}
IsUntold bytes _ = ⊥
