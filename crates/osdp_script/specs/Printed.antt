-- A script as text: a line for its check, one for each reader, and one for each line below them.
use Rattle.std.specs.Prelude.{ℕ, List, ◌∷◌, ◌++◌, codes, map}
use Rattle.std.specs.List.{flat_map}
use Rattle.osdp_words.specs.Word.{text_of}
use Rattle.osdp_script.specs.declared.script.Script.{Script}
use Rattle.osdp_script.specs.declared.script.ScriptLine.{ScriptLine}
use Rattle.osdp_script.specs.declared.script.ScriptLine.TheVariants.{Check, Reader}
use Rattle.osdp_script.specs.Lines.{line_words}
use Rattle.osdp_script.specs.Reading.{IsScriptOf}
use Rattle.osdp_script.specs.Meaning.{SaySame}

-- a line: its words as they are printed, with one space between each two, and a line feed after them
abbrev pub line_text : ScriptLine → List ℕ
line_text line = text_of (line_words line) ++ codes "\n"

-- the line of a reader at this address, with this room for events
abbrev pub reader_line : ℕ × ℕ → ScriptLine
reader_line (address, room) = Reader address room

abbrev pub script_lines : Script → List ScriptLine
script_lines script = Check script.check ∷ (map reader_line script.readers.items ++ script.lines)

-- these lines, one after the other
abbrev pub script_text : Script → List ℕ
script_text script = flat_map line_text (script_lines script)

-- a script's text is read as that script, and as none that says anything else
pub record IsReadBack (script : Script) : Type 0 where
  pub read : IsScriptOf (script_text script) script
  pub only : (other : Script) → IsScriptOf (script_text script) other → SaySame script other

-- a script that was read
abbrev pub ReadsBack : Type 0
ReadsBack = (bytes : List ℕ) (script : Script) → IsScriptOf bytes script → IsReadBack script
