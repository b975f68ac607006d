-- The script that bytes are, or the number of the first bad line.
use Rattle.std.specs.Prelude.{◌≡◌, ◌≢◌, ◌⊎◌, ℕ, ◌+◌, ◌<◌, true, false, All, List, [], ◌∷◌, ◌++◌, length, None, Result, Ok, Err, IsUtf8}
use Rattle.osdp_tool_streams.specs.Cut.{lines_of}
use Rattle.osdp_words.specs.Word.{AllStandFor, words_in}
use Rattle.osdp_script.specs.declared.fault.ScriptFault.{ScriptFault}
use Rattle.osdp_script.specs.declared.fault.ScriptFault.TheVariants.{BadLine, NoMemory}
use Rattle.osdp_script.specs.declared.script.Script.{Script}
use Rattle.osdp_script.specs.declared.script.ScriptLine.{ScriptLine}
use Rattle.osdp_script.specs.declared.script.ScriptLine.TheVariants.{Check, Reader, Step, Clean}
use Rattle.osdp_script.specs.Words.{characters, is_passed_over}
use Rattle.osdp_script.specs.Lines.{LineFits, line_words}
use Rattle.osdp_script.specs.Script.{IsScript, Plan, no_plan, with_line}

-- ---- one line

-- no reader is at this address
abbrev pub IsFree : ℕ → List (ℕ × ℕ) → Type 0
IsFree address readers = All (λ (r : ℕ × ℕ). r.0 ≢ address) readers

-- the check is told once, before the readers
pub record IsCheckInPlace (p : Plan) : Type 0 where
  pub once : p.check ≡ None
  pub before : p.readers ≡ []

-- a reader is told before all lines below, at an address of its own; there are at most sixteen
pub record IsReaderInPlace (p : Plan) (address : ℕ) : Type 0 where
  pub before : p.below ≡ []
  pub limit : length p.readers < 16
  pub free : IsFree address p.readers

-- a line may stand after those above it, which say this
abbrev pub IsInPlace : Plan → ScriptLine → Type 0
IsInPlace p (Check kind) = IsCheckInPlace p
IsInPlace p (Reader address room) = IsReaderInPlace p address
IsInPlace p (Step step) = Unit {0}
IsInPlace p (Clean n) = length p.readers ≡ 1

-- these characters, which are text, have the words of a line that is in its ranges and in its place
pub record Says (p : Plan) (text : List ℕ) (line : ScriptLine) : Type 0 where
  pub utf8 : IsUtf8 text
  pub words : AllStandFor (line_words line) (words_in text)
  pub fits : LineFits (length p.readers) line
  pub place : IsInPlace p line

-- characters that aren't passed over say something ..
pub record IsTold (p : Plan) (text : List ℕ) (q : Plan) : Type 0 where
  pub line : ScriptLine
  pub says : Says p text line
  pub plan : q ≡ with_line line p

-- .. or are bad
abbrev pub SaysNothing : Plan → List ℕ → Type 0
SaysNothing p text = (line : ScriptLine) → Says p text line → ⊥

-- with this line, what p says becomes what q says: by the lines above it and itself alone
abbrev pub IsRead : Plan → List ℕ → Plan → Type 0
IsRead p line q =
    ((is_passed_over (characters line) ≡ true) × (q ≡ p))
    ⊎ ((is_passed_over (characters line) ≡ false) × IsTold p (characters line) q)

abbrev pub IsBad : Plan → List ℕ → Type 0
IsBad p line = (is_passed_over (characters line) ≡ false) × SaysNothing p (characters line)

-- ---- all lines

-- the lines, one after the other
abbrev pub AreRead : Plan → List (List ℕ) → Plan → Type 0
AreRead p [] q = q ≡ p
AreRead p (line ∷ lines) q = (mid : Plan) × IsRead p line mid × AreRead mid lines q

-- the line of this number, counted from 1, is bad, and each above it is good
pub record IsFirstBad (lines : List (List ℕ)) (number : ℕ) : Type 0 where
  pub above : List (List ℕ)
  pub line : List ℕ
  pub below : List (List ℕ)
  pub plan : Plan
  pub whole : lines ≡ above ++ line ∷ below
  pub good : AreRead no_plan above plan
  pub bad : IsBad plan line
  pub place : number ≡ length above + 1

-- all lines are good, and none of them is a reader's: then the one after the last is missing
pub record LacksReaders (lines : List (List ℕ)) (number : ℕ) : Type 0 where
  pub plan : Plan
  pub good : AreRead no_plan lines plan
  pub none : plan.readers ≡ []
  pub place : number ≡ length lines + 1

-- what the bytes of a script say
pub record Means (bytes : List ℕ) (p : Plan) : Type 0 where
  pub good : AreRead no_plan (lines_of bytes) p
  pub some : p.readers ≢ []

-- the number of their first bad line
abbrev pub IsBadLine : List ℕ → ℕ → Type 0
IsBadLine bytes number = IsFirstBad (lines_of bytes) number ⊎ LacksReaders (lines_of bytes) number

-- the script of these bytes
abbrev pub IsScriptOf : List ℕ → Script → Type 0
IsScriptOf bytes script = (p : Plan) × Means bytes p × IsScript p script

-- what is answered: the script, the number of the first bad line, or no memory
abbrev pub Answers : List ℕ → Result Script ScriptFault → Type 0
Answers bytes (Ok script) = IsScriptOf bytes script
Answers bytes (Err (BadLine number)) = IsBadLine bytes number
Answers bytes (Err NoMemory) = Unit {0}
