-- How the code keeps what the lines so far say, and judges the next.
use Rattle.std.specs.Prelude.{◌≡◌, ℕ, ◌≤◌, Bool, true, false, List, length}
use Rattle.osdp_tool_streams.specs.Cut.{lines_of}
use Rattle.osdp_script.specs.declared.fault.ScriptFault.{ScriptFault}
use Rattle.osdp_script.specs.declared.fault.ScriptFault.TheVariants.{BadLine, NoMemory}
use Rattle.osdp_script.specs.declared.draft.Draft.{Draft}
use Rattle.osdp_script.specs.Reading.{AreRead, IsBad, IsFirstBad, IsRead, IsTold, SaysNothing}
use Rattle.osdp_script.specs.Script.{Plan, no_plan}

-- what the lines so far say
abbrev pub plan_of : Draft → Plan
plan_of d = record { check = d.check; readers = d.readers.items; below = d.lines }

-- a text is good, or bad
abbrev pub JudgesText : Bool → Plan → List ℕ → Plan → Type 0
JudgesText true p text q = IsTold p text q
JudgesText false p text q = SaysNothing p text

-- .. and so is a line
abbrev pub Judges : Bool → Plan → List ℕ → Plan → Type 0
Judges true p line q = IsRead p line q
Judges false p line q = IsBad p line

-- all lines are good
pub record EndsReading (bytes : List ℕ) (p : Plan) (count : ℕ) : Type 0 where
  pub good : AreRead no_plan (lines_of bytes) p
  pub number : count ≡ length (lines_of bytes)
  pub small : count ≤ length bytes

-- .. or one is bad, or there is no memory
abbrev pub StopsReading : List ℕ → ScriptFault → Type 0
StopsReading bytes (BadLine number) = IsFirstBad (lines_of bytes) number
StopsReading bytes NoMemory = Unit {0}
