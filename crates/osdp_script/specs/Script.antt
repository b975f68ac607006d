-- What a script says: settings, and the lines below those of the readers.
use Rattle.std.specs.Prelude.{◌≡◌, ℕ, List, [], ◌∷◌, ◌++◌, flat_map, Option, Some, None}
use Rattle.std.specs.Option.{unwrap_or}
use Rattle.osdp_frame.specs.declared.check_kind.CheckKind.{CheckKind}
use Rattle.osdp_frame.specs.declared.check_kind.CheckKind.TheVariants.{Crc}
use Rattle.osdp_sim.specs.declared.step.SimStep.{SimStep}
use Rattle.osdp_sim.specs.Rounds.{clean}
use Rattle.osdp_script.specs.declared.script.Script.{Script}
use Rattle.osdp_script.specs.declared.script.ScriptLine.{ScriptLine}
use Rattle.osdp_script.specs.declared.script.ScriptLine.TheVariants.{Check, Reader, Step, Clean}

-- what the lines of a script say together: the check, where a line says it; each reader's address and room for events; and the lines
-- below those of the readers
pub record Plan : Type 0 where
  pub check : Option CheckKind
  pub readers : List (ℕ × ℕ)
  pub below : List ScriptLine

-- no line has been read
abbrev pub no_plan : Plan
no_plan = record { check = None; readers = []; below = [] }

-- one line more
abbrev pub with_line : ScriptLine → Plan → Plan
with_line (Check kind) p = record p { check = Some kind }
with_line (Reader address room) p = record p { readers = p.readers ++ (address, room) ∷ [] }
with_line (Step step) p = record p { below = p.below ++ Step step ∷ [] }
with_line (Clean n) p = record p { below = p.below ++ Clean n ∷ [] }

-- a script says what its lines say; its packets end with a CRC where no line says which check
pub record IsScript (p : Plan) (s : Script) : Type 0 where
  pub check : s.check ≡ unwrap_or p.check Crc
  pub readers : s.readers.items ≡ p.readers
  pub below : s.lines ≡ p.below

-- ---- the steps

-- the steps that a line stands for
abbrev pub line_steps : ScriptLine → List SimStep
line_steps (Check kind) = []
line_steps (Reader address room) = []
line_steps (Step step) = step ∷ []
line_steps (Clean n) = clean n

-- .. and these lines
abbrev pub lines_steps : List ScriptLine → List SimStep
lines_steps lines = flat_map line_steps lines

-- the schedule of a script
abbrev pub steps_of : Script → List SimStep
steps_of s = lines_steps s.lines
