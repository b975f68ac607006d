-- How the code keeps the lines below those of the readers: a small step a line, and the bytes of all messages and damage in one row.
use Rattle.std.specs.Prelude.{ℕ, nat_le, List, [], length, if◌then◌else◌}
use Rattle.osdp_frame.specs.Packet.{largest}
use Rattle.osdp_msg.specs.Kept.{command_kept, event_kept}
use Rattle.osdp_sim.specs.Kept.{parts, total}
use Rattle.osdp_sim.specs.declared.step.Move.{Move}
use Rattle.osdp_sim.specs.declared.step.Move.TheVariants as moves
use Rattle.osdp_sim.specs.declared.step.SimStep.TheVariants as steps
use Rattle.osdp_script.specs.declared.script.ScriptLine.{ScriptLine}
use Rattle.osdp_script.specs.declared.script.ScriptLine.TheVariants.{Step, Clean}
use Rattle.osdp_script.specs.declared.step.ScriptStep.{ScriptStep}
use Rattle.osdp_script.specs.declared.step.ScriptStep.TheVariants as kept
use Rattle.osdp_script.specs.declared.step.Way.{Way}
use Rattle.osdp_script.specs.declared.step.Way.TheVariants as ways

-- ---- damage

-- the bytes of a move
abbrev pub move_bytes : Move → List ℕ
move_bytes moves.Deliver = []
move_bytes moves.Drop = []
move_bytes moves.Repeat = []
move_bytes (moves.Damage burst) = burst.items

-- a burst has room for those of the longest packet
abbrev pub move_of : Way → List ℕ → Move
move_of ways.Deliver own = moves.Deliver
move_of ways.Drop own = moves.Drop
move_of ways.Repeat own = moves.Repeat
move_of (ways.Damage size) own = moves.Damage (record { items = if nat_le (length own) largest then own else [] })

-- ---- lines

-- how many bytes are a step's own
abbrev pub move_size : Way → ℕ
move_size ways.Deliver = 0
move_size ways.Drop = 0
move_size ways.Repeat = 0
move_size (ways.Damage size) = size

abbrev pub own_size : ScriptStep → ℕ
own_size (kept.Issue reader size) = size
own_size (kept.Queue reader size) = size
own_size (kept.Busy reader busy) = 0
own_size (kept.Wait time) = 0
own_size (kept.ToReader way) = move_size way
own_size (kept.ToController way) = move_size way
own_size (kept.Reopen reader) = 0
own_size (kept.Clean n) = 0

-- the line that is kept as this step and these bytes
abbrev pub line_of : ScriptStep → List ℕ → ScriptLine
line_of (kept.Issue reader size) own = Step (steps.Issue reader (command_kept own))
line_of (kept.Queue reader size) own = Step (steps.Queue reader (event_kept own))
line_of (kept.Busy reader busy) own = Step (steps.Busy reader busy)
line_of (kept.Wait time) own = Step (steps.Wait time)
line_of (kept.ToReader way) own = Step (steps.ToReader (move_of way own))
line_of (kept.ToController way) own = Step (steps.ToController (move_of way own))
line_of (kept.Reopen reader) own = Step (steps.Reopen reader)
line_of (kept.Clean n) own = Clean n

-- the lines that are kept as these steps and this row of bytes
abbrev pub lines_kept : List ScriptStep → List ℕ → List ScriptLine
lines_kept steps row = parts own_size line_of steps row

-- how many bytes they have together
abbrev pub sizes : List ScriptStep → ℕ
sizes steps = total own_size steps
