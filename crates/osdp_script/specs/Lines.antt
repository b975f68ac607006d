-- What a line of a script may say, and its words.
use Rattle.std.specs.Prelude.{◌≢◌, ℕ, ◌≤◌, Bool, true, false, List, [], ◌∷◌, codes, length}
use Rattle.hex.specs.Hex.{IsBytes}
use Rattle.osdp_frame.specs.Check.{check_name}
use Rattle.osdp_frame.specs.Packet.{largest}
use Rattle.osdp_frame.specs.Times.{longest_time}
use Rattle.osdp_msg.specs.declared.command.Command.{Command}
use Rattle.osdp_msg.specs.declared.command.Command.TheVariants.{Poll}
use Rattle.osdp_msg.specs.declared.event.Event.{Event}
use Rattle.osdp_msg.specs.CommandTable.{CommandFits}
use Rattle.osdp_msg.specs.CommandText.{command_words}
use Rattle.osdp_msg.specs.Events.{EventFits, event_words}
use Rattle.osdp_msg.specs.Limits.{most_waiting}
use Rattle.osdp_sim.specs.declared.step.Move.{Move}
use Rattle.osdp_sim.specs.declared.step.Move.TheVariants.{Deliver, Drop, Repeat, Damage}
use Rattle.osdp_sim.specs.declared.step.SimStep.{SimStep}
use Rattle.osdp_sim.specs.declared.step.SimStep.TheVariants.{Issue, Queue, Busy, Wait, ToReader, ToController, Reopen}
use Rattle.osdp_words.specs.Word.{Word, plain, bytes, number}
use Rattle.osdp_script.specs.declared.script.ScriptLine.{ScriptLine}
use Rattle.osdp_script.specs.declared.script.ScriptLine.TheVariants.{Check, Reader, Step, Clean}

-- ---- words

abbrev pub move_words : Move → List Word
move_words Deliver = plain (codes "deliver") ∷ []
move_words Drop = plain (codes "drop") ∷ []
move_words Repeat = plain (codes "repeat") ∷ []
move_words (Damage burst) = plain (codes "damage") ∷ bytes burst.items ∷ []

abbrev pub switch_word : Bool → Word
switch_word true = plain (codes "on")
switch_word false = plain (codes "off")

-- a step's name, and the words after it
abbrev pub step_name : SimStep → List ℕ
step_name (Issue reader command) = codes "issue"
step_name (Queue reader event) = codes "queue"
step_name (Busy reader busy) = codes "busy"
step_name (Wait time) = codes "wait"
step_name (ToReader move) = codes "to-reader"
step_name (ToController move) = codes "to-controller"
step_name (Reopen reader) = codes "reopen"

abbrev pub step_fields : SimStep → List Word
step_fields (Issue reader command) = number reader ∷ command_words command
step_fields (Queue reader event) = number reader ∷ event_words event
step_fields (Busy reader busy) = number reader ∷ switch_word busy ∷ []
step_fields (Wait time) = number time ∷ []
step_fields (ToReader move) = move_words move
step_fields (ToController move) = move_words move
step_fields (Reopen reader) = number reader ∷ []

abbrev pub line_name : ScriptLine → List ℕ
line_name (Check kind) = codes "check"
line_name (Reader address room) = codes "reader"
line_name (Step step) = step_name step
line_name (Clean n) = codes "clean"

abbrev pub line_fields : ScriptLine → List Word
line_fields (Check kind) = plain (check_name kind) ∷ []
line_fields (Reader address room) = number address ∷ number room ∷ []
line_fields (Step step) = step_fields step
line_fields (Clean n) = number n ∷ []

abbrev pub line_words : ScriptLine → List Word
line_words line = plain (line_name line) ∷ line_fields line

-- ---- ranges

-- a reader's settings: a device's address, and room for events
pub record IsSetting (address room : ℕ) : Type 0 where
  pub device : address ≤ 126
  pub some : 1 ≤ room
  pub limit : room ≤ most_waiting

-- one of so many readers, counted from 1; a script has sixteen at most
pub record IsReader (readers reader : ℕ) : Type 0 where
  pub first : 1 ≤ reader
  pub last : reader ≤ readers
  pub most : reader ≤ 16

-- the user submits no POLL: the controller sends it by itself
pub record IsOrder (readers reader : ℕ) (command : Command) : Type 0 where
  pub there : IsReader readers reader
  pub fits : CommandFits command
  pub other : command ≢ Poll

pub record IsHappening (readers reader : ℕ) (event : Event) : Type 0 where
  pub there : IsReader readers reader
  pub fits : EventFits event

-- damage is at most as long as the longest packet
abbrev pub MoveFits : Move → Type 0
MoveFits Deliver = Unit {0}
MoveFits Drop = Unit {0}
MoveFits Repeat = Unit {0}
MoveFits (Damage burst) = (length burst.items ≤ largest) × IsBytes burst.items

-- with so many readers
abbrev pub StepFits : ℕ → SimStep → Type 0
StepFits readers (Issue reader command) = IsOrder readers reader command
StepFits readers (Queue reader event) = IsHappening readers reader event
StepFits readers (Busy reader busy) = IsReader readers reader
StepFits readers (Wait time) = time ≤ longest_time
StepFits readers (ToReader move) = MoveFits move
StepFits readers (ToController move) = MoveFits move
StepFits readers (Reopen reader) = IsReader readers reader

abbrev pub LineFits : ℕ → ScriptLine → Type 0
LineFits readers (Check kind) = Unit {0}
LineFits readers (Reader address room) = IsSetting address room
LineFits readers (Step step) = StepFits readers step
LineFits readers (Clean n) = n ≤ 1000
