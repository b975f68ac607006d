-- The texts of commands and events, as bytes that come from outside.
use Rattle.std.specs.Prelude.{ℕ, List, Option, None, Some, IsUtf8}
use Rattle.osdp_msg.specs.declared.command.Command.{Command}
use Rattle.osdp_msg.specs.declared.event.Event.{Event}
use Rattle.osdp_msg.specs.CommandTable.{CommandFits}
use Rattle.osdp_msg.specs.CommandText.{command_words}
use Rattle.osdp_msg.specs.Events.{EventFits, event_words}
use Rattle.osdp_words.specs.Word.{AllStandFor, words_in}

-- these bytes are the text of a command
pub record IsTextOfCommand (text : List ℕ) (command : Command) : Type 0 where
  pub characters : IsUtf8 text
  pub words : AllStandFor (command_words command) (words_in text)
  pub fits : CommandFits command

-- the command whose text they are, or that they are that of none
abbrev pub IsReadCommand : List ℕ → Option Command → Type 0
IsReadCommand text None = (command : Command) → IsTextOfCommand text command → ⊥
IsReadCommand text (Some command) = IsTextOfCommand text command

-- the same of events
pub record IsTextOfEvent (text : List ℕ) (event : Event) : Type 0 where
  pub characters : IsUtf8 text
  pub words : AllStandFor (event_words event) (words_in text)
  pub fits : EventFits event

abbrev pub IsReadEvent : List ℕ → Option Event → Type 0
IsReadEvent text None = (event : Event) → IsTextOfEvent text event → ⊥
IsReadEvent text (Some event) = IsTextOfEvent text event
