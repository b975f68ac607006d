-- Messages that are kept as their bytes: the code, and the data after it.
use Rattle.std.specs.Prelude.{ℕ, List, [], ◌∷◌, Option, None, option_and_then, unwrap_or}
use Rattle.std.specs.Result.{result_ok}
use Rattle.osdp_msg.specs.declared.command.Command.{Command}
use Rattle.osdp_msg.specs.declared.command.Command.TheVariants as commands
use Rattle.osdp_msg.specs.declared.event.Event.{Event}
use Rattle.osdp_msg.specs.declared.event.Event.TheVariants as events
use Rattle.osdp_msg.specs.declared.reply.Reply.{Reply}
use Rattle.osdp_msg.specs.declared.reply.Reply.TheVariants as replies
use Rattle.osdp_msg.specs.CommandTable.{command_of}
use Rattle.osdp_msg.specs.Events.{event_in}
use Rattle.osdp_msg.specs.ReplyTable.{reply_of}

-- the command that bytes are, its code first
abbrev pub command_from : List ℕ → Option Command
command_from [] = None
command_from (code ∷ bytes) = result_ok (command_of code bytes)

-- the reply that they are
abbrev pub reply_from : List ℕ → Option Reply
reply_from [] = None
reply_from (code ∷ bytes) = result_ok (reply_of code bytes)

-- the event whose reply they are
abbrev pub event_from : List ℕ → Option Event
event_from bytes = option_and_then event_in (reply_from bytes)

-- Bytes that are no message would be one without data. What is kept was written, so none such is kept.
abbrev pub command_kept : List ℕ → Command
command_kept bytes = unwrap_or (command_from bytes) commands.Poll

abbrev pub reply_kept : List ℕ → Reply
reply_kept bytes = unwrap_or (reply_from bytes) replies.Ack

abbrev pub event_kept : List ℕ → Event
event_kept bytes = unwrap_or (event_from bytes) (events.Inputs (record { items = [] }))
