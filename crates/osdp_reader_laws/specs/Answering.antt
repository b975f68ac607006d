-- The answers to a list of commands.
use Rattle.std.specs.Prelude.{List, [], ◌∷◌}
use Rattle.osdp_msg.specs.declared.command.Command.{Command}
use Rattle.osdp_msg.specs.declared.reply.Reply.{Reply}
use Rattle.osdp_reader.specs.declared.config.ReaderConfig.{ReaderConfig}
use Rattle.osdp_reader.specs.declared.handler.Answer.{Answer}
use Rattle.osdp_reader.specs.Table.{answer_to}

module _ {H : Type 0} (answer_of : H → Command → Answer) (after : H → Command → H) (config : ReaderConfig) where
  -- each command is answered after those before it
  abbrev pub answers : H → List Command → List Reply
  answers handler [] = []
  answers handler (command ∷ commands) =
      let a = answer_to answer_of after config handler command in
      a.reply ∷ answers a.handler commands

  -- the handler after them all
  abbrev pub handler_after_commands : H → List Command → H
  handler_after_commands handler [] = handler
  handler_after_commands handler (command ∷ commands) =
      handler_after_commands (answer_to answer_of after config handler command).handler commands
