-- A handler of one of two types answers and goes on as the one that it is.
use Rattle.osdp_msg.specs.declared.command.Command.{Command}
use Rattle.osdp_reader.specs.declared.handler.Answer.{Answer}
use Rattle.osdp_mixed_devices.specs.declared.either.EitherHandler.{EitherHandler}
use Rattle.osdp_mixed_devices.specs.declared.either.EitherHandler.TheVariants.{First, Second}

module _ {A B : Type 0} where
  -- what it answers
  abbrev pub answer_of_either : (A → Command → Answer) → (B → Command → Answer) → EitherHandler A B → Command → Answer
  answer_of_either first second (First handler) command = first handler command
  answer_of_either first second (Second handler) command = second handler command

  -- what it is after a command
  abbrev pub after_either : (A → Command → A) → (B → Command → B) → EitherHandler A B → Command → EitherHandler A B
  after_either first second (First handler) command = First (first handler command)
  after_either first second (Second handler) command = Second (second handler command)
