-- A handler whose program decides what is said to a command.
use Rattle.std.specs.Prelude.{Bool, true, false}
use Rattle.osdp_msg.specs.declared.command.Command.{Command}
use Rattle.osdp_reader.specs.declared.handler.Answer.{Answer}
use Rattle.osdp_device.specs.Status.{new_status, status_answer}
use Rattle.osdp_device.specs.declared.program.ProgramAnswers.{ProgramAnswers}
use Rattle.osdp_device.specs.declared.question.Question.{Question}
use Rattle.osdp_device.specs.declared.question.Question.TheVariants.{NotAsked, Asked, Answered}
use Rattle.osdp_device.specs.declared.status.DeviceStatus.{DeviceStatus}

-- there is nothing at the device, and the program hasn't been asked
abbrev pub new_program : ProgramAnswers
new_program = record { status = new_status; question = NotAsked }

-- what the program has set, and else what its status tells
abbrev pub set_or_told : Question → DeviceStatus → Command → Answer
set_or_told (Answered answer) status command = answer
set_or_told NotAsked status command = status_answer status command
set_or_told Asked status command = status_answer status command

abbrev pub program_answer : ProgramAnswers → Command → Answer
program_answer p command = set_or_told p.question p.status command

-- whether the program has set something
abbrev pub is_set : Question → Bool
is_set (Answered answer) = true
is_set NotAsked = false
is_set Asked = false

-- what was set is said once
abbrev pub program_after : ProgramAnswers → Command → ProgramAnswers
program_after p command = record p { question = NotAsked }
