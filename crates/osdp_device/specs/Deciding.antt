-- A device that stops before a command which its program is to decide.
use Rattle.std.specs.Prelude.{Bool, true, false, if◌then◌else◌, List, [], ◌∷◌, Option, Some, None, Result, Ok, Err}
use Rattle.osdp_frame.specs.Held.{Held, later}
use Rattle.osdp_frame.specs.Reading.{RunItem, PacketItem, SkippedItem, RefusedItem}
use Rattle.osdp_msg.specs.declared.command.Command.{Command}
use Rattle.osdp_msg.specs.declared.fault.MsgFault.{MsgFault}
use Rattle.osdp_msg.specs.declared.reply.Reply.{Reply}
use Rattle.osdp_reader.specs.Replies.{own_reply}
use Rattle.osdp_reader.specs.State.{ReaderState, after_set_handler}
use Rattle.osdp_reader.specs.Table.{command_in, kind_of}
use Rattle.osdp_reader.specs.declared.config.ReaderConfig.{ReaderConfig}
use Rattle.osdp_reader.specs.declared.kind.Kind.{Kind}
use Rattle.osdp_reader.specs.declared.kind.Kind.TheVariants as kind
use Rattle.osdp_device.specs.Program.{program_after, program_answer}
use Rattle.osdp_device.specs.Saying.{Said, is_answered}
use Rattle.osdp_device.specs.Telling.{Told, items_of, next_told}
use Rattle.osdp_device.specs.declared.program.ProgramAnswers.{ProgramAnswers}
use Rattle.osdp_device.specs.declared.question.Question.{Question}
use Rattle.osdp_device.specs.declared.question.Question.TheVariants.{NotAsked, Asked, Answered}

-- a command that the reader doesn't answer by itself
abbrev pub unless_own : Option Reply → Command → Option Command
unless_own (Some own) command = None
unless_own None command = Some command

abbrev pub handled : ReaderConfig → Result Command MsgFault → Option Command
handled config (Err fault) = None
handled config (Ok command) = unless_own (own_reply config command) command

-- only what comes with number 0 or the next one is acted on
abbrev pub acted_on : Kind → Option Command → Option Command
acted_on kind.Zero command = command
acted_on kind.Taken command = command
acted_on kind.Silent command = None
acted_on kind.Secured command = None
acted_on kind.Repeat command = None
acted_on kind.Busy command = None
acted_on kind.Wrong command = None

module _ {H : Type 0} where
  -- what is held once the items before the first that is answered are passed over
  abbrev pub passed_by : List RunItem → ReaderState H → Held → Held
  passed_by [] r held = held
  passed_by (part ∷ parts) r held = if is_answered r part then held else passed_by parts r (later held part)

  abbrev pub passed : ReaderState H → Held → Held
  passed r held = passed_by (items_of held) r held

  -- the command of an item that its handler is to answer
  abbrev pub pending_at : ReaderState H → RunItem → Option Command
  pending_at r (PacketItem p) = acted_on (kind_of r p) (handled r.config (command_in p))
  pending_at r (SkippedItem byte) = None
  pending_at r (RefusedItem fault) = None

  -- the command of the first item that is answered
  abbrev pub pending_in : List RunItem → ReaderState H → Option Command
  pending_in [] r = None
  pending_in (part ∷ parts) r = if is_answered r part then pending_at r part else pending_in parts r

  -- the command that the next packet will have acted on, where the reader doesn't answer it by itself
  abbrev pub pending_of : ReaderState H → Held → Option Command
  pending_of r held = pending_in (items_of held) r

-- what a turn comes to: the command before which it stops, or else what is said; the reader and what is held after it
pub record Turned : Type 0 where
  pub pending : Option Command
  pub said : Option Said
  pub reader : ReaderState ProgramAnswers
  pub held : Held

-- the program has been asked so far
abbrev pub with_question : Question → ReaderState ProgramAnswers → ReaderState ProgramAnswers
with_question question r = after_set_handler (record r.handler { question = question }) r

-- .. or no more than before
abbrev pub with_question_if : Bool → Question → ReaderState ProgramAnswers → ReaderState ProgramAnswers
with_question_if true question r = with_question question r
with_question_if false question r = r

-- it stops before the command, and nothing is said
abbrev pub stops : Command → ReaderState ProgramAnswers → Held → Turned
stops command r held = record { pending = Some command; said = None; reader = with_question Asked r; held = passed r held }

-- the next packet is answered: what was asked and set is gone with it, whatever is said
abbrev pub settles : Told ProgramAnswers → Turned
settles told = record { pending = None; said = told.said; reader = with_question NotAsked told.reader; held = told.held }

-- a program that hasn't been asked yet is asked first
abbrev pub turned_by : Question → Option Command → ReaderState ProgramAnswers → Held → Turned
turned_by NotAsked (Some command) r held = stops command r held
turned_by NotAsked None r held = settles (next_told program_answer program_after r held)
turned_by Asked pending r held = settles (next_told program_answer program_after r held)
turned_by (Answered answer) pending r held = settles (next_told program_answer program_after r held)

abbrev pub turned : ReaderState ProgramAnswers → Held → Turned
turned r held = turned_by r.handler.question (pending_of r held) r held

-- whether the program has been asked about the command that is next
abbrev pub is_asked : Question → Bool
is_asked NotAsked = false
is_asked Asked = true
is_asked (Answered answer) = true
