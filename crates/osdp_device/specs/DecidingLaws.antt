-- What a device comes to whose program decides what is said.
use Rattle.std.specs.Prelude.{◌≡◌, ℕ, List, [], ◌∷◌, ◌++◌, Option, Some, None}
use Rattle.osdp_frame.specs.Bytes.{AreBytes}
use Rattle.osdp_frame.specs.Held.{Held}
use Rattle.osdp_frame.specs.Packet.{Packet}
use Rattle.osdp_frame.specs.Spelling.{spelling}
use Rattle.osdp_msg.specs.declared.command.Command.{Command}
use Rattle.osdp_msg.specs.declared.reply.Reply.{Reply}
use Rattle.osdp_reader.specs.declared.handler.Answer.{Answer}
use Rattle.osdp_reader.specs.declared.kind.Kind.TheVariants.{Repeat}
use Rattle.osdp_reader.specs.Replies.{reply_for, reply_packet}
use Rattle.osdp_reader.specs.State.{ReaderState}
use Rattle.osdp_device.specs.Deciding.{pending_of, turned, with_question}
use Rattle.osdp_device.specs.Program.{program_after, program_answer}
use Rattle.osdp_frame.specs.Receiving.{Received, after_silence, after_take, after_tick}
use Rattle.osdp_device.specs.Saying.{Said, bytes_of}
use Rattle.osdp_device.specs.Status.{status_answer}
use Rattle.osdp_device.specs.Telling.{next_told}
use Rattle.osdp_device.specs.declared.program.ProgramAnswers.{ProgramAnswers}
use Rattle.osdp_device.specs.declared.question.Question.{Question}
use Rattle.osdp_device.specs.declared.question.Question.TheVariants.{NotAsked, Asked, Answered}

-- something is said to this command, and it is this reply: its packet, at whatever address and number
pub record IsSaidTo (command : Command) (reply : Reply) (told : Option Said) : Type 0 where
  pub said : Said
  pub told_is : told ≡ Some said
  pub command_is : said.command ≡ Some command
  pub packet : Packet
  pub number : ℕ
  pub bytes_are : said.bytes ≡ spelling (reply_packet packet number reply)

-- what is said to a pending command: what was set for it, and where nothing was set what the status tells
pub record SaysWhatWasSet (r : ReaderState ProgramAnswers) (held : Held) (command : Command) : Type 0 where
  pub set : (answer : Answer) → r.handler.question ≡ Answered answer → IsSaidTo command (reply_for answer command) (turned r held).said
  pub told : r.handler.question ≡ Asked → IsSaidTo command (reply_for (status_answer r.handler.status command) command) (turned r held).said

-- the program sets one answer after another
abbrev pub after_sets : List Answer → ReaderState ProgramAnswers → ReaderState ProgramAnswers
after_sets [] r = r
after_sets (answer ∷ answers) r = after_sets answers (with_question (Answered answer) r)

-- the address and the settings, the last number, the stored reply, the events that wait, BUSY, and the program's status
pub record StaysElse (r now : ReaderState ProgramAnswers) : Type 0 where
  pub config : now.config ≡ r.config
  pub last : now.last ≡ r.last
  pub stored : now.stored ≡ r.stored
  pub queue : now.queue ≡ r.queue
  pub busy : now.busy ≡ r.busy
  pub status : now.handler.status ≡ r.handler.status

-- However many answers are set for a pending command, the last one is said to it. The turn is the one that comes where it alone was set, and to set
-- answers changes nothing else.
pub record SaysTheLast (r : ReaderState ProgramAnswers) (held : Held) (command : Command) (set : List Answer) (answer : Answer) : Type 0 where
  pub last : IsSaidTo command (reply_for answer command) (turned (after_sets (set ++ answer ∷ []) r) held).said
  pub alone : turned (after_sets (set ++ answer ∷ []) r) held ≡ turned (after_sets (answer ∷ []) r) held
  pub same : StaysElse r (after_sets (set ++ answer ∷ []) r)

-- it stops before a command about which it has not asked, and says nothing yet
pub record StopsFirst (r : ReaderState ProgramAnswers) (held : Held) (command : Command) : Type 0 where
  pub pending : (turned r held).pending ≡ Some command
  pub silent : (turned r held).said ≡ None
  pub reader : (turned r held).reader ≡ with_question Asked r

-- what is set is said to a pending command alone: what is said else doesn't depend on it
abbrev pub SaysItToNoOther : ReaderState ProgramAnswers → Held → Type 0
SaysItToNoOther r held =
    (question : Question) → pending_of r held ≡ None
    → (next_told program_answer program_after (with_question question r) held).said ≡ (next_told program_answer program_after r held).said

-- once something was said, the program is asked anew before the next command
abbrev pub IsSaidOnce : ReaderState ProgramAnswers → Held → Type 0
IsSaidOnce r held = (said : Said) → (turned r held).said ≡ Some said → (turned r held).reader.handler.question ≡ NotAsked

-- a repeat is the reply that is stored, whatever is set
abbrev pub RepeatsWhatIsStored : ReaderState ProgramAnswers → Held → Type 0
RepeatsWhatIsStored r held =
    (said : Said) → (turned r held).said ≡ Some said → said.kind ≡ Repeat → said.bytes ≡ bytes_of r.stored

-- a command that is pending stays so, whatever comes on the line after it
pub record StaysPending (r : ReaderState ProgramAnswers) (l : Received) (command : Command) : Type 0 where
  pub bytes : (bytes : List ℕ) (now : ℕ) → AreBytes bytes → pending_of r (after_take bytes now l).held ≡ Some command
  pub tick : (now : ℕ) → pending_of r (after_tick now l).held ≡ Some command
  pub silence : (now : ℕ) → pending_of r (after_silence now l).held ≡ Some command
