-- A turn of a device whose program sets the answers is a list of calls: bytes are taken, and then the next packet is answered, or the turn
-- stops before a command about which the program is asked.
use Rattle.std.specs.Prelude.{◌≡◌, ℕ, List, [], ◌∷◌, Option, Some}
use Rattle.osdp_msg.specs.declared.command.Command.{Command}
use Rattle.osdp_device.specs.Deciding.{pending_of, turned}
use Rattle.osdp_device.specs.Program.{program_after, program_answer}
use Rattle.osdp_frame.specs.Receiving.{Received, after_take}
use Rattle.osdp_device.specs.Telling.{next_told}
use Rattle.osdp_device.specs.declared.program.ProgramAnswers.{ProgramAnswers}
use Rattle.osdp_device.specs.declared.question.Question.{Question}
use Rattle.osdp_device.specs.declared.question.Question.TheVariants.{Asked, NotAsked}
use Rattle.osdp_reader.specs.declared.handler.Answer.{Answer}
use Rattle.osdp_shared_line.specs.Line.{site_at}
use Rattle.osdp_calls.specs.Calls.{Next, Pending, SetHandler, Step, Take, after_calls}
use Rattle.osdp_calls.specs.Lines.{InUse, Station}

-- the program has been asked so far
abbrev pub asks : ℕ → Question → ProgramAnswers → Step ProgramAnswers
asks k question program = record { call = SetHandler k (record program { question = question }); places = [] }

-- `settle`: a program that has not been asked yet about a command that is pending is asked; else the next packet is answered, and what was
-- asked is gone with it
abbrev pub settles_by : ℕ → List ℕ → Question → Option Command → Station ProgramAnswers → List (Step ProgramAnswers)
settles_by k places NotAsked (Some command) t = record { call = Pending k; places = [] } ∷ asks k Asked t.reader.handler ∷ []
settles_by k places _ _ t =
    record { call = Next k; places = places }
    ∷ asks k NotAsked (next_told program_answer program_after t.reader t.line.held).reader.handler ∷ []

-- .. with the question that the program has had and the command that is pending
abbrev pub settle_calls : ℕ → List ℕ → Station ProgramAnswers → List (Step ProgramAnswers)
settle_calls k places t = settles_by k places t.reader.handler.question (pending_of t.reader t.line.held) t

-- `turn`: bytes are taken, and then it settles
abbrev pub turn_calls : ℕ → List ℕ → ℕ → List ℕ → Station ProgramAnswers → List (Step ProgramAnswers)
turn_calls k bytes now places t =
    record { call = Take k bytes now; places = [] } ∷ settle_calls k places (record t { line = after_take bytes now t.line })

-- the device of an entry is, after these calls, what the turn leaves
pub record IsTurned (k : ℕ) (calls : List (Step ProgramAnswers)) (t : Station ProgramAnswers) (received : Received) (l : InUse ProgramAnswers) : Type 0 where
  pub station : Station ProgramAnswers
  pub there : site_at k (after_calls program_answer program_after calls l).stations ≡ Some station
  pub reader : station.reader ≡ (turned t.reader received.held).reader
  pub line : station.line ≡ record received { held = (turned t.reader received.held).held }

-- what `settle` and `turn` make of a device is what their calls make of it
pub record TurnsByCalls (l : InUse ProgramAnswers) : Type 0 where
  pub settle : (k : ℕ) (places : List ℕ) (t : Station ProgramAnswers) → site_at k l.stations ≡ Some t
      → IsTurned k (settle_calls k places t) t t.line l
  pub turn : (k : ℕ) (bytes : List ℕ) (now : ℕ) (places : List ℕ) (t : Station ProgramAnswers) → site_at k l.stations ≡ Some t
      → IsTurned k (turn_calls k bytes now places t) t (after_take bytes now t.line) l
