-- What the device of an entry acts on in calls, with its answers.
use Rattle.std.specs.Prelude.{◌≡◌, ℕ, ◌==◌, if◌then◌else◌, map, List, [], ◌∷◌, ◌++◌, Option, Some, None}
use Rattle.osdp_frame.specs.Packet.{Packet}
use Rattle.osdp_msg.specs.declared.command.Command.{Command}
use Rattle.osdp_msg.specs.declared.reply.Reply.{Reply}
use Rattle.osdp_device.specs.Telling.{items_of}
use Rattle.osdp_reader.specs.State.{ReaderState}
use Rattle.osdp_reader.specs.declared.handler.Answer.{Answer}
use Rattle.osdp_link_ledger.specs.Acted.{acted_by}
use Rattle.osdp_shared_line.specs.Line.{site_at}
use Rattle.osdp_calls.specs.Calls.{Call, Next, Step, after_call, first_answered, read_up_to}
use Rattle.osdp_calls.specs.Lines.{InUse, Station}
use Rattle.osdp_calls.specs.Told.{all_taken}

module _ {H : Type 0} (answer_of : H → Command → Answer) (after : H → Command → H) where
  -- the command that a device takes by the packet that it answers, with the answer to it
  abbrev pub acted_by_answered : Option Packet → ReaderState H → List (Command × Reply)
  acted_by_answered None r = []
  acted_by_answered (Some p) r = acted_by answer_of after p r

  abbrev pub acted_at : Option (Station H) → List (Command × Reply)
  acted_at None = []
  acted_at (Some t) = acted_by_answered (first_answered t.reader (read_up_to t.reader (items_of t.line.held))) t.reader

  -- .. in a call, and in a list of calls
  abbrev pub acted_in : ℕ → Call H → InUse H → List (Command × Reply)
  acted_in k (Next entry) l = if entry == k then acted_at (site_at entry l.stations) else []
  acted_in k _ l = []

  abbrev pub all_acted : ℕ → List (Step H) → InUse H → List (Command × Reply)
  all_acted k [] l = []
  all_acted k (step ∷ steps) l = acted_in k step.call l ++ all_acted k steps (after_call answer_of after step.call step.places l)

  -- each command on which the device's program acts by a response has an answer, whatever is called
  abbrev pub EachTakenIsAnswered : Type 0
  EachTakenIsAnswered = (k : ℕ) (steps : List (Step H)) (l : InUse H) → map (λ (d : Command × Reply). d.0) (all_acted k steps l) ≡ all_taken answer_of after k steps l
