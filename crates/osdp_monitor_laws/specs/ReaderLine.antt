-- A reader on two wires, and somebody who listens there: what may happen, and whom the listener accuses.
use Rattle.std.specs.Prelude.{◌≡◌, ◌≢◌, ℕ, Bool, true, false, List, [], ◌∷◌, ◌++◌, Option, Some, None, IfSome, option_to_list}
use Rattle.osdp_frame.specs.Packet.{Packet}
use Rattle.osdp_frame.specs.Reading.{PacketItem, SkippedItem}
use Rattle.osdp_msg.specs.ReplyTable.{ReplyFits}
use Rattle.osdp_msg.specs.declared.command.Command.{Command}
use Rattle.osdp_msg.specs.declared.event.Event.{Event}
use Rattle.osdp_msg.specs.declared.limits.Room.{Room}
use Rattle.osdp_monitor.specs.Line.{Knowledge, after_item, found_in, no_knowledge}
use Rattle.osdp_monitor.specs.declared.accusation.Accusation.{Accusation}
use Rattle.osdp_reader.specs.declared.config.ReaderConfig.{ReaderConfig}
use Rattle.osdp_reader.specs.declared.handler.Answer.{Answer}
use Rattle.osdp_reader.specs.State.{ReaderState, after_set_busy, after_set_handler, after_submit, new_reader}
use Rattle.osdp_reader.specs.Table.{Outcome, hears}

-- who reads a packet that is said
pub data Reads : Type 0 where
  Both : Reads
  ReaderAlone : Reads
  ListenerAlone : Reads

-- the reader, its answer that is on its way, and what the listener knows
pub record ReaderLine (H : Type 0) : Type 0 where
  pub reader : ReaderState H
  pub answer : Option Packet
  pub known : Knowledge

-- What may happen. The reader starts anew, with any settings and any handler; an event is queued, it is busy or not, or has another handler.
-- Anybody else says a packet. The answer comes, and the listener reads it or doesn't. The listener skips a byte, or begins to listen: so it
-- does after an item that was refused, too.
pub data ReaderMove (H : Type 0) : Type 0 where
  Restart : ReaderConfig → H → Room → ReaderMove H
  Queue : Event → ReaderMove H
  SetBusy : Bool → ReaderMove H
  SetHandler : H → ReaderMove H
  Say : Packet → Reads → ReaderMove H
  AnswerComes : Bool → ReaderMove H
  Skip : ℕ → ReaderMove H
  Forget : ReaderMove H

-- what is known after an answer, where one is on its way
abbrev pub known_after : Option Packet → Knowledge → Knowledge
known_after None known = known
known_after (Some q) known = after_item known (PacketItem q)

abbrev pub accused_in : Option Packet → Knowledge → Option Accusation
accused_in None known = None
accused_in (Some q) known = (found_in known q).accusation

module _ {H : Type 0} where
  -- a new reader, and a listener who knows nothing
  abbrev pub new_line : ReaderConfig → H → Room → ReaderLine H
  new_line config handler room =
      record { reader = new_reader config handler room; answer = None; known = no_knowledge }

  -- the reader hears a packet
  abbrev pub heard : Outcome H → ReaderLine H → ReaderLine H
  heard o l = record l { reader = o.reader; answer = o.reply }

  -- what the listener reads is an item; what the reader alone reads makes it forget everything
  abbrev pub after_said : Outcome H → Packet → Reads → ReaderLine H → ReaderLine H
  after_said o p Both l = record (heard o l) { known = after_item l.known (PacketItem p) }
  after_said o p ReaderAlone l = record (heard o l) { known = no_knowledge }
  after_said o p ListenerAlone l = record l { known = after_item l.known (PacketItem p) }

  abbrev pub after_answer : Bool → ReaderLine H → ReaderLine H
  after_answer true l = record l { answer = None; known = known_after l.answer l.known }
  after_answer false l = record l { answer = None }

  -- two wires: nobody speaks while an answer is on its way, and no other device answers at the reader's address
  pub record MaySay (p : Packet) (l : ReaderLine H) : Type 0 where
    pub quiet : l.answer ≡ None
    pub another : p.reply ≡ true → p.address ≢ l.reader.config.address

  -- the reader is accused of an answer that the listener reads
  abbrev pub reader_accused_by : ReaderMove H → ReaderLine H → Option Accusation
  reader_accused_by (AnswerComes true) l = accused_in l.answer l.known
  reader_accused_by _ l = None

  module _ (answer_of : H → Command → Answer) (after : H → Command → H) where
    abbrev pub after_move : ReaderMove H → ReaderLine H → ReaderLine H
    after_move (Restart config handler room) l = record l { reader = new_reader config handler room }
    after_move (Queue event) l = record l { reader = after_submit event l.reader }
    after_move (SetBusy busy) l = record l { reader = after_set_busy busy l.reader }
    after_move (SetHandler handler) l = record l { reader = after_set_handler handler l.reader }
    after_move (Say p reads) l = after_said (hears answer_of after l.reader p) p reads l
    after_move (AnswerComes read) l = after_answer read l
    after_move (Skip b) l = record l { known = after_item l.known (SkippedItem b) }
    after_move Forget l = record l { known = no_knowledge }

    -- .. and the numbers of what the reader says anew are in the ranges of their fields, as all that it can send
    abbrev pub IsAllowed : ReaderMove H → ReaderLine H → Type 0
    IsAllowed (Say p reads) l = MaySay p l × IfSome (hears answer_of after l.reader p).said ReplyFits
    IsAllowed _ l = Unit {0}

    -- each move of a list, after those before it
    abbrev pub AreAllowed : List (ReaderMove H) → ReaderLine H → Type 0
    AreAllowed [] l = Unit {0}
    AreAllowed (move ∷ moves) l = IsAllowed move l × AreAllowed moves (after_move move l)

    -- all that the reader is accused of
    abbrev pub reader_accusations : List (ReaderMove H) → ReaderLine H → List Accusation
    reader_accusations [] l = []
    reader_accusations (move ∷ moves) l =
        option_to_list (reader_accused_by move l) ++ reader_accusations moves (after_move move l)

    -- whatever is said, whatever its handler does, whatever events come, and however often it is busy or starts anew: the reader is accused of
    -- nothing
    abbrev pub AccusesNoReader : Type 0
    AccusesNoReader = (config : ReaderConfig) (handler : H) (room : Room) (moves : List (ReaderMove H))
        → AreAllowed moves (new_line config handler room)
        → reader_accusations moves (new_line config handler room) ≡ []
