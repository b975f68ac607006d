-- An event lapses: the front of the queue, which is offered and whose answer may be lost, leaves it as in doubt. As long as the session lasts nobody
-- hears that: the line and the controller are as without it, and from the next command on that the reader takes it is too.
use Rattle.std.specs.Prelude.{◌≡◌, ◌≢◌, ◌⊎◌, true, false, List, [], ◌∷◌}
use Rattle.osdp_frame.specs.Packet.{Packet}
use Rattle.osdp_msg.specs.declared.command.Command.{Command}
use Rattle.osdp_msg.specs.declared.event.Event.{Event}
use Rattle.osdp_reader.specs.Queue.{has_room}
use Rattle.osdp_reader.specs.State.{ReaderState, after_lapse_event}
use Rattle.osdp_reader.specs.Table.{kind_of}
use Rattle.osdp_reader.specs.declared.handler.Answer.{Answer}
use Rattle.osdp_reader.specs.declared.kind.Kind.TheVariants.{Taken, Zero}
use Rattle.osdp_link_laws.specs.Link.{Delivered, Delivery, LapseEvent, Link, Lost, Move, Queue, Reopen, Repeated, ToReader, after_move, reader_gets, run}

module _ {H : Type 0} where
  -- the device lets the front lapse, where it was ever offered
  abbrev pub lapses : Link H → Link H
  lapses l = record l { reader = after_lapse_event l.reader }

  -- this event is offered, and these wait after it
  pub record Offers (event : Event) (rest : List Event) (l : Link H) : Type 0 where
    pub events : l.reader.queue.events ≡ event ∷ rest
    pub offered : l.reader.queue.offered ≡ true
    pub ever_offered : l.reader.queue.ever_offered ≡ true

  -- the packet in front doesn't come to the reader with number 0, which begins a session
  abbrev pub IsNotZero : List Packet → ReaderState H → Type 0
  IsNotZero [] r = Unit {0}
  IsNotZero (p ∷ ps) r = kind_of r p ≢ Zero

  abbrev pub IsNotZeroIf : Delivery → List Packet → ReaderState H → Type 0
  IsNotZeroIf Delivered ps r = IsNotZero ps r
  IsNotZeroIf Lost ps r = Unit {0}
  IsNotZeroIf Repeated ps r = IsNotZero ps r

  -- the session lasts, an event that is queued finds room, and none lapses
  abbrev pub StaysInSession : Move H → Link H → Type 0
  StaysInSession (Queue event) l = has_room event l.reader.queue ≡ true
  StaysInSession (ToReader how) l = IsNotZeroIf how l.to_reader l.reader
  StaysInSession (Reopen now) l = ⊥
  StaysInSession LapseEvent l = ⊥
  StaysInSession _ l = Unit {0}

  -- a link with the lapse, and one without: they are the same, or the event that is offered has left the queue and nothing else is otherwise
  abbrev pub DifferByLapse : Link H → Link H → Type 0
  DifferByLapse lapsed l = (lapsed ≡ l) ⊎ ((event : Event) × (rest : List Event) × Offers event rest l × (lapsed ≡ lapses l))

  module _ (answer_of : H → Command → Answer) (after : H → Command → H) where
    abbrev pub StayInSession : List (Move H) → Link H → Type 0
    StayInSession [] l = Unit {0}
    StayInSession (move ∷ moves) l = StaysInSession move l × StayInSession moves (after_move answer_of after move l)

    pub record LapsesAreUnheard : Type 0 where
      -- the event waits no more, and the one after it was never offered
      pub leaves : (l : Link H) (event : Event) (rest : List Event) → Offers event rest l
          → (lapses l).reader.queue ≡ record { events = rest; capacity = l.reader.queue.capacity; room = l.reader.queue.room; offered = false; ever_offered = false }
      -- whatever happens then in this session, its report and its loss among it
      pub session : (l : Link H) (event : Event) (rest : List Event) (moves : List (Move H)) → Offers event rest l → StayInSession moves l
          → DifferByLapse (run answer_of after moves (lapses l)) (run answer_of after moves l)
      -- the next command that is taken, a POLL that offers the event after it among these, leaves no difference
      pub taken : (l : Link H) (event : Event) (rest : List Event) (p : Packet) → Offers event rest l → kind_of l.reader p ≡ Taken
          → reader_gets answer_of after p (lapses l) ≡ reader_gets answer_of after p l
