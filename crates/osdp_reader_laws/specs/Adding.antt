-- What a device's program adds between packets: events, and whether it is busy.
use Rattle.std.specs.Prelude.{◌≡◌, ◌≤◌, ◌+◌, Bool, List, [], ◌∷◌, ◌++◌, length}
use Rattle.osdp_msg.specs.declared.command.Command.{Command}
use Rattle.osdp_msg.specs.declared.event.Event.{Event}
use Rattle.osdp_reader.specs.Queue.{Queue, bytes_waiting}
use Rattle.osdp_reader.specs.State.{ReaderState}
use Rattle.osdp_reader.specs.declared.handler.Answer.{Answer}
use Rattle.osdp_reader_laws.specs.Runs.{Hear, LapseEvent, ReaderCall, SetBusy, SetHandler, SubmitEvent, WithdrawEvent, after_calls}

-- there are places for these events, and room for their bytes, beside those that wait
abbrev pub HaveRoom : List Event → Queue → Type 0
HaveRoom events q = (length q.events + length events ≤ q.capacity) × (bytes_waiting q.events + bytes_waiting events ≤ q.room)

module _ {H : Type 0} where
  -- events are submitted and BUSY is set, and nothing else is called
  abbrev pub AddAlone : List (ReaderCall H) → Type 0
  AddAlone [] = Unit {0}
  AddAlone (SubmitEvent event ∷ calls) = AddAlone calls
  AddAlone (SetBusy busy ∷ calls) = AddAlone calls
  AddAlone (Hear p ∷ calls) = ⊥
  AddAlone (WithdrawEvent ∷ calls) = ⊥
  AddAlone (LapseEvent ∷ calls) = ⊥
  AddAlone (SetHandler handler ∷ calls) = ⊥

  -- the events that these calls submit, in their order
  abbrev pub submitted : List (ReaderCall H) → List Event
  submitted [] = []
  submitted (SubmitEvent event ∷ calls) = event ∷ submitted calls
  submitted (call ∷ calls) = submitted calls

  -- busy as it was set last; as before where it was not set
  abbrev pub busy_after : List (ReaderCall H) → Bool → Bool
  busy_after [] busy = busy
  busy_after (SetBusy set ∷ calls) busy = busy_after calls set
  busy_after (call ∷ calls) busy = busy_after calls busy

  -- The events that there was room for wait after those that waited, in their order. It is busy as it was set last. Its address and settings, the last
  -- number, the stored reply, its handler and what was offered are as before.
  pub record Adds (calls : List (ReaderCall H)) (r now : ReaderState H) : Type 0 where
    pub waits : HaveRoom (submitted calls) r.queue → now.queue.events ≡ r.queue.events ++ submitted calls
    pub busy : now.busy ≡ busy_after calls r.busy
    pub config : now.config ≡ r.config
    pub last : now.last ≡ r.last
    pub stored : now.stored ≡ r.stored
    pub handler : now.handler ≡ r.handler
    pub offered : now.queue.offered ≡ r.queue.offered
    pub ever : now.queue.ever_offered ≡ r.queue.ever_offered

  module _ (answer_of : H → Command → Answer) (after : H → Command → H) where
    -- however many calls there are between two packets
    abbrev pub AddsBetweenPackets : Type 0
    AddsBetweenPackets = (calls : List (ReaderCall H)) (r : ReaderState H) → AddAlone calls → Adds calls r (after_calls answer_of after calls r)
