-- The events that wait until the controller has them.
use Rattle.std.specs.Prelude.{ℕ, ◌≡◌, ◌+◌, ◌-◌, Bool, true, false, ◌||◌, ◌&&◌, not, nat_le, nat_lt, is_some, List, [], drop, take, length, slice_get, Option, None, if◌then◌else◌, ◌++◌, ◌∷◌}
use Rattle.std.specs.Option.{option_map}
use Rattle.osdp_msg.specs.declared.command.Command.{Command}
use Rattle.osdp_msg.specs.declared.command.Command.TheVariants.{Poll}
use Rattle.osdp_msg.specs.declared.event.Event.{Event}
use Rattle.osdp_msg.specs.declared.reply.Reply.{Reply}
use Rattle.osdp_msg.specs.Events.{EventFits, event_reply}
use Rattle.osdp_msg.specs.ReplyTable.{reply_code, reply_data}

-- the bytes that an event is kept as
abbrev pub IsEvent : List ℕ → Type 0
IsEvent bytes = (e : Event) × EventFits e × (bytes ≡ reply_code (event_reply e) ∷ reply_data (event_reply e))

-- the events from the oldest on, how many there may be and how many bytes they may have together, and of the front whether it is
-- offered in this session, and whether it ever was, in this session or in one before; no other event that waits ever was
pub record Queue : Type 0 where
  pub events : List Event
  pub capacity : ℕ
  pub room : ℕ
  pub offered : Bool
  pub ever_offered : Bool

abbrev pub empty_queue : ℕ → ℕ → Queue
empty_queue capacity room = record { events = []; capacity = capacity; room = room; offered = false; ever_offered = false }

-- how many bytes an event has: the code and the data of its reply
abbrev pub event_size : Event → ℕ
event_size e = length (reply_code (event_reply e) ∷ reply_data (event_reply e))

-- .. and events have together
abbrev pub bytes_waiting : List Event → ℕ
bytes_waiting [] = 0
bytes_waiting (e ∷ es) = event_size e + bytes_waiting es

-- there is a place for one more event, and room for its bytes beside those that wait
abbrev pub has_room : Event → Queue → Bool
has_room event q = nat_lt (length q.events) q.capacity && nat_le (event_size event) (q.room - bytes_waiting q.events)

-- .. or there isn't
abbrev pub lacks_room : Event → Queue → Bool
lacks_room event q = not (has_room event q)

-- an event after the others
abbrev pub queued : Event → Queue → Queue
queued event q = record q { events = q.events ++ (event ∷ []) }

-- .. where it has room
abbrev pub queued_if : Bool → Event → Queue → Queue
queued_if true event q = queued event q
queued_if false event q = q

-- an offered front leaves, and the next event was never offered
abbrev pub released : Queue → Queue
released q = record {
  events = if q.offered then drop 1 q.events else q.events;
  capacity = q.capacity;
  room = q.room;
  offered = false;
  ever_offered = if q.offered then false else q.ever_offered;
}

-- nothing is offered any more, and all events stay
abbrev pub unoffered : Queue → Queue
unoffered q = record q { offered = false }

-- the oldest event that was never offered: the front, or the one after a front that was
abbrev pub never_offered : Queue → Option Event
never_offered q = slice_get q.events (if q.ever_offered then 1 else 0)

-- the device takes that event back: all others stay
abbrev pub withdrawn : Queue → Queue
withdrawn q = record q { events = if q.ever_offered then take 1 q.events ++ drop 2 q.events else drop 1 q.events }

-- the front, where it was ever offered: its answer may be lost, so whether the panel has it isn't known
abbrev pub in_doubt : Queue → Option Event
in_doubt q = if q.ever_offered then slice_get q.events 0 else None

-- that event leaves, and nothing is offered any more
abbrev pub lapsed : Queue → Queue
lapsed q = if q.ever_offered
    then record q { events = drop 1 q.events; offered = false; ever_offered = false }
    else q

-- the reply that tells the front, where a POLL asks for it
abbrev pub event_for : Command → List Event → Option Reply
event_for Poll events = option_map event_reply (slice_get events 0)
event_for _ events = None

-- after an answer: the front was offered where an event was told
abbrev pub offering : Option Reply → Queue → Queue
offering told q = record q { offered = is_some told; ever_offered = is_some told || q.ever_offered }
