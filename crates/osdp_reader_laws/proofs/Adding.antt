-- What calls between packets leave as it was, and what they add.
use Rattle.osdp_reader_laws.proofs.Common.{◌≡◌, ◌∙◌, ◌+◌, ◌-◌, leb, ltb, Bool, true, false, cond, List, [], ◌∷◌, ◌++◌, length, length-append, refl, sym, arith, le-leb, Command, Event, Answer, Queue, bytes_waiting, event_size, has_room, ReaderState, after_submit, Hear, LapseEvent, ReaderCall, SetBusy, SetHandler, SubmitEvent, WithdrawEvent, after_call, after_calls}
use Rattle.std.proofs.lemmas.Bool.{and_from, lt-ltb}
use Rattle.std.proofs.lemmas.List.{append-nil}
use mathlib.Core.List.{append_assoc}
use Rattle.osdp_reader.specs.State.{after_set_busy}
use Rattle.osdp_reader_laws.proofs.Room.{bytes_append}
use Rattle.osdp_reader_laws.specs.Adding.{AddAlone, Adds, AddsBetweenPackets, HaveRoom, busy_after, submitted}

fits : (event : Event) (events : List Event) (q : Queue) → HaveRoom (event ∷ events) q → has_room event q ≡ true
fits event events q room = and_from (ltb (length q.events) q.capacity) (leb (event_size event) (q.room - bytes_waiting q.events))
    (lt-ltb (length q.events) q.capacity (omega (arith, room.0))) (le-leb (event_size event) (q.room - bytes_waiting q.events) (omega (arith, room.1)))

have_room : (event : Event) (events : List Event) (q : Queue) → HaveRoom (event ∷ events) q
    → HaveRoom events (record q { events = q.events ++ (event ∷ []) })
have_room event events q room =
    (omega (arith, room.0, length-append q.events (event ∷ [])), omega (arith, room.1, bytes_append q.events (event ∷ [])))

module _ {H : Type 0} where
  -- one event before the others, whether or not it had room
  by_room : (b : Bool) (event : Event) (calls : List (ReaderCall H)) (r now : ReaderState H) → has_room event r.queue ≡ b
      → Adds calls (cond b (after_submit event r) r) now → Adds (SubmitEvent event ∷ calls) r now
  by_room true event calls r now is rest = record {
    waits = λ room. rest.waits (have_room event (submitted calls) r.queue room) ∙ append_assoc r.queue.events (event ∷ []) (submitted calls);
    busy = rest.busy;
    config = rest.config;
    last = rest.last;
    stored = rest.stored;
    handler = rest.handler;
    offered = rest.offered;
    ever = rest.ever;
  }
  by_room false event calls r now is rest = record {
    waits = λ room. absurd (let e : true ≡ false = sym (fits event (submitted calls) r.queue room) ∙ is in cc);
    busy = rest.busy;
    config = rest.config;
    last = rest.last;
    stored = rest.stored;
    handler = rest.handler;
    offered = rest.offered;
    ever = rest.ever;
  }

  by_busy : (busy : Bool) (calls : List (ReaderCall H)) (r now : ReaderState H) → Adds calls (after_set_busy busy r) now
      → Adds (SetBusy busy ∷ calls) r now
  by_busy busy calls r now rest = record {
    waits = rest.waits;
    busy = rest.busy;
    config = rest.config;
    last = rest.last;
    stored = rest.stored;
    handler = rest.handler;
    offered = rest.offered;
    ever = rest.ever;
  }

  none_added : (r : ReaderState H) → Adds [] r r
  none_added r = record {
    waits = λ room. sym (append-nil r.queue.events);
    busy = refl;
    config = refl;
    last = refl;
    stored = refl;
    handler = refl;
    offered = refl;
    ever = refl;
  }

  module _ (answer_of : H → Command → Answer) (after : H → Command → H) where
    pub adds : AddsBetweenPackets answer_of after
    adds [] r alone = none_added r
    adds (SubmitEvent event ∷ calls) r alone =
        by_room (has_room event r.queue) event calls r (after_calls answer_of after (SubmitEvent event ∷ calls) r) refl
        (adds calls (after_call answer_of after (SubmitEvent event) r) alone)
    adds (SetBusy busy ∷ calls) r alone =
        by_busy busy calls r (after_calls answer_of after (SetBusy busy ∷ calls) r) (adds calls (after_set_busy busy r) alone)
    adds (Hear p ∷ calls) r alone = absurd alone
    adds (WithdrawEvent ∷ calls) r alone = absurd alone
    adds (LapseEvent ∷ calls) r alone = absurd alone
    adds (SetHandler handler ∷ calls) r alone = absurd alone
