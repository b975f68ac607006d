-- What counts as offered is the front, told by the stored reply.
use Rattle.osdp_reader_laws.proofs.Common.{◌≡◌, ℕ, Bool, true, false, cond, drop, take, List, [], ◌∷◌, ◌++◌, Option, Some, None, Result, Ok, Err, refl, slice_get, Packet, Command, Event, MsgFault, event_reply, Answer, Kind, TellsItsOffer, Queue, offering, released, reply_packet, ReaderState, after_lapse_event, after_submit, after_withdraw_event, begun, command_in, moved, new_address, outcome, taken, event_or_answer}
use Rattle.std.specs.Option.{option_map}
use Rattle.osdp_msg.specs.declared.command.Command.TheVariants as command
use Rattle.osdp_reader_laws.proofs.Outcomes.{by_kind, by_move}

pub front_stays : (events more : List Event) (front : Event) → slice_get events 0 ≡ Some front
    → slice_get (events ++ more) 0 ≡ Some front
front_stays [] more front is = absurd cc
front_stays (x ∷ xs) more front is = is

rest_withdrawn : (ever : Bool) (events : List Event) (front : Event) → ever ≡ true → slice_get events 0 ≡ Some front
    → slice_get (cond ever (take 1 events ++ drop 2 events) (drop 1 events)) 0 ≡ Some front
rest_withdrawn false events front offered is = absurd cc
rest_withdrawn true [] front offered is = absurd cc
rest_withdrawn true (x ∷ xs) front offered is = is

module _ {H : Type 0} where
  pub none_offered : (r : ReaderState H) → r.queue.offered ≡ false → TellsItsOffer r
  none_offered r none = λ offered. absurd cc

  moved_none_offered : (o : Option ℕ) (r : ReaderState H) → r.queue.offered ≡ false → TellsItsOffer (moved o r)
  moved_none_offered o r none = by_move TellsItsOffer o r (none_offered r none) (λ address set. none_offered _ none)

  pub submit_offer : (r : ReaderState H) (event : Event) → TellsItsOffer r → TellsItsOffer (after_submit event r)
  submit_offer r event tells offered =
      let is = (tells offered).1.1 in (
        (tells offered).0,
        (
          (tells offered).1.0,
          record {
            front = front_stays r.queue.events (event ∷ []) (tells offered).0 is.front;
            ever = is.ever;
            stored = is.stored;
            number = is.number;
            body = is.body;
          },
        ),
      )

  -- an offer stays whether the reader is busy or not, and whatever handler it has
  pub offer_stays : (r : ReaderState H) (busy : Bool) (handler : H) → TellsItsOffer r
      → TellsItsOffer (record r { busy = busy; handler = handler })
  offer_stays r busy handler tells offered =
      let is = (tells offered).1.1 in
      ((tells offered).0, ((tells offered).1.0, record { front = is.front; ever = is.ever; stored = is.stored; number = is.number; body = is.body }))

  -- an event that is taken back isn't the one that is offered
  pub withdraw_offer : (r : ReaderState H) → TellsItsOffer r → TellsItsOffer (after_withdraw_event r)
  withdraw_offer r tells offered =
      let is = (tells offered).1.1 in (
        (tells offered).0,
        (
          (tells offered).1.0,
          record {
            front = rest_withdrawn r.queue.ever_offered r.queue.events (tells offered).0 is.ever is.front;
            ever = is.ever;
            stored = is.stored;
            number = is.number;
            body = is.body;
          },
        ),
      )

  -- where the front lapses nothing is offered
  pub lapse_offer : (r : ReaderState H) → TellsItsOffer r → TellsItsOffer (after_lapse_event r)
  lapse_offer r tells = by_ever r.queue.ever_offered
    where
      by_ever : (ever : Bool)
          → TellsItsOffer (record r { queue = cond ever (record { events = drop 1 r.queue.events; capacity = r.queue.capacity; room = r.queue.room; offered = false; ever_offered = false }) r.queue })
      by_ever true = none_offered _ refl
      by_ever false = tells

  module _ (answer_of : H → Command → Answer) (after : H → Command → H) where
    begun_offer : (read : Result Command MsgFault) (r : ReaderState H) (p : Packet)
        → TellsItsOffer (begun answer_of after read r p).reader
    begun_offer (Err fault) r p = none_offered _ refl
    begun_offer (Ok c) r p = moved_none_offered (new_address c) _ refl

    poll_offer : (front : Option Event) (queue : Queue) (r : ReaderState H) (p : Packet) → slice_get queue.events 0 ≡ front
        → let told = event_or_answer answer_of after (option_map event_reply front) r.config r.handler command.Poll in
        TellsItsOffer (record r {
          last = Some p.sequence;
          stored = Some (reply_packet p p.sequence told.reply);
          queue = offering (option_map event_reply front) queue;
          handler = told.handler;
        })
    poll_offer None queue r p is = none_offered _ refl
    poll_offer (Some event) queue r p is = λ offered. (event, (_, record { front = is; ever = refl; stored = refl; number = refl; body = refl }))

    taken_offer : (read : Result Command MsgFault) (r : ReaderState H) (p : Packet)
        → TellsItsOffer (taken answer_of after read r p).reader
    taken_offer (Err fault) r p = none_offered _ refl
    taken_offer (Ok command.Poll) r p = poll_offer (slice_get (released r.queue).events 0) (released r.queue) r p refl
    taken_offer (Ok (command.Comset c)) r p = moved_none_offered (new_address (command.Comset c)) _ refl
    taken_offer (Ok c) r p = none_offered _ refl

    pub outcome_offer : (kind : Kind) (r : ReaderState H) (p : Packet) → TellsItsOffer r
        → TellsItsOffer (outcome answer_of after kind r p).reader
    outcome_offer kind r p tells =
        by_kind answer_of after TellsItsOffer kind r p tells (begun_offer (command_in p) r p) (taken_offer (command_in p) r p)
