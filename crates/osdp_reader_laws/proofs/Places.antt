-- Where each event is short enough for its part of the room, it has room where it has a place.
use Rattle.osdp_reader_laws.proofs.Common.{◌≡◌, ◌∙◌, ap, ◌≤◌, ◌+◌, ◌-◌, ◌*◌, ◌&&◌, ltb, leb, ℕ, Bool, true, false, cond, List, [], ◌∷◌, ◌++◌, drop, take, length, refl, arith, nat_lt, le-leb, ltb-true, Command, Event, Room, Reply, EventFits, event_reply, Answer, Queue, bytes_waiting, event_size, has_room, ReaderState, after_submit, new_reader, kind_of, Hear, LapseEvent, ReaderCall, SetBusy, SetHandler, SubmitEvent, WithdrawEvent, after_call, after_calls}
use Rattle.std.specs.List.{All}
use Rattle.std.proofs.lemmas.List.Elements.{All-cons, All-head, All-nil, All-push, All-tail}
use Rattle.osdp_msg.specs.Limits.{most_data}
use Rattle.osdp_msg.specs.ReplyTable.{ReplyFits, reply_code, reply_counts_agree, reply_data, reply_fault, reply_length_allowed}
use Rattle.osdp_msg.proofs.Replies.{replies}
use Rattle.osdp_msg.proofs.Table.{bounded}
use Rattle.osdp_reader_laws.specs.Places.{RefusesForItsPlace, SubmitsFitting}
use Rattle.osdp_reader_laws.proofs.Outcomes.{IsKeptByEffects, outcome_keeps}
use Rattle.osdp_reader_laws.proofs.QueuedOnce.{by_cond}

-- ---- how long events are

reply_is_short : (r : Reply) → ReplyFits r → length (reply_data r) ≤ most_data
unfolding reply_fault
reply_is_short r fits =
    let code = reply_code r in
    let bytes = reply_data r in
    let well = replies.well code bytes r (record { code_is = refl; data_is = refl; fits = fits }) in
    bounded (reply_length_allowed code (length bytes)) (length bytes) (reply_counts_agree code bytes) well

pub event_is_short : (e : Event) → EventFits e → event_size e ≤ 1 + most_data
event_is_short e fits = let few = reply_is_short (event_reply e) fits in omega (arith, few)

events_are_short : (es : List Event) → All EventFits es → bytes_waiting es ≤ length es * (1 + most_data)
events_are_short [] fit = omega arith
events_are_short (e ∷ es) fit =
    let first = event_is_short e (All-head EventFits e es fit) in
    let rest = events_are_short es (All-tail EventFits e es fit) in
    omega (arith, first, rest)

place_alone : (n size places room more : ℕ) → size ≤ n * (1 + most_data) → places * (1 + most_data) ≤ room → more ≤ 1 + most_data
    → (ltb n places && leb more (room - size)) ≡ ltb n places
place_alone n size places room more held ample short = by_test (ltb n places) refl
  where
    by_test : (b : Bool) → ltb n places ≡ b → (b && leb more (room - size)) ≡ b
    by_test true is = let place = ltb-true n places is in le-leb more (room - size) (omega (arith, place, held, ample, short))
    by_test false is = refl

-- ---- what each call leaves

-- the events that wait have their fields in their ranges, and there is room for as many and for as many bytes as a reader was made for
abbrev IsAmple : Room → Queue → Type 0
IsAmple room q = All EventFits q.events × (q.capacity ≡ room.messages) × (q.room ≡ room.bytes)

one_left : (es : List Event) → All EventFits es → All EventFits (drop 1 es)
one_left [] fit = fit
one_left (e ∷ es) fit = All-tail EventFits e es fit

second_left : (es : List Event) → All EventFits es → All EventFits (take 1 es ++ drop 2 es)
second_left [] fit = fit
second_left (e ∷ []) fit = fit
second_left (e ∷ f ∷ es) fit =
    All-cons EventFits e es (All-head EventFits e (f ∷ es) fit) (All-tail EventFits f es (All-tail EventFits e (f ∷ es) fit))

lapsed_ample : (room : Room) (ever : Bool) (q : Queue) → IsAmple room q
    → IsAmple room (cond ever (record { events = drop 1 q.events; capacity = q.capacity; room = q.room; offered = false; ever_offered = false }) q)
lapsed_ample room true q is = (one_left q.events is.0, is.1, is.2)
lapsed_ample room false q is = is

module _ {H : Type 0} where
  keeps_ample : (room : Room) → IsKeptByEffects {H = H} (λ r. IsAmple room r.queue)
  keeps_ample room = record {
    moved = λ r address within is. is;
    zero = λ r handler is. is;
    next = λ r number back told handler is.
        (by_cond (All EventFits) r.queue.offered (drop 1 r.queue.events) r.queue.events (one_left r.queue.events is.0) is.0, is.1, is.2);
  }

  module _ (answer_of : H → Command → Answer) (after : H → Command → H) where
    call_ample : (room : Room) (c : ReaderCall H) (cs : List (ReaderCall H)) (r : ReaderState H) → SubmitsFitting (c ∷ cs) → IsAmple room r.queue
        → IsAmple room (after_call answer_of after c r).queue × SubmitsFitting cs
    call_ample room (Hear p) cs r fit is =
        (outcome_keeps answer_of after (λ s. IsAmple room s.queue) (kind_of r p) r p (keeps_ample room) is, fit)
    call_ample room (SubmitEvent e) cs r fit is = (
      by_cond (λ (s : ReaderState H). IsAmple room s.queue) (has_room e r.queue) (after_submit e r) r
          (All-push EventFits r.queue.events e is.0 fit.0, is.1, is.2) is,
      fit.1,
    )
    call_ample room WithdrawEvent cs r fit is = (
      (
        by_cond (All EventFits) r.queue.ever_offered (take 1 r.queue.events ++ drop 2 r.queue.events) (drop 1 r.queue.events)
            (second_left r.queue.events is.0) (one_left r.queue.events is.0),
        is.1,
        is.2,
      ),
      fit,
    )
    call_ample room LapseEvent cs r fit is = (lapsed_ample room r.queue.ever_offered r.queue is, fit)
    call_ample room (SetBusy busy) cs r fit is = (is, fit)
    call_ample room (SetHandler handler) cs r fit is = (is, fit)

    calls_ample : (room : Room) (cs : List (ReaderCall H)) (r : ReaderState H) → SubmitsFitting cs → IsAmple room r.queue
        → IsAmple room (after_calls answer_of after cs r).queue
    calls_ample room [] r fit is = is
    calls_ample room (c ∷ cs) r fit is =
        let after_one = call_ample room c cs r fit is in calls_ample room cs (after_call answer_of after c r) after_one.1 after_one.0

    pub refuses_for_its_place : RefusesForItsPlace answer_of after
    refuses_for_its_place config handler room calls event ample fit fits =
        let q = (after_calls answer_of after calls (new_reader config handler room)).queue in
        let is = calls_ample room calls (new_reader config handler room) fit (All-nil EventFits, refl, refl) in
        place_alone (length q.events) (bytes_waiting q.events) q.capacity q.room (event_size event) (events_are_short q.events is.0)
        (omega (arith, ample, is.1, is.2)) (event_is_short event fits)
        ∙ ap (λ (places : ℕ). nat_lt (length q.events) places) is.1
