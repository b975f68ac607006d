-- What a reader says of an event that it was given once: where it was said to a POLL, it is the front, and was ever offered.
use Rattle.std.proofs.Common.{◌≡◌, ◌≢◌, ◌⊎◌, ℕ, Bool, true, false, cond, List, [], ◌∷◌, ◌++◌, drop, take, length, Option, Some, None, Result, Ok, Err, refl, ap, sym, subst, ◌∙◌, inl, inr, is_some, option_map, slice_get}
use Rattle.osdp_reader_laws.proofs.Common.{Packet, Command, Event, MsgFault, event_reply, Room, Answer, Kind, Zero, Taken, Queue, has_room, in_doubt, never_offered, offering, released, reply_packet, ReaderConfig, ReaderState, after_lapse_event, after_submit, after_withdraw_event, new_reader, Outcome, answer_to, begun, command_in, event_or_answer, kind_of, moved, new_address, outcome, taken, HasNone, Hear, IsTold, LapseEvent, ReaderCall, SetBusy, SetHandler, SubmitEvent, SubmitsNone, Tells, WithdrawEvent, after_call, after_calls}
use Rattle.osdp_msg.specs.declared.command.Command.TheVariants as command
use Rattle.osdp_reader_laws.specs.Withdrawing.{KnowsItsOffer, WithdrawsOne}
use Rattle.osdp_reader_laws.proofs.Outcomes.{IsKeptByEffects, after_next, after_zero, by_kind, by_move, outcome_keeps}
use Rattle.osdp_reader_laws.proofs.Offering.{front_stays}
use Rattle.osdp_reader_laws.proofs.QueuedOnce.{ack_is_no_event, by_cond, doubt_lapsed, doubt_past, doubt_queued, doubt_released, doubt_withdrawn, fresh, gone_front, lapsed_gone, none_append, none_drop, none_there, none_withdrawn, once, once_append, once_drop, once_last, once_none, once_withdrawn, past_lapsed, past_offering, past_queued, past_released, past_there, past_withdrawn, same_event, same_some, waits_offering, waits_released, waits_withdrawn, withdrawn_gone}

module _ {H : Type 0} where
  abbrev HasNoSuch : Event → ReaderState H → Type 0
  HasNoSuch e r = HasNone e r.queue.events

  abbrev HasOnce : Event → ReaderState H → Type 0
  HasOnce e r = once e r.queue.events

  -- it is none of those that were never offered
  abbrev IsPast : Event → ReaderState H → Type 0
  IsPast e r = HasNone e (fresh r.queue.ever_offered r.queue.events)

  keeps_none : (e : Event) → IsKeptByEffects (HasNoSuch e)
  keeps_none e = record {
    moved = λ r address within h. h;
    zero = λ r handler h. h;
    next = λ r number back told handler h. by_cond (HasNone e) r.queue.offered (drop 1 r.queue.events) r.queue.events (none_drop e r.queue.events h) h;
  }

  keeps_once : (e : Event) → IsKeptByEffects (HasOnce e)
  keeps_once e = record {
    moved = λ r address within h. h;
    zero = λ r handler h. h;
    next = λ r number back told handler h. by_cond (once e) r.queue.offered (drop 1 r.queue.events) r.queue.events (once_drop e r.queue.events h) h;
  }

  keeps_past : (e : Event) → IsKeptByEffects (IsPast e)
  keeps_past e = record {
    moved = λ r address within h. h;
    zero = λ r handler h. h;
    next = λ r number back told handler h.
        past_offering e (is_some told) (cond r.queue.offered false r.queue.ever_offered) (cond r.queue.offered (drop 1 r.queue.events) r.queue.events)
        (past_released e r.queue.offered r.queue.ever_offered r.queue.events h);
  }

  pub submit_knows : (r : ReaderState H) (x : Event) → KnowsItsOffer r → KnowsItsOffer (after_submit x r)
  submit_knows r x h ever = ((h ever).0, front_stays r.queue.events (x ∷ []) (h ever).0 (h ever).1)

  pub withdraw_knows : (r : ReaderState H) → KnowsItsOffer r → KnowsItsOffer (after_withdraw_event r)
  withdraw_knows r h = waits_withdrawn r.queue.ever_offered r.queue.events h

  pub lapse_knows : (r : ReaderState H) → KnowsItsOffer r → KnowsItsOffer (after_lapse_event r)
  lapse_knows r h =
      by_cond (λ (q : Queue). q.ever_offered ≡ true → (event : Event) × (slice_get q.events 0 ≡ Some event)) r.queue.ever_offered
      (record { events = drop 1 r.queue.events; capacity = r.queue.capacity; room = r.queue.room; offered = false; ever_offered = false }) r.queue (λ is. absurd cc) h

  -- ---- one call

  moved_queue : (o : Option ℕ) (r : ReaderState H) → (moved o r).queue ≡ r.queue
  moved_queue o r = by_move (λ s. s.queue ≡ r.queue) o r refl (λ address set. refl)

  module _ (answer_of : H → Command → Answer) (after : H → Command → H) where
    -- what keeps a fact of a reader, but for a call that submits this event
    record IsKeptBesides (e : Event) (P : ReaderState H → Type 0) : Type 0 where
      effects : IsKeptByEffects P
      submits : (r : ReaderState H) (x : Event) → x ≢ e → P r → P (after_submit x r)
      withdraws : (r : ReaderState H) → P r → P (after_withdraw_event r)
      lapses : (r : ReaderState H) → P r → P (after_lapse_event r)
      sets : (r : ReaderState H) (busy : Bool) (handler : H) → P r → P (record r { busy = busy; handler = handler })

    call_keeps : (e : Event) (P : ReaderState H → Type 0) (c : ReaderCall H) (r : ReaderState H) → IsKeptBesides e P → SubmitsNone e (c ∷ []) → P r
        → P (after_call answer_of after c r)
    call_keeps e P (Hear p) r kept none h = outcome_keeps answer_of after P (kind_of r p) r p kept.effects h
    call_keeps e P (SubmitEvent x) r kept none h =
        by_cond P (has_room x r.queue) (after_submit x r) r (kept.submits r x none.0 h) h
    call_keeps e P WithdrawEvent r kept none h = kept.withdraws r h
    call_keeps e P LapseEvent r kept none h = kept.lapses r h
    call_keeps e P (SetBusy busy) r kept none h = kept.sets r busy r.handler h
    call_keeps e P (SetHandler handler) r kept none h = kept.sets r r.busy handler h

    -- the first call of a list, and those after it
    first_none : (e : Event) (c : ReaderCall H) (cs : List (ReaderCall H)) → SubmitsNone e (c ∷ cs) → SubmitsNone e (c ∷ [])
    first_none e (SubmitEvent x) cs h = (h.0, tt)
    first_none e _ cs h = tt

    rest_none : (e : Event) (c : ReaderCall H) (cs : List (ReaderCall H)) → SubmitsNone e (c ∷ cs) → SubmitsNone e cs
    rest_none e (SubmitEvent x) cs h = h.1
    rest_none e _ cs h = h

    calls_keep : (e : Event) (P : ReaderState H → Type 0) (cs : List (ReaderCall H)) (r : ReaderState H) → IsKeptBesides e P → SubmitsNone e cs → P r
        → P (after_calls answer_of after cs r)
    calls_keep e P [] r kept none h = h
    calls_keep e P (c ∷ cs) r kept none h =
        calls_keep e P cs (after_call answer_of after c r) kept (rest_none e c cs none)
        (call_keeps e P c r kept (first_none e c cs none) h)

    none_besides : (e : Event) → IsKeptBesides e (HasNoSuch e)
    none_besides e = record {
      effects = keeps_none e;
      submits = λ r x other h. none_append e r.queue.events (x ∷ []) h (other, tt);
      withdraws = λ r h. by_cond (HasNone e) r.queue.ever_offered (take 1 r.queue.events ++ drop 2 r.queue.events) (drop 1 r.queue.events)
          (none_withdrawn e r.queue.events h) (none_drop e r.queue.events h);
      lapses = λ r h. by_cond (λ (q : Queue). HasNone e q.events) r.queue.ever_offered _ r.queue (none_drop e r.queue.events h) h;
      sets = λ r busy handler h. h;
    }

    once_besides : (e : Event) → IsKeptBesides e (HasOnce e)
    once_besides e = record {
      effects = keeps_once e;
      submits = λ r x other h. once_append e x r.queue.events h other;
      withdraws = λ r h. by_cond (once e) r.queue.ever_offered (take 1 r.queue.events ++ drop 2 r.queue.events) (drop 1 r.queue.events)
          (once_withdrawn e r.queue.events h) (once_drop e r.queue.events h);
      lapses = λ r h. by_cond (λ (q : Queue). once e q.events) r.queue.ever_offered _ r.queue (once_drop e r.queue.events h) h;
      sets = λ r busy handler h. h;
    }

    past_besides : (e : Event) → IsKeptBesides e (IsPast e)
    past_besides e = record {
      effects = keeps_past e;
      submits = λ r x other h. past_queued e x r.queue.ever_offered r.queue.events h other;
      withdraws = λ r h. past_withdrawn e r.queue.ever_offered r.queue.events h;
      lapses = λ r h. past_lapsed e r.queue r.queue.ever_offered h;
      sets = λ r busy handler h. h;
    }

    -- ---- what is said is the front then, and was ever offered

    abbrev TellsIn : Event → Outcome H → Type 0
    TellsIn e o = (o.command ≡ Some command.Poll) × (o.said ≡ Some (event_reply e))

    abbrev IsFront : Event → Queue → Type 0
    IsFront e q = (slice_get q.events 0 ≡ Some e) × (q.ever_offered ≡ true)

    begun_tells : (read : Result Command MsgFault) (r : ReaderState H) (p : Packet) (e : Event) → TellsIn e (begun answer_of after read r p) → ⊥
    begun_tells (Err fault) r p e t = let none : None ≡ Some command.Poll = t.0 in absurd cc
    begun_tells (Ok command.Poll) r p e t = ack_is_no_event e t.1
    begun_tells (Ok c) r p e t = let other : Some c ≡ Some command.Poll = t.0 in absurd cc

    poll_tells : (front : Option Event) (q : Queue) (r : ReaderState H) (e : Event) → slice_get q.events 0 ≡ front
        → Some (event_or_answer answer_of after (option_map event_reply front) r.config r.handler command.Poll).reply ≡ Some (event_reply e)
        → IsFront e (offering (option_map event_reply front) q)
    poll_tells None q r e is said = absurd (ack_is_no_event e said)
    poll_tells (Some x) q r e is said =
        (is ∙ ap (λ (v : Event). Some v) (same_event x e (same_some (event_reply x) (event_reply e) said)), refl)

    taken_tells : (read : Result Command MsgFault) (r : ReaderState H) (p : Packet) (e : Event) → TellsIn e (taken answer_of after read r p)
        → IsFront e (taken answer_of after read r p).reader.queue
    taken_tells (Err fault) r p e t = let none : None ≡ Some command.Poll = t.0 in absurd cc
    taken_tells (Ok command.Poll) r p e t = poll_tells (slice_get (released r.queue).events 0) (released r.queue) r e refl t.1
    taken_tells (Ok c) r p e t = let other : Some c ≡ Some command.Poll = t.0 in absurd cc

    outcome_tells : (kind : Kind) (r : ReaderState H) (p : Packet) (e : Event) → TellsIn e (outcome answer_of after kind r p)
        → IsFront e (outcome answer_of after kind r p).reader.queue
    outcome_tells Zero r p e t = absurd (begun_tells (command_in p) r p e t)
    outcome_tells Taken r p e t = taken_tells (command_in p) r p e t
    outcome_tells _ r p e t = let none : None ≡ Some command.Poll = t.0 in absurd cc

    call_tells : (c : ReaderCall H) (r : ReaderState H) (e : Event) → Tells answer_of after e c r → IsFront e (after_call answer_of after c r).queue
    call_tells (Hear p) r e t = outcome_tells (kind_of r p) r p e t
    call_tells _ r e t = absurd t

    -- ---- lists of calls

    -- what doesn't wait isn't told
    pub gone_untold : (e : Event) (cs : List (ReaderCall H)) (r : ReaderState H) → SubmitsNone e cs → HasNoSuch e r → IsTold answer_of after e cs r → ⊥
    gone_untold e [] r none h told = told
    gone_untold e (c ∷ cs) r none h told =
        let next = call_keeps e (HasNoSuch e) c r (none_besides e) (first_none e c cs none) h in
        elim told [
          | inl now ↦ none_there e (after_call answer_of after c r).queue.events 0 next (call_tells c r e now).0
          | inr later ↦ gone_untold e cs (after_call answer_of after c r) (rest_none e c cs none) next later
        ]

    front_past : (e : Event) (q : Queue) → IsFront e q → once e q.events → HasNone e (fresh q.ever_offered q.events)
    front_past e q is h = subst (λ (ever : Bool). HasNone e (fresh ever q.events)) (sym is.1) (gone_front e q.events h is.0)

    -- what is told is past
    told_past : (e : Event) (cs : List (ReaderCall H)) (r : ReaderState H) → SubmitsNone e cs → HasOnce e r → IsTold answer_of after e cs r
        → IsPast e (after_calls answer_of after cs r)
    told_past e [] r none h told = absurd told
    told_past e (c ∷ cs) r none h told =
        let next = call_keeps e (HasOnce e) c r (once_besides e) (first_none e c cs none) h in
        let s = after_call answer_of after c r in
        elim told [
          | inl now ↦ calls_keep e (IsPast e) cs s (past_besides e) (rest_none e c cs none) (front_past e s.queue (call_tells c r e now) next)
          | inr later ↦ told_past e cs s (rest_none e c cs none) next later
        ]

    told_in_parts : (e : Event) (cs ds : List (ReaderCall H)) (r : ReaderState H) → IsTold answer_of after e (cs ++ ds) r
        → IsTold answer_of after e cs r ⊎ IsTold answer_of after e ds (after_calls answer_of after cs r)
    told_in_parts e [] ds r told = inr told
    told_in_parts e (c ∷ cs) ds r told =
        elim told [
          | inl now ↦ inl (inl now)
          | inr later ↦ elim (told_in_parts e cs ds (after_call answer_of after c r) later) [ inl first ↦ inl (inr first) | inr rest ↦ inr rest ]
        ]

    after_parts : (cs ds : List (ReaderCall H)) (r : ReaderState H)
        → after_calls answer_of after (cs ++ ds) r ≡ after_calls answer_of after ds (after_calls answer_of after cs r)
    after_parts [] ds r = refl
    after_parts (c ∷ cs) ds r = after_parts cs ds (after_call answer_of after c r)

    begun_knows : (read : Result Command MsgFault) (r : ReaderState H) (p : Packet) → KnowsItsOffer r
        → KnowsItsOffer (begun answer_of after read r p).reader
    begun_knows (Err fault) r p h = h
    begun_knows (Ok c) r p h = by_move KnowsItsOffer (new_address c) (after_zero (answer_to answer_of after r.config r.handler c).handler r) h (λ address set. h)

    taken_knows : (read : Result Command MsgFault) (r : ReaderState H) (p : Packet) → KnowsItsOffer r
        → KnowsItsOffer (taken answer_of after read r p).reader
    taken_knows (Err fault) r p h = waits_released r.queue.offered r.queue.ever_offered r.queue.events h
    taken_knows (Ok command.Poll) r p h =
        waits_offering (slice_get (released r.queue).events 0) (released r.queue) refl (waits_released r.queue.offered r.queue.ever_offered r.queue.events h)
    taken_knows (Ok (command.Comset asked)) r p h =
        let a = answer_to answer_of after r.config r.handler (command.Comset asked) in
        let kept = waits_released r.queue.offered r.queue.ever_offered r.queue.events h in
        by_move KnowsItsOffer (new_address (command.Comset asked)) (after_next p.sequence (reply_packet p p.sequence a.reply) None a.handler r)
        kept (λ address set. kept)
    taken_knows (Ok c) r p h = waits_released r.queue.offered r.queue.ever_offered r.queue.events h

    pub outcome_knows : (kind : Kind) (r : ReaderState H) (p : Packet) → KnowsItsOffer r → KnowsItsOffer (outcome answer_of after kind r p).reader
    outcome_knows kind r p h = by_kind answer_of after KnowsItsOffer kind r p h (begun_knows (command_in p) r p h) (taken_knows (command_in p) r p h)

    call_knows : (c : ReaderCall H) (r : ReaderState H) → KnowsItsOffer r → KnowsItsOffer (after_call answer_of after c r)
    call_knows (Hear p) r h = outcome_knows (kind_of r p) r p h
    call_knows (SubmitEvent x) r h = by_cond KnowsItsOffer (has_room x r.queue) (after_submit x r) r (submit_knows r x h) h
    call_knows WithdrawEvent r h = withdraw_knows r h
    call_knows LapseEvent r h = lapse_knows r h
    call_knows (SetBusy busy) r h = h
    call_knows (SetHandler handler) r h = h

    -- ---- what is in doubt was told

    abbrev Doubts : Event → ReaderState H → Type 0
    Doubts e r = in_doubt r.queue ≡ Some e

    begun_doubt : (read : Result Command MsgFault) (r : ReaderState H) (p : Packet) (e : Event)
        → Doubts e (begun answer_of after read r p).reader → Doubts e r
    begun_doubt (Err fault) r p e is = is
    begun_doubt (Ok c) r p e is =
        subst (λ (q : Queue). in_doubt q ≡ Some e)
        (moved_queue (new_address c) (after_zero (answer_to answer_of after r.config r.handler c).handler r)) is

    poll_doubt : (front : Option Event) (r : ReaderState H) (e : Event) → slice_get (released r.queue).events 0 ≡ front
        → in_doubt (offering (option_map event_reply front) (released r.queue)) ≡ Some e
        → Doubts e r ⊎ ((Some command.Poll ≡ Some command.Poll)
        × (Some (event_or_answer answer_of after (option_map event_reply front) r.config r.handler command.Poll).reply ≡ Some (event_reply e)))
    poll_doubt None r e front is = inl (doubt_released e r.queue.offered r.queue.ever_offered r.queue.events is)
    poll_doubt (Some x) r e front is = inr (refl, ap (λ (v : Event). Some (event_reply v)) (same_some x e (sym front ∙ is)))

    taken_doubt : (read : Result Command MsgFault) (r : ReaderState H) (p : Packet) (e : Event)
        → Doubts e (taken answer_of after read r p).reader → Doubts e r ⊎ TellsIn e (taken answer_of after read r p)
    taken_doubt (Err fault) r p e is = inl (doubt_released e r.queue.offered r.queue.ever_offered r.queue.events is)
    taken_doubt (Ok command.Poll) r p e is = poll_doubt (slice_get (released r.queue).events 0) r e refl is
    taken_doubt (Ok (command.Comset asked)) r p e is =
        let a = answer_to answer_of after r.config r.handler (command.Comset asked) in
        let there : in_doubt (offering None (released r.queue)) ≡ Some e =
        subst (λ (q : Queue). in_doubt q ≡ Some e)
        (moved_queue (new_address (command.Comset asked)) (after_next p.sequence (reply_packet p p.sequence a.reply) None a.handler r)) is in
        inl (doubt_released e r.queue.offered r.queue.ever_offered r.queue.events there)
    taken_doubt (Ok c) r p e is = inl (doubt_released e r.queue.offered r.queue.ever_offered r.queue.events is)

    outcome_doubt : (kind : Kind) (r : ReaderState H) (p : Packet) (e : Event)
        → Doubts e (outcome answer_of after kind r p).reader → Doubts e r ⊎ TellsIn e (outcome answer_of after kind r p)
    outcome_doubt Zero r p e is = inl (begun_doubt (command_in p) r p e is)
    outcome_doubt Taken r p e is = taken_doubt (command_in p) r p e is
    outcome_doubt _ r p e is = inl is

    submit_doubt : (fits : Bool) (r : ReaderState H) (x e : Event) → KnowsItsOffer r → Doubts e (cond fits (after_submit x r) r) → Doubts e r
    submit_doubt false r x e h is = is
    submit_doubt true r x e h is = doubt_queued e x r.queue.ever_offered r.queue.events h is

    call_doubt : (c : ReaderCall H) (r : ReaderState H) (e : Event) → KnowsItsOffer r → Doubts e (after_call answer_of after c r)
        → Doubts e r ⊎ Tells answer_of after e c r
    call_doubt (Hear p) r e h is = outcome_doubt (kind_of r p) r p e is
    call_doubt (SubmitEvent x) r e h is = inl (submit_doubt (has_room x r.queue) r x e h is)
    call_doubt WithdrawEvent r e h is = inl (doubt_withdrawn e r.queue.ever_offered r.queue.events is)
    call_doubt LapseEvent r e h is = inl (doubt_lapsed e r.queue.ever_offered r.queue is)
    call_doubt (SetBusy busy) r e h is = inl is
    call_doubt (SetHandler handler) r e h is = inl is

    calls_doubt : (cs : List (ReaderCall H)) (r : ReaderState H) (e : Event) → KnowsItsOffer r → Doubts e (after_calls answer_of after cs r)
        → Doubts e r ⊎ IsTold answer_of after e cs r
    calls_doubt [] r e h is = inl is
    calls_doubt (c ∷ cs) r e h is =
        elim (calls_doubt cs (after_call answer_of after c r) e (call_knows c r h) is) [
          | inl doubts ↦ elim (call_doubt c r e h doubts) [ inl before ↦ inl before | inr now ↦ inr (inl now) ]
          | inr later ↦ inr (inr later)
        ]

    pub told_what_is_in_doubt : (config : ReaderConfig) (handler : H) (room : Room) (e : Event) (cs : List (ReaderCall H))
        → in_doubt (after_calls answer_of after cs (new_reader config handler room)).queue ≡ Some e
        → IsTold answer_of after e cs (new_reader config handler room)
    told_what_is_in_doubt config handler room e cs is =
        elim (calls_doubt cs (new_reader config handler room) e (λ never. absurd cc) is) [
          | inl none ↦ let nothing : None ≡ Some e = none in absurd cc
          | inr told ↦ told
        ]

    -- ---- the event that is put in once

    -- after it was put in, it waits once or the reader was full
    submitted_once : (fits : Bool) (r : ReaderState H) (e : Event) → HasNoSuch e r → HasOnce e (cond fits (after_submit e r) r)
    submitted_once false r e h = once_none e r.queue.events h
    submitted_once true r e h = once_last e e r.queue.events h

    module _ (r : ReaderState H) (e : Event) (first more : List (ReaderCall H)) (fresh_one : HasNoSuch e r) (none_first : SubmitsNone e first)
        (none_more : SubmitsNone e more) where
      abbrev calls : List (ReaderCall H)
      calls = first ++ SubmitEvent e ∷ more

      abbrev put : ReaderState H
      put = after_call answer_of after (SubmitEvent e) (after_calls answer_of after first r)

      put_once : HasOnce e put
      put_once =
          let s = after_calls answer_of after first r in
          submitted_once (has_room e s.queue) s e (calls_keep e (HasNoSuch e) first r (none_besides e) none_first fresh_one)

      abbrev last : ReaderState H
      last = after_calls answer_of after more put

      last_is : after_calls answer_of after calls r ≡ last
      last_is = after_parts first (SubmitEvent e ∷ more) r

      last_once : HasOnce e last
      last_once = calls_keep e (HasOnce e) more put (once_besides e) none_more put_once

      -- it wasn't told before it was put in
      told_since : IsTold answer_of after e calls r → IsTold answer_of after e more put
      told_since told =
          elim (told_in_parts e first (SubmitEvent e ∷ more) r told) [
            | inl before ↦ absurd (gone_untold e first r none_first fresh_one before)
            | inr since ↦ elim since [ inl now ↦ absurd now | inr later ↦ later ]
          ]

      last_past : IsTold answer_of after e calls r → IsPast e last
      last_past told = told_past e more put none_more put_once (told_since told)

      last_untold : (later : List (ReaderCall H)) → SubmitsNone e later → never_offered last.queue ≡ Some e
          → IsTold answer_of after e (calls ++ WithdrawEvent ∷ later) r → ⊥
      last_untold later none is told =
          elim (told_in_parts e calls (WithdrawEvent ∷ later) r told) [
            | inl before ↦ past_there e last.queue.ever_offered last.queue.events (last_past before) is
            | inr since ↦ elim since [
              | inl now ↦ now
              | inr afterwards ↦ gone_untold e later (after_withdraw_event last) none
                  (withdrawn_gone e last.queue.ever_offered last.queue.events last_once is)
                  (subst (λ (s : ReaderState H). IsTold answer_of after e later (after_withdraw_event s)) last_is afterwards)
            ]
          ]

    pub never_tells : (config : ReaderConfig) (handler : H) (room : Room) (e : Event) (first more later : List (ReaderCall H))
        → SubmitsNone e first → SubmitsNone e more → SubmitsNone e later
        → never_offered (after_calls answer_of after (first ++ SubmitEvent e ∷ more) (new_reader config handler room)).queue ≡ Some e
        → IsTold answer_of after e ((first ++ SubmitEvent e ∷ more) ++ WithdrawEvent ∷ later) (new_reader config handler room) → ⊥
    never_tells config handler room e first more later none_first none_more none is told =
        let r = new_reader config handler room in
        last_untold r e first more tt none_first none_more later none
        (subst (λ (s : ReaderState H). never_offered s.queue ≡ Some e) (last_is r e first more tt none_first none_more) is) told

    pub doubts_what_it_told : (config : ReaderConfig) (handler : H) (room : Room) (e : Event) (first more : List (ReaderCall H)) (k : ℕ)
        → SubmitsNone e first → SubmitsNone e more
        → IsTold answer_of after e (first ++ SubmitEvent e ∷ more) (new_reader config handler room)
        → let r = after_calls answer_of after (first ++ SubmitEvent e ∷ more) (new_reader config handler room) in
        slice_get r.queue.events k ≡ Some e → in_doubt r.queue ≡ Some e
    doubts_what_it_told config handler room e first more k none_first none_more told is =
        let r = new_reader config handler room in
        let same = last_is r e first more tt none_first none_more in
        let past = subst (λ (s : ReaderState H). IsPast e s) (sym same) (last_past r e first more tt none_first none_more told) in
        let s = after_calls answer_of after (first ++ SubmitEvent e ∷ more) r in
        doubt_past e s.queue.ever_offered s.queue.events k past is

    pub tells_no_more : (r : ReaderState H) (e : Event) (later : List (ReaderCall H)) → in_doubt r.queue ≡ Some e
        → HasNone e (drop 1 r.queue.events) → SubmitsNone e later → IsTold answer_of after e (LapseEvent ∷ later) r → ⊥
    tells_no_more r e later is h none told =
        elim told [
          | inl now ↦ now
          | inr afterwards ↦ gone_untold e later (after_lapse_event r) none (lapsed_gone e r.queue.ever_offered r.queue is h) afterwards
        ]

-- ---- one event leaves

withdrawn_front : (events : List Event)
    → ((slice_get events 0 ≡ None) × (drop 1 events ≡ events))
    ⊎ ((event : Event) × ((first : List Event) × ((rest : List Event)
    × (slice_get events 0 ≡ Some event) × (length first ≡ 0) × (events ≡ first ++ event ∷ rest) × (drop 1 events ≡ first ++ rest))))
withdrawn_front [] = inl (refl, refl)
withdrawn_front (x ∷ xs) = inr (x, ([], (xs, refl, refl, refl, refl)))

withdrawn_second : (events : List Event)
    → ((slice_get events 1 ≡ None) × (take 1 events ++ drop 2 events ≡ events))
    ⊎ ((event : Event) × ((first : List Event) × ((rest : List Event)
    × (slice_get events 1 ≡ Some event) × (length first ≡ 1) × (events ≡ first ++ event ∷ rest) × (take 1 events ++ drop 2 events ≡ first ++ rest))))
withdrawn_second [] = inl (refl, refl)
withdrawn_second (x ∷ []) = inl (refl, refl)
withdrawn_second (x ∷ y ∷ ys) = inr (y, ((x ∷ []), (ys, refl, refl, refl, refl)))

withdrawn_either : (ever : Bool) (events : List Event)
    → ((slice_get events (cond ever 1 0) ≡ None) × (cond ever (take 1 events ++ drop 2 events) (drop 1 events) ≡ events))
    ⊎ ((event : Event) × ((first : List Event) × ((rest : List Event)
    × (slice_get events (cond ever 1 0) ≡ Some event) × (length first ≡ cond ever 1 0) × (events ≡ first ++ event ∷ rest)
    × (cond ever (take 1 events ++ drop 2 events) (drop 1 events) ≡ first ++ rest))))
withdrawn_either true events = withdrawn_second events
withdrawn_either false events = withdrawn_front events

pub withdraws_one : (H : Type 0) → WithdrawsOne H
withdraws_one H r =
    let with = λ (events : List Event). record r { queue = record r.queue { events = events } } in
    elim (withdrawn_either r.queue.ever_offered r.queue.events) [
      | inl none ↦ inl (none.0, ap with none.1)
      | inr some ↦ inr (some.0, (some.1.0, (some.1.1.0, some.1.1.1, some.1.1.2, some.1.1.3, ap with some.1.1.4)))
    ]
