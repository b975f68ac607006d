-- How many sessions the ledger of a link opens: no more than have begun.
use Rattle.osdp_sim_laws.proofs.Common.{◌≡◌, ◌≤◌, ◌+◌, ℕ, Bool, true, false, List, [], ◌∷◌, ◌++◌, Option, Some, None, refl, ap, arith, Packet, Command, Event, ControllerFault, Session, State, Closed, Idle, Pausing, Quiet, Waiting, seen, hears, Heard, stays, Ticked, ticks, ticks_in, tries_again, idle_way, begins as begins_exchange, gives_up, sends_frame, lacks_room, Answer, Begins, Delivered, Delivery, Link, Lost, Move, Repeated, after_move, IsSteady, told_by_front, leb, ltb, both, Each}
use Rattle.osdp_controller.specs.Answers.{meaning_of}
use Rattle.osdp_controller.specs.Machine as controllers
use Rattle.osdp_controller.specs.declared.exchange.Exchange.TheVariants.{Opening}
use Rattle.osdp_controller.specs.declared.meaning.ReplyMeaning.{ReplyMeaning}
use Rattle.osdp_controller_laws.proofs.Common.{numbered_in}
use Rattle.osdp_controller_laws.proofs.Frames.{OfEach, either_frame, of_pause, of_wait}
use Rattle.osdp_ledger.specs.History.{History, new_history, runs, steps_on}
use Rattle.osdp_ledger.specs.Ledger.{Ledger, Open, Step, new_ledger}
use Rattle.osdp_link_laws.specs.Link as link
use Rattle.osdp_link_laws.specs.Sessions.{all_begun, begins, begun_again}
use Rattle.osdp_link_ledger.specs.Steps.{after_steps, all_steps, opens, queued_before, queues, steps_before, steps_from, steps_of, submits, submitted_before, to_reader, told}
use Rattle.osdp_link_ledger.proofs.Plain.{IsDone, gets_done, told_done}

-- ---- steps that open a session

abbrev opened : List Step → ℕ
opened [] = 0
opened (Open ∷ steps) = 1 + opened steps
opened (step ∷ steps) = opened steps

opened_then : (xs ys : List Step) → opened (xs ++ ys) ≡ opened xs + opened ys
opened_then [] ys = omega arith
opened_then (Open ∷ xs) ys = omega (arith, opened_then xs ys)
opened_then (x ∷ xs) ys = opened_then xs ys

sessions_more : (steps : List Step) (h : History) → (runs steps h).sessions ≡ h.sessions + opened steps
sessions_more [] h = omega arith
sessions_more (Open ∷ steps) h = omega (arith, sessions_more steps (steps_on Open h))
sessions_more (step ∷ steps) h = sessions_more steps (steps_on step h)

none_done : (steps : List Step) → Each IsDone steps → opened steps ≡ 0
none_done [] done = refl
none_done (Open ∷ steps) done = absurd done.0
none_done (step ∷ steps) done = none_done steps done.1

none_submitted : (place : ℕ) (cs : List Command) → opened (submitted_before place cs) ≡ 0
none_submitted place [] = refl
none_submitted place (c ∷ cs) = none_submitted (place + 1) cs

none_queued : (place : ℕ) (es : List Event) → opened (queued_before place es) ≡ 0
none_queued place [] = refl
none_queued place (e ∷ es) = none_queued (place + 1) es

-- ---- a session that has begun, whose first packet hasn't gone out

abbrev awaits : State → ℕ
awaits (Quiet until) = 1
awaits _ = 0

abbrev IsNone : Heard → Type 0
IsNone h = awaits h.session.state ≤ 0

none_each : (s : Session) → awaits s.state ≡ 0 → OfEach IsNone s
none_each s none = record {
  ignored = omega (arith, none);
  rested = λ told. omega arith;
  moved = λ d command. omega arith;
  lost = λ cause o. omega arith;
}

numbered_few : (state : State) (a : ReplyMeaning) (s : Session) → s.state ≡ state → awaits (numbered_in state a s).session.state ≤ awaits state
numbered_few (Waiting until sends o) a s e = of_wait IsNone s (none_each s (ap awaits e)) a sends o (omega arith) (omega arith)
numbered_few (Pausing until o) a s e = of_pause IsNone s (none_each s (ap awaits e)) a o
numbered_few state a s e = let same = ap awaits e in omega (arith, same)

frame_few : (p : Packet) (now : ℕ) (s : Session) → awaits (hears p now s).session.state ≤ awaits s.state
frame_few p now s =
    either_frame (λ h. awaits h.session.state ≤ awaits s.state) p now s (λ from number. numbered_few s.state (meaning_of p) (seen now s) refl) (omega arith)

-- it opens where its first packet goes out
abbrev OpensFew : State → Ticked → Type 0
OpensFew state t = opened (opens state t.step.frame) + awaits t.session.state ≤ awaits state

tick_in_few : (state : State) (s : Session) (waiting : List Command) → s.state ≡ state → OpensFew state (ticks_in state s waiting)
tick_in_few Closed s waiting e = let same = ap awaits e in omega (arith, same)
tick_in_few (Quiet until) s waiting e =
    let same = ap awaits e in
    both (OpensFew (Quiet until)) (leb until s.greatest) (begins_exchange Opening 0 s waiting) (stays s waiting) (omega arith) (omega (arith, same))
tick_in_few (Idle due) s waiting e =
    let same = ap awaits e in idle_way (OpensFew (Idle due)) due s waiting (λ reached. omega arith) (λ ahead. omega (arith, same)) (λ c rest is. omega arith)
tick_in_few (Waiting until k o) s waiting e =
    let same = ap awaits e in
    both (OpensFew (Waiting until k o)) (leb until s.greatest) (tries_again k o s waiting) (stays s waiting)
    (both (OpensFew (Waiting until k o)) (ltb k s.config.sends) (sends_frame (k + 1) o s waiting) (gives_up o s waiting) (omega arith) (omega arith))
    (omega (arith, same))
tick_in_few (Pausing until o) s waiting e =
    let same = ap awaits e in
    both (OpensFew (Pausing until o)) (leb until s.greatest) (sends_frame 1 o s waiting) (stays s waiting) (omega arith) (omega (arith, same))

module _ {H : Type 0} where
  abbrev link_awaits : Link H → ℕ
  link_awaits l = awaits l.controller.session.state

  submits_few : (fault : Option ControllerFault) (c : Command) (l : Link H) (g : Ledger) → opened (submits fault c g) + link_awaits (link.submits fault c l) ≤ link_awaits l
  submits_few None c l g = omega arith
  submits_few (Some fault) c l g = omega arith

  queues_few : (full : Bool) (e : Event) (l : Link H) (g : Ledger) → opened (queues full e g) + link_awaits (link.queues full e l) ≤ link_awaits l
  queues_few true e l g = omega arith
  queues_few false e l g = omega arith

  reopens_few : (fault : Option ControllerFault) (ps qs : List Packet) (now : ℕ) (l : Link H)
      → link_awaits (link.reopens fault ps qs now l) ≤ link_awaits l + begun_again fault ps qs
  reopens_few (Some fault) ps qs now l = omega arith
  reopens_few None (p ∷ ps) qs now l = omega arith
  reopens_few None [] (q ∷ qs) now l = omega arith
  reopens_few None [] [] now l = omega arith

  to_controller_few : (how : Delivery) (qs : List Packet) (now : ℕ) (l : Link H) → link_awaits (link.to_controller qs how now l) ≤ link_awaits l
  to_controller_few how [] now l = omega arith
  to_controller_few Delivered (q ∷ qs) now l = frame_few q now l.controller.session
  to_controller_few Lost (q ∷ qs) now l = omega arith
  to_controller_few Repeated (q ∷ qs) now l = frame_few q now l.controller.session

  module _ (answer_of : H → Command → Answer) (after : H → Command → H) where
    to_reader_few : (how : Delivery) (ps : List Packet) (l : Link H) (g : Ledger)
        → opened (to_reader answer_of after ps how l.reader g) + link_awaits (link.to_reader answer_of after ps how l) ≤ link_awaits l
    to_reader_few how [] l g = omega arith
    to_reader_few Delivered (p ∷ ps) l g = omega (arith, none_done _ (gets_done answer_of after p l.reader g))
    to_reader_few Lost (p ∷ ps) l g = omega arith
    to_reader_few Repeated (p ∷ ps) l g = omega (arith, none_done _ (gets_done answer_of after p l.reader g))

    move_few : (m : Move H) (l : Link H) (g : Ledger) → IsSteady m
        → opened (steps_of answer_of after m l g) + link_awaits (after_move answer_of after m l) ≤ link_awaits l + begins answer_of after m l
    move_few (link.Submit c) l g steady = omega (arith, submits_few (controllers.submit_refusal c l.controller) c l g)
    move_few (link.Queue e) l g steady = omega (arith, queues_few (lacks_room e l.reader.queue) e l g)
    move_few (link.SetBusy busy) l g steady = omega arith
    move_few (link.Tick now) l g steady =
        let t = ticks now l.controller.session l.controller.waiting in
        let few = tick_in_few l.controller.session.state (seen now l.controller.session) l.controller.waiting refl in
        omega (arith, few, opened_then (opens l.controller.session.state t.step.frame) (told t.step.report g), none_done (told t.step.report g) (told_done t.step.report g))
    move_few (link.ToReader how) l g steady = omega (arith, to_reader_few how l.to_reader l g)
    move_few (link.ToController how now) l g steady =
        let r = told_by_front how l.to_controller now l.controller.session in
        omega (arith, to_controller_few how l.to_controller now l, none_done (told r g) (told_done r g))
    move_few (link.Reopen now) l g steady = omega (arith, reopens_few (controllers.begin_refusal l.controller) l.to_reader l.to_controller now l)
    move_few _ l g steady = absurd steady

    moves_few : (ms : List (Move H)) (l : Link H) (g : Ledger) → Each IsSteady ms
        → opened (all_steps answer_of after ms l g) + link_awaits (link.run answer_of after ms l) ≤ link_awaits l + all_begun answer_of after ms l
    moves_few [] l g steady = omega arith
    moves_few (m ∷ ms) l g steady =
        let steps = steps_of answer_of after m l g in
        let next = after_move answer_of after m l in
        let more = all_steps answer_of after ms next (after_steps steps g) in
        omega (arith, opened_then steps more, move_few m l g steady.0, moves_few ms next (after_steps steps g) steady.1)

    -- from where a first session has begun
    pub sessions_few : (ms : List (Move H)) (l : Link H) → Begins l → Each IsSteady ms
        → (runs (steps_from answer_of after ms l) new_history).sessions ≤ 1 + all_begun answer_of after ms l
    sessions_few ms l begun steady =
        let submitted = submitted_before 0 l.controller.waiting in
        let queued = queued_before 0 l.reader.queue.events in
        let g = after_steps (steps_before l) new_ledger in
        let one = ap awaits begun.quiet.1 in
        let counted = sessions_more (steps_from answer_of after ms l) new_history in
        let then_ = opened_then (steps_before l) (all_steps answer_of after ms l g) in
        let before = opened_then submitted queued in
        omega (arith, one, counted, then_, before, none_submitted 0 l.controller.waiting, none_queued 0 l.reader.queue.events, moves_few ms l g steady)
