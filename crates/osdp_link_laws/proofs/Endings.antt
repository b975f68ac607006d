-- Each session ends once at most, and the next begins only then.
use Rattle.osdp_link_laws.proofs.Common.{◌≡◌, ◌+◌, ℕ, Bool, true, false, arith, List, [], ◌∷◌, ◌++◌, Option, Some, None, refl, ap, Packet, Command, Event, hears, seen, is_closed, ticks, ControllerFault, Report, Session, silent_frame, silent_tick, was_closed, HandlerAnswer, lacks_room, Delivered, Delivery, Link, Lost, Move, QueueEvent, Reopen, Repeated, RestartController, Retarget, Submit, Tick, ToController, ToReader, after_move, run, all_begun, reports, told_by, told_by_front}
use Rattle.std.specs.Prelude.{◌||◌, not, option_to_list}
use Rattle.osdp_controller.specs.Machine as controllers
use Rattle.osdp_controller_laws.specs.Commands.{TellsEnds, tells_end}
use Rattle.osdp_link_laws.specs.Ends.{EndOnce, count, ends_in, lasting, untold, untold_by}
use Rattle.osdp_link_laws.specs.Link as link
use Rattle.osdp_link_laws.specs.Sessions as sessions

-- a session that lasted lasts on, or its end is told
one_less : (closed told next : Bool) → next ≡ (closed || told) → (closed ≡ true → told ≡ false) → count told + lasting next ≡ lasting closed
one_less true true next is one = absurd (let none = one refl in cc)
one_less true false next is one = let e : lasting next ≡ 0 = ap lasting is in omega (arith, e)
one_less false true next is one = let e : lasting next ≡ 0 = ap lasting is in omega (arith, e)
one_less false false next is one = let e : lasting next ≡ 1 = ap lasting is in omega (arith, e)

ends_first : (r : Option Report) (rs : List Report) → ends_in (option_to_list r ++ rs) ≡ count (tells_end r) + ends_in rs
ends_first None rs = omega arith
ends_first (Some r) rs = refl

module _ {H : Type 0} (answer_of : H → Command → HandlerAnswer) (after : H → Command → H) where
  -- as many ends are told as sessions begin, but for those that last
  abbrev Counts : ℕ → ℕ → Link H → Link H → Type 0
  Counts told begun l next = told + lasting (is_closed next.controller.session.state) ≡ begun + lasting (is_closed l.controller.session.state)

  submitting : (refusal : Option ControllerFault) (c : Command) (l : Link H) → Counts 0 0 l (link.submits refusal c l)
  submitting (Some fault) c l = omega arith
  submitting None c l = omega arith

  queueing : (full : Bool) (e : Event) (l : Link H) → Counts 0 0 l (link.queues full e l)
  queueing true e l = omega arith
  queueing false e l = omega arith

  to_reader : (ps : List Packet) (how : Delivery) (l : Link H) → Counts 0 0 l (link.to_reader answer_of after ps how l)
  to_reader [] how l = omega arith
  to_reader (p ∷ ps) Delivered l = omega arith
  to_reader (p ∷ ps) Lost l = omega arith
  to_reader (p ∷ ps) Repeated l = omega arith

  module _ (told : (now : ℕ) (s : Session) → TellsEnds now s) where
    heard : (p : Packet) (now : ℕ) (l : Link H) → Counts (count (tells_end (hears p now l.controller.session).report)) 0 l (link.controller_gets p now l)
    heard p now l =
        let s = l.controller.session in
        let h = hears p now s in
        let less = one_less (is_closed s.state) (tells_end h.report) (is_closed h.session.state) ((told now s).closed_by_frame p) (silent_frame p now s) in
        omega (arith, less)

    to_controller : (qs : List Packet) (how : Delivery) (now : ℕ) (l : Link H)
        → Counts (count (tells_end (told_by_front how qs now l.controller.session))) 0 l (link.to_controller qs how now l)
    to_controller [] Delivered now l = omega arith
    to_controller [] Lost now l = omega arith
    to_controller [] Repeated now l = omega arith
    to_controller (q ∷ qs) Delivered now l = heard q now (record l { to_controller = qs })
    to_controller (q ∷ qs) Lost now l = omega arith
    to_controller (q ∷ qs) Repeated now l = heard q now l

    reopening : (refusal : Option ControllerFault) (ps qs : List Packet) (now : ℕ) (l : Link H) → controllers.begin_refusal l.controller ≡ refusal
        → Counts 0 (sessions.begun_again refusal ps qs) l (link.reopens refusal ps qs now l)
    reopening (Some fault) ps qs now l is = omega arith
    reopening None (p ∷ ps) qs now l is = omega arith
    reopening None [] (q ∷ qs) now l is = omega arith
    reopening None [] [] now l is =
        let closed : lasting (is_closed l.controller.session.state) ≡ 0 = ap (λ s. lasting (is_closed s)) (was_closed l.controller.session.state is) in
        omega (arith, closed)

    retargeting : (refusal : Option ControllerFault) (address : ℕ) (l : Link H) → Counts 0 0 l (link.retargets refusal address l)
    retargeting (Some fault) address l = omega arith
    retargeting None address l = omega arith

    -- a session that lasted has ended
    restarting : (closed : Bool) → count (not closed) ≡ lasting closed
    restarting true = refl
    restarting false = refl

    counts : (move : Move H) (l : Link H) → Counts (count (tells_end (told_by move l)) + untold_by move l) (sessions.begins answer_of after move l) l (after_move answer_of after move l)
    counts (Submit c) l = submitting (controllers.submit_refusal c l.controller) c l
    counts (QueueEvent e) l = queueing (lacks_room e l.reader.queue) e l
    counts (Tick now) l =
        let s = l.controller.session in
        let t = ticks now s l.controller.waiting in
        let less = one_less (is_closed s.state) (tells_end t.step.report) (is_closed t.session.state) ((told now s).closed_by_tick l.controller.waiting)
        (silent_tick s.state (seen now s) l.controller.waiting) in
        omega (arith, less)
    counts (ToReader how) l = to_reader l.to_reader how l
    counts (ToController how now) l = omega (arith, to_controller l.to_controller how now l)
    counts (Reopen now) l = reopening (controllers.begin_refusal l.controller) l.to_reader l.to_controller now l refl
    counts (Retarget address) l = retargeting (controllers.retarget_refusal address l.controller) address l
    counts (RestartController config room) l = omega (arith, restarting (is_closed l.controller.session.state))
    counts _ l = omega arith

    counts_all : (moves : List (Move H)) (l : Link H)
        → Counts (ends_in (reports answer_of after moves l) + untold answer_of after moves l) (all_begun answer_of after moves l) l (run answer_of after moves l)
    counts_all [] l = omega arith
    counts_all (move ∷ moves) l =
        let next = after_move answer_of after move l in
        let one = counts move l in
        let rest = counts_all moves next in
        let first = ends_first (told_by move l) (reports answer_of after moves next) in
        omega (arith, one, rest, first)

    pub end_once : EndOnce answer_of after
    end_once l moves b =
        let all = counts_all moves l in
        let lasts : lasting (is_closed l.controller.session.state) ≡ 1 = ap (λ s. lasting (is_closed s)) b.quiet.1 in
        omega (arith, all, lasts)
