-- A line that is cleared, whatever the steps before were.
use Rattle.osdp_sim_laws.proofs.Common.{◌≡◌, ◌≤◌, ◌+◌, ℕ, Bool, true, false, ◌==◌, if◌then◌else◌, arith, List, [], ◌∷◌, length, Option, Some, None, refl, sym, subst, ap, length-append, option_to_list, Packet, Command, Event, ticks, ControllerFault, Answer, lacks_room, Delivered, Delivery, Link, Lost, Repeated, Each, SimStep, Issue, Queue, Busy, Wait, ToReader, ToController, Reopen, IsInSession, step_clock, delivery, move_of, moves_of, clear, losses}
use Rattle.osdp_controller.specs.Machine as controllers
use Rattle.osdp_reader.specs.Table as reader
use Rattle.osdp_link_laws.specs.Link as link
use Rattle.osdp_sim_laws.proofs.Schedules.{run_both}

one_at_most : {A : Type 0} (o : Option A) → length (option_to_list o) ≤ 1
one_at_most None = omega arith
one_at_most (Some x) = omega arith

pub no_more : {A : Type 0} (xs : List A) → length xs ≤ 0 → xs ≡ []
no_more [] few = refl
no_more (x ∷ xs) few = absurd (omega (arith, few))

pub losses_within : (steps : List SimStep) → Each IsInSession (losses steps)
losses_within [] = tt
losses_within (step ∷ steps) = (tt, (tt, losses_within steps))

module _ {H : Type 0} where
  -- how much is on the line at most
  abbrev pub AtMost : ℕ → Link H → Type 0
  AtMost n l = (length l.to_reader ≤ n) × (length l.to_controller ≤ n)

  more : (n : ℕ) (l : Link H) → AtMost n l → AtMost (n + 1) l
  more n l few = (omega (arith, few.0), omega (arith, few.1))

  submits_few : (n : ℕ) (fault : Option ControllerFault) (c : Command) (l : Link H) → AtMost n l → AtMost (n + 1) (link.submits fault c l)
  submits_few n (Some fault) c l few = more n l few
  submits_few n None c l few = (omega (arith, few.0), omega (arith, few.1))

  queues_few : (n : ℕ) (full : Bool) (e : Event) (l : Link H) → AtMost n l → AtMost (n + 1) (link.queues full e l)
  queues_few n true e l few = more n l few
  queues_few n false e l few = (omega (arith, few.0), omega (arith, few.1))

  begins_few : (n : ℕ) (fault : Option ControllerFault) (ps qs : List Packet) (now : ℕ) (l : Link H) → AtMost n l → AtMost (n + 1) (link.reopens fault ps qs now l)
  begins_few n (Some fault) ps qs now l few = more n l few
  begins_few n None (p ∷ ps) qs now l few = more n l few
  begins_few n None [] (q ∷ qs) now l few = more n l few
  begins_few n None [] [] now l few = (omega (arith, few.0), omega (arith, few.1))

  controller_few : (n : ℕ) (how : Delivery) (qs : List Packet) (now : ℕ) (l : Link H) → l.to_controller ≡ qs → AtMost n l → AtMost (n + 1) (link.to_controller qs how now l)
  controller_few n how [] now l is few = more n l few
  controller_few n Delivered (q ∷ qs) now l is few = let size = ap length is in (omega (arith, few.0), omega (arith, few.1, size))
  controller_few n Lost (q ∷ qs) now l is few = let size = ap length is in (omega (arith, few.0), omega (arith, few.1, size))
  controller_few n Repeated (q ∷ qs) now l is few = (omega (arith, few.0), omega (arith, few.1))

  module _ (answer_of : H → Command → Answer) (after : H → Command → H) where
    gets_few : (n : ℕ) (p : Packet) (l : Link H) → AtMost n l → AtMost (n + 1) (link.reader_gets answer_of after p l)
    gets_few n p l few =
        let o = (reader.hears answer_of after l.reader p).reply in
        (omega (arith, few.0), omega (arith, few.1, length-append l.to_controller (option_to_list o), one_at_most o))

    reader_few : (n : ℕ) (how : Delivery) (ps : List Packet) (l : Link H) → l.to_reader ≡ ps → AtMost n l → AtMost (n + 1) (link.to_reader answer_of after ps how l)
    reader_few n how [] l is few = more n l few
    reader_few n Delivered (p ∷ ps) l is few =
        let size = ap length is in gets_few n p (record l { to_reader = ps }) (omega (arith, few.0, size), few.1)
    reader_few n Lost (p ∷ ps) l is few = let size = ap length is in (omega (arith, few.0, size), omega (arith, few.1))
    reader_few n Repeated (p ∷ ps) l is few = gets_few n p l few

    where_few : (n : ℕ) (there : Bool) (m : link.Move H) (l : Link H) → AtMost n l → AtMost (n + 1) (link.after_move answer_of after m l)
        → AtMost (n + 1) (link.run answer_of after (if there then m ∷ [] else []) l)
    where_few n true m l few later = later
    where_few n false m l few later = more n l few

    -- a step puts a packet into each direction at most
    step_few : (n : ℕ) (step : SimStep) (clock : ℕ) (l : Link H) → AtMost n l → AtMost (n + 1) (link.run answer_of after (move_of step clock) l)
    step_few n (Issue number c) clock l few =
        where_few n (number == 1) (link.Submit c) l few (submits_few n (controllers.submit_refusal c l.controller) c l few)
    step_few n (Queue number e) clock l few =
        where_few n (number == 1) (link.Queue e) l few (queues_few n (lacks_room e l.reader.queue) e l few)
    step_few n (Busy number busy) clock l few =
        where_few n (number == 1) (link.SetBusy busy) l few (omega (arith, few.0), omega (arith, few.1))
    step_few n (Wait wait) clock l few =
        let o = (ticks (step_clock (Wait wait) clock) l.controller.session l.controller.waiting).step.frame in
        (omega (arith, few.0, length-append l.to_reader (option_to_list o), one_at_most o), omega (arith, few.1))
    step_few n (ToReader move) clock l few = reader_few n (delivery move) l.to_reader l refl few
    step_few n (ToController move) clock l few = controller_few n (delivery move) l.to_controller clock l refl few
    step_few n (Reopen number) clock l few =
        where_few n (number == 1) (link.Reopen clock) l few (begins_few n (controllers.begin_refusal l.controller) l.to_reader l.to_controller clock l few)

    pub steps_few : (n : ℕ) (steps : List SimStep) (clock : ℕ) (l : Link H) → AtMost n l → AtMost (n + length steps) (link.run answer_of after (moves_of steps clock) l)
    steps_few n [] clock l few = (omega (arith, few.0), omega (arith, few.1))
    steps_few n (step ∷ steps) clock l few =
        let now = step_clock step clock in
        let rest = steps_few (n + 1) steps now (link.run answer_of after (move_of step clock) l) (step_few n step clock l few) in
        subst (AtMost (n + length (step ∷ steps))) (sym (run_both answer_of after (move_of step clock) (moves_of steps now) l))
        (omega (arith, rest.0), omega (arith, rest.1))

    -- ---- losses

    pub record Cleared (l : Link H) : Type 0 where
      pub to_reader : l.to_reader ≡ []
      pub to_controller : l.to_controller ≡ []
      pub ready : l.reader.busy ≡ false

    lost_reader : (n : ℕ) (ps : List Packet) (l : Link H) → l.to_reader ≡ ps → AtMost (n + 1) l → l.reader.busy ≡ false
        → (length (link.to_reader answer_of after ps Lost l).to_reader ≤ n) × (length (link.to_reader answer_of after ps Lost l).to_controller ≤ n + 1)
        × ((link.to_reader answer_of after ps Lost l).reader.busy ≡ false)
    lost_reader n [] l is few ready = let size = ap length is in (omega (arith, size), few.1, ready)
    lost_reader n (p ∷ ps) l is few ready = let size = ap length is in (omega (arith, few.0, size), few.1, ready)

    lost_controller : (n : ℕ) (qs : List Packet) (now : ℕ) (l : Link H) → l.to_controller ≡ qs → length l.to_reader ≤ n → length l.to_controller ≤ n + 1 → l.reader.busy ≡ false
        → AtMost n (link.to_controller qs Lost now l) × ((link.to_controller qs Lost now l).reader.busy ≡ false)
    lost_controller n [] now l is few small ready = let size = ap length is in ((few, omega (arith, size)), ready)
    lost_controller n (q ∷ qs) now l is few small ready = let size = ap length is in ((few, omega (arith, small, size)), ready)

    cleared : (steps : List SimStep) (clock : ℕ) (l : Link H) → AtMost (length steps) l → l.reader.busy ≡ false
        → Cleared (link.run answer_of after (moves_of (losses steps) clock) l)
    cleared [] clock l few ready = record { to_reader = no_more l.to_reader few.0; to_controller = no_more l.to_controller few.1; ready = ready }
    cleared (step ∷ steps) clock l few ready =
        let n = length steps in
        let first = lost_reader n l.to_reader l refl (omega (arith, few.0), omega (arith, few.1)) ready in
        let next = link.after_move answer_of after (link.ToReader Lost) l in
        let last = lost_controller n next.to_controller clock next refl first.0 first.1 first.2 in
        cleared steps clock (link.after_move answer_of after (link.ToController Lost clock) next) last.0 last.1

    pub clears : (steps : List SimStep) (clock : ℕ) (l : Link H) → AtMost (length steps) l → Cleared (link.run answer_of after (moves_of (clear steps) clock) l)
    clears steps clock l few = cleared steps clock (link.after_move answer_of after (link.SetBusy false) l) few refl
