-- What ordinary moves show: steps by which nobody loses power, nothing is taken back and no event lapses.
use Rattle.osdp_link_ledger.proofs.Common.{◌+◌, ℕ, Bool, true, false, List, [], ◌∷◌, Option, Some, None, Packet, event_in, Command, Id, Poll, Event, Reply, ticks, ControllerFault, Report, State, Quiet, lacks_room, ReaderState, hears, kind_of, Answer, Kind, Act, Card, Close, Doubt, Lapse, Leave, Ledger, Offers, Open, Order, Reports, RestartDevice, RestartPanel, Settle, Step, new_ledger, Delivered, Delivery, Link, Lost, Move, Repeated, RestartController, RestartReader, Tick, ToController, ToReader, after_move, told_by_front, each_all, each_append, each_map, each_of, Each, acts, acts_at_zero, acts_on, after_steps, all_steps, gets, leaves, leaving, offers, opens, queued_before, queues, steps_before, steps_from, steps_of, submits, submitted_before, to_reader, told}
use Rattle.osdp_controller.specs.Machine.{submit_refusal}
use Rattle.osdp_controller.specs.declared.report.Report.TheVariants as report
use Rattle.osdp_reader.specs.declared.kind.Kind.TheVariants as kind
use Rattle.osdp_ledger.specs.Plain.{IsPlain, PlainStepsEndTold}
use Rattle.osdp_ledger.specs.Ledger as ledger
use Rattle.osdp_link_laws.specs.Link as link
use Rattle.osdp_link_laws.specs.Ordinary.{IsOrdinary}
use Rattle.osdp_link_ledger.specs.Ordinary.{OrdinaryMovesEndTold}

-- ---- what the device has done, and what is reported

abbrev pub IsDone : Step → Type 0
IsDone (Act order answer) = Unit {0}
IsDone (Settle order answer) = Unit {0}
IsDone (Doubt order) = Unit {0}
IsDone Close = Unit {0}
IsDone (Offers card) = Unit {0}
IsDone (Reports card) = Unit {0}
IsDone (Leave card) = Unit {0}
IsDone _ = ⊥

done_plain : (step : Step) → IsDone step → IsPlain step
done_plain (ledger.Withdraw order) done = absurd done
done_plain (ledger.WithdrawEvent card) done = absurd done
done_plain (Lapse card) done = absurd done
done_plain RestartDevice done = absurd done
done_plain (RestartPanel on_wire) done = absurd done
done_plain _ done = tt

pub are_plain : (steps : List Step) → Each IsDone steps → Each IsPlain steps
are_plain steps done = each_map IsDone IsPlain done_plain steps done

-- ---- the panel

pub submits_plain : (fault : Option ControllerFault) (c : Command) (g : Ledger) → Each IsPlain (submits fault c g)
submits_plain None c g = (tt, tt)
submits_plain (Some fault) c g = tt

pub opens_open : (P : Step → Type 0) → P Open → (state : State) (sent : Option Packet) → Each P (opens state sent)
opens_open P is (Quiet until) (Some frame) = (is, tt)
opens_open P is (Quiet until) None = tt
opens_open P is _ sent = tt

pub told_done : (r : Option Report) (g : Ledger) → Each IsDone (told r g)
told_done None g = tt
told_done (Some (report.Opened id)) g = tt
told_done (Some (report.Settled command answer)) g = (tt, tt)
told_done (Some (report.Moved command answered)) g = (tt, (tt, tt))
told_done (Some (report.Event event)) g = (tt, tt)
told_done (Some (report.PollAnswered answer)) g = tt
told_done (Some (report.Unread command code)) g = (tt, tt)
told_done (Some (report.Lost cause (Some command))) g = (tt, tt)
told_done (Some (report.Lost cause None)) g = (tt, tt)

-- ---- the device

pub queues_plain : (full : Bool) (e : Event) (g : Ledger) → Each IsPlain (queues full e g)
queues_plain true e g = tt
queues_plain false e g = (tt, tt)

module _ (P : Step → Type 0) (act : (order : Order) (answer : Reply) → P (Act order answer)) (offer : (card : Card) → P (Offers card))
    (leave : (card : Card) → P (Leave card)) where
  leaves_each : (es : List Event) (g : Ledger) → Each P (leaves es g)
  leaves_each [] g = tt
  leaves_each (e ∷ es) g = (leave _, tt)

  offers_each : (e : Option Event) (g : Ledger) → Each P (offers e g)
  offers_each None g = tt
  offers_each (Some e) g = (offer _, tt)

  acts_on_each : (c : Command) (answer : Reply) (g : Ledger) → Each P (acts_on c answer g)
  acts_on_each Poll answer g = offers_each (event_in answer) g
  acts_on_each c answer g = (act _ answer, tt)

  acts_at_zero_each : (c : Command) (answer : Reply) (g : Ledger) → Each P (acts_at_zero c answer g)
  acts_at_zero_each (Id kept) answer g = tt
  acts_at_zero_each c answer g = (act _ answer, tt)

  acts_each : (k : Kind) (c : Option Command) (said : Option Reply) (g : Ledger) → Each P (acts k c said g)
  acts_each kind.Taken (Some c) (Some answer) g = acts_on_each c answer g
  acts_each kind.Zero (Some c) (Some answer) g = acts_at_zero_each c answer g
  acts_each _ c said g = tt

  pub gets_each : {H : Type 0} (answer_of : H → Command → Answer) (after : H → Command → H) (p : Packet) (r : ReaderState H) (g : Ledger)
      → Each P (gets answer_of after p r g)
  gets_each answer_of after p r g =
      let o = hears answer_of after r p in
      let left = leaves (leaving (kind_of r p) r.queue) g in
      each_append P left (acts (kind_of r p) o.command o.said (after_steps left g))
      (leaves_each (leaving (kind_of r p) r.queue) g) (acts_each (kind_of r p) o.command o.said (after_steps left g))

-- ---- from the beginning

submitted_plain : (place : ℕ) (cs : List Command) → Each IsPlain (submitted_before place cs)
submitted_plain place [] = tt
submitted_plain place (c ∷ cs) = (tt, submitted_plain (place + 1) cs)

pub queued_plain : (place : ℕ) (es : List Event) → Each IsPlain (queued_before place es)
queued_plain place [] = tt
queued_plain place (e ∷ es) = (tt, queued_plain (place + 1) es)

module _ {H : Type 0} (answer_of : H → Command → Answer) (after : H → Command → H) where
  pub gets_done : (p : Packet) (r : ReaderState H) (g : Ledger) → Each IsDone (gets answer_of after p r g)
  gets_done p r g = gets_each IsDone (λ order answer. tt) (λ card. tt) (λ card. tt) answer_of after p r g

  to_reader_plain : (ps : List Packet) (how : Delivery) (r : ReaderState H) (g : Ledger) → Each IsPlain (to_reader answer_of after ps how r g)
  to_reader_plain [] how r g = tt
  to_reader_plain (p ∷ ps) Delivered r g = are_plain (gets answer_of after p r g) (gets_done p r g)
  to_reader_plain (p ∷ ps) Lost r g = tt
  to_reader_plain (p ∷ ps) Repeated r g = are_plain (gets answer_of after p r g) (gets_done p r g)

  -- ---- moves

  move_plain : (m : Move H) (l : Link H) (g : Ledger) → IsOrdinary m → Each IsPlain (steps_of answer_of after m l g)
  move_plain (link.Submit c) l g ordinary = submits_plain (submit_refusal c l.controller) c g
  move_plain (link.Queue e) l g ordinary = queues_plain (lacks_room e l.reader.queue) e g
  move_plain (Tick now) l g ordinary =
      let t = ticks now l.controller.session l.controller.waiting in
      each_append IsPlain (opens l.controller.session.state t.step.frame) (told t.step.report g) (opens_open IsPlain tt l.controller.session.state t.step.frame) (are_plain (told t.step.report g) (told_done t.step.report g))
  move_plain (ToReader how) l g ordinary = to_reader_plain l.to_reader how l.reader g
  move_plain (ToController how now) l g ordinary =
      let r = told_by_front how l.to_controller now l.controller.session in are_plain (told r g) (told_done r g)
  move_plain link.Withdraw l g ordinary = absurd ordinary
  move_plain link.WithdrawEvent l g ordinary = absurd ordinary
  move_plain link.LapseEvent l g ordinary = absurd ordinary
  move_plain (RestartReader config handler room) l g ordinary = absurd ordinary
  move_plain (RestartController config room) l g ordinary = absurd ordinary
  move_plain _ l g ordinary = tt

  moves_plain : (ms : List (Move H)) (l : Link H) (g : Ledger) → Each IsOrdinary ms → Each IsPlain (all_steps answer_of after ms l g)
  moves_plain [] l g ordinary = tt
  moves_plain (m ∷ ms) l g ordinary =
      let steps = steps_of answer_of after m l g in
      let next = after_move answer_of after m l in
      each_append IsPlain steps (all_steps answer_of after ms next (after_steps steps g)) (move_plain m l g ordinary.0)
      (moves_plain ms next (after_steps steps g) ordinary.1)

  pub link_plain : (ms : List (Move H)) (l : Link H) → Each IsOrdinary ms → Each IsPlain (steps_from answer_of after ms l)
  link_plain ms l ordinary =
      let submitted = submitted_before 0 l.controller.waiting in
      let queued = queued_before 0 l.reader.queue.events in
      each_append IsPlain (steps_before l) (all_steps answer_of after ms l (after_steps (steps_before l) new_ledger))
      (each_append IsPlain submitted queued (submitted_plain 0 l.controller.waiting) (queued_plain 0 l.reader.queue.events))
      (moves_plain ms l (after_steps (steps_before l) new_ledger) ordinary)

  pub ordinary_moves_end_told : PlainStepsEndTold → OrdinaryMovesEndTold answer_of after
  ordinary_moves_end_told told l moves ordinary =
      let steps = steps_from answer_of after moves l in
      told steps (each_all IsPlain steps (link_plain moves l (each_of IsOrdinary moves ordinary)))
