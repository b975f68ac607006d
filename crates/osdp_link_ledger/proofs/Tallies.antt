-- What a history comes to, as plain lists: what each of its steps adds to them, and what each move does. No step is forgotten, and none is made up,
-- whatever goes over the line.
use Rattle.osdp_link_ledger.proofs.Common.{◌≡◌, ◌+◌, ◌++◌, ℕ, Bool, true, false, cond, ltb, List, [], ◌∷◌, map, Option, Some, None, refl, sym, ap, ◌∙◌, append_assoc, append-nil, map-append, option_to_list, Packet, event_in, Command, Id, Poll, Event, Reply, ticks, ControllerFault, Report, State, Quiet, EventQueue, in_doubt, lacks_room, never_offered, ReaderState, hears, kind_of, Answer, Kind, History, new_history, runs, steps_on, Act, Card, Lapse, Ledger, Order, Step, new_ledger, Delivered, Delivery, LapseEvent, Link, Lost, Move, QueueEvent, Repeated, Submit, Tick, ToController, ToReader, Withdraw, WithdrawEvent, after_move, Told, nothing_told, reports, told_by, told_by_front, with_reports, accepted, all_queued, all_submitted, queued, submitted, unless_full, acts, after_steps, all_steps, card_at, lapses_event, leaves, leaves_and_acts, leaving, offers, opens, order_acted, queued_before, queues, steps_before, steps_from, steps_of, submits, submitted_before, to_reader, told, acted_in_history, without_place, told_in_history, withdraws, withdraws_event, asked, all_done, done_by_front, done_in, taken_as}
use Rattle.std.specs.Prelude.{zip}
use Rattle.osdp_controller.specs.Machine.{submit_refusal, withdrawn_in}
use Rattle.osdp_controller.specs.declared.report.Report.TheVariants as report
use Rattle.osdp_reader.specs.declared.kind.Kind.TheVariants as kind
use Rattle.osdp_ledger.specs.Ledger as ledger
use Rattle.osdp_link_ledger.proofs.Lists.{commands, events}
use Rattle.osdp_link_ledger.proofs.Told.{order_is, report_tells, reports_more, step_tells, with_step}

pub commands_acted : (h : History) → map asked (acted_in_history h) ≡ map (λ (d : Order × Reply). d.0.command) h.acted
commands_acted h = of_acts h.acted
  where
    of_acts : (ds : List (Order × Reply)) → map asked (map without_place ds) ≡ map (λ (d : Order × Reply). d.0.command) ds
    of_acts [] = refl
    of_acts (d ∷ ds) = ap (λ cs. d.0.command ∷ cs) (of_acts ds)

pub record Tally : Type 0 where
  pub orders : List Command
  pub acted : List (Command × Reply)
  pub cards : List Event
  pub told : Told

abbrev of_history : History → Tally
of_history h = record { orders = commands h.accepted; acted = acted_in_history h; cards = events h.queued; told = told_in_history h }

-- ---- what a step adds

abbrev with_one : Step → Tally → Tally
with_one (ledger.Submit order) y = record y { orders = y.orders ++ order.command ∷ [] }
with_one (Act order answer) y = record y { acted = y.acted ++ (order.command, answer) ∷ [] }
with_one (ledger.Queue card) y = record y { cards = y.cards ++ card.event ∷ [] }
with_one step y = record y { told = with_step step y.told }

abbrev with_all : List Step → Tally → Tally
with_all [] y = y
with_all (step ∷ steps) y = with_all steps (with_one step y)

all_more : (xs ys : List Step) (y : Tally) → with_all (xs ++ ys) y ≡ with_all ys (with_all xs y)
all_more [] ys y = refl
all_more (x ∷ xs) ys y = all_more xs ys (with_one x y)

one_adds : (step : Step) (h : History) → of_history (steps_on step h) ≡ with_one step (of_history h)
one_adds (ledger.Submit o) h = (λ i. record (of_history h) { orders = map-append (λ (o : Order). o.command) h.accepted (o ∷ []) i })
one_adds (Act o answer) h = (λ i. record (of_history h) { acted = map-append without_place h.acted ((o, answer) ∷ []) i })
one_adds (ledger.Queue c) h = (λ i. record (of_history h) { cards = map-append (λ (c : Card). c.event) h.queued (c ∷ []) i })
one_adds step h = (λ i. record (of_history h) { told = step_tells step h i })

runs_add : (steps : List Step) (h : History) → of_history (runs steps h) ≡ with_all steps (of_history h)
runs_add [] h = refl
runs_add (step ∷ steps) h = runs_add steps (steps_on step h) ∙ ap (with_all steps) (one_adds step h)

-- what is added at once: commands that were accepted, those that were acted on with their answers, events, and reports
abbrev adding : List Command → List (Command × Reply) → List Event → List Report → Tally → Tally
adding cs ds es rs y = record { orders = y.orders ++ cs; acted = y.acted ++ ds; cards = y.cards ++ es; told = with_reports rs y.told }

none_added : (y : Tally) → y ≡ adding [] [] [] [] y
none_added y = (λ i. record y { orders = sym (append-nil y.orders) i; acted = sym (append-nil y.acted) i; cards = sym (append-nil y.cards) i })

acted_added : (ds : List (Command × Reply)) (y : Tally) → record y { acted = y.acted ++ ds } ≡ adding [] ds [] [] y
acted_added ds y = (λ i. record y { orders = sym (append-nil y.orders) i; acted = y.acted ++ ds; cards = sym (append-nil y.cards) i })

told_added : (rs : List Report) (y : Tally) → record y { told = with_reports rs y.told } ≡ adding [] [] [] rs y
told_added rs y =
    (λ i. record {
      orders = sym (append-nil y.orders) i;
      acted = sym (append-nil y.acted) i;
      cards = sym (append-nil y.cards) i;
      told = with_reports rs y.told;
    })

added_more : (cs more : List Command) (ds bs : List (Command × Reply)) (es fs : List Event) (rs qs : List Report) (y : Tally)
    → adding more bs fs qs (adding cs ds es rs y) ≡ adding (cs ++ more) (ds ++ bs) (es ++ fs) (rs ++ qs) y
added_more cs more ds bs es fs rs qs y =
    (λ i. record {
      orders = append_assoc y.orders cs more i;
      acted = append_assoc y.acted ds bs i;
      cards = append_assoc y.cards es fs i;
      told = sym (reports_more rs qs y.told) i;
    })

-- ---- the panel

submits_add : (refusal : Option ControllerFault) (c : Command) (g : Ledger) (y : Tally) → with_all (submits refusal c g) y ≡ adding (accepted refusal c) [] [] [] y
submits_add (Some fault) c g y = none_added y
submits_add None c g y = (λ i. record y { orders = y.orders ++ c ∷ []; acted = sym (append-nil y.acted) i; cards = sym (append-nil y.cards) i })

opens_add : (state : State) (frame : Option Packet) (y : Tally) → with_all (opens state frame) y ≡ y
opens_add (Quiet until) (Some frame) y = refl
opens_add (Quiet until) None y = refl
opens_add state frame y = refl

told_adds : (r : Option Report) (g : Ledger) (y : Tally) → with_all (told r g) y ≡ record y { told = with_reports (option_to_list r) y.told }
told_adds None g y = refl
told_adds (Some (report.Lost cause (Some c))) g y = (λ i. record y { told = report_tells (report.Lost cause (Some c)) g y.told i })
told_adds (Some (report.Lost cause None)) g y = (λ i. record y { told = report_tells (report.Lost cause None) g y.told i })
told_adds (Some r) g y = (λ i. record y { told = report_tells r g y.told i })

withdraws_add : (out : Option Command) (g : Ledger) (y : Tally) → with_all (withdraws out g) y ≡ y
withdraws_add None g y = refl
withdraws_add (Some c) g y = refl

-- ---- the device

queues_add : (full : Bool) (e : Event) (g : Ledger) (y : Tally) → with_all (queues full e g) y ≡ adding [] [] (unless_full full e) [] y
queues_add true e g y = none_added y
queues_add false e g y = (λ i. record y { orders = sym (append-nil y.orders) i; acted = sym (append-nil y.acted) i; cards = y.cards ++ e ∷ [] })

withdraws_event_add : (out : Option Event) (ever : Bool) (g : Ledger) (y : Tally) → with_all (withdraws_event out ever g) y ≡ y
withdraws_event_add None ever g y = refl
withdraws_event_add (Some e) ever g y = refl

lapses_add : (out : Option Event) (g : Ledger) (y : Tally) → with_all (lapses_event out g) y ≡ y
lapses_add None g y = refl
lapses_add (Some e) g y = by_test (ltb (card_at g.cards e).place g.shown)
  where
    by_test : (shown : Bool) → with_one (cond shown (Lapse (card_at g.cards e)) (ledger.WithdrawEvent (card_at g.cards e))) y ≡ y
    by_test true = refl
    by_test false = refl

leaves_add : (es : List Event) (g : Ledger) (y : Tally) → with_all (leaves es g) y ≡ y
leaves_add [] g y = refl
leaves_add (e ∷ es) g y = refl

offers_add : (e : Option Event) (g : Ledger) (y : Tally) → with_all (offers e g) y ≡ y
offers_add None g y = refl
offers_add (Some e) g y = refl

-- the command that is acted on, with its answer: one that is taken, or one with number 0 that opens no session
abbrev given_at_zero : Command → Reply → List (Command × Reply)
given_at_zero (Id kept) answer = []
given_at_zero c answer = (c, answer) ∷ []

abbrev pub given_as : Kind → Option Command → Option Reply → List (Command × Reply)
given_as kind.Zero (Some c) (Some answer) = given_at_zero c answer
given_as k c said = zip (taken_as k c) (option_to_list said)

abbrev with_given : List (Command × Reply) → Tally → Tally
with_given ds y = record y { acted = y.acted ++ ds }

none_given : (y : Tally) → y ≡ with_given [] y
none_given y = (λ i. record y { acted = sym (append-nil y.acted) i })

order_acts : (c : Command) (answer : Reply) (g : Ledger) (y : Tally) → with_one (Act (order_acted c g) answer) y ≡ with_given ((c, answer) ∷ []) y
order_acts c answer g y = (λ i. with_given ((order_is c g i, answer) ∷ []) y)

taken_adds : (c : Command) (answer : Reply) (g : Ledger) (y : Tally) → with_all (acts kind.Taken (Some c) (Some answer) g) y ≡ with_given (given_as kind.Taken (Some c) (Some answer)) y
taken_adds Poll answer g y = offers_add (event_in answer) g y ∙ none_given y
taken_adds c answer g y = order_acts c answer g y

zero_adds : (c : Command) (answer : Reply) (g : Ledger) (y : Tally) → with_all (acts kind.Zero (Some c) (Some answer) g) y ≡ with_given (given_at_zero c answer) y
zero_adds (Id kept) answer g y = none_given y
zero_adds c answer g y = order_acts c answer g y

unanswered : (c : Command) → given_as kind.Taken (Some c) None ≡ []
unanswered Poll = refl
unanswered c = refl

acts_add : (k : Kind) (c : Option Command) (said : Option Reply) (g : Ledger) (y : Tally) → with_all (acts k c said g) y ≡ with_given (given_as k c said) y
acts_add kind.Taken (Some c) (Some answer) g y = taken_adds c answer g y
acts_add kind.Zero (Some c) (Some answer) g y = zero_adds c answer g y
acts_add kind.Taken (Some c) None g y = none_given y ∙ (λ i. with_given (sym (unanswered c) i) y)
acts_add k c said g y = none_given y

gets_add : (k : Kind) (q : EventQueue) (c : Option Command) (said : Option Reply) (g : Ledger) (y : Tally)
    → with_all (leaves_and_acts k q c said g) y ≡ with_given (given_as k c said) y
gets_add k q c said g y =
    let left = leaves (leaving k q) g in
    all_more left (acts k c said (after_steps left g)) y
    ∙ ap (with_all (acts k c said (after_steps left g))) (leaves_add (leaving k q) g y)
    ∙ acts_add k c said (after_steps left g) y

module _ {H : Type 0} (answer_of : H → Command → Answer) (after : H → Command → H) where
  abbrev pub given_by : Packet → ReaderState H → List (Command × Reply)
  given_by p r = let o = hears answer_of after r p in given_as (kind_of r p) o.command o.said

  abbrev pub given_by_front : Delivery → List Packet → ReaderState H → List (Command × Reply)
  given_by_front how ps r = done_by_front answer_of after given_by how ps r

  abbrev pub given_in : Move H → Link H → List (Command × Reply)
  given_in move l = done_in answer_of after given_by move l

  abbrev pub all_given : List (Move H) → Link H → List (Command × Reply)
  all_given moves l = all_done answer_of after given_by moves l

  to_reader_adds : (how : Delivery) (ps : List Packet) (r : ReaderState H) (g : Ledger) (y : Tally)
      → with_all (to_reader answer_of after ps how r g) y ≡ with_given (given_by_front how ps r) y
  to_reader_adds Delivered [] r g y = none_given y
  to_reader_adds Lost [] r g y = none_given y
  to_reader_adds Repeated [] r g y = none_given y
  to_reader_adds Lost (p ∷ ps) r g y = none_given y
  to_reader_adds Delivered (p ∷ ps) r g y = let o = hears answer_of after r p in gets_add (kind_of r p) r.queue o.command o.said g y
  to_reader_adds Repeated (p ∷ ps) r g y = let o = hears answer_of after r p in gets_add (kind_of r p) r.queue o.command o.said g y

  -- ---- a move

  move_adds : (move : Move H) (l : Link H) (g : Ledger) (y : Tally)
      → with_all (steps_of answer_of after move l g) y ≡ adding (submitted move l) (given_in move l) (queued move l) (option_to_list (told_by move l)) y
  move_adds (Submit c) l g y = submits_add (submit_refusal c l.controller) c g y
  move_adds (QueueEvent e) l g y = queues_add (lacks_room e l.reader.queue) e g y
  move_adds (Tick now) l g y =
      let t = ticks now l.controller.session l.controller.waiting in
      let first = opens l.controller.session.state t.step.frame in
      all_more first (told t.step.report g) y
      ∙ ap (with_all (told t.step.report g)) (opens_add l.controller.session.state t.step.frame y)
      ∙ told_adds t.step.report g y ∙ told_added (option_to_list t.step.report) y
  move_adds (ToReader how) l g y = to_reader_adds how l.to_reader l.reader g y ∙ acted_added (given_by_front how l.to_reader l.reader) y
  move_adds (ToController how now) l g y =
      let r = told_by_front how l.to_controller now l.controller.session in told_adds r g y ∙ told_added (option_to_list r) y
  move_adds Withdraw l g y = withdraws_add (withdrawn_in l.controller.session.state l.controller.waiting) g y ∙ none_added y
  move_adds WithdrawEvent l g y = withdraws_event_add (never_offered l.reader.queue) l.reader.queue.ever_offered g y ∙ none_added y
  move_adds LapseEvent l g y = lapses_add (in_doubt l.reader.queue) g y ∙ none_added y
  move_adds _ l g y = none_added y

  moves_add : (moves : List (Move H)) (l : Link H) (g : Ledger) (y : Tally) → with_all (all_steps answer_of after moves l g) y
      ≡ adding (all_submitted answer_of after moves l) (all_given moves l) (all_queued answer_of after moves l) (reports answer_of after moves l) y
  moves_add [] l g y = none_added y
  moves_add (move ∷ moves) l g y =
      let steps = steps_of answer_of after move l g in
      let next = after_move answer_of after move l in
      let cs = all_submitted answer_of after moves next in
      let ds = all_given moves next in
      let es = all_queued answer_of after moves next in
      let rs = reports answer_of after moves next in
      all_more steps (all_steps answer_of after moves next (after_steps steps g)) y
      ∙ moves_add moves next (after_steps steps g) (with_all steps y)
      ∙ ap (adding cs ds es rs) (move_adds move l g y)
      ∙ added_more (submitted move l) cs (given_in move l) ds (queued move l) es (option_to_list (told_by move l)) rs y

-- ---- from the beginning

submitted_adds : (place : ℕ) (cs : List Command) (y : Tally) → with_all (submitted_before place cs) y ≡ record y { orders = y.orders ++ cs }
submitted_adds place [] y = (λ i. record y { orders = sym (append-nil y.orders) i })
submitted_adds place (c ∷ cs) y =
    submitted_adds (place + 1) cs (record y { orders = y.orders ++ c ∷ [] }) ∙ (λ i. record y { orders = append_assoc y.orders (c ∷ []) cs i })

queued_adds : (place : ℕ) (es : List Event) (y : Tally) → with_all (queued_before place es) y ≡ record y { cards = y.cards ++ es }
queued_adds place [] y = (λ i. record y { cards = sym (append-nil y.cards) i })
queued_adds place (e ∷ es) y =
    queued_adds (place + 1) es (record y { cards = y.cards ++ e ∷ [] }) ∙ (λ i. record y { cards = append_assoc y.cards (e ∷ []) es i })

module _ {H : Type 0} (answer_of : H → Command → Answer) (after : H → Command → H) where
  pub come_to : (moves : List (Move H)) (l : Link H) → of_history (runs (steps_from answer_of after moves l) new_history) ≡ record {
    orders = l.controller.waiting ++ all_submitted answer_of after moves l;
    acted = all_given answer_of after moves l;
    cards = l.reader.queue.events ++ all_queued answer_of after moves l;
    told = with_reports (reports answer_of after moves l) nothing_told;
  }
  come_to moves l =
      let first = submitted_before 0 l.controller.waiting in
      let second = queued_before 0 l.reader.queue.events in
      let more = all_steps answer_of after moves l (after_steps (steps_before l) new_ledger) in
      let none = of_history new_history in
      runs_add (steps_before l ++ more) new_history ∙ all_more (steps_before l) more none
      ∙ ap (with_all more) (all_more first second none ∙ ap (with_all second) (submitted_adds 0 l.controller.waiting none)
      ∙ queued_adds 0 l.reader.queue.events (record none { orders = l.controller.waiting }))
      ∙ moves_add answer_of after moves l (after_steps (steps_before l) new_ledger) (record none { orders = l.controller.waiting; cards = l.reader.queue.events })
