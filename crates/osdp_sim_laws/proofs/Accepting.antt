-- Which orders are accepted: by the room that there is.
use Rattle.osdp_sim_laws.proofs.Common.{◌≡◌, ◌⊎◌, ◌≤◌, ◌+◌, ◌-◌, ◌*◌, ℕ, zero, suc, arith, Bool, true, false, ◌==◌, if◌then◌else◌, eqb, List, [], ◌∷◌, ◌++◌, length, most_data, take, Option, Some, None, Result, Ok, Err, inl, inr, refl, sym, subst, ap, ◌∙◌, Packet, Command, Event, Machine, ControllerFault, Full, EventQueue, lacks_room, Answer, Kind, IsAmong, IsBeginning, all_queued, all_submitted, Delivered, Delivery, Link, Lost, Move, Repeated, IsSteady, both, Each, each_append, Account, FitAlong, SimState, Stops, run, set_up, StepFits, after_step, Cause, SimConfig, SimStep, Issue, Queue, Busy, Wait, ToReader, ToController, Reopen, AcceptsByRoom, IsAccepted, IsAcceptedByRoom, but_poll, commands_of, events_of, account_in, moves_of, step_clock, first_link, OneLink, IsRun}
use Rattle.osdp_msg.specs.CommandTable.{CommandFits}
use Rattle.osdp_msg.specs.Events.{EventFits}
use Rattle.osdp_msg.specs.declared.command.Command.TheVariants as command
use Rattle.osdp_msg.specs.declared.fault.MsgFault.{MsgFault}
use Rattle.osdp_controller.specs.Machine as controllers
use Rattle.osdp_reader.specs.Queue as queue
use Rattle.osdp_reader.specs.State.{ReaderState}
use Rattle.osdp_reader.specs.Table as reader
use Rattle.osdp_reader.specs.declared.kind.Kind.TheVariants as kind
use Rattle.osdp_link_laws.specs.Link as link
use Rattle.osdp_link_laws.specs.Sessions as sessions
use Rattle.osdp_sim_laws.specs.Accepted.{commands_for, events_for, if_named}
use Rattle.osdp_sim_laws.proofs.Holding.{run_of, schedule_is_moves}
use Rattle.osdp_sim_laws.proofs.Room.{FewCommands, FewEvents, OrderFits, ShortCommands, ShortEvents, dropped, no_room_for_command, no_room_for_event, one_more_command, one_more_event, orders_fit, same_few, stay_short, tick_few}

-- a step that brings neither a command nor an event
abbrev pub IsNoOrder : SimStep → Type 0
IsNoOrder (Issue number command) = ⊥
IsNoOrder (Queue number event) = ⊥
IsNoOrder _ = Unit {0}

-- ---- lists that are accepted

none_accepted : {A : Type 0} (room : ℕ) → IsAccepted {A = A} room [] []
none_accepted {A} room = record { every = λ fits. refl; first = by_room room; among = refl }
  where
    by_room : (n : ℕ) → IsBeginning (take {A = A} n []) []
    by_room zero = ([], refl)
    by_room (suc n) = ([], refl)

one_accepted : {A : Type 0} (room : ℕ) (x : A) (all new : List A) → IsAccepted (room - 1) all new → IsAccepted room (x ∷ all) (x ∷ new)
one_accepted {A} room x all new is = record {
  every = λ fits. ap (λ l. x ∷ l) (is.every (omega (arith, fits)));
  first = by_room room is.first;
  among = inr (new, refl, is.among);
}
  where
    by_room : (n : ℕ) → IsBeginning (take (n - 1) all) new → IsBeginning (take n (x ∷ all)) (x ∷ new)
    by_room zero begins = (x ∷ new, refl)
    by_room (suc n) begins = let less : suc n - 1 ≡ n = omega arith in (begins.0, ap (λ l. x ∷ l) (begins.1 ∙ ap (λ k. take k all ++ begins.0) less))

one_refused : {A : Type 0} (room : ℕ) (x : A) (all new : List A) → room ≡ 0 → IsAccepted room all new → IsAccepted room (x ∷ all) new
one_refused {A} room x all new full is = record {
  every = λ fits. absurd (omega (arith, fits, full));
  first = subst (λ k. IsBeginning (take k (x ∷ all)) new) (sym full) (new, refl);
  among = inl is.among;
}

-- no more than there are
pub among_few : {A : Type 0} (some all : List A) → IsAmong some all → length some ≤ length all
among_few some [] none = omega (arith, ap length none)
among_few some (x ∷ all) (inl is) = omega (arith, among_few some all is)
among_few some (x ∷ all) (inr (rest, is, more)) = omega (arith, ap length is, among_few rest all more)

all_of : (n : ℕ) → n - 0 ≡ n
all_of n = omega arith

-- ---- what a packet leaves

-- a POLL is refused, and any other command where it has no room
pub submit_is : (c : Command) (m : Machine) → ((controllers.submit_refusal c m ≡ None → ⊥) × (but_poll c ≡ []))
    ⊎ ((controllers.submit_refusal c m ≡ (if controllers.has_room c m then None else Some Full)) × (but_poll c ≡ c ∷ []))
submit_is command.Poll m = inl (λ e. absurd cc, refl)
submit_is c m = inr (refl, refl)

-- ---- what moves order

-- the orders of a schedule have their fields in their ranges
named_fits : (named : Bool) (c : Command) → CommandFits c → Each CommandFits (if named then but_poll c else [])
named_fits false c fits = tt
named_fits true command.Poll fits = tt
named_fits true c fits = (fits, tt)

named_event_fits : (named : Bool) (e : Event) → EventFits e → Each EventFits (if named then e ∷ [] else [])
named_event_fits false e fits = tt
named_event_fits true e fits = (fits, tt)

pub orders_for_fit : (reader : ℕ) (list : List SimStep) → Each OrderFits list → Each CommandFits (commands_for reader list) × Each EventFits (events_for reader list)
orders_for_fit reader [] fit = (tt, tt)
orders_for_fit reader (Issue number c ∷ list) fit =
    let rest = orders_for_fit reader list fit.1 in
    (each_append CommandFits (if_named reader number (but_poll c)) (commands_for reader list) (named_fits (number == reader) c fit.0) rest.0, rest.1)
orders_for_fit reader (Queue number e ∷ list) fit =
    let rest = orders_for_fit reader list fit.1 in
    (rest.0, each_append EventFits (if_named reader number (e ∷ [])) (events_for reader list) (named_event_fits (number == reader) e fit.0) rest.1)
orders_for_fit reader (step ∷ list) fit = orders_for_fit reader list fit.1

module _ {H : Type 0} where
  -- the commands that moves order, but POLL
  abbrev pub commands_in : List (Move H) → List Command
  commands_in [] = []
  commands_in (link.Submit c ∷ ms) = but_poll c ++ commands_in ms
  commands_in (m ∷ ms) = commands_in ms

  -- .. and the events
  abbrev pub events_in : List (Move H) → List Event
  events_in [] = []
  events_in (link.Queue e ∷ ms) = e ∷ events_in ms
  events_in (m ∷ ms) = events_in ms

  -- neither a command nor an event
  abbrev pub OrdersNone : Move H → Type 0
  OrdersNone (link.Submit c) = ⊥
  OrdersNone (link.Queue e) = ⊥
  OrdersNone m = Unit {0}

  -- these commands and events, in their order
  abbrev SameOrders : List (Move H) → List Command → List Event → Type 0
  SameOrders ms cs es = (commands_in ms ≡ cs) × (events_in ms ≡ es)

  named_command : (there : Bool) (c : Command) (ms : List (Move H))
      → SameOrders ((if there then link.Submit c ∷ [] else []) ++ ms) ((if there then but_poll c else []) ++ commands_in ms) (events_in ms)
  named_command true c ms = (refl, refl)
  named_command false c ms = (refl, refl)

  named_event : (there : Bool) (e : Event) (ms : List (Move H))
      → SameOrders ((if there then link.Queue e ∷ [] else []) ++ ms) (commands_in ms) ((if there then e ∷ [] else []) ++ events_in ms)
  named_event true e ms = (refl, refl)
  named_event false e ms = (refl, refl)

  named_other : (there : Bool) (m : Move H) (ms : List (Move H)) → SameOrders (m ∷ ms) (commands_in ms) (events_in ms)
      → SameOrders ((if there then m ∷ [] else []) ++ ms) (commands_in ms) (events_in ms)
  named_other true m ms same = same
  named_other false m ms same = (refl, refl)

-- the moves of a schedule order what its steps do
orders_are : (H : Type 0) (list : List SimStep) (clock : ℕ) → SameOrders {H = H} (moves_of {H = H} list clock) (commands_of list) (events_of list)
orders_are H [] clock = (refl, refl)
orders_are H (Issue number c ∷ list) clock =
    let rest = orders_are H list clock in
    let here = named_command (number == 1) c (moves_of {H = H} list clock) in
    (here.0 ∙ ap (λ cs. if_named 1 number (but_poll c) ++ cs) rest.0, here.1 ∙ rest.1)
orders_are H (Queue number e ∷ list) clock =
    let rest = orders_are H list clock in
    let here = named_event (number == 1) e (moves_of {H = H} list clock) in
    (here.0 ∙ rest.0, here.1 ∙ ap (λ es. if_named 1 number (e ∷ []) ++ es) rest.1)
orders_are H (Busy number busy ∷ list) clock =
    let rest = orders_are H list clock in
    let here = named_other (number == 1) (link.SetBusy busy) (moves_of {H = H} list clock) (refl, refl) in (here.0 ∙ rest.0, here.1 ∙ rest.1)
orders_are H (Wait wait ∷ list) clock = orders_are H list (step_clock (Wait wait) clock)
orders_are H (ToReader move ∷ list) clock = orders_are H list clock
orders_are H (ToController move ∷ list) clock = orders_are H list clock
orders_are H (Reopen number ∷ list) clock =
    let rest = orders_are H list clock in
    let here = named_other (number == 1) (link.Reopen clock) (moves_of {H = H} list clock) (refl, refl) in (here.0 ∙ rest.0, here.1 ∙ rest.1)

module _ {H : Type 0} where
  moved_few : (to : Option ℕ) (q : EventQueue) (r : ReaderState H) → FewEvents q r.queue → FewEvents q (reader.moved to r).queue
  moved_few None q r is = is
  moved_few (Some address) q r is =
      both (λ (s : ReaderState H). FewEvents q s.queue) (eqb address r.config.address) r
      (record r { config = record r.config { address = address }; last = None; stored = None }) is is

module _ {H : Type 0} (answer_of : H → Command → Answer) (after : H → Command → H) where
  begun_few : (c : Result Command MsgFault) (r : ReaderState H) (p : Packet) → FewEvents r.queue (reader.begun answer_of after c r p).reader.queue
  begun_few (Err fault) r p = same_few
  begun_few (Ok c) r p = moved_few (reader.new_address c) r.queue _ (same_few)

  taken_few : (c : Result Command MsgFault) (r : ReaderState H) (p : Packet) → FewEvents r.queue (reader.taken answer_of after c r p).reader.queue
  taken_few (Err fault) r p =
      let fewer = dropped r.queue.offered r.queue.events in
      record { messages = fewer.0; bytes = fewer.1; capacity = refl; ample = refl }
  taken_few (Ok c) r p =
      let fewer = dropped r.queue.offered r.queue.events in
      moved_few (reader.new_address c) r.queue _ (record { messages = fewer.0; bytes = fewer.1; capacity = refl; ample = refl })

  outcome_few : (k : Kind) (r : ReaderState H) (p : Packet) → FewEvents r.queue (reader.outcome answer_of after k r p).reader.queue
  outcome_few kind.Zero r p = begun_few (reader.command_in p) r p
  outcome_few kind.Taken r p = taken_few (reader.command_in p) r p
  outcome_few _ r p = same_few

  -- ---- what a move leaves

  -- no more wait at either end
  abbrev Leaves : Link H → Link H → Type 0
  Leaves l n = FewCommands l.controller n.controller × FewEvents l.reader.queue n.reader.queue

  submits_leave : (fault : Option ControllerFault) (c : Command) (l : Link H) → FewEvents l.reader.queue (link.submits fault c l).reader.queue
  submits_leave (Some fault) c l = same_few
  submits_leave None c l = same_few

  queues_leave : (full : Bool) (e : Event) (l : Link H) → FewCommands l.controller (link.queues full e l).controller
  queues_leave true e l = same_few
  queues_leave false e l = same_few

  reader_leaves : (how : Delivery) (ps : List Packet) (l : Link H) → Leaves l (link.to_reader answer_of after ps how l)
  reader_leaves how [] l = (same_few, same_few)
  reader_leaves Delivered (p ∷ ps) l = (same_few, outcome_few (reader.kind_of l.reader p) l.reader p)
  reader_leaves Lost (p ∷ ps) l = (same_few, same_few)
  reader_leaves Repeated (p ∷ ps) l = (same_few, outcome_few (reader.kind_of l.reader p) l.reader p)

  controller_leaves : (how : Delivery) (qs : List Packet) (now : ℕ) (l : Link H) → Leaves l (link.to_controller qs how now l)
  controller_leaves how [] now l = (same_few, same_few)
  controller_leaves Delivered (q ∷ qs) now l = (same_few, same_few)
  controller_leaves Lost (q ∷ qs) now l = (same_few, same_few)
  controller_leaves Repeated (q ∷ qs) now l = (same_few, same_few)

  reopens_leave : (fault : Option ControllerFault) (ps qs : List Packet) (now : ℕ) (l : Link H) → Leaves l (link.reopens fault ps qs now l)
  reopens_leave (Some fault) ps qs now l = (same_few, same_few)
  reopens_leave None (p ∷ ps) qs now l = (same_few, same_few)
  reopens_leave None [] (q ∷ qs) now l = (same_few, same_few)
  reopens_leave None [] [] now l = (same_few, same_few)

  move_leaves : (m : Move H) (l : Link H) → IsSteady m → OrdersNone m → Leaves l (link.after_move answer_of after m l)
  move_leaves (link.Submit c) l steady none = absurd none
  move_leaves (link.Queue e) l steady none = absurd none
  move_leaves (link.SetBusy busy) l steady none = (same_few, same_few)
  move_leaves (link.Tick now) l steady none =
      let few = tick_few l.controller.session.state _ l.controller.waiting in
      (record { messages = few.0; bytes = few.1; capacity = refl; ample = refl }, same_few)
  move_leaves (link.ToReader how) l steady none = reader_leaves how l.to_reader l
  move_leaves (link.ToController how now) l steady none = controller_leaves how l.to_controller now l
  move_leaves (link.Reopen now) l steady none = reopens_leave (controllers.begin_refusal l.controller) l.to_reader l.to_controller now l
  move_leaves m l steady none = absurd steady

  -- ---- commands

  -- so from each link that these moves are made from
  abbrev Commands : List (Move H) → Type 0
  Commands ms = (k : ℕ) (l : Link H) → ShortCommands k l.controller → Each CommandFits (commands_in ms)
      → IsAccepted (l.controller.capacity - k) (commands_in ms) (all_submitted answer_of after ms l)

  commands_kept : (ms : List (Move H)) → Commands ms → (k : ℕ) (l n : Link H) → FewCommands l.controller n.controller → ShortCommands k l.controller
      → Each CommandFits (commands_in ms) → IsAccepted (l.controller.capacity - k) (commands_in ms) (all_submitted answer_of after ms n)
  commands_kept ms rest k l n leaves few fit =
      subst (λ places. IsAccepted (places - k) (commands_in ms) (all_submitted answer_of after ms n)) leaves.capacity
      (rest k n (stay_short k leaves few) fit)

  submit_accepts : (c : Command) (ms : List (Move H)) → Commands ms → Commands (link.Submit c ∷ ms)
  submit_accepts c ms rest k l few fit = elim (submit_is c l.controller) [
    | inl (refused, poll) ↦ subst (λ cs. Goal cs (controllers.submit_refusal c l.controller)) (sym poll)
        (no_order (controllers.submit_refusal c l.controller) refused (subst (λ cs. Each CommandFits (cs ++ commands_in ms)) poll fit))
    | inr (is, one) ↦ let fits : Each CommandFits (c ∷ commands_in ms) = subst (λ cs. Each CommandFits (cs ++ commands_in ms)) one fit in
        subst (λ cs. Goal cs (controllers.submit_refusal c l.controller)) (sym one)
        (subst (Goal (c ∷ [])) (sym is) (by_room (controllers.has_room c l.controller) fits (no_room_for_command k c l.controller few fits.0)))
  ]
    where
      Goal : List Command → Option ControllerFault → Type 0
      Goal cs fault = IsAccepted (l.controller.capacity - k) (cs ++ commands_in ms)
          (sessions.accepted fault c ++ all_submitted answer_of after ms (link.submits fault c l))

      no_order : (fault : Option ControllerFault) → (fault ≡ None → ⊥) → Each CommandFits (commands_in ms) → Goal [] fault
      no_order None refused fits = absurd (refused refl)
      no_order (Some fault) refused fits = rest k l few fits

      by_room : (room : Bool) → Each CommandFits (c ∷ commands_in ms) → (room ≡ false → l.controller.capacity ≤ k)
          → Goal (c ∷ []) (if room then None else Some Full)
      by_room true fits full =
          let next = link.submits None c l in
          let less : l.controller.capacity - (k + 1) ≡ l.controller.capacity - k - 1 = omega arith in
          one_accepted (l.controller.capacity - k) c (commands_in ms) (all_submitted answer_of after ms next)
          (subst (λ n. IsAccepted n (commands_in ms) (all_submitted answer_of after ms next)) less (rest (k + 1) next (one_more_command k c l.controller fits.0 few) fits.1))
      by_room false fits full =
          one_refused (l.controller.capacity - k) c (commands_in ms) (all_submitted answer_of after ms l) (omega (arith, full refl)) (rest k l few fits.1)

  pub accepts_commands : (ms : List (Move H)) → Each IsSteady ms → Commands ms
  accepts_commands [] steady k l few fit = none_accepted (l.controller.capacity - k)
  accepts_commands (link.Submit c ∷ ms) steady k l few fit = submit_accepts c ms (accepts_commands ms steady.1) k l few fit
  accepts_commands (link.Queue e ∷ ms) steady k l few fit =
      commands_kept ms (accepts_commands ms steady.1) k l (link.after_move answer_of after (link.Queue e) l) (queues_leave (lacks_room e l.reader.queue) e l) few fit
  accepts_commands (m ∷ ms) steady k l few fit =
      commands_kept ms (accepts_commands ms steady.1) k l (link.after_move answer_of after m l) (move_leaves m l steady.0 tt).0 few fit

  -- ---- events

  abbrev Events : List (Move H) → Type 0
  Events ms = (k : ℕ) (l : Link H) → ShortEvents k l.reader.queue → Each EventFits (events_in ms)
      → IsAccepted (l.reader.queue.capacity - k) (events_in ms) (all_queued answer_of after ms l)

  events_kept : (ms : List (Move H)) → Events ms → (k : ℕ) (l n : Link H) → FewEvents l.reader.queue n.reader.queue → ShortEvents k l.reader.queue
      → Each EventFits (events_in ms) → IsAccepted (l.reader.queue.capacity - k) (events_in ms) (all_queued answer_of after ms n)
  events_kept ms rest k l n leaves few fit =
      subst (λ places. IsAccepted (places - k) (events_in ms) (all_queued answer_of after ms n)) leaves.capacity
      (rest k n (stay_short k leaves few) fit)

  queue_accepts : (e : Event) (ms : List (Move H)) → Events ms → Events (link.Queue e ∷ ms)
  queue_accepts e ms rest k l few fit = by_full (lacks_room e l.reader.queue) (no_room_for_event k e l.reader.queue few fit.0)
    where
      by_full : (full : Bool) → (full ≡ true → l.reader.queue.capacity ≤ k) → IsAccepted (l.reader.queue.capacity - k) (e ∷ events_in ms)
          (sessions.unless_full full e ++ all_queued answer_of after ms (link.queues full e l))
      by_full true is =
          one_refused (l.reader.queue.capacity - k) e (events_in ms) (all_queued answer_of after ms l) (omega (arith, is refl)) (rest k l few fit.1)
      by_full false is =
          let next = link.queues false e l in
          let less : l.reader.queue.capacity - (k + 1) ≡ l.reader.queue.capacity - k - 1 = omega arith in
          one_accepted (l.reader.queue.capacity - k) e (events_in ms) (all_queued answer_of after ms next)
          (subst (λ n. IsAccepted n (events_in ms) (all_queued answer_of after ms next)) less (rest (k + 1) next (one_more_event k e l.reader.queue fit.0 few) fit.1))

  pub accepts_events : (ms : List (Move H)) → Each IsSteady ms → Events ms
  accepts_events [] steady k l few fit = none_accepted (l.reader.queue.capacity - k)
  accepts_events (link.Queue e ∷ ms) steady k l few fit = queue_accepts e ms (accepts_events ms steady.1) k l few fit
  accepts_events (link.Submit c ∷ ms) steady k l few fit =
      events_kept ms (accepts_events ms steady.1) k l (link.after_move answer_of after (link.Submit c) l) (submits_leave (controllers.submit_refusal c l.controller) c l) few fit
  accepts_events (m ∷ ms) steady k l few fit =
      events_kept ms (accepts_events ms steady.1) k l (link.after_move answer_of after m l) (move_leaves m l steady.0 tt).1 few fit

  -- ---- from where nothing waits

  pub commands_by_room : (room : ℕ) (ms : List (Move H)) (l : Link H) → Each IsSteady ms → l.controller.waiting ≡ [] → l.controller.capacity ≡ room
      → l.controller.room ≡ room * (1 + most_data) → Each CommandFits (commands_in ms) → IsAccepted room (commands_in ms) (all_submitted answer_of after ms l)
  commands_by_room room ms l steady none places bytes fit =
      subst (λ n. IsAccepted n (commands_in ms) (all_submitted answer_of after ms l)) (all_of l.controller.capacity ∙ places)
      (accepts_commands ms steady 0 l (record {
        few = omega (arith, ap length none);
        bytes = omega (arith, ap controllers.bytes_waiting none);
        ample = bytes ∙ ap (λ (n : ℕ). n * (1 + most_data)) (sym places);
      }) fit)

  pub events_by_room : (room : ℕ) (ms : List (Move H)) (l : Link H) → Each IsSteady ms → l.reader.queue.events ≡ [] → l.reader.queue.capacity ≡ room
      → l.reader.queue.room ≡ room * (1 + most_data) → Each EventFits (events_in ms) → IsAccepted room (events_in ms) (all_queued answer_of after ms l)
  events_by_room room ms l steady none places bytes fit =
      subst (λ n. IsAccepted n (events_in ms) (all_queued answer_of after ms l)) (all_of l.reader.queue.capacity ∙ places)
      (accepts_events ms steady 0 l (record {
        few = omega (arith, ap length none);
        bytes = omega (arith, ap queue.bytes_waiting none);
        ample = bytes ∙ ap (λ (n : ℕ). n * (1 + most_data)) (sym places);
      }) fit)

  -- ---- a schedule

  order_fits : (step : SimStep) (s : SimState H) → StepFits answer_of after step s → OrderFits step
  order_fits (Issue number command) s fits = fits
  order_fits (Queue number event) s fits = fits
  order_fits step s fits = tt

  pub accepted : OneLink answer_of after → (config : SimConfig) (handler : H) (list : List SimStep) → IsRun answer_of after config handler list
      → IsAcceptedByRoom config list (run answer_of after list (set_up config handler)).account
  accepted given config handler list is =
      let l = first_link config handler in
      let ms = moves_of list 0 in
      let a = (run answer_of after list (set_up config handler)).account in
      let its = run_of answer_of after given config handler list is in
      let tells = (schedule_is_moves answer_of after given config handler list is.settings is.well is.fits).tells in
      let orders = orders_are H list 0 in
      let fit = orders_for_fit 1 list (orders_fit (after_step answer_of after) (StepFits answer_of after) order_fits list (set_up config handler) is.fits) in
      record {
        issued = subst (λ cs. IsAccepted config.commands cs a.issued) orders.0 (subst (IsAccepted config.commands (commands_in ms)) (sym tells.issued)
            (commands_by_room config.commands ms l its.steady refl refl refl (subst (Each CommandFits) (sym orders.0) fit.0)));
        queued = subst (λ es. IsAccepted config.events es a.queued) orders.1 (subst (IsAccepted config.events (events_in ms)) (sym tells.queued)
            (events_by_room config.events ms l its.steady refl refl refl (subst (Each EventFits) (sym orders.1) fit.1)));
      }

  pub accepts_by_room : OneLink answer_of after → AcceptsByRoom answer_of after
  accepts_by_room given config handler list (Ok account) is =
      subst (IsAcceptedByRoom config list) (sym is.ends.2) (accepted given config handler list (record { settings = is.ends.0; well = is.ends.1; fits = is.fits }))
  accepts_by_room given config handler list (Err fault) is = by_step fault.step fault.cause (account_in (Err fault)) is.ends is.fits
    where
      by_step : (at : ℕ) (why : Cause) (lists : Account) → Stops answer_of after at why lists config handler list
          → FitAlong answer_of after (take (at - 1) list) (set_up config handler) → IsAcceptedByRoom config (take (at - 1) list) lists
      by_step zero why lists stops fits =
          subst (IsAcceptedByRoom config []) (sym stops.1) (record { issued = none_accepted config.commands; queued = none_accepted config.events })
      by_step (suc before) why lists stops fits =
          subst (IsAcceptedByRoom config (take (suc before - 1) list)) (sym stops.1.account)
          (accepted given config handler (take (suc before - 1) list) (record { settings = stops.0; well = stops.1.well; fits = fits }))
