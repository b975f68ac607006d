-- What each move does to what is ahead of a session: as much goes as is told.
use Rattle.osdp_link_laws.proofs.Common.{◌≡◌, ◌≤◌, ◌+◌, ℕ, ◌==◌, Bool, true, false, cond, is_some, List, [], ◌∷◌, ◌++◌, length, drop, take, Option, Some, None, Ok, refl, sym, subst, ap, ◌∙◌, inl, inr, arith, length-append, option_to_list, Packet, event_in, Command, Event, Reply, exchange_command, seen, Ticked, ticks, ControllerConfig, Exchange, Opening, Polling, Asking, Report, Session, Queue, event_for, offering, released, unoffered, ReaderState, ReaderConfig, begun, command_in, event_or_answer, moved, new_address, outcome, taken, reply_packet, Answer, Kind, Delivered, Delivery, Lost, Repeated, Link, kind_of}
use Rattle.osdp_msg.specs.declared.command.Command.TheVariants as command
use Rattle.osdp_msg.specs.declared.event.Event.TheVariants as event
use Rattle.osdp_controller.specs.declared.report.Report.TheVariants as report
use Rattle.osdp_reader.specs.declared.kind.Kind.TheVariants as kind
use Rattle.osdp_link_laws.specs.Ahead.{unoffered_events}
use Rattle.osdp_link_laws.specs.Link as link
use Rattle.osdp_link_laws.specs.Reports.{tells_one, told_in}
use Rattle.osdp_link_laws.proofs.Acting.{leaves_shown}
use Rattle.osdp_link_laws.proofs.Ahead.{count_at, is_first, is_first_at, untold_by}
use Rattle.osdp_link_laws.proofs.Answering.{same_some}
use Rattle.osdp_link_laws.proofs.Coming.{Announces, BeginsFrom, HearsTo, KeepsDue, KeepsOrders, Reads, ReadsFront, TicksTo, reported_in, settled_in, standing_at}
use Rattle.osdp_link_laws.proofs.Lines.{both}
use Rattle.osdp_link_laws.proofs.Reports.{tick_so}
use Rattle.osdp_link_laws.proofs.Since.{Hears, has_acted}
use Rattle.osdp_link_laws.proofs.Stages.{After, Before, Behind, Fresh, IsStage, Level, Never, Now, Past, ReaderAt, Rest, Restarted, Stage, Start, number_after, owed, owed_at, pending, pending_at, shown, shown_at, unreported_at}
use Rattle.osdp_link_laws.proofs.Telling.{hears_tell, ticks_alike}

-- ---- reports

-- how many a move tells
abbrev pub tells : Option Report → ℕ
tells None = 0
tells (Some r) = tells_one r

pub told_first : (r : Option Report) (rs : List Report) → told_in (option_to_list r ++ rs) ≡ tells r + told_in rs
told_first None rs = omega arith
told_first (Some r) rs = refl

announced : (r : Option Report) → tells r ≡ length (settled_in r) + length (reported_in r)
announced None = refl
announced (Some (report.Settled c a)) = refl
announced (Some (report.Moved c a)) = refl
announced (Some (report.Event e)) = refl
announced (Some _) = refl

-- a tick settles and reports nothing
pub tick_announces : (now : ℕ) (s : Session) (ws : List Command) → Announces (ticks now s ws).step.report [] []
tick_announces now s ws = tick_so (λ r. Announces r [] []) (refl, refl) (λ o. (refl, refl)) s.state (seen now s) ws

hears_untold : (since : Restarted) (events : List Event) → Hears since → untold_by since events ≡ events
hears_untold Never events hears = refl
hears_untold Before events hears = refl
hears_untold Now events hears = absurd hears

-- ---- a queue

-- the event that stands in front of the queue, where it is offered
abbrev front_at : Stage → List Event
front_at (Behind (After n y b) x) = shown y b
front_at (Level (After n y b) x a) = shown x a
front_at (Rest n x a) = shown x a
front_at _ = []

none_in_front : (offered : Bool) (events : List Event) → length events ≡ length {A = Event} (cond offered [] []) + length events
none_in_front true events = omega arith
none_in_front false events = omega arith

shown_in_front : (x : Exchange) (a : Reply) (q : Queue) → q.events ≡ cond q.offered (shown x a) [] ++ (released q).events
    → length q.events ≡ length (cond q.offered (shown x a) []) + length (released q).events
shown_in_front x a q is = ap (λ es. length es) is ∙ length-append (cond q.offered (shown x a) []) (released q).events

module _ (fixed : ControllerConfig) {H : Type 0} where
  -- the events of the queue are the one in front and those that wait
  pub queue_is : (since : Restarted) (at : Stage) (r : ReaderState H) → Hears since → IsStage at → ReaderAt fixed since at r
      → length r.queue.events ≡ length (cond r.queue.offered (front_at at) []) + length (unoffered_events (is_first_at at) r.queue)
  queue_is since Fresh r hears stage is = none_in_front r.queue.offered r.queue.events
  queue_is since (Behind Start x) r hears stage is = none_in_front r.queue.offered r.queue.events
  queue_is since (Behind (After n y b) x) r hears stage is =
      shown_in_front y b r.queue (leaves_shown y b r.queue (has_acted fixed since n y b r hears is).offer)
  queue_is since (Level Start x a) r hears stage is = none_in_front r.queue.offered r.queue.events
  queue_is since (Level (After n y b) x a) r hears stage is =
      shown_in_front x a r.queue (leaves_shown x a r.queue (has_acted fixed since (number_after (After n y b)) x a r hears is).offer)
  queue_is since (Rest n x a) r hears stage is = shown_in_front x a r.queue (leaves_shown x a r.queue (has_acted fixed since n x a r hears is).offer)

-- no more wait than the queue has
fewer : (first : Bool) (q : Queue) → length (unoffered_events first q) ≤ length q.events
fewer true q = omega arith
fewer false q = less q.offered q.events
  where
    less : (offered : Bool) (events : List Event) → length (cond offered (drop 1 events) events) ≤ length events
    less false events = omega arith
    less true [] = omega arith
    less true (e ∷ events) = omega arith

-- ---- a tick

begins_first : (at to : Stage) → BeginsFrom at to → is_first_at to ≡ is_first_at at
begins_first Fresh to (x, is) = ap is_first_at is
begins_first (Rest n y b) to (x, is) = ap is_first_at is
begins_first _ to begins = absurd begins

ticks_first : (t : Ticked) (at to : Stage) → TicksTo t at to → is_first_at to ≡ is_first_at at
ticks_first t at to (inl is) = ap is_first_at is
ticks_first t at to (inr begins) = begins_first at to begins.0

pub ticks_leave : (since : Restarted) (at to : Stage) (t : Ticked) (ws : List Command) (q : Queue) → Announces t.step.report [] [] → TicksTo t at to
    → KeepsOrders at to ws t.waiting → tells t.step.report + count_at since to t.waiting q ≡ count_at since at ws q
ticks_leave since at to t ws q none comes waits =
    let told = ticks_alike since at to t comes in
    let settled = ap (λ xs. length xs) none.0 in
    let reported = ap (λ xs. length xs) none.1 in
    let all = ap (λ cs. length cs) waits in
    let before = length-append (pending_at at) ws in
    let afterwards = length-append (pending_at to) t.waiting in
    let owing : length (owed_at to) ≡ length (owed_at at) = ap length told.owing in
    let untold : length (untold_by since (unreported_at to)) ≡ length (untold_by since (unreported_at at)) = ap (λ es. length (untold_by since es)) told.untold in
    let rest = ap (λ b. length (unoffered_events b q)) (ticks_first t at to comes) in
    let one = announced t.step.report in
    omega (arith, settled, reported, all, before, afterwards, owing, untold, rest, one)

-- ---- a packet comes to the controller

module _ (fixed : ControllerConfig) {H : Type 0} where
  -- where the session opens no event counts as offered
  opens_queue : (since : Restarted) (past : Past) (x : Exchange) (a : Reply) (r : ReaderState H) → Hears since → IsStage (Level past x a) → ReaderAt fixed since (Level past x a) r
      → length (unoffered_events (is_first past) r.queue) ≡ length (released r.queue).events
  opens_queue since (After n y b) x a r hears stage is = refl
  opens_queue since Start Opening a r hears stage is =
      let all = shown_in_front Opening a r.queue (leaves_shown Opening a r.queue (has_acted fixed since 0 Opening a r hears is).offer) in
      let none = none_in_front r.queue.offered r.queue.events in
      omega (arith, all, none)
  opens_queue since Start Polling a r hears stage is = absurd stage.1
  opens_queue since Start (Asking c) a r hears stage is = absurd stage.1

  hears_queue : (since : Restarted) (at to : Stage) (o : Option Report) (r : ReaderState H) → Hears since → IsStage at → ReaderAt fixed since at r → HearsTo o at to
      → length (unoffered_events (is_first_at at) r.queue) ≡ length (unoffered_events (is_first_at to) r.queue)
  hears_queue since Fresh to o r hears stage is comes = ap (λ z. length (unoffered_events (is_first_at z) r.queue)) (sym comes.0)
  hears_queue since (Behind past x) to o r hears stage is comes = ap (λ z. length (unoffered_events (is_first_at z) r.queue)) (sym comes.0)
  hears_queue since (Rest n x a) to o r hears stage is comes = ap (λ z. length (unoffered_events (is_first_at z) r.queue)) (sym comes.0)
  hears_queue since (Level past x a) to o r hears stage is (inl same) = ap (λ z. length (unoffered_events (is_first_at z) r.queue)) (sym same.0)
  hears_queue since (Level past x a) to o r hears stage is (inr answered) =
      opens_queue since past x a r hears stage is ∙ ap (λ z. length (unoffered_events (is_first_at z) r.queue)) (sym answered.0)

  pub hears_leave : (since : Restarted) (at to : Stage) (o : Option Report) (ws : List Command) (r : ReaderState H) → Hears since → IsStage at → ReaderAt fixed since at r
      → HearsTo o at to → tells o + count_at since to ws r.queue ≡ count_at since at ws r.queue
  hears_leave since at to o ws r hears stage is comes =
      let told = hears_tell since at to o comes in
      let pend : length (pending_at to) ≡ length (pending_at at) = ap length told.pend in
      let owing : length (owed_at at) ≡ length (settled_in o ++ owed_at to) = ap length told.owing in
      let owing_of = length-append (settled_in o) (owed_at to) in
      let untold : length (unreported_at at) ≡ length (reported_in o ++ unreported_at to) = ap length told.untold in
      let untold_of = length-append (reported_in o) (unreported_at to) in
      let untold_at = ap (λ es. length es) (hears_untold since (unreported_at at) hears) in
      let untold_to = ap (λ es. length es) (hears_untold since (unreported_at to) hears) in
      let rest = hears_queue since at to o r hears stage is comes in
      let one = announced o in
      omega (arith, pend, owing, owing_of, untold, untold_of, untold_at, untold_to, rest, one)

-- .. which leaves the reader and the commands that wait as they are
pub leaves_reader : {H : Type 0} (qs : List Packet) (how : Delivery) (now : ℕ) (l : Link H)
    → let next = link.to_controller qs how now l in (next.reader ≡ l.reader) × (next.controller.waiting ≡ l.controller.waiting)
leaves_reader [] how now l = (refl, refl)
leaves_reader (q ∷ qs) Delivered now l = (refl, refl)
leaves_reader (q ∷ qs) Lost now l = (refl, refl)
leaves_reader (q ∷ qs) Repeated now l = (refl, refl)

-- ---- a packet comes to the reader

-- the event that an answer to a POLL tells is the front
polled_front : {H : Type 0} (events : List Event) (answer_of : H → Command → Answer) (after : H → Command → H) (config : ReaderConfig) (handler : H)
    → option_to_list (event_in (event_or_answer answer_of after (event_for command.Poll events) config handler command.Poll).reply) ≡ take 1 events
polled_front [] answer_of after config handler = refl
polled_front (event.LocalState s ∷ rest) answer_of after config handler = refl
polled_front (_ ∷ rest) answer_of after config handler = refl

offers_front : (events : List Event) → cond (is_some (event_for command.Poll events)) (take 1 events) [] ≡ take 1 events
offers_front [] = refl
offers_front (e ∷ events) = refl

-- a device that goes to another address takes its queue along
moved_queue : {H : Type 0} (to : Option ℕ) (r : ReaderState H) → (moved to r).queue ≡ r.queue
moved_queue None r = refl
moved_queue (Some address) r =
    both (λ (s : ReaderState _). s.queue ≡ r.queue) (address == r.config.address) r
    (record r { config = record r.config { address = address }; last = None; stored = None }) refl refl

same_either : (events : List Event) (b : Bool) → cond b events events ≡ events
same_either events true = refl
same_either events false = refl

as_many : (x : Exchange) (a : Reply) → length (pending x) ≡ length (owed x a)
as_many Opening a = refl
as_many Polling a = refl
as_many (Asking c) a = refl

none_both : {A : Type 0} (xs ys : List A) → xs ++ ys ≡ [] → (xs ≡ []) × (ys ≡ [])
none_both [] ys none = (refl, none)
none_both (x ∷ xs) ys none = absurd cc

-- where no event stands offered, none is in front, and none is on its way
stands_none : (since : Restarted) (at : Stage) → Hears since → standing_at since at ≡ [] → (shown_at at ≡ []) × (unreported_at at ≡ [])
stands_none Never at hears none = none_both (shown_at at) (unreported_at at) none
stands_none Before at hears none = none_both (shown_at at) (unreported_at at) none
stands_none Now at hears none = absurd hears

untold_none : (since : Restarted) (at : Stage) → standing_at since at ≡ [] → untold_by since (unreported_at at) ≡ []
untold_none Never at none = (none_both (shown_at at) (unreported_at at) none).1
untold_none Before at none = (none_both (shown_at at) (unreported_at at) none).1
untold_none Now at none = refl

front_none : (at : Stage) → (shown_at at ≡ []) × (unreported_at at ≡ []) → front_at at ≡ []
front_none Fresh none = refl
front_none (Behind Start x) none = refl
front_none (Behind (After n y b) x) none = none.0
front_none (Level Start x a) none = refl
front_none (Level (After n y b) x a) none = none.1
front_none (Rest n x a) none = none.0

all_unoffered : (first : Bool) (q : Queue) → length (unoffered_events first (unoffered q)) ≡ length q.events
all_unoffered true q = refl
all_unoffered false q = refl

module _ (fixed : ControllerConfig) {H : Type 0} (answer_of : H → Command → Answer) (after : H → Command → H) where
  -- as much is left as before, where the reader hears, and no less else
  pub record LeavesAll (hears : Type 0) (before later : ℕ) : Type 0 where
    pub all : hears → later ≡ before
    pub least : before ≤ later

  exactly : (hears : Type 0) (before later : ℕ) → later ≡ before → LeavesAll hears before later
  exactly hears before later same = record { all = λ h. same; least = omega (arith, same) }

  -- the command is acted on: its answer is on its way, and the front may be offered
  module _ (since : Restarted) (hears : Hears since) (n : ℕ) (y : Exchange) (b : Reply) (x : Exchange) (a : Reply) (p : Packet) (r : ReaderState H)
      (read : command_in p ≡ Ok (exchange_command x)) (said : (outcome answer_of after kind.Taken r p).said ≡ Some a) where
    abbrev next : ReaderState H
    next = (outcome answer_of after kind.Taken r p).reader

    abbrev offers : Option Reply
    offers = event_for (exchange_command x) (released r.queue).events

    taken_queue : next.queue ≡ offering offers (released r.queue)
    taken_queue =
        ap (λ c. (taken answer_of after c r p).reader.queue) read
        ∙ moved_queue (new_address (exchange_command x)) (record r {
          last = Some p.sequence;
          stored = Some (reply_packet p p.sequence (event_or_answer answer_of after offers r.config r.handler (exchange_command x)).reply);
          queue = offering offers (released r.queue);
          handler = (event_or_answer answer_of after offers r.config r.handler (exchange_command x)).handler;
        })

    offers_shown : (x : Exchange) → command_in p ≡ Ok (exchange_command x)
        → cond (is_some (event_for (exchange_command x) (released r.queue).events)) (shown x a) [] ≡ shown x a
    offers_shown Opening is = same_either [] (is_some (event_for (exchange_command Opening) (released r.queue).events))
    offers_shown (Asking c) is = same_either [] (is_some (event_for c (released r.queue).events))
    offers_shown Polling is =
        let events = (released r.queue).events in
        let answer = event_or_answer answer_of after (event_for command.Poll events) r.config r.handler command.Poll in
        let same : answer.reply ≡ a = same_some answer.reply a (sym (ap (λ c. (taken answer_of after c r p).said) is) ∙ said) in
        let front : take 1 events ≡ shown Polling a =
        sym (polled_front events answer_of after r.config r.handler) ∙ ap (λ reply. option_to_list (event_in reply)) same in
        ap (λ es. cond (is_some (event_for command.Poll events)) es []) (sym front) ∙ offers_front events ∙ front

    takes_leave : (ws : List Command) → IsStage (Level (After n y b) x a) → ReaderAt fixed since (Level (After n y b) x a) next
        → count_at since (Level (After n y b) x a) ws next.queue ≡ count_at since (Behind (After n y b) x) ws r.queue
    takes_leave ws stage is =
        let q = next.queue in
        let all = queue_is fixed since (Level (After n y b) x a) next hears stage is in
        let events = ap (λ (z : Queue). length z.events) taken_queue in
        let front : length (cond q.offered (shown x a) []) ≡ length (shown x a) =
        ap (λ (z : Queue). length (cond z.offered (shown x a) [])) taken_queue ∙ ap (λ es. length es) (offers_shown x read) in
        let one = as_many x a in
        let untold = ap (λ es. length es) (hears_untold since (shown x a) hears) in
        let none = ap (λ es. length es) (hears_untold since [] hears) in
        omega (arith, all, events, front, one, untold, none)

  -- number 0 is heard: no event counts as offered
  zero_leaves : (since new : Restarted) (at to : Stage) (p : Packet) (r : ReaderState H) (ws : List Command) → command_in p ≡ Ok (command.Id 0) → KeepsDue since at new to
      → IsStage at → ReaderAt fixed since at r
      → LeavesAll (Hears since) (count_at since at ws r.queue) (count_at new to ws (outcome answer_of after kind.Zero r p).reader.queue)
  zero_leaves since new at to p r ws read keeps stage is =
      let pend = ap (λ d. length d.pend) keeps.due in
      let owing = ap (λ d. length d.owing) keeps.due in
      let before = ap (λ es. length es) (untold_none since at keeps.stood) in
      let later = ap (λ es. length es) (untold_none new to keeps.stands) in
      let rest = ap (λ c. length (unoffered_events (is_first_at to) (begun answer_of after c r p).reader.queue)) read ∙ all_unoffered (is_first_at to) r.queue in
      let most = fewer (is_first_at at) r.queue in
      record {
        all = λ hears.
            let all = queue_is fixed since at r hears stage is in
            let front = ap (λ es. length (cond r.queue.offered es [])) (front_none at (stands_none since at hears keeps.stood)) in
            let none = none_in_front r.queue.offered r.queue.events in
            omega (arith, pend, owing, before, later, rest, all, front, none);
        least = omega (arith, pend, owing, before, later, rest, most);
      }

  reads_leave : (since new : Restarted) (at to : Stage) (k : Kind) (p : Packet) (r : ReaderState H) (ws : List Command) → Reads answer_of after k p r since at new to
      → IsStage at → ReaderAt fixed since at r → IsStage to → ReaderAt fixed new to (outcome answer_of after k r p).reader
      → LeavesAll (Hears since) (count_at since at ws r.queue) (count_at new to ws (outcome answer_of after k r p).reader.queue)
  reads_leave since new (Behind (After n y b) x) to kind.Taken p r ws (hears, same, read, (a, said, is)) stage knows then later =
      let next = (outcome answer_of after kind.Taken r p).reader in
      subst (λ s. IsStage to → ReaderAt fixed s to next
      → LeavesAll (Hears since) (count_at since (Behind (After n y b) x) ws r.queue) (count_at s to ws next.queue)) (sym same)
      (subst (λ z. IsStage z → ReaderAt fixed since z next
      → LeavesAll (Hears since) (count_at since (Behind (After n y b) x) ws r.queue) (count_at since z ws next.queue)) (sym is)
      (λ t k. exactly (Hears since) (count_at since (Behind (After n y b) x) ws r.queue) (count_at since (Level (After n y b) x a) ws next.queue)
      (takes_leave since hears n y b x a p r read said ws t k))) then later
  reads_leave since new _ to kind.Taken p r ws comes stage knows then later = absurd comes
  reads_leave since new at to kind.Zero p r ws (read, keeps) stage knows then later = zero_leaves since new at to p r ws read keeps stage knows
  reads_leave since new at to k p r ws (same, is) stage knows then later =
      exactly (Hears since) (count_at since at ws r.queue) (count_at new to ws r.queue) (λ i. count_at (same i) (is i) ws r.queue)

  -- .. the one in front
  pub front_leaves : (since new : Restarted) (at to : Stage) (ps : List Packet) (how : Delivery) (l : Link H) → ReadsFront answer_of after ps how l.reader since at new to
      → IsStage at → ReaderAt fixed since at l.reader → IsStage to → ReaderAt fixed new to (link.to_reader answer_of after ps how l).reader
      → LeavesAll (Hears since) (count_at since at l.controller.waiting l.reader.queue)
      (count_at new to (link.to_reader answer_of after ps how l).controller.waiting (link.to_reader answer_of after ps how l).reader.queue)
  front_leaves since new at to [] how l comes stage is then later =
      exactly (Hears since) (count_at since at l.controller.waiting l.reader.queue) (count_at new to l.controller.waiting l.reader.queue)
      (λ i. count_at (comes.0 i) (comes.1 i) l.controller.waiting l.reader.queue)
  front_leaves since new at to (p ∷ ps) Delivered l comes stage is then later =
      reads_leave since new at to (kind_of l.reader p) p l.reader l.controller.waiting comes stage is then later
  front_leaves since new at to (p ∷ ps) Lost l comes stage is then later =
      exactly (Hears since) (count_at since at l.controller.waiting l.reader.queue) (count_at new to l.controller.waiting l.reader.queue)
      (λ i. count_at (comes.0 i) (comes.1 i) l.controller.waiting l.reader.queue)
  front_leaves since new at to (p ∷ ps) Repeated l comes stage is then later =
      reads_leave since new at to (kind_of l.reader p) p l.reader l.controller.waiting comes stage is then later
