-- Schedules without losses, over bytes: which commands are settled and which events are reported.
use Rattle.osdp_sim_laws.proofs.Common.{◌≡◌, ◌≤◌, ◌<◌, ◌+◌, ◌-◌, ℕ, zero, suc, arith, Bool, true, false, ◌==◌, if◌then◌else◌, All, List, [], ◌∷◌, ◌++◌, length, take, drop, Option, Some, None, Ok, Err, inl, inr, refl, sym, subst, ap, ◌∙◌, append_assoc, append-nil, length-append, length-take, Command, Event, is_closed, ControllerFault, Full, longest_wait, lacks_room, Answer, MovesFit, Delivered, Link, with_answers, SetsNoAddress, all_queued, all_submitted, reports, each_all, each_append, each_of, Each, count, Account, lists_of, clean_rounds, rounds, AreSettings, Stops, run, first_fault, SimState, set_up, fault_of, moment_after, SimConfig, Cause, HoldsPacket, NoMemory, NotQuiet, OutOfRange, SimStep, Issue, Queue, IsAccepted, commands_of, events_of, IsInSession, told_of, clock_after, first_link, moves_of, OneLink, IsRun}
use Rattle.osdp_controller.specs.Machine as controllers
use Rattle.osdp_link_laws.specs.Clean as clean
use Rattle.osdp_link_laws.specs.Link as link
use Rattle.osdp_link_laws.specs.Progress as progress
use Rattle.osdp_link_laws.specs.Sessions as sessions
use Rattle.osdp_link_laws.specs.Reports.{Told, all_taken, nothing_told, with_reports}
use Rattle.osdp_sim_laws.specs.Clean.{GoesInTurn, IsInTurn, IsOrder}
use Rattle.osdp_sim_laws.proofs.Accepting.{accepted, among_few, submit_is}
use Rattle.osdp_sim_laws.proofs.Accounts.{Added, all_added, and_then}
use Rattle.osdp_sim_laws.proofs.Clearing.{no_more}
use Rattle.osdp_sim_laws.proofs.Coming.{added, count_of, issued_before, its_account, joined, link_after, moments_of, next_fit, one_session, round_in_time, rounds_are, rounds_within, state_is, steps_in_time}
use Rattle.osdp_sim_laws.proofs.Ends.{HaveEnded, run_ended}
use Rattle.osdp_sim_laws.proofs.Holding.{run_first, run_of}
use Rattle.osdp_sim_laws.proofs.Left.{order_nothing}
use Rattle.osdp_sim_laws.proofs.Moments.{LinkInTime, clock_on, last_moment}
use Rattle.osdp_sim_laws.proofs.Room.{place_for_command, place_for_event}

-- ---- orders

order_within : (step : SimStep) → IsOrder step → IsInSession step
order_within (Issue number c) is = tt
order_within (Queue number e) is = tt
order_within _ is = absurd is

orders_within : (orders : List SimStep) → Each IsOrder orders → Each IsInSession orders
orders_within [] are = tt
orders_within (step ∷ orders) are = (order_within step are.0, orders_within orders are.1)

there_order : {H : Type 0} (there : Bool) (m : link.Move H) → clean.IsOrder m → Each clean.IsOrder (if there then m ∷ [] else [])
there_order true m is = (is, tt)
there_order false m is = tt

-- to the link they are orders too, and no time passes
orders_are : (H : Type 0) (orders : List SimStep) (clock : ℕ) → Each IsOrder orders → Each (clean.IsOrder {H = H}) (moves_of orders clock) × (clock_after orders clock ≡ clock)
orders_are H [] clock are = (tt, refl)
orders_are H (Issue number c ∷ orders) clock are =
    let rest = orders_are H orders clock are.1 in
    (each_append clean.IsOrder _ (moves_of orders clock) (there_order (number == 1) (link.Submit c) tt) rest.0, rest.1)
orders_are H (Queue number e ∷ orders) clock are =
    let rest = orders_are H orders clock are.1 in
    (each_append clean.IsOrder _ (moves_of orders clock) (there_order (number == 1) (link.Queue e) tt) rest.0, rest.1)
orders_are H (_ ∷ orders) clock are = absurd are.0

clean_within : (n : ℕ) → Each IsInSession (clean_rounds n)
clean_within n = (tt, (tt, (tt, rounds_within n 50)))

-- they are the rounds of the link
clean_are : {H : Type 0} (n : ℕ) → let opening = moment_after 400 0 in moves_of {H = H} (clean_rounds n) 0 ≡ progress.rounds (opening ∷ moments_of n 50 opening)
clean_are n =
    let now = moment_after 400 0 in
    ap (λ ms. link.Tick now ∷ link.ToReader Delivered ∷ link.ToController Delivered now ∷ ms) (rounds_are n 50 now)

-- where no more are accepted than there is room for, they are the first
exactly : {A : Type 0} (room : ℕ) (all some : List A) → IsAccepted room all some → length some ≤ room → some ≡ take room all
exactly room all some is few =
    let rest = is.first.0 in
    let many = ap length is.first.1 in
    let none = no_more rest (omega (arith, many, few, length-append (take room all) rest, length-take room all, among_few some all is.among)) in
    is.first.1 ∙ ap (λ l. take room all ++ l) none ∙ append-nil (take room all)

module _ {H : Type 0} (answer_of : H → Command → Answer) (after : H → Command → H) where
  -- ---- no step is refused

  abbrev IsUnrefused : SimStep → Type 0
  IsUnrefused step = (s : SimState H) → fault_of step s ≡ None

  orders_unrefused : (orders : List SimStep) → Each IsOrder orders → Each IsUnrefused orders
  orders_unrefused [] are = tt
  orders_unrefused (Issue number c ∷ orders) are = (λ s. refl, orders_unrefused orders are.1)
  orders_unrefused (Queue number e ∷ orders) are = (λ s. refl, orders_unrefused orders are.1)
  orders_unrefused (_ ∷ orders) are = absurd are.0

  rounds_unrefused : (m wait : ℕ) → Each IsUnrefused (rounds m wait)
  rounds_unrefused zero wait = tt
  rounds_unrefused (suc m) wait = (λ s. refl, (λ s. refl, (λ s. refl, rounds_unrefused m wait)))

  first_unrefused : (k : ℕ) (list : List SimStep) (s : SimState H) → Each IsUnrefused list → first_fault fault_of (drop k list) s ≡ None
  first_unrefused zero [] s are = refl
  first_unrefused zero (step ∷ list) s are = are.0 s
  first_unrefused (suc k) [] s are = refl
  first_unrefused (suc k) (step ∷ list) s are = first_unrefused k list s are.1

  -- so where the run stops memory was refused
  stops_for_memory : (config : SimConfig) (handler : H) (list : List SimStep) → Each IsUnrefused list → AreSettings config
      → (at : ℕ) (why : Cause) (lists : Account) → Stops answer_of after at why lists config handler list → why ≡ NoMemory
  stops_for_memory config handler list are settings zero HoldsPacket lists stops = absurd stops.0
  stops_for_memory config handler list are settings zero NoMemory lists stops = refl
  stops_for_memory config handler list are settings zero NotQuiet lists stops = absurd stops.0
  stops_for_memory config handler list are settings zero OutOfRange lists stops = absurd (stops.0 settings)
  stops_for_memory config handler list are settings (suc before) HoldsPacket lists stops =
      absurd (let e = sym (first_unrefused (suc before - 1) list _ are) ∙ stops.1.cause in cc)
  stops_for_memory config handler list are settings (suc before) NoMemory lists stops = refl
  stops_for_memory config handler list are settings (suc before) NotQuiet lists stops =
      absurd (let e = sym (first_unrefused (suc before - 1) list _ are) ∙ stops.1.cause in cc)
  stops_for_memory config handler list are settings (suc before) OutOfRange lists stops = absurd stops.1.cause

  -- ---- what was accepted

  -- no order is taken from where it waits, and no more wait than may
  record IsFilled (l n : Link H) (commands : List Command) (events : List Event) : Type 0 where
    pub waiting : n.controller.waiting ≡ l.controller.waiting ++ commands
    pub queue : n.reader.queue.events ≡ l.reader.queue.events ++ events
    pub few : length n.controller.waiting ≤ l.controller.capacity
    pub short : length n.reader.queue.events ≤ l.reader.queue.capacity

  has_room : (c : Command) (m : controllers.Machine) → controllers.submit_refusal c m ≡ None → length m.waiting < m.capacity
  has_room c m none = elim (submit_is c m) [
    | inl (refused, poll) ↦ absurd (refused none)
    | inr (is, one) ↦ place_for_command c m (so (controllers.has_room c m) (sym is ∙ none))
  ]
    where
      so : (b : Bool) → (if b then None else Some Full) ≡ None → b ≡ true
      so true e = refl
      so false e = absurd cc

  abbrev Fills : List (link.Move H) → Type 0
  Fills ms = (l : Link H) → length l.controller.waiting ≤ l.controller.capacity → length l.reader.queue.events ≤ l.reader.queue.capacity
      → IsFilled l (link.run answer_of after ms l) (all_submitted answer_of after ms l) (all_queued answer_of after ms l)

  submit_fills : (fault : Option ControllerFault) (c : Command) (ms : List (link.Move H)) → Fills ms → (l : Link H)
      → (fault ≡ None → length l.controller.waiting < l.controller.capacity) → length l.controller.waiting ≤ l.controller.capacity
      → length l.reader.queue.events ≤ l.reader.queue.capacity → let next = link.submits fault c l in
      IsFilled l (link.run answer_of after ms next) (sessions.accepted fault c ++ all_submitted answer_of after ms next) (all_queued answer_of after ms next)
  submit_fills (Some fault) c ms fills l room few short = fills l few short
  submit_fills None c ms fills l room few short =
      let next = link.submits None c l in
      let rest = fills next (omega (arith, room refl, length-append l.controller.waiting (c ∷ []))) short in
      record {
        waiting = rest.waiting ∙ append_assoc l.controller.waiting (c ∷ []) (all_submitted answer_of after ms next);
        queue = rest.queue;
        few = rest.few;
        short = rest.short;
      }

  queue_fills : (full : Bool) (e : Event) (ms : List (link.Move H)) → Fills ms → (l : Link H)
      → (full ≡ false → length l.reader.queue.events < l.reader.queue.capacity) → length l.controller.waiting ≤ l.controller.capacity
      → length l.reader.queue.events ≤ l.reader.queue.capacity → let next = link.queues full e l in
      IsFilled l (link.run answer_of after ms next) (all_submitted answer_of after ms next) (sessions.unless_full full e ++ all_queued answer_of after ms next)
  queue_fills true e ms fills l room few short = fills l few short
  queue_fills false e ms fills l room few short =
      let next = link.queues false e l in
      let rest = fills next few (omega (arith, room refl, length-append l.reader.queue.events (e ∷ []))) in
      record {
        waiting = rest.waiting;
        queue = rest.queue ∙ append_assoc l.reader.queue.events (e ∷ []) (all_queued answer_of after ms next);
        few = rest.few;
        short = rest.short;
      }

  filled : (ms : List (link.Move H)) → Each clean.IsOrder ms → Fills ms
  filled [] are l few short =
      record { waiting = sym (append-nil l.controller.waiting); queue = sym (append-nil l.reader.queue.events); few = few; short = short }
  filled (link.Submit c ∷ ms) are l few short =
      submit_fills (controllers.submit_refusal c l.controller) c ms (filled ms are.1) l (has_room c l.controller) few short
  filled (link.Queue e ∷ ms) are l few short =
      queue_fills (lacks_room e l.reader.queue) e ms (filled ms are.1) l (place_for_event e l.reader.queue) few short
  filled (m ∷ ms) are l few short = absurd are.0

  -- ---- the rounds

  -- each comes so much later than the greatest moment seen
  are_spaced : (m wait clock longest : ℕ) (l : Link H) → clock ≤ last_moment → LinkInTime clock longest l
      → clean.AreSpaced answer_of after wait (moments_of m wait clock) l
  are_spaced zero wait clock longest l fits is = tt
  are_spaced (suc m) wait clock longest l fits is =
      let now = moment_after wait clock in
      let on = clock_on wait clock fits in (
        omega (arith, is.0, fits),
        are_spaced m wait now longest (link.run answer_of after (progress.round now) l) on.1 (round_in_time answer_of after clock now longest l on.0 is),
      )

  -- a session that isn't over has no end
  no_end : (s : SimState H) → is_closed s.controller.session.state ≡ false → HaveEnded s → length s.account.sessions ≡ 1 → s.account.ends ≡ []
  no_end s lasts ended one =
      no_more s.account.ends (omega (arith, ended ∙ ap (λ b. length s.account.sessions + count b) lasts, one))

  -- orders take nothing, and tell nothing
  orders_tell : (ms : List (link.Move H)) (l : Link H) → Each clean.IsOrder ms → (all_taken answer_of after ms l ≡ []) × (reports answer_of after ms l ≡ [])
  orders_tell [] l are = (refl, refl)
  orders_tell (link.Submit c ∷ ms) l are = orders_tell ms (link.after_move answer_of after (link.Submit c) l) are.1
  orders_tell (link.Queue e ∷ ms) l are = orders_tell ms (link.after_move answer_of after (link.Queue e) l) are.1
  orders_tell (m ∷ ms) l are = absurd are.0

  -- what the account has after the orders and the rounds
  record HasTold (commands : List Command) (events : List Event) (acted : List Command) (t : Told) (a : Account) : Type 0 where
    pub issued : a.issued ≡ commands
    pub queued : a.queued ≡ events
    pub taken : a.taken ≡ acted
    pub told : told_of a ≡ t

  -- the orders that were accepted are the first
  abbrev AreIssued : SimConfig → List SimStep → Account → Type 0
  AreIssued config orders a = (a.issued ≡ take config.commands (commands_of orders)) × (a.queued ≡ take config.events (events_of orders))

  in_turn : (config : SimConfig) (handler : H) (orders : List SimStep) (n m : ℕ) (commands : List Command) (events : List Event) (acted : List Command) (t : Told)
      (a : Account) → m ≡ n → AreIssued config orders a → HasTold commands events acted t a
      → clean.IsInTurn answer_of after config.reader handler m commands events acted t → a.ends ≡ [] → IsInTurn answer_of after config handler orders n a
  in_turn config handler orders n m commands events acted t a many accepted has turn none = record {
    issued = accepted.0;
    queued = accepted.1;
    taken = has.taken ∙ turn.acted ∙ ap (λ k. take k commands) many ∙ ap (take n) (sym has.issued);
    settled = ap (λ (y : Told). y.settled) has.told ∙ turn.settled ∙ ap (λ k. with_answers answer_of after config.reader handler (take k commands)) many
        ∙ ap (λ cs. with_answers answer_of after config.reader handler (take n cs)) (sym has.issued);
    reported = ap (λ (y : Told). y.reported) has.told ∙ turn.reported ∙ ap (λ k. take (k - length t.settled) events) many
        ∙ ap (λ (y : Told). take (n - length y.settled) events) (sym has.told)
        ∙ ap (take (n - length a.settled)) (sym has.queued);
    unsettled = ap (λ (y : Told). y.in_doubt) has.told ∙ turn.in_doubt;
    ends = none;
  }

  goes : OneLink answer_of after → clean.GoesInTurn answer_of after → (config : SimConfig) (handler : H) (orders : List SimStep) (n : ℕ)
      → IsRun answer_of after config handler (orders ++ clean_rounds n) → Each IsOrder orders → config.reader.address ≡ config.controller.address
      → config.controller.quiet_wait ≤ 400 → config.controller.poll_interval ≤ 50 → config.controller.poll_between_orders ≡ false
      → let a = (run answer_of after (orders ++ clean_rounds n) (set_up config handler)).account in
      Each SetsNoAddress a.issued → IsInTurn answer_of after config handler orders n a
  goes given law config handler orders n is are same quiet poll plain none =
      let l = first_link config handler in
      let start = set_up config handler in
      let more = clean_rounds n in
      let ms : List (link.Move H) = moves_of orders 0 in
      let are_moves = orders_are H orders 0 are in
      let first = run_first answer_of after config handler orders more is in
      let its = run_of answer_of after given config handler orders first in
      let later = link_after answer_of after config handler orders in
      let opening = moment_after 400 0 in
      let moments = moments_of n 50 opening in
      let ns : List (link.Move H) = progress.rounds (opening ∷ moments) in
      let clean_moves : moves_of more (clock_after orders 0) ≡ ns = ap (λ c. moves_of more c) are_moves.1 ∙ clean_are n in
      let old = (run answer_of after orders start).account in
      let before = its_account answer_of after given config handler orders first in
      let full = filled ms are_moves.0 l (omega arith) (omega arith) in
      let waiting = before.issued ∙ sym full.waiting in
      let none_before = subst (Each SetsNoAddress) waiting (issued_before answer_of after given config handler orders more is SetsNoAddress none) in
      let longest = longest_wait config.controller in
      let timely = steps_in_time answer_of after longest orders 0 l (omega arith) (omega arith, omega arith) in
      let in_time = subst (λ c. LinkInTime c longest later) are_moves.1 timely.1 in
      let on = clock_on 400 0 (omega arith) in
      let spaced = are_spaced n 50 opening longest (link.run answer_of after (progress.round opening) later) on.1 (round_in_time answer_of after 0 opening longest later on.0 in_time) in
      let moves = subst (λ list. MovesFit answer_of after list later) clean_moves (next_fit answer_of after given config handler orders more is) in
      let found = law l ms opening 50 moments its.begins (each_all clean.IsOrder ms are_moves.0) its.fits same refl (omega (arith, quiet)) poll plain
      (each_all SetsNoAddress later.controller.waiting none_before) spaced moves in
      let end = run answer_of after (orders ++ more) start in
      let whole = its_account answer_of after given config handler (orders ++ more) is in
      let both = added answer_of after given config handler orders more is ∙ ap (λ list. and_then (all_added answer_of after ms l) (all_added answer_of after list later)) clean_moves in
      let nothing = order_nothing answer_of after (opening ∷ moments) later in
      let untold = orders_tell ms l are_moves.0 in
      let issued : end.account.issued ≡ old.issued =
      whole.issued ∙ ap (λ (x : Added). x.submitted) both ∙ ap (λ cs. all_submitted answer_of after ms l ++ cs) nothing.submitted
      ∙ append-nil (all_submitted answer_of after ms l) ∙ sym before.issued in
      let queued : end.account.queued ≡ old.queued =
      whole.queued ∙ ap (λ (x : Added). x.queued) both ∙ ap (λ es. all_queued answer_of after ms l ++ es) nothing.queued
      ∙ append-nil (all_queued answer_of after ms l) ∙ sym before.queued in
      let has : HasTold later.controller.waiting later.reader.queue.events (all_taken answer_of after ns later)
      (with_reports (reports answer_of after ns later) nothing_told) end.account = record {
        issued = issued ∙ waiting;
        queued = queued ∙ before.queued ∙ sym full.queue;
        taken = whole.taken ∙ ap (λ (x : Added). x.taken) both ∙ ap (λ cs. cs ++ all_taken answer_of after ns later) untold.0;
        told = whole.told ∙ ap (λ (x : Added). with_reports x.told nothing_told) both
            ∙ ap (λ rs. with_reports (rs ++ reports answer_of after ns later) nothing_told) untold.1;
      } in
      let ended : link_after answer_of after config handler (orders ++ more) ≡ link.run answer_of after ns later =
      joined answer_of after given config handler orders more is ∙ ap (λ list. link.run answer_of after list later) clean_moves in
      let lasts = ap (λ (s : SimState H). is_closed s.controller.session.state) (state_is answer_of after given config handler (orders ++ more) is)
      ∙ ap (λ (k : Link H). is_closed k.controller.session.state) ended ∙ found.1 in
      let one = one_session answer_of after config handler (orders ++ more)
      (each_append IsInSession orders more (orders_within orders are) (clean_within n)) in
      let room = accepted answer_of after given config handler orders first in
      let few : length old.issued ≤ config.commands = subst (λ cs. length cs ≤ config.commands) (sym waiting) full.few in
      let short : length old.queued ≤ config.events = subst (λ es. length es ≤ config.events) (sym (before.queued ∙ sym full.queue)) full.short in
      let are_issued : AreIssued config orders end.account = (
        issued ∙ exactly config.commands (commands_of orders) old.issued room.issued few,
        queued ∙ exactly config.events (events_of orders) old.queued room.queued short,
      ) in
      in_turn config handler orders n (length moments) later.controller.waiting later.reader.queue.events (all_taken answer_of after ns later)
      (with_reports (reports answer_of after ns later) nothing_told) end.account (count_of n 50 opening) are_issued has found.0
      (no_end end lasts (run_ended answer_of after given.told (orders ++ more) start is.well refl) one)

  pub goes_in_turn : OneLink answer_of after → clean.GoesInTurn answer_of after → GoesInTurn answer_of after
  goes_in_turn given law config handler orders n (Ok account) is are settings same quiet poll plain none =
      subst (IsInTurn answer_of after config handler orders n) (sym is.ends.2)
      (goes given law config handler orders n (record { settings = is.ends.0; well = is.ends.1; fits = is.fits }) (each_of IsOrder orders are) same quiet poll plain
      (each_of SetsNoAddress (run answer_of after (orders ++ clean_rounds n) (set_up config handler)).account.issued
      (subst (λ a. All SetsNoAddress a.issued) is.ends.2 none)))
  goes_in_turn given law config handler orders n (Err fault) is are settings same quiet poll plain none =
      stops_for_memory config handler (orders ++ clean_rounds n)
      (each_append IsUnrefused orders (clean_rounds n) (orders_unrefused orders (each_of IsOrder orders are))
      (λ s. refl, (λ s. refl, (λ s. refl, rounds_unrefused n 50))))
      settings fault.step fault.cause (lists_of fault.account) is.ends
