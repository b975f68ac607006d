-- Rounds that lose nothing, over bytes.
use Rattle.osdp_sim_laws.proofs.Common.{◌≡◌, ◌≤◌, ◌+◌, ℕ, zero, suc, Bool, true, false, ◌==◌, if◌then◌else◌, arith, List, [], ◌∷◌, ◌++◌, length, inl, inr, refl, sym, subst, ap, ◌∙◌, append_assoc, append-nil, map, Packet, spelling, Command, is_closed, IsInRange, StaysInRange, Begin, new_machine, Answer, lacks_room, MovesFit, Delivered, Link, Move, after_move, SetsNoAddress, all_queued, all_submitted, reports, each_all, each_append, each_front, each_of, set_no_other, Each, count, rounds, run, SimState, room_for, set_up, moment_after, SimConfig, SimStep, Issue, Queue, Busy, Wait, ToReader, ToController, Reopen, IsInSession, clock_after, step_clock, delivery, first_link, in_bytes, move_of, moves_of, OneLink, ComesThrough, IsClear, IsRun, Recovers, TellsOfMoves, clear}
use Rattle.osdp_controller.specs.Machine as controllers
use Rattle.osdp_link_laws.specs.Addresses.{StayWhereTheyAre}
use Rattle.osdp_link_laws.specs.Ahead.{ahead, count_ahead}
use Rattle.osdp_link_laws.specs.Link as link
use Rattle.osdp_link_laws.specs.Progress as progress
use Rattle.osdp_link_laws.specs.Reports.{told_in}
use Rattle.osdp_link_laws.proofs.Controllers.{stays_between}
use Rattle.osdp_sim_laws.proofs.Accounts.{Added, added_both, all_added, and_then}
use Rattle.osdp_sim_laws.proofs.Begun.{none_reopen, sessions_counted}
use Rattle.osdp_sim_laws.proofs.Clearing.{AtMost, Cleared, clears, losses_within, steps_few}
use Rattle.osdp_sim_laws.proofs.Ends.{run_ended}
use Rattle.osdp_sim_laws.proofs.Holding.{follows_all, run_first, run_of, schedule_is_moves}
use Rattle.osdp_sim_laws.proofs.Ledger.{ahead_among}
use Rattle.osdp_sim_laws.proofs.Left.{Brings, OrdersNothing, brings, order_nothing}
use Rattle.osdp_sim_laws.proofs.Moments.{LinkInTime, begins_in_time, clock_on, controller_in_time, last_moment, queues_in_time, reader_in_time, submits_in_time, tick_in_time}
use Rattle.osdp_sim_laws.proofs.Schedules.{run_both}

-- the moments of so many rounds
abbrev pub moments_of : ℕ → ℕ → ℕ → List ℕ
moments_of zero wait clock = []
moments_of (suc m) wait clock = moment_after wait clock ∷ moments_of m wait (moment_after wait clock)

pub count_of : (m wait clock : ℕ) → length (moments_of m wait clock) ≡ m
count_of zero wait clock = refl
count_of (suc m) wait clock = ap suc (count_of m wait (moment_after wait clock))

-- the rounds are those of the link
pub rounds_are : {H : Type 0} (m wait clock : ℕ) → moves_of {H = H} (rounds m wait) clock ≡ progress.rounds (moments_of m wait clock)
rounds_are zero wait clock = refl
rounds_are (suc m) wait clock =
    let now = moment_after wait clock in
    ap (λ ms. link.Tick now ∷ link.ToReader Delivered ∷ link.ToController Delivered now ∷ ms) (rounds_are m wait now)

pub rounds_within : (m wait : ℕ) → Each IsInSession (rounds m wait)
rounds_within zero wait = tt
rounds_within (suc m) wait = (tt, (tt, (tt, rounds_within m wait)))

none_on : (ps : List Packet) → map spelling ps ≡ [] → ps ≡ []
none_on [] e = refl
none_on (p ∷ ps) e = absurd cc

module _ {H : Type 0} (answer_of : H → Command → Answer) (after : H → Command → H) where
  -- ---- no moment lies before the clock

  where_in_time : (clock wait : ℕ) (there : Bool) (m : link.Move H) (l : Link H) → LinkInTime clock wait l
      → LinkInTime clock wait (link.after_move answer_of after m l) → LinkInTime clock wait (link.run answer_of after (if there then m ∷ [] else []) l)
  where_in_time clock wait true m l is later = later
  where_in_time clock wait false m l is later = is

  step_in_time : (wait : ℕ) (step : SimStep) (clock : ℕ) (l : Link H) → clock ≤ last_moment → LinkInTime clock wait l
      → LinkInTime (step_clock step clock) wait (link.run answer_of after (move_of step clock) l)
  step_in_time wait (Issue number command) clock l fits is =
      where_in_time clock wait (number == 1) (link.Submit command) l is (submits_in_time answer_of after clock wait (controllers.submit_refusal command l.controller) command l is)
  step_in_time wait (Queue number event) clock l fits is =
      where_in_time clock wait (number == 1) (link.Queue event) l is
      (queues_in_time answer_of after clock wait (lacks_room event l.reader.queue) event l is)
  step_in_time wait (Busy number busy) clock l fits is = where_in_time clock wait (number == 1) (link.SetBusy busy) l is is
  step_in_time wait (Wait more) clock l fits is = tick_in_time answer_of after clock (moment_after more clock) wait l (clock_on more clock fits).0 is
  step_in_time wait (ToReader move) clock l fits is = reader_in_time answer_of after clock wait (delivery move) l.to_reader l is
  step_in_time wait (ToController move) clock l fits is = controller_in_time answer_of after clock wait (delivery move) l.to_controller l is
  step_in_time wait (Reopen number) clock l fits is =
      where_in_time clock wait (number == 1) (link.Reopen clock) l is
      (begins_in_time answer_of after clock wait (controllers.begin_refusal l.controller) l.to_reader l.to_controller l is)

  clock_fits : (step : SimStep) (clock : ℕ) → clock ≤ last_moment → step_clock step clock ≤ last_moment
  clock_fits (Wait wait) clock fits = (clock_on wait clock fits).1
  clock_fits _ clock fits = fits

  pub steps_in_time : (wait : ℕ) (steps : List SimStep) (clock : ℕ) (l : Link H) → clock ≤ last_moment → LinkInTime clock wait l
      → (clock_after steps clock ≤ last_moment) × LinkInTime (clock_after steps clock) wait (link.run answer_of after (moves_of steps clock) l)
  steps_in_time wait [] clock l fits is = (fits, is)
  steps_in_time wait (step ∷ steps) clock l fits is =
      let now = step_clock step clock in
      let rest = steps_in_time wait steps now (link.run answer_of after (move_of step clock) l) (clock_fits step clock fits) (step_in_time wait step clock l fits is) in
      (rest.0, subst (LinkInTime (clock_after steps now) wait) (sym (run_both answer_of after (move_of step clock) (moves_of steps now) l)) rest.1)

  -- a round that loses nothing, at a moment
  pub round_in_time : (clock now wait : ℕ) (l : Link H) → clock ≤ now → LinkInTime clock wait l → LinkInTime now wait (link.run answer_of after (progress.round now) l)
  round_in_time clock now wait l on is =
      let t = link.after_move answer_of after (link.Tick now) l in
      let heard = link.after_move answer_of after (link.ToReader Delivered) t in
      let ticked = tick_in_time answer_of after clock now wait l on is in
      controller_in_time answer_of after now wait Delivered heard.to_controller heard (reader_in_time answer_of after now wait Delivered t.to_reader t ticked)

  -- so the rounds are late
  pub are_late : (m wait clock : ℕ) (l : Link H) → clock ≤ last_moment → LinkInTime clock wait l → progress.AreLate answer_of after (moments_of m wait clock) l
  are_late zero wait clock l fits is = tt
  are_late (suc m) wait clock l fits is =
      let now = moment_after wait clock in
      let on = clock_on wait clock fits in (
        omega (arith, is.0, is.1, fits),
        are_late m wait now (link.run answer_of after (progress.round now) l) on.1 (round_in_time clock now wait l on.0 is),
      )

  -- ---- a run

  -- where no session begins again one has begun
  pub one_session : (config : SimConfig) (handler : H) (steps : List SimStep) → Each IsInSession steps
      → length (run answer_of after steps (set_up config handler)).account.sessions ≡ 1
  one_session config handler steps within =
      omega (arith, sessions_counted answer_of after config handler steps, none_reopen 1 steps within)

  -- ---- steps, and more of them, as moves of the link

  abbrev pub link_after : SimConfig → H → List SimStep → Link H
  link_after config handler steps = link.run answer_of after (moves_of steps 0) (first_link config handler)

  pub moves_on : (xs ys : List SimStep) (clock : ℕ) → moves_of {H = H} (xs ++ ys) clock ≡ moves_of xs clock ++ moves_of ys (clock_after xs clock)
  moves_on [] ys clock = refl
  moves_on (x ∷ xs) ys clock =
      let now = step_clock x clock in
      ap (λ ms. move_of x clock ++ ms) (moves_on xs ys now)
      ∙ sym (append_assoc (move_of x clock) (moves_of xs now) (moves_of ys (clock_after xs now)))

  moves_then : (ms ns : List (Move H)) (l : Link H) → MovesFit answer_of after (ms ++ ns) l → MovesFit answer_of after ns (link.run answer_of after ms l)
  moves_then [] ns l fits = fits
  moves_then (m ∷ ms) ns l fits = moves_then ms ns (after_move answer_of after m l) fits.1

  module _ (given : OneLink answer_of after) (config : SimConfig) (handler : H) where
    abbrev start : SimState H
    start = set_up config handler

    abbrev l : Link H
    l = first_link config handler

    -- the account tells of the moves
    pub its_account : (steps : List SimStep) → IsRun answer_of after config handler steps
        → TellsOfMoves answer_of after (run answer_of after steps start).account (moves_of steps 0) l
    its_account steps is = (schedule_is_moves answer_of after given config handler steps is.settings is.well is.fits).tells

    pub state_is : (steps : List SimStep) → IsRun answer_of after config handler steps
        → run answer_of after steps start ≡ in_bytes (link_after config handler steps) (clock_after steps 0) (run answer_of after steps start).account
    state_is steps is = (follows_all answer_of after given config handler steps is).carried.state

    -- a session that has ended has an end in the account
    pub lasts_at : (steps : List SimStep) → IsRun answer_of after config handler steps → (run answer_of after steps start).account.ends ≡ []
        → is_closed (link_after config handler steps).controller.session.state ≡ false
    lasts_at steps is none = by_state (is_closed (link_after config handler steps).controller.session.state) refl
      where
        by_state : (b : Bool) → is_closed (link_after config handler steps).controller.session.state ≡ b
            → is_closed (link_after config handler steps).controller.session.state ≡ false
        by_state false lasts = lasts
        by_state true shut =
            let a = (run answer_of after steps start).account in
            let closed = ap (λ (s : SimState H). is_closed s.controller.session.state) (state_is steps is) ∙ shut in
            let ended : length a.ends + 1 ≡ length a.sessions + 1 =
            run_ended answer_of after given.told steps start is.well refl ∙ ap (λ b. length a.sessions + count b) closed in
            absurd (omega (arith, ended, ap (λ l. length l) none, sessions_counted answer_of after config handler steps))

    module _ (steps more : List SimStep) (is : IsRun answer_of after config handler (steps ++ more)) where
      pub joined : link_after config handler (steps ++ more) ≡ link.run answer_of after (moves_of more (clock_after steps 0)) (link_after config handler steps)
      joined =
          ap (λ ms. link.run answer_of after ms l) (moves_on steps more 0)
          ∙ run_both answer_of after (moves_of steps 0) (moves_of more (clock_after steps 0)) l

      pub next_fit : MovesFit answer_of after (moves_of more (clock_after steps 0)) (link_after config handler steps)
      next_fit =
          moves_then (moves_of steps 0) (moves_of more (clock_after steps 0)) l
          (subst (λ ms. MovesFit answer_of after ms l) (moves_on steps more 0) (follows_all answer_of after given config handler (steps ++ more) is).moves)

      -- what they submit and queue is what these steps do, and then the others
      pub added : all_added answer_of after (moves_of (steps ++ more) 0) l
          ≡ and_then (all_added answer_of after (moves_of steps 0) l) (all_added answer_of after (moves_of more (clock_after steps 0)) (link_after config handler steps))
      added =
          ap (λ ms. all_added answer_of after ms l) (moves_on steps more 0)
          ∙ added_both answer_of after (moves_of steps 0) (moves_of more (clock_after steps 0)) l

      pub issued_before : (P : Command → Type 0) → Each P (run answer_of after (steps ++ more) start).account.issued
          → Each P (run answer_of after steps start).account.issued
      issued_before P all =
          subst (Each P) (sym (its_account steps (run_first answer_of after config handler steps more is)).issued)
          (each_front P (all_submitted answer_of after (moves_of steps 0) l)
          (all_submitted answer_of after (moves_of more (clock_after steps 0)) (link_after config handler steps))
          (subst (Each P) ((its_account (steps ++ more) is).issued ∙ ap (λ (x : Added). x.submitted) added) all))

      -- where the simulation is clear its link is
      pub clear_link : IsClear (run answer_of after steps start) → progress.IsClear (link_after config handler steps)
      clear_link clear =
          let first = run_first answer_of after config handler steps more is in
          let a = (run answer_of after steps start).account in
          let later = link_after config handler steps in
          let there = state_is steps first in
          record {
            to_reader = none_on later.to_reader (sym (ap (λ (s : SimState H). s.to_reader) there) ∙ clear.to_reader);
            to_controller = none_on later.to_controller (sym (ap (λ (s : SimState H). s.to_controller) there) ∙ clear.to_controller);
            address = sym (ap (λ (s : SimState H). s.reader.config.address) there) ∙ clear.address ∙ ap (λ (s : SimState H). s.controller.session.config.address) there;
            ready = sym (ap (λ (s : SimState H). s.reader.busy) there) ∙ clear.ready;
            stays = each_all SetsNoAddress (ahead later.controller) (ahead_among answer_of after given.ledger SetsNoAddress (moves_of steps 0) l a
                (run_of answer_of after given config handler steps first) (its_account steps first) (each_of SetsNoAddress a.issued clear.stays));
          }

    -- ---- rounds that lose nothing

    module _ (steps : List SimStep) (m wait : ℕ) (is : IsRun answer_of after config handler (steps ++ rounds m wait)) where
      abbrev moments : List ℕ
      moments = moments_of m wait (clock_after steps 0)

      abbrev later : Link H
      later = link_after config handler steps

      pub rounds_joined : link_after config handler (steps ++ rounds m wait) ≡ link.run answer_of after (progress.rounds moments) later
      rounds_joined = joined steps (rounds m wait) is ∙ ap (λ ms. link.run answer_of after ms later) (rounds_are m wait (clock_after steps 0))

      pub rounds_fit : MovesFit answer_of after (progress.rounds moments) later
      rounds_fit = subst (λ ms. MovesFit answer_of after ms later) (rounds_are m wait (clock_after steps 0)) (next_fit steps (rounds m wait) is)

      -- what they bring to the account
      pub rounds_bring : StaysInRange → progress.ForgetsNone answer_of after → Each IsInSession steps
          → let last = (run answer_of after (steps ++ rounds m wait) start).account in last.ends ≡ []
          → Brings (run answer_of after steps start).account last (told_in (reports answer_of after (progress.rounds moments) later)) (count_ahead later)
      rounds_bring ranges forgets inside none =
          let more = rounds m wait in
          let ms = moves_of steps 0 in
          let all = steps ++ more in
          let first = run_first answer_of after config handler steps more is in
          let before = (run answer_of after steps start).account in
          let last = (run answer_of after all start).account in
          let tells = its_account steps first in
          let whole = its_account all is in
          let nothing = subst (λ ns. OrdersNothing answer_of after ns later) (sym (rounds_are m wait (clock_after steps 0))) (order_nothing answer_of after moments later) in
          let issued : last.issued ≡ before.issued =
          whole.issued ∙ ap (λ (x : Added). x.submitted) (added steps more is) ∙ ap (λ cs. all_submitted answer_of after ms l ++ cs) nothing.submitted
          ∙ append-nil (all_submitted answer_of after ms l) ∙ sym tells.issued in
          let queued : last.queued ≡ before.queued =
          whole.queued ∙ ap (λ (x : Added). x.queued) (added steps more is) ∙ ap (λ es. all_queued answer_of after ms l ++ es) nothing.queued
          ∙ append-nil (all_queued answer_of after ms l) ∙ sym tells.queued in
          brings answer_of after ranges forgets ms (moves_of all 0) moments l before last (run_of answer_of after given config handler steps first)
          (run_of answer_of after given config handler all is) tells whole (one_session config handler steps inside)
          (one_session config handler all (each_append IsInSession steps more inside (rounds_within m wait))) rounds_joined rounds_fit
          (subst (λ (k : Link H). is_closed k.controller.session.state ≡ false) rounds_joined (lasts_at all is none)) (ap length issued) (ap length queued)

  -- ---- something comes through

  pub comes : OneLink answer_of after → progress.ComesThroughInTime answer_of after → progress.ForgetsNone answer_of after → StaysInRange → ComesThrough answer_of after
  comes given in_time forgets ranges config handler steps m wait is within long plain clear none =
      let l = first_link config handler in
      let more = rounds m wait in
      let later = link_after config handler steps in
      let clock = clock_after steps 0 in
      let its = run_of answer_of after given config handler steps (run_first answer_of after config handler steps more is) in
      let timely = steps_in_time wait steps 0 l (omega arith) (omega arith, long) in
      let range : IsInRange l.controller.session = ranges.later (new_machine config.controller config.commands (room_for config.commands).bytes) (Begin 0 ∷ []) (ranges.new config.controller config.commands (room_for config.commands).bytes) in
      let found = in_time l (moves_of steps 0) (moments_of m wait clock) its.begins range its.fits (clear_link given config handler steps more is clear)
      (stays_between answer_of after false (moves_of steps 0) l its.steady plain) (are_late m wait clock later timely.0 timely.1) (rounds_fit given config handler steps m wait is) in
      elim found [
        | inl closed ↦ absurd (
            let shut = ap is_closed closed in
            let lasts = subst (λ (k : Link H). is_closed k.controller.session.state ≡ false) (rounds_joined given config handler steps m wait is)
            (lasts_at given config handler (steps ++ more) is none) in
            let both : true ≡ false = sym shut ∙ lasts in cc)
        | inr on ↦
            let brought = rounds_bring given config handler steps m wait is ranges forgets (each_of IsInSession steps within) none in
            omega (arith, on, count_of m wait clock, brought.more, brought.all)
      ]

  -- ---- whatever was before

  -- the link after a line that was cleared
  pub is_cleared : (config : SimConfig) (handler : H) (steps : List SimStep)
      → Cleared answer_of after (link.run answer_of after (moves_of (steps ++ clear steps) 0) (first_link config handler))
  is_cleared config handler steps =
      let l = first_link config handler in
      let clock = clock_after steps 0 in
      let middle = link.run answer_of after (moves_of steps 0) l in
      let at_most = steps_few answer_of after 0 steps 0 l (omega arith, omega arith) in
      let few : AtMost (length steps) middle = (omega (arith, at_most.0), omega (arith, at_most.1)) in
      subst (Cleared answer_of after)
      (sym (ap (λ list. link.run answer_of after list l) (moves_on steps (clear steps) 0) ∙ run_both answer_of after (moves_of steps 0) (moves_of (clear steps) clock) l))
      (clears answer_of after steps clock middle few)

  pub recovers : OneLink answer_of after → progress.ComesThroughInTime answer_of after → progress.ForgetsNone answer_of after → StaysInRange → StayWhereTheyAre answer_of after
      → Recovers answer_of after
  recovers given in_time forgets ranges stays config handler steps m wait is within same long plain none lasts =
      let l = first_link config handler in
      let all_steps = steps ++ clear steps in
      let more = rounds m wait in
      let ms = moves_of all_steps 0 in
      let first = run_first answer_of after config handler all_steps more is in
      let before = run answer_of after all_steps (set_up config handler) in
      let issued = (run answer_of after (all_steps ++ more) (set_up config handler)).account.issued in
      let none_before = issued_before given config handler all_steps more is SetsNoAddress (each_of SetsNoAddress issued none) in
      let there = state_is given config handler all_steps first in
      let its = run_of answer_of after given config handler all_steps first in
      let kept = stays l ms its.begins its.fits
      (each_all SetsNoAddress (all_submitted answer_of after ms l) (subst (Each SetsNoAddress) (its_account given config handler all_steps first).issued none_before))
      (set_no_other l.reader.config.address l.controller.session.config.address ms its.steady) in
      let quiet = is_cleared config handler steps in
      let is_clear : IsClear before = record {
        to_reader = ap (λ (s : SimState H). s.to_reader) there ∙ ap (map spelling) quiet.to_reader;
        to_controller = ap (λ (s : SimState H). s.to_controller) there ∙ ap (map spelling) quiet.to_controller;
        address = ap (λ (s : SimState H). s.reader.config.address) there ∙ kept.0 ∙ same ∙ sym kept.1
            ∙ sym (ap (λ (s : SimState H). s.controller.session.config.address) there);
        ready = ap (λ (s : SimState H). s.reader.busy) there ∙ quiet.ready;
        stays = each_all SetsNoAddress before.account.issued none_before;
      } in
      let all_within = each_all IsInSession all_steps (each_append IsInSession steps (clear steps) (each_of IsInSession steps within) (tt, losses_within steps)) in
      let on = comes given in_time forgets ranges config handler all_steps m wait is all_within long plain is_clear lasts in
      omega (arith, on)
