-- Between the clearing of a line and the rounds after it, and between these rounds.
use Rattle.osdp_sim_laws.proofs.Common.{◌≡◌, ◌⊎◌, ◌≤◌, ℕ, zero, suc, true, false, arith, List, [], ◌∷◌, ◌++◌, inl, inr, refl, sym, subst, ap, ◌∙◌, append_assoc, map, spelling, Command, is_closed, is_due, new_machine, seen, State, Closed, Idle, ComesDue, IsInRange, StaysInRange, longest_wait, Begin, Answer, Begins, MovesFit, Link, Move, keep_reader, each_append, each_of, Each, round, rounds, run, SimState, room_for, set_up, moment_after, SimConfig, SimStep, IsInSession, clock_after, first_link, moves_of, OneLink, IsClear, IsRun, clear}
use Rattle.osdp_link_laws.specs.Link as link
use Rattle.osdp_link_laws.specs.Progress as progress
use Rattle.osdp_link_laws.specs.Refusals.{KeepsReader}
use Rattle.osdp_link_laws.proofs.Controllers.{stays_between}
use Rattle.osdp_link_laws.proofs.Counting.{none_in_session}
use Rattle.osdp_link_laws.proofs.Due.{closed_rests}
use Rattle.osdp_link_laws.proofs.InTime.{late_due, rounds_closed, run_range}
use Rattle.osdp_sim_laws.specs.Resting.{BringsOneMore, ClearsTheLine, EachRoundBringsOneMore, EachRoundRests}
use Rattle.osdp_sim_laws.proofs.Coming.{are_late, clear_link, is_cleared, lasts_at, link_after, moments_of, rounds_bring, rounds_fit, rounds_joined, rounds_within, state_is, steps_in_time}
use Rattle.osdp_sim_laws.proofs.Holding.{run_first, run_of}
use Rattle.osdp_sim_laws.proofs.Schedules.{moves_both, run_both}

-- one round after the others
one_longer : (m wait : ℕ) → rounds (suc m) wait ≡ rounds m wait ++ rounds 1 wait
one_longer zero wait = refl
one_longer (suc m) wait = ap (λ l. round wait ++ l) (one_longer m wait)

idle_lasts : (state : State) → (due : ℕ) × (state ≡ Idle due) → state ≡ Closed → ⊥
idle_lasts state (due, idle) closed = let same : Idle due ≡ Closed = sym idle ∙ closed in cc

module _ {H : Type 0} (answer_of : H → Command → Answer) (after : H → Command → H) where
  -- ---- one link

  -- the link is where these moves have led from a link on which the first session begins
  pub record IsLed (l : Link H) : Type 0 where
    pub first : Link H
    pub moves : List (Move H)
    pub begins : Begins first
    pub fits : MovesFit answer_of after moves first
    pub leads : l ≡ link.run answer_of after moves first

  pub led_on : (ms : List (Move H)) (l : Link H) → IsLed l → MovesFit answer_of after ms l → IsLed (link.run answer_of after ms l)
  led_on ms l led fits = record {
    first = led.first;
    moves = led.moves ++ ms;
    begins = led.begins;
    fits = moves_both answer_of after led.moves ms led.first led.fits (subst (MovesFit answer_of after ms) led.leads fits);
    leads = ap (link.run answer_of after ms) led.leads ∙ sym (run_both answer_of after led.moves ms led.first);
  }

  -- its session has ended, or nothing is on its line and nobody waits for an answer
  abbrev pub EndsOrRests : Link H → Type 0
  EndsOrRests l = (l.controller.session.state ≡ Closed) ⊎ (progress.IsClear l × progress.IsAtRest l)

  pub round_rests : progress.ComesToRest answer_of after → (now : ℕ) (l : Link H) → IsLed l → progress.IsClear l → is_due now l.controller ≡ true
      → MovesFit answer_of after (progress.round now) l → EndsOrRests (link.run answer_of after (progress.round now) l)
  round_rests rests now l led quiet due fits =
      subst (λ k. EndsOrRests (link.run answer_of after (progress.round now) k)) (sym led.leads)
      (rests led.first led.moves now led.begins led.fits (subst progress.IsClear led.leads quiet)
      (subst (λ (k : Link H). is_due now k.controller ≡ true) led.leads due) (subst (MovesFit answer_of after (progress.round now)) led.leads fits))

  -- so it is after each of some rounds whose ticks are due
  rounds_rest : progress.ComesToRest answer_of after → (now : ℕ) (moments : List ℕ) (l : Link H) → IsLed l → progress.IsClear l
      → progress.AreDue answer_of after (now ∷ moments) l → MovesFit answer_of after (progress.rounds (now ∷ moments)) l
      → EndsOrRests (link.run answer_of after (progress.rounds (now ∷ moments)) l)
  rounds_rest rests now [] l led quiet due fits = round_rests rests now l led quiet due.0 fits
  rounds_rest rests now (next ∷ moments) l led quiet due fits =
      let m = link.run answer_of after (progress.round now) l in
      let first : MovesFit answer_of after (progress.round now) l = (fits.0, (fits.1.0, (fits.1.1.0, tt))) in
      elim (round_rests rests now l led quiet due.0 first) [
        | inl closed ↦ absurd (closed_rests m.controller.session.state (seen next m.controller.session) m.controller.waiting closed due.1.0)
        | inr calm ↦ rounds_rest rests next moments m (led_on (progress.round now) l led first) calm.0 due.1 fits.1.1.1
      ]

  -- ---- a schedule

  pub clears_the_line : OneLink answer_of after → ClearsTheLine answer_of after
  clears_the_line given config handler steps is =
      let there = state_is answer_of after given config handler (steps ++ clear steps) is in
      let quiet = is_cleared answer_of after config handler steps in
      record {
        to_reader = ap (λ (s : SimState H). s.to_reader) there ∙ ap (map spelling) quiet.to_reader;
        to_controller = ap (λ (s : SimState H). s.to_controller) there ∙ ap (map spelling) quiet.to_controller;
        ready = ap (λ (s : SimState H). s.reader.busy) there ∙ quiet.ready;
      }

  module _ (given : OneLink answer_of after) (rests : progress.ComesToRest answer_of after) (ranges : StaysInRange) (comes : ComesDue) where
    first_range : (config : SimConfig) (handler : H) → IsInRange (first_link config handler).controller.session
    first_range config handler =
        ranges.later (new_machine config.controller config.commands (room_for config.commands).bytes) (Begin 0 ∷ []) (ranges.new config.controller config.commands (room_for config.commands).bytes)

    -- the link after the rounds
    rests_at : (config : SimConfig) (handler : H) (steps : List SimStep) (m wait : ℕ) → IsRun answer_of after config handler (steps ++ rounds (suc m) wait)
        → longest_wait config.controller ≤ wait → IsClear (run answer_of after steps (set_up config handler))
        → EndsOrRests (link_after answer_of after config handler (steps ++ rounds (suc m) wait))
    rests_at config handler steps m wait is long quiet =
        let l = first_link config handler in
        let more = rounds (suc m) wait in
        let ms : List (Move H) = moves_of steps 0 in
        let clock = clock_after steps 0 in
        let later = link_after answer_of after config handler steps in
        let moments = moments_of (suc m) wait clock in
        let its = run_of answer_of after given config handler steps (run_first answer_of after config handler steps more is) in
        let timely = steps_in_time answer_of after wait steps 0 l (omega arith) (omega arith, long) in
        let moves = rounds_fit answer_of after given config handler steps (suc m) wait is in
        let range = run_range answer_of after ranges ms l its.fits (first_range config handler) in
        let calm = clear_link answer_of after given config handler steps more is quiet in
        let led : IsLed later = record { first = l; moves = ms; begins = its.begins; fits = its.fits; leads = refl } in
        subst EndsOrRests (sym (rounds_joined answer_of after given config handler steps (suc m) wait is))
        (elim (late_due answer_of after ranges comes moments later moves range (are_late answer_of after (suc m) wait clock later timely.0 timely.1)) [
          | inl closed ↦ inl closed
          | inr due ↦ rounds_rest rests (moment_after wait clock) (moments_of m wait (moment_after wait clock)) later led calm due moves
        ])

    -- a session that has ended has an end in the account
    not_over : (config : SimConfig) (handler : H) (steps : List SimStep) → IsRun answer_of after config handler steps
        → (run answer_of after steps (set_up config handler)).account.ends ≡ [] → (link_after answer_of after config handler steps).controller.session.state ≡ Closed → ⊥
    not_over config handler steps is none closed =
        let both : true ≡ false = sym (ap is_closed closed) ∙ lasts_at answer_of after given config handler steps is none in absurd cc

    pub each_round_rests : EachRoundRests answer_of after
    each_round_rests config handler steps m wait is within long quiet none =
        let all = steps ++ rounds (suc m) wait in
        let there = state_is answer_of after given config handler all is in
        elim (rests_at config handler steps m wait is long quiet) [
          | inl closed ↦ absurd (not_over config handler all is none closed)
          | inr calm ↦ record {
            to_reader = ap (λ (s : SimState H). s.to_reader) there ∙ ap (map spelling) calm.0.to_reader;
            to_controller = ap (λ (s : SimState H). s.to_controller) there ∙ ap (map spelling) calm.0.to_controller;
            idle = (calm.1.0, ap (λ (s : SimState H). s.controller.session.state) there ∙ calm.1.1);
          }
        ]

    -- steps that leave the link clear and at rest, and one round more
    one_more : progress.ForgetsNone answer_of after → progress.ComesThroughFromRest answer_of after → (config : SimConfig) (handler : H) (steps : List SimStep) (wait : ℕ)
        → IsRun answer_of after config handler (steps ++ rounds 1 wait) → Each IsInSession steps → longest_wait config.controller ≤ wait
        → config.controller.poll_between_orders ≡ false → EndsOrRests (link_after answer_of after config handler steps) → let last = run answer_of after (steps ++ rounds 1 wait) (set_up config handler) in
        last.account.ends ≡ [] → BringsOneMore (run answer_of after steps (set_up config handler)).account last.account
    one_more forgets from_rest config handler steps wait is within long plain found none =
        let l = first_link config handler in
        let ms : List (Move H) = moves_of steps 0 in
        let clock = clock_after steps 0 in
        let now = moment_after wait clock in
        let later = link_after answer_of after config handler steps in
        let joined = rounds_joined answer_of after given config handler steps 1 wait is in
        elim found [
          | inl closed ↦ absurd (not_over config handler (steps ++ rounds 1 wait) is none
              (ap (λ (k : Link H). k.controller.session.state) joined ∙ rounds_closed answer_of after ranges (now ∷ []) later closed))
          | inr calm ↦
              let its = run_of answer_of after given config handler steps (run_first answer_of after config handler steps (rounds 1 wait) is) in
              let timely = steps_in_time answer_of after wait steps 0 l (omega arith) (omega arith, long) in
              let range = run_range answer_of after ranges ms l its.fits (first_range config handler) in
              let late = are_late answer_of after 1 wait clock later timely.0 timely.1 in
              let due = comes now later.controller range (idle_lasts later.controller.session.state calm.1) late.0 in
              let more = from_rest l ms (now ∷ []) its.begins its.fits calm.0 (stays_between answer_of after false ms l its.steady plain) calm.1
              (inl (none_in_session answer_of after ms l (each_of KeepsReader ms (keep_reader ms its.steady)))) (due, tt) (rounds_fit answer_of after given config handler steps 1 wait is) in
              let brought = rounds_bring answer_of after given config handler steps 1 wait is ranges forgets within none in
              omega (arith, more, brought.more, brought.all)
        ]

    pub each_round_brings_one_more : progress.ForgetsNone answer_of after → progress.ComesThroughFromRest answer_of after → EachRoundBringsOneMore answer_of after
    each_round_brings_one_more forgets from_rest config handler steps m wait is within long plain quiet =
        let before = steps ++ rounds (suc m) wait in
        let longer : steps ++ rounds (suc (suc m)) wait ≡ before ++ rounds 1 wait =
        ap (λ l. steps ++ l) (one_longer (suc m) wait) ∙ sym (append_assoc steps (rounds (suc m) wait) (rounds 1 wait)) in
        let whole = subst (IsRun answer_of after config handler) longer is in
        let inside = each_append IsInSession steps (rounds (suc m) wait) (each_of IsInSession steps within) (rounds_within (suc m) wait) in
        subst (λ l. (run answer_of after l (set_up config handler)).account.ends ≡ []
        → BringsOneMore (run answer_of after before (set_up config handler)).account (run answer_of after l (set_up config handler)).account) (sym longer)
        (one_more forgets from_rest config handler before wait whole inside long plain
        (rests_at config handler steps m wait (run_first answer_of after config handler before (rounds 1 wait) whole) long quiet))
