-- What holds of each schedule.
use Rattle.osdp_sim_laws.proofs.Common.{◌≡◌, ◌<◌, ℕ, Bool, true, false, arith, List, length, refl, sym, subst, Result, Ok, Err, ◌≤◌, ◌-◌, zero, suc, take, inl, inr, ◌+◌, ◌⊎◌, Command, is_closed, Answer, Begins, each_all, each_of, keep_reader, count, Account, empty_account, lists_of, with_session, FitAlong, Stops, run, steps_done, set_up, StepFits, after_step, fault_of, holds_on, well_on, ◌++◌, Cause, SimConfig, SimStep, AnswersEndOnce, AnswersHoldOnce, SessionsEndOnce, IsAnswer, IsNoRefusal, HoldsInOneSession, WasSetUp, account_in, reopens_in, OneLink, IsRun, ScheduleIsMoves, clock_after, first_link, moves_of}
use Rattle.osdp_link_laws.specs.Refusals as refusals
use Rattle.osdp_link_laws.specs.Reports.{reports}
use Rattle.osdp_sim.specs.declared.account.Account as declared
use Rattle.osdp_sim.specs.declared.fault.Fault.{Fault}
use Rattle.osdp_sim_laws.proofs.Accounts.{tells_of}
use Rattle.osdp_sim_laws.proofs.Carrying.{ArePackets}
use Rattle.osdp_sim_laws.proofs.Ends.{run_ended}
use Rattle.osdp_sim_laws.proofs.Ledger.{IsRunOf, of_one}
use Rattle.osdp_sim_laws.proofs.Schedules.{Follows, schedule_follows}

-- nothing is sent, and nothing is told
abbrev pub no_account : Account
no_account = with_session empty_account

pub nothing_sent : {H : Type 0} (config : SimConfig) (handler : H) → ArePackets (first_link config handler)
nothing_sent config handler = record { to_reader = tt; to_controller = tt }

-- so an only session begins, and that of each reader of several
pub begins : {H : Type 0} (config : SimConfig) (handler : H) → config.controller.address < 127 → Begins (first_link config handler)
begins config handler device = record {
  quiet = (_, refl);
  address = device;
  waiting = λ k d lt. absurd (omega (arith, lt));
  to_reader = refl;
  to_controller = refl;
}

pub last_one : (closed : Bool) (a : Account) → length a.ends + 1 ≡ length a.sessions + count closed
    → (length a.ends + 1 ≡ length a.sessions) ⊎ (length a.ends ≡ length a.sessions)
last_one true a ended = inr (omega (arith, ended))
last_one false a ended = inl (omega (arith, ended))

module _ {H : Type 0} (answer_of : H → Command → Answer) (after : H → Command → H) where
  -- the steps before
  pub run_first : (config : SimConfig) (handler : H) (steps more : List SimStep) → IsRun answer_of after config handler (steps ++ more)
      → IsRun answer_of after config handler steps
  run_first config handler steps more is = record {
    settings = is.settings;
    well = (well_on (after_step answer_of after) fault_of steps more (set_up config handler) is.well).0;
    fits = (holds_on (after_step answer_of after) (StepFits answer_of after) steps more (set_up config handler) is.fits).0;
  }

  -- the moves of a whole run
  pub follows_all : OneLink answer_of after → (config : SimConfig) (handler : H) (steps : List SimStep) → IsRun answer_of after config handler steps
      → Follows answer_of after (run answer_of after steps (set_up config handler)) (moves_of steps 0) (first_link config handler) (clock_after steps 0) no_account
  follows_all given config handler steps is =
      schedule_follows answer_of after given.reads steps (first_link config handler) 0 no_account (nothing_sent config handler) is.well is.fits

  pub run_of : OneLink answer_of after → (config : SimConfig) (handler : H) (steps : List SimStep) → IsRun answer_of after config handler steps
      → IsRunOf answer_of after (moves_of steps 0) (first_link config handler)
  run_of given config handler steps is =
      let follows = follows_all given config handler steps is in
      record {
        begins = begins config handler is.settings.controller.config_in_range.address;
        commands = refl;
        events = refl;
        fits = follows.moves;
        steady = follows.ordinary;
      }

  pub schedule_is_moves : OneLink answer_of after → ScheduleIsMoves answer_of after
  schedule_is_moves given config handler steps settings well fits =
      let follows = follows_all given config handler steps (record { settings = settings; well = well; fits = fits }) in
      record {
        begins = begins config handler settings.controller.config_in_range.address;
        fit = follows.moves;
        follows = follows.carried.state;
        tells = tells_of answer_of after (run answer_of after steps (set_up config handler)).account (moves_of steps 0) (first_link config handler) follows.carried.adds;
      }

  sessions_end : OneLink answer_of after → (config : SimConfig) (handler : H) (steps : List SimStep) → IsRun answer_of after config handler steps
      → SessionsEndOnce (run answer_of after steps (set_up config handler)).account
  sessions_end given config handler steps is =
      let l = first_link config handler in
      let ms = moves_of steps 0 in
      let s = run answer_of after steps (set_up config handler) in
      let follows = follows_all given config handler steps is in
      let none = given.causes l ms (begins config handler is.settings.controller.config_in_range.address) follows.moves (keep_reader ms follows.ordinary) in
      record {
        count = last_one (is_closed s.controller.session.state) s.account (run_ended answer_of after given.told steps (set_up config handler) is.well refl);
        causes = each_all IsNoRefusal s.account.ends
            (follows.carried.adds.causes (each_of refusals.IsNoRefusal (reports answer_of after ms l) none) tt);
      }

  -- ---- what is answered

  -- the account is that of the steps that were taken
  pub answers : (P : Account → Type 0) (config : SimConfig) (handler : H) (steps : List SimStep) (answer : Result declared.Account (Fault declared.Account))
      → IsAnswer answer_of after config handler steps answer → WasSetUp answer
      → (IsRun answer_of after config handler (steps_done steps answer) → P (run answer_of after (steps_done steps answer) (set_up config handler)).account)
      → P (account_in answer)
  answers P config handler steps (Ok account) is was holds =
      subst P (sym is.ends.2) (holds (record { settings = is.ends.0; well = is.ends.1; fits = is.fits }))
  answers P config handler steps (Err fault) is was holds = by_step fault.step fault.cause (lists_of fault.account) is.ends is.fits was holds
    where
      by_step : (at : ℕ) (why : Cause) (lists : Account) → Stops answer_of after at why lists config handler steps
          → FitAlong answer_of after (take (at - 1) steps) (set_up config handler) → 1 ≤ at
          → (IsRun answer_of after config handler (take (at - 1) steps) → P (run answer_of after (take (at - 1) steps) (set_up config handler)).account) → P lists
      by_step zero why lists stops fits was holds = absurd (omega (arith, was))
      by_step (suc before) why lists stops fits was holds =
          subst P (sym stops.1.account) (holds (record { settings = stops.0; well = stops.1.well; fits = fits }))

  pub all_end : OneLink answer_of after → AnswersEndOnce answer_of after
  all_end given config handler steps answer is was =
      answers SessionsEndOnce config handler steps answer is was (sessions_end given config handler (steps_done steps answer))

  pub all_once : OneLink answer_of after → ((config : SimConfig) (handler : H) (steps : List SimStep)
      → length (run answer_of after steps (set_up config handler)).account.sessions ≡ 1 + reopens_in 1 steps) → AnswersHoldOnce answer_of after
  all_once given counted config handler steps answer is was none =
      let done = steps_done steps answer in
      answers (HoldsInOneSession answer_of after config.reader handler) config handler steps answer is was
      (λ so.
      let a = (run answer_of after done (set_up config handler)).account in
      let tells = (schedule_is_moves given config handler done so.settings so.well so.fits).tells in
      of_one answer_of after given.ledger (moves_of done 0) (first_link config handler) a (run_of given config handler done so) tells (sessions_end given config handler done so)
      (omega (arith, counted config handler done, none)))
