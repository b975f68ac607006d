-- Each reader's account is that of a run of its link.
use Rattle.osdp_sim_bus_laws.proofs.Common.{◌≡◌, ◌-◌, ◌≤◌, ℕ, zero, suc, List, ◌++◌, length, map, take, Some, Ok, Err, refl, sym, subst, ap, ◌∙◌, arith, slice_get-map, slice_get, option_map, Command, is_closed, Answer, BusConfig, each_all, each_of, run, site_at, view, IsScheduled, are_steady, Account, SimStep, FitAlong, Stops, lists_of_all, new_site, steps_done, Given, ReaderSite, StepFits, accounts, after_step, fault_of, holds_on, set_up, SessionsEndOnce, IsNoRefusal, last_one, BusAnswer, IsAnswer, IsRun, OfEach, WasSetUp, accounts_in, IsSiteOf, SchedulesAreMoves, first_net, first_site, moves_of}
use Rattle.osdp_shared_line.specs.Line as line
use Rattle.osdp_link_laws.specs.Link.{Link, Move}
use Rattle.osdp_shared_line.specs.Addresses.{NetMovesFit}
use Rattle.osdp_shared_line.specs.Runs.{EachIsALink, IsItsLink}
use Rattle.osdp_shared_line.specs.Runs as runs
use Rattle.osdp_shared_line.proofs.Sites.{some_same}
use Rattle.osdp_bus_links.proofs.Keeping.{moves_usual}
use Rattle.osdp_sim.proofs.Schedules.{well_on}
use Rattle.osdp_sim_laws.specs.Moves.{TellsOfMoves}
use Rattle.osdp_sim.specs.declared.fault.Cause.{Cause}
use Rattle.osdp_sim_bus.specs.Laws.{HasAnAccountEach}
use Rattle.osdp_sim_bus.specs.Runs as simulation
use Rattle.osdp_sim_laws.specs.Accounts.{HoldsInOneSession}
use Rattle.osdp_sim_laws.specs.OneLink.{KeepsLedger}
use Rattle.osdp_sim_laws.proofs.Ledger.{IsRunOf, of_one}
use Rattle.osdp_sim_bus_laws.proofs.Beginning.{follows_first, has_site, is_set_up, nothing_is_kept}
use Rattle.osdp_sim_bus_laws.proofs.Sites.{get_site}

module _ {H : Type 0} where
  pub account_at : (k : ℕ) (u : ReaderSite H) (us : List (ReaderSite H)) → slice_get us k ≡ Some u
      → slice_get (map (λ (site : ReaderSite H). site.account) us) k ≡ Some u.account
  account_at k u us is =
      slice_get-map (λ (site : ReaderSite H). site.account) us k ∙ ap (option_map (λ (site : ReaderSite H). site.account)) is

  -- the link of a reader, on which its first session begins
  abbrev pub its_first : BusConfig → List (Given H) → ℕ → Given H → Link H
  its_first config readers k given = view k (first_site config given) (first_net config readers)

  module _ (answer_of : H → Command → Answer) (after : H → Command → H) where
    -- ---- a run

    abbrev pub told_by : BusConfig → List (Given H) → List SimStep → List Account
    told_by config readers steps = accounts (simulation.run answer_of after steps (set_up config readers))

    -- the accounts that are answered are those of the steps that were taken
    pub answers : (P : List Account → Type 0) (config : BusConfig) (readers : List (Given H)) (steps : List SimStep) (answer : BusAnswer)
        → IsAnswer answer_of after config readers steps answer → WasSetUp answer
        → (IsRun answer_of after config readers (steps_done steps answer) → P (told_by config readers (steps_done steps answer))) → P (accounts_in answer)
    answers P config readers steps (Ok told) is was holds =
        subst P (sym is.ends.2) (holds (record { settings = is.ends.0; well = is.ends.1; fits = is.fits }))
    answers P config readers steps (Err fault) is was holds =
        by_step fault.step fault.cause (lists_of_all fault.account.items) is.ends is.fits was holds
      where
        by_step : (at : ℕ) (why : Cause) (lists : List Account) → Stops answer_of after at why lists config readers steps
            → FitAlong answer_of after (take (at - 1) steps) (set_up config readers) → 1 ≤ at
            → (IsRun answer_of after config readers (take (at - 1) steps) → P (told_by config readers (take (at - 1) steps))) → P lists
        by_step zero why lists stops fits was holds = absurd (omega (arith, was))
        by_step (suc before) why lists stops fits was holds =
            subst P (sym stops.1.account) (holds (record { settings = stops.0; well = stops.1.well; fits = fits }))

    -- the steps before
    pub run_first : (config : BusConfig) (readers : List (Given H)) (steps more : List SimStep) → IsRun answer_of after config readers (steps ++ more)
        → IsRun answer_of after config readers steps
    run_first config readers steps more is = record {
      settings = is.settings;
      well = (well_on (after_step answer_of after) fault_of steps more (set_up config readers) is.well).0;
      fits = (holds_on (after_step answer_of after) (StepFits answer_of after) steps more (set_up config readers) is.fits).0;
    }

    -- ---- the link of a reader

    -- the moves of these steps that are its own
    abbrev pub own_moves : BusConfig → List (Given H) → List SimStep → ℕ → List (Move H)
    own_moves config readers steps k = runs.moves_of answer_of after k (moves_of answer_of after steps (set_up config readers)) (first_net config readers)

    pub record ItsLink (config : BusConfig) (readers : List (Given H)) (steps : List SimStep) (k : ℕ) (given : Given H) : Type 0 where
      pub begins : site_at k (first_net config readers).sites ≡ Some (first_site config given)
      pub all_fit : NetMovesFit answer_of after (moves_of answer_of after steps (set_up config readers)) (first_net config readers)
      pub its : IsItsLink answer_of after k (first_site config given) (moves_of answer_of after steps (set_up config readers)) (first_net config readers)
      pub run_of : IsRunOf answer_of after (own_moves config readers steps k) (its_first config readers k given)
      -- its account tells of them
      pub site : ReaderSite H
      pub there : slice_get (simulation.run answer_of after steps (set_up config readers)).sites k ≡ Some site
      pub is_site : IsSiteOf site its.moved.site
      pub tells : TellsOfMoves answer_of after site.account (own_moves config readers steps k) (its_first config readers k given)

    pub its_link : SchedulesAreMoves answer_of after → EachIsALink answer_of after → (config : BusConfig) (readers : List (Given H)) (steps : List SimStep)
        → IsRun answer_of after config readers steps → (k : ℕ) (given : Given H) → slice_get readers k ≡ Some given → ItsLink config readers steps k given
    its_link schedules links config readers steps is k given at =
        let first = first_net config readers in
        let start = set_up config readers in
        let up = is_set_up config readers is.settings in
        let moves = moves_of answer_of after steps start in
        let done = schedules steps start first up (nothing_is_kept config readers) (follows_first config readers) is.well is.fits in
        let there = has_site config k given readers at in
        let its = links first moves up done.fits k (first_site config given) there in
        let told = done.tells k (new_site given) (first_site config given) (slice_get-map new_site readers k ∙ ap (option_map new_site) at) refl there in
        let mine = get_site k its.moved.site (simulation.run answer_of after steps start).sites (run answer_of after moves first).sites done.follows.sites its.moved.there in
        record {
          begins = there;
          all_fit = done.fits;
          its = its;
          run_of = record {
            begins = up.begins k (first_site config given) there;
            commands = refl;
            events = refl;
            fits = its.fits;
            steady = are_steady (own_moves config readers steps k) (moves_usual answer_of after moves k first (each_of IsScheduled moves done.scheduled));
          };
          site = told.0;
          there = told.1;
          is_site = subst (λ v. IsSiteOf v its.moved.site) (some_same mine.0 told.0 (sym mine.1 ∙ told.1)) mine.2;
          tells = told.2;
        }

    -- .. whatever the reader is called
    pub tells_at : (config : BusConfig) (readers : List (Given H)) (steps : List SimStep) (k : ℕ) (given : Given H) → ItsLink config readers steps k given → (u : ReaderSite H)
        → slice_get (simulation.run answer_of after steps (set_up config readers)).sites k ≡ Some u
        → TellsOfMoves answer_of after u.account (own_moves config readers steps k) (its_first config readers k given)
    tells_at config readers steps k given own u there =
        subst (λ (v : ReaderSite H). TellsOfMoves answer_of after v.account (own_moves config readers steps k) (its_first config readers k given))
        (some_same own.site u (sym own.there ∙ there)) own.tells

    -- of the account of a reader: its sessions have ended, and hold where one has begun
    abbrev pub IsRow : Given H → Account → Type 0
    IsRow given a = SessionsEndOnce a × (length a.sessions ≡ 1 → HoldsInOneSession answer_of after given.0 given.2 a)

    site_ends : (u : ReaderSite H) (t : line.Site H) → IsSiteOf u t → SessionsEndOnce u.account
    site_ends u t is =
        let a = u.account in
        record { count = last_one (is_closed t.controller.session.state) a is.ended; causes = each_all IsNoRefusal a.ends is.causes }

    module _ (schedules : SchedulesAreMoves answer_of after) (links : EachIsALink answer_of after) (ledger : KeepsLedger answer_of after)
        (counts : HasAnAccountEach answer_of after) where
      pub each_row : (config : BusConfig) (readers : List (Given H)) (steps : List SimStep) → IsRun answer_of after config readers steps
          → OfEach (λ k given. IsRow given) readers (told_by config readers steps)
      each_row config readers steps is = record {
        count = counts config readers steps;
        each = λ k given at.
            let own = its_link schedules links config readers steps is k given at in
            let ends = site_ends own.site own.its.moved.site own.is_site in (
              own.site.account,
              account_at k own.site (simulation.run answer_of after steps (set_up config readers)).sites own.there,
              (ends, of_one answer_of after ledger (own_moves config readers steps k) (its_first config readers k given) own.site.account own.run_of own.tells ends),
            );
      }
