-- A session that has ended has an end in its account, and no end leaves it.
use Rattle.osdp_bus_progress.proofs.Common.{◌≡◌, ◌≤◌, ℕ, zero, suc, List, [], ◌∷◌, ◌++◌, length, Some, sym, subst, ap, ◌∙◌, arith, length-append, slice_get, Command, Report, Closed, Answer, Each, Net, site_at, some_same, Account, with_report, rounds, SimStep, LineState, ReaderSite, after_step, IsNoOrder, FollowsSites, count, IsIdle, idle_sites, StaysAt, stays_all, stays_then, get_site}
use Rattle.osdp_controller.specs.States.{is_closed}
use Rattle.osdp_controller.specs.declared.report.Report.TheVariants as report
use Rattle.osdp_shared_line.specs.Line as line
use Rattle.osdp_sim.specs.Account.{lengths_of}
use Rattle.osdp_sim_bus.specs.Runs as simulation
use Rattle.osdp_sim_laws.proofs.Ends.{sessions_of_report}

none_before : {A : Type 0} (xs : List A) (x : A) → xs ++ x ∷ [] ≡ [] → xs ≡ []
none_before [] x none = absurd cc
none_before (y ∷ xs) x none = absurd cc

no_end_before : (r : Report) (a : Account) → (with_report (Some r) a).ends ≡ [] → a.ends ≡ []
no_end_before (report.Moved command answered) a none = none_before a.ends _ none
no_end_before (report.Lost cause command) a none = none_before a.ends _ none
no_end_before _ a none = none

module _ {H : Type 0} where
  -- the account of the reader at this place has no end
  abbrev pub NoEnd : ℕ → LineState H → Type 0
  NoEnd k s = (u : ReaderSite H) → slice_get s.sites k ≡ Some u → u.account.ends ≡ []

  -- .. and a session has begun in it
  abbrev pub HasBegun : ℕ → LineState H → Type 0
  HasBegun k s = (u : ReaderSite H) → slice_get s.sites k ≡ Some u → 1 ≤ length u.account.sessions

  -- so its session lasts
  pub lasts_there : (k : ℕ) (s : LineState H) (n : Net H) → FollowsSites s n → HasBegun k s → NoEnd k s → (t : line.Site H) → site_at k n.sites ≡ Some t
      → t.controller.session.state ≡ Closed → ⊥
  lasts_there k s n h begun none t at closed =
      let u = get_site k t s.sites n.sites h.sites at in
      let is = u.2 in
      let no_end : length u.0.account.ends ≡ 0 = ap (λ l. length l) (none u.0 u.1) in
      let shut : count (is_closed t.controller.session.state) ≡ 1 = ap (λ st. count (is_closed st)) closed in
      let ended = is.ended in
      let some = begun u.0 u.1 in
      absurd (omega (arith, no_end, shut, ended, some))

  abbrev EndsStay : ReaderSite H → ReaderSite H → Type 0
  EndsStay u v = v.account.ends ≡ [] → u.account.ends ≡ []

  abbrev MoreSessions : ReaderSite H → ReaderSite H → Type 0
  MoreSessions u v = length u.account.sessions ≤ length v.account.sessions

  module _ (answer_of : H → Command → Answer) (after : H → Command → H) where
    -- steps without an order
    pub idle_run : (R : ReaderSite H → ReaderSite H → Type 0) → IsIdle answer_of after R → (k : ℕ) (steps : List SimStep) (s : LineState H) → Each IsNoOrder steps
        → StaysAt R k s.sites (simulation.run answer_of after steps s).sites
    idle_run R idle k [] s idles = stays_all R idle.same k s.sites
    idle_run R idle k (step ∷ steps) s idles =
        let next = after_step answer_of after step s in
        stays_then R idle.both k s.sites next.sites (simulation.run answer_of after steps next).sites
        (idle_sites answer_of after R idle k step s idles.0) (idle_run R idle k steps next idles.1)

    ends_idle : IsIdle answer_of after EndsStay
    ends_idle = record {
      same = λ u none. none;
      both = λ u v w one more none. one (more none);
      hears = λ p u none. none;
      told = λ r u none. no_end_before r u.account none;
      busy = λ busy u none. none;
      begins = λ u none. none;
    }

    sessions_idle : IsIdle answer_of after MoreSessions
    sessions_idle = record {
      same = λ u. omega arith;
      both = λ u v w one more. omega (arith, one, more);
      hears = λ p u. omega arith;
      told = λ r u. omega (arith, ap (λ l. length l) (sessions_of_report (Some r) u.account));
      busy = λ busy u. omega arith;
      begins = λ u. omega (arith, length-append u.account.sessions (lengths_of u.account ∷ []));
    }

    pub rounds_idle : (m wait : ℕ) → Each IsNoOrder (rounds m wait)
    rounds_idle zero wait = tt
    rounds_idle (suc m) wait = (tt, (tt, (tt, rounds_idle m wait)))

    -- where it has none after these rounds it has none before them
    pub none_before_rounds : (k m wait : ℕ) (s : LineState H) → NoEnd k (simulation.run answer_of after (rounds m wait) s) → NoEnd k s
    none_before_rounds k m wait s none u at =
        let later = idle_run EndsStay ends_idle k (rounds m wait) s (rounds_idle m wait) u at in
        later.2 (none later.0 later.1)

    -- a session that has begun before them has begun after them
    pub begun_after_rounds : (k m wait : ℕ) (s : LineState H) (u : ReaderSite H) → slice_get s.sites k ≡ Some u → HasBegun k s
        → HasBegun k (simulation.run answer_of after (rounds m wait) s)
    begun_after_rounds k m wait s u at begun v there =
        let later = idle_run MoreSessions sessions_idle k (rounds m wait) s (rounds_idle m wait) u at in
        subst (λ (w : ReaderSite H). 1 ≤ length w.account.sessions) (some_same later.0 v (sym later.1 ∙ there)) (omega (arith, begun u at, later.2))
