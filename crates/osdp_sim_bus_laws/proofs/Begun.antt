-- How many sessions the account of each reader has, and how long its lists were where each of them began.
use Rattle.osdp_sim_bus_laws.proofs.Common.{◌≡◌, ◌+◌, ◌-◌, ℕ, zero, suc, arith, Bool, true, false, if◌then◌else◌, List, [], ◌∷◌, length, Option, Some, None, refl, sym, subst, ap, ◌∙◌, length-append, slice_get-map, option_map, slice_get, Command, Event, Answer, lacks_room, submit_refusal_at, BusConfig, BusFault, Account, lengths_of, SimStep, Issue, Queue, Reopen, Given, LineState, ReaderSite, accounts, new_site, set_up, after_step, changed_site, is_there, issued, reopened, site_begins, site_hears, site_is_busy, site_issues, site_queues, site_queues_unless, reopens_in, AcceptsFor, inl, inr, IsRun, SchedulesAreMoves}
use Rattle.std.proofs.lemmas.Bool.Decides.{eqb_tells}
use Rattle.osdp_shared_line.specs.Runs.{EachIsALink}
use Rattle.osdp_sim_bus.specs.Runs.{run, steps_done}
use Rattle.osdp_sim_laws.specs.Begun.{AreBegun}
use Rattle.osdp_sim_laws.proofs.Begun.{Grows, are_begun, begun_by, grows_by_command, grows_by_event, grows_by_report, grows_by_session, grows_on, has_grown, stays}
use Rattle.osdp_sim_bus_laws.specs.Begun.{CameTo, EachBeginsByReopens}
use Rattle.osdp_sim_bus_laws.proofs.Accepting.{all_accepted}
use Rattle.osdp_sim_bus_laws.proofs.Idling.{still_sites, there_is, where_sites}
use Rattle.osdp_sim_bus_laws.proofs.Places.{StaysAt, get_changed, other_changed, stays_all, stays_changed, within}
use Rattle.osdp_sim_bus_laws.proofs.Rows.{account_at, answers, run_first, told_by}

same_item : {A : Type 0} {x y : A} → Some x ≡ Some y → x ≡ y
same_item is = cc

module _ {H : Type 0} (answer_of : H → Command → Answer) (after : H → Command → H) (k : ℕ) where
  -- no session begins
  abbrev Stays : ReaderSite H → ReaderSite H → Type 0
  Stays u v = Grows [] u.account v.account

  same : (u : ReaderSite H) → Stays u u
  same u = stays u.account u.account refl refl refl

  both : (u v w : ReaderSite H) → Stays u v → Stays v w → Stays u w
  both u v w one more = grows_on [] [] u.account v.account w.account one more

  issued_stays : (fault : Option BusFault) (place : ℕ) (c : Command) (s : LineState H) → StaysAt Stays k s.sites (issued fault place c s).sites
  issued_stays (Some fault) place c s = stays_all Stays same k s.sites
  issued_stays None place c s = stays_changed Stays same k place (site_issues c) s.sites (λ u. grows_by_command c u.account)

  queued_stays : (full : Bool) (e : Event) (u : ReaderSite H) → Stays u (site_queues_unless full e u)
  queued_stays true e u = same u
  queued_stays false e u = grows_by_event e u.account

  -- the account at the place, where a step begins its session again or doesn't
  abbrev GrowsBy : SimStep → LineState H → ReaderSite H → Type 0
  GrowsBy step s u =
      (v : ReaderSite H) × (slice_get (after_step answer_of after step s).sites k ≡ Some v) × Grows (begun_by (suc k) step u.account) u.account v.account

  begun_here : (s : LineState H) (u : ReaderSite H) → slice_get s.sites k ≡ Some u
      → (v : ReaderSite H) × (slice_get (after_step answer_of after (Reopen (suc k)) s).sites k ≡ Some v) × Grows (lengths_of u.account ∷ []) u.account v.account
  begun_here s u at =
      let less : suc k - 1 ≡ k = omega arith in
      let there = there_is k s (within k u s.sites at) in (
        site_begins u,
        ap (λ b. slice_get (if b then reopened (suc k - 1) s else s).sites k) there
            ∙ ap (λ j. slice_get (reopened j s).sites k) less ∙ get_changed k site_begins u s.sites at,
        grows_by_session u.account,
      )

  other_stays : (number : ℕ) (s : LineState H) → (number ≡ suc k → ⊥)
      → StaysAt Stays k s.sites (after_step answer_of after (Reopen number) s).sites
  other_stays zero s other = stays_all Stays same k s.sites
  other_stays (suc j) s other =
      where_sites answer_of after Stays same k (is_there (suc j) s) s (reopened (suc j - 1) s)
      (other_changed Stays same k (suc j - 1) site_begins s.sites (λ is. other (omega (arith, is))))

  reopen_grows : (number : ℕ) (s : LineState H) (u : ReaderSite H) → slice_get s.sites k ≡ Some u → GrowsBy (Reopen number) s u
  reopen_grows number s u at = elim (eqb_tells number (suc k)) [
    | inl same ↦
        subst (λ b. (v : ReaderSite H) × (slice_get (after_step answer_of after (Reopen number) s).sites k ≡ Some v)
        × Grows (if b then lengths_of u.account ∷ [] else []) u.account v.account) (sym same.0)
        (subst (λ i. (v : ReaderSite H) × (slice_get (after_step answer_of after (Reopen i) s).sites k ≡ Some v)
        × Grows (lengths_of u.account ∷ []) u.account v.account) (sym same.1) (begun_here s u at))
    | inr other ↦
        subst (λ b. (v : ReaderSite H) × (slice_get (after_step answer_of after (Reopen number) s).sites k ≡ Some v)
        × Grows (if b then lengths_of u.account ∷ [] else []) u.account v.account) (sym other.0) (other_stays number s other.1 u at)
  ]

  step_grows : (step : SimStep) (s : LineState H) (u : ReaderSite H) → slice_get s.sites k ≡ Some u → GrowsBy step s u
  step_grows (Issue number c) s u at =
      let next = issued (submit_refusal_at (number - 1) c s.bus) (number - 1) c s in
      where_sites answer_of after Stays same k (is_there number s) s next (issued_stays (submit_refusal_at (number - 1) c s.bus) (number - 1) c s) u at
  step_grows (Queue number e) s u at =
      where_sites answer_of after Stays same k (is_there number s) s (record s { sites = changed_site (number - 1) (site_queues e) s.sites })
      (stays_changed Stays same k (number - 1) (site_queues e) s.sites
      (λ v. queued_stays (lacks_room e v.reader.queue) e v)) u at
  step_grows (Reopen number) s u at = reopen_grows number s u at
  step_grows step s u at =
      still_sites answer_of after Stays same k both (λ p v. stays v.account (site_hears answer_of after p v).account refl refl refl) (λ r v. grows_by_report (Some r) v.account)
      (λ busy v. stays v.account (site_is_busy busy v).account refl refl refl) step s tt tt u at

  -- the account of the reader at the place
  abbrev pub Tells : LineState H → Account → Type 0
  Tells s a = (u : ReaderSite H) × (slice_get s.sites k ≡ Some u) × (a ≡ u.account)

  one_account : (s : LineState H) (a b : Account) → Tells s a → Tells s b → a ≡ b
  one_account s a b (u, at, is) (v, also, other) =
      is ∙ ap (λ (w : ReaderSite H). w.account) (same_item (sym at ∙ also)) ∙ sym other

  grow : (step : SimStep) (s : LineState H) (a : Account) → Tells s a
      → (b : Account) × Tells (after_step answer_of after step s) b × Grows (begun_by (suc k) step a) a b
  grow step s a (u, at, is) =
      let next = step_grows step s u at in (
        next.0.account,
        (next.0, next.1, refl),
        subst (λ (b : Account). Grows (begun_by (suc k) step b) b next.0.account) (sym is) next.2,
      )

  -- ---- from the set-up on

  module _ (config : BusConfig) (readers : List (Given H)) (given : Given H) (at : slice_get readers k ≡ Some given) where
    first_tells : Tells (set_up config readers) (new_site given).account
    first_tells = (new_site given, slice_get-map new_site readers k ∙ ap (option_map new_site) at, refl)

    -- as many sessions of it have begun
    pub sessions_counted : (list : List SimStep) (u : ReaderSite H) → slice_get (run answer_of after list (set_up config readers)).sites k ≡ Some u
        → length u.account.sessions ≡ 1 + reopens_in (suc k) list
    sessions_counted list u there =
        let s = set_up config readers in
        let first = (new_site given).account in
        let grown = has_grown (after_step answer_of after) Tells one_account (suc k) grow list s first first_tells in
        let same = one_account (run answer_of after list s) grown.last u.account grown.tells (u, there, refl) in
        omega (arith, ap (λ (a : Account). length a.sessions) same, ap length grown.grows.sessions, length-append first.sessions grown.more, grown.count)

    abbrev Accepted : Type 0
    Accepted = (list : List SimStep) → IsRun answer_of after config readers list
        → (a : Account) × (slice_get (told_by answer_of after config readers list) k ≡ Some a) × AcceptsFor config.room given.1 (suc k) list a

    came_to : Accepted → (list : List SimStep) → IsRun answer_of after config readers list
        → (was : Account) → Tells (run answer_of after list (set_up config readers)) was → CameTo answer_of after config readers k given list was
    came_to accepted list taken was (u, there, is) =
        let s = run answer_of after list (set_up config readers) in
        let here : slice_get (accounts s) k ≡ Some was = account_at k u s.sites there ∙ ap Some (sym is) in
        let room = accepted list taken in
        record { run = here; room = subst (λ a. AcceptsFor config.room given.1 (suc k) list a) (same_item (sym room.1 ∙ here)) room.2 }

    pub all_begun : Accepted → (list : List SimStep) → IsRun answer_of after config readers list → (a : Account) × (slice_get (told_by answer_of after config readers list) k ≡ Some a)
        × AreBegun (suc k) (CameTo answer_of after config readers k given) list a
    all_begun accepted list taken =
        let first = set_up config readers in
        let grown = has_grown (after_step answer_of after) Tells one_account (suc k) grow list first (new_site given).account first_tells in (
          grown.last,
          (came_to accepted list taken grown.last grown.tells).run,
          are_begun (after_step answer_of after) Tells one_account (suc k) grow first (new_site given).account first_tells refl list grown.last grown.tells
              (CameTo answer_of after config readers k given)
              (λ before more part. came_to accepted before (run_first answer_of after config readers before more (subst (IsRun answer_of after config readers) part taken))),
        )

module _ {H : Type 0} (answer_of : H → Command → Answer) (after : H → Command → H) where
  pub each_begins : SchedulesAreMoves answer_of after → EachIsALink answer_of after → EachBeginsByReopens answer_of after
  each_begins schedules each config readers steps answer is was k given at =
      let done = steps_done steps answer in
      answers answer_of after
      (λ told. (a : Account) × (slice_get told k ≡ Some a) × AreBegun (suc k) (CameTo answer_of after config readers k given) done a)
      config readers steps answer is was
      (λ so. all_begun answer_of after k config readers given at (λ list taken. all_accepted answer_of after schedules each config readers list taken k given at) done so)
