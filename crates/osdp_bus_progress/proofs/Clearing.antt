-- A line is cleared: its readers are set ready, and what is on it is lost.
use Rattle.osdp_bus_progress.proofs.Common.{◌≡◌, ◌≤◌, ◌-◌, ℕ, zero, suc, false, ◌&&◌, cond, List, [], ◌∷◌, ◌++◌, length, map, Option, Some, None, is_some, refl, sym, subst, ap, ◌∙◌, arith, nat_le, slice_get, slice_set, option_map_or, le-leb, length-map, All-append, All-cons, All-head, All-nil, All-tail, packets_in, Command, Answer, after_next_report, Report, SetsNoAddress, each_all, holds_on, runs_on, well_on, Account, handed, left, rounds, Drop, SimStep, Busy, ToController, ToReader, TellsAtOnce, LineState, ReaderSite, accounts, set_up, StepFits, after_step, all_hear_each, changed_site, fault_of, hears_run, report_told, site_is_busy, takes_report, IsInSession, losses, EachComesOn, EachComesThrough, EachRecovers, IsClear, IsReady, NoneMoves, all_ready, clear, ClearsTheLine, SeveralLinks}
use Rattle.std.proofs.lemmas.List.{nil_from_length}
use Rattle.std.specs.List.{All}
use Rattle.osdp_sim_bus.specs.Runs as simulation
use Rattle.osdp_sim_laws.proofs.Clearing.{losses_within}
use Rattle.osdp_bus_progress.proofs.Bursts.{AtMost, as_many_as_steps}

-- ---- the readers

module _ {H : Type 0} where
  -- the first so many readers aren't busy
  calm : ℕ → List (ReaderSite H) → List (ReaderSite H)
  calm zero sites = sites
  calm (suc n) [] = []
  calm (suc n) (site ∷ sites) = site_is_busy false site ∷ calm n sites

  calm_long : (n : ℕ) (sites : List (ReaderSite H)) → length (calm n sites) ≡ length sites
  unfolding calm
  calm_long zero sites = refl
  calm_long (suc n) [] = refl
  calm_long (suc n) (site ∷ sites) = ap (λ (k : ℕ). suc k) (calm_long n sites)

  calm_accounts : (n : ℕ) (sites : List (ReaderSite H)) → map (λ (site : ReaderSite H). site.account) (calm n sites) ≡ map (λ (site : ReaderSite H). site.account) sites
  unfolding calm
  calm_accounts zero sites = refl
  calm_accounts (suc n) [] = refl
  calm_accounts (suc n) (site ∷ sites) = ap (λ (l : List Account). site.account ∷ l) (calm_accounts n sites)

  -- the next one too
  later_site : (n : ℕ) (site : ReaderSite H) (sites : List (ReaderSite H)) (o : Option (ReaderSite H))
      → option_map_or (λ (x : ReaderSite H). slice_set (site ∷ sites) (suc n) (site_is_busy false x)) o (site ∷ sites)
      ≡ site ∷ option_map_or (λ (x : ReaderSite H). slice_set sites n (site_is_busy false x)) o sites
  later_site n site sites None = refl
  later_site n site sites (Some x) = refl

  one_more : (n : ℕ) (sites : List (ReaderSite H)) → changed_site n (site_is_busy false) (calm n sites) ≡ calm (suc n) sites
  unfolding calm
  one_more zero [] = refl
  one_more zero (site ∷ sites) = refl
  one_more (suc n) [] = refl
  one_more (suc n) (site ∷ sites) =
      later_site n (site_is_busy false site) (calm n sites) (slice_get (calm n sites) n)
      ∙ ap (λ (l : List (ReaderSite H)). site_is_busy false site ∷ l) (one_more n sites)

  abbrev IsCalm : ReaderSite H → Type 0
  IsCalm site = site.reader.busy ≡ false

  all_calm : (sites : List (ReaderSite H)) → All IsCalm (calm (length sites) sites)
  unfolding calm
  all_calm [] = All-nil IsCalm
  all_calm (site ∷ sites) = All-cons IsCalm (site_is_busy false site) (calm (length sites) sites) refl (all_calm sites)

  -- readers that aren't busy, to which nothing was issued that moves them, are ready
  are_ready : (sites : List (ReaderSite H)) → All IsCalm sites → NoneMoves (map (λ (site : ReaderSite H). site.account) sites) → All IsReady sites
  are_ready [] h k = All-nil IsReady
  are_ready (site ∷ sites) h k =
      let Moves : Account → Type 0 = λ a. All SetsNoAddress a.issued in
      let others = map (λ (x : ReaderSite H). x.account) sites in
      All-cons IsReady site sites
      (record { ready = All-head IsCalm site sites h; issued = All-head Moves site.account others k })
      (are_ready sites (All-tail IsCalm site sites h) (All-tail Moves site.account others k))

-- ---- the steps

none_handed : (l : List (List ℕ)) → handed Drop l ≡ []
none_handed [] = refl
none_handed (burst ∷ rest) = refl

one_less : (l : List (List ℕ)) → length (left Drop l) ≡ length l - 1
one_less [] = refl
one_less (burst ∷ rest) = omega arith

-- the steps are of one session
pub in_session : (readers : ℕ) (steps : List SimStep) → All IsInSession (clear readers steps)
in_session readers steps =
    All-append IsInSession (all_ready readers) (losses steps) (set_ready readers) (each_all IsInSession (losses steps) (losses_within steps))
  where
    set_ready : (n : ℕ) → All IsInSession (all_ready n)
    set_ready zero = All-nil IsInSession
    set_ready (suc n) =
        All-append IsInSession (all_ready n) (Busy (suc n) false ∷ []) (set_ready n) (All-cons IsInSession (Busy (suc n) false) [] tt (All-nil IsInSession))

no_report : (o : Option (ℕ × Report)) → is_some o ≡ false → o ≡ None
no_report None e = refl
no_report (Some r) e = absurd cc

module _ {H : Type 0} (answer_of : H → Command → Answer) (after : H → Command → H) where
  -- a reader that is there is set ready
  sets_ready : (n : ℕ) (s : LineState H) → suc n ≤ length s.sites
      → after_step answer_of after (Busy (suc n) false) s ≡ record s { sites = changed_site n (site_is_busy false) s.sites }
  sets_ready n s there =
      let next = record s { sites = changed_site n (site_is_busy false) s.sites } in
      let back : suc n - 1 ≡ n = omega arith in
      let known = nat_le 1 (suc n) && nat_le (suc n) (length s.sites) in
      ap (λ (k : ℕ). cond known (record s { sites = changed_site k (site_is_busy false) s.sites }) s) back
      ∙ ap (λ t. cond (t && nat_le (suc n) (length s.sites)) next s) (le-leb 1 (suc n) (omega arith))
      ∙ ap (λ t. cond t next s) (le-leb (suc n) (length s.sites) there)

  ready_run : (n : ℕ) (s : LineState H) → n ≤ length s.sites → simulation.run answer_of after (all_ready n) s ≡ record s { sites = calm n s.sites }
  unfolding calm
  ready_run zero s h = refl
  ready_run (suc n) s h =
      let before = record s { sites = calm n s.sites } in
      let long = calm_long n s.sites in
      runs_on (after_step answer_of after) (all_ready n) (Busy (suc n) false ∷ []) s
      ∙ ap (λ (t : LineState H). after_step answer_of after (Busy (suc n) false) t) (ready_run n s (omega arith))
      ∙ sets_ready n before (omega arith)
      ∙ ap (λ (sites : List (ReaderSite H)). record s { sites = sites }) (one_more n s.sites)

  drops_front : packets_in [] ≡ [] → (s : LineState H)
      → after_step answer_of after (ToReader Drop) s ≡ record s { to_readers = left Drop s.to_readers }
  drops_front none s =
      let next = record s { to_readers = left Drop s.to_readers } in
      ap (λ (bytes : List ℕ). all_hear_each answer_of after (packets_in bytes) next) (none_handed s.to_readers)
      ∙ ap (λ ps. all_hear_each answer_of after ps next) none

  drops_answer : (s : LineState H) → s.bus.devices.report ≡ None
      → after_step answer_of after (ToController Drop) s ≡ record s { bus = after_next_report s.bus; to_bus = left Drop s.to_bus }
  drops_answer s none =
      let next = record s { to_bus = left Drop s.to_bus } in
      ap (λ (bytes : List ℕ). takes_report (record s { bus = hears_run bytes s.clock s.bus; to_bus = left Drop s.to_bus })) (none_handed s.to_bus)
      ∙ ap (λ o. report_told o (record next { bus = after_next_report next.bus })) none

  -- what is left after so many losses
  record IsLeft (n : ℕ) (s t : LineState H) : Type 0 where
    pub to_readers : length t.to_readers ≡ length s.to_readers - n
    pub to_bus : length t.to_bus ≡ length s.to_bus - n
    pub sites : t.sites ≡ s.sites

  losses_run : packets_in [] ≡ [] → (steps : List SimStep) (s : LineState H) → s.bus.devices.report ≡ None
      → IsLeft (length steps) s (simulation.run answer_of after (losses steps) s)
  losses_run none [] s waits = record { to_readers = omega arith; to_bus = omega arith; sites = refl }
  losses_run none (step ∷ steps) s waits =
      let mid = record s { to_readers = left Drop s.to_readers } in
      let next = record mid { bus = after_next_report mid.bus; to_bus = left Drop mid.to_bus } in
      let rest = losses_run none steps next refl in
      let end = simulation.run answer_of after (losses steps) next in
      let here : simulation.run answer_of after (losses (step ∷ steps)) s ≡ end =
      ap (λ (t : LineState H). simulation.run answer_of after (losses steps) (after_step answer_of after (ToController Drop) t)) (drops_front none s)
      ∙ ap (λ (t : LineState H). simulation.run answer_of after (losses steps) t) (drops_answer mid waits) in
      subst (λ (t : LineState H). IsLeft (length (step ∷ steps)) s t) (sym here)
      (shorter (length steps) s next end rest (one_less s.to_readers) (one_less s.to_bus) refl)
    where
      shorter : (k : ℕ) (a b c : LineState H) → IsLeft k b c → length b.to_readers ≡ length a.to_readers - 1 → length b.to_bus ≡ length a.to_bus - 1
          → b.sites ≡ a.sites → IsLeft (suc k) a c
      shorter k a b c is readers bus same =
          let one = is.to_readers in
          let other = is.to_bus in
          record { to_readers = omega arith; to_bus = omega arith; sites = is.sites ∙ same }

  -- ---- the line is clear, and no account has changed

  record IsCleared (before s : LineState H) : Type 0 where
    pub line : IsClear s
    pub same : accounts s ≡ accounts before

  cleared : packets_in [] ≡ [] → (s : LineState H) (readers : ℕ) (steps : List SimStep) → s.bus.devices.report ≡ None → length s.sites ≡ readers
      → AtMost (length steps) s → NoneMoves (accounts s) → IsCleared s (simulation.run answer_of after (clear readers steps) s)
  cleared none s readers steps waits all few moves =
      let ready = record s { sites = calm readers s.sites } in
      let end = simulation.run answer_of after (losses steps) ready in
      let here : simulation.run answer_of after (clear readers steps) s ≡ end =
      runs_on (after_step answer_of after) (all_ready readers) (losses steps) s
      ∙ ap (λ (t : LineState H). simulation.run answer_of after (losses steps) t) (ready_run readers s (omega arith)) in
      let is = losses_run none steps ready waits in
      let short = is.to_readers in
      let small = is.to_bus in
      let calm_sites : All IsCalm (calm readers s.sites) = subst (λ (n : ℕ). All IsCalm (calm n s.sites)) all (all_calm s.sites) in
      let told_same : accounts end ≡ accounts s =
      ap (λ (sites : List (ReaderSite H)). map (λ (site : ReaderSite H). site.account) sites) is.sites ∙ calm_accounts readers s.sites in
      let sites : All IsReady end.sites =
      are_ready end.sites (subst (λ (l : List (ReaderSite H)). All IsCalm l) (sym is.sites) calm_sites) (subst NoneMoves (sym told_same) moves) in
      subst (λ (t : LineState H). IsCleared s t) (sym here)
      (record {
        line = record {
          to_readers = nil_from_length end.to_readers (omega (arith, short, few.0));
          to_bus = nil_from_length end.to_bus (omega (arith, small, few.1));
          readers = sites;
        };
        same = told_same;
      })

  pub clears_the_line : SeveralLinks answer_of after → TellsAtOnce answer_of after → ClearsTheLine answer_of after
  clears_the_line on tells config readers steps is moves =
      let start = set_up config readers in
      let lost = clear (length readers) steps in
      let before = simulation.run answer_of after steps start in
      let waits = no_report before.bus.devices.report (tells config readers steps) in
      let places : length before.sites ≡ length readers =
      sym (length-map before.sites (λ (site : ReaderSite H). site.account)) ∙ on.counts config readers steps in
      let few = as_many_as_steps answer_of after on.schedules on.reads on.laws config readers is.settings steps
      (well_on (after_step answer_of after) fault_of steps lost start is.well).0
      (holds_on (after_step answer_of after) (StepFits answer_of after) steps lost start is.fits).0 in
      let over : IsCleared before (simulation.run answer_of after (steps ++ lost) start) =
      subst (λ (t : LineState H). IsCleared before t) (sym (runs_on (after_step answer_of after) steps lost start))
      (cleared on.reads.none before (length readers) steps waits places few moves) in
      (over.line, over.same)

  pub each_recovers : EachComesThrough answer_of after → ClearsTheLine answer_of after → EachRecovers answer_of after
  each_recovers comes clears config readers steps m wait is within long plain moves =
      let start = set_up config readers in
      let lost = clear (length readers) steps in
      let all_steps = steps ++ lost in
      let over = clears config readers steps (record {
        settings = is.settings;
        well = (well_on (after_step answer_of after) fault_of all_steps (rounds m wait) start is.well).0;
        fits = (holds_on (after_step answer_of after) (StepFits answer_of after) all_steps (rounds m wait) start is.fits).0;
      }) moves in
      let session = All-append IsInSession steps lost within (in_session (length readers) steps) in
      let through = comes config readers all_steps m wait is session long plain over.0 in
      subst (λ (l : List Account). EachComesOn m (length readers) l (accounts (simulation.run answer_of after (all_steps ++ rounds m wait) start)))
      over.1 through
