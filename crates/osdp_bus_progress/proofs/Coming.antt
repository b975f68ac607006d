-- Something comes through for each of several readers.
use Rattle.osdp_bus_progress.proofs.Common.{◌≡◌, ◌≤◌, ◌<◌, ◌+◌, ◌++◌, ℕ, zero, suc, false, All, List, [], ◌∷◌, length, map, Some, inl, inr, refl, sym, subst, ap, ◌∙◌, arith, append_assoc, length-map, Packet, spelling, Command, new_machine, IsInRange, longest_wait, Begin, Answer, controller_config, BusConfig, MovesFit, Link, SetsNoAddress, each_all, each_append, each_of, set_no_other, Each, IsSetUp, NetMovesFit, Net, NetMove, run, site_at, IsEmpty, own, view, apart_all, apart_first, some_same, device_of, packets_on, Account, round, rounds, SimStep, Given, LineState, ReaderSite, accounts, set_up, after_step, IsInSession, none_reopen, rounds_within, runs_on, AreItsMoves, FollowsSites, moves_of, IsRun, first_net, first_site, follows_first, has_site, is_set_up, nothing_is_kept, SameOrders, orders_idle, unmapped, get_within, get_site, same_count, ComesOn, EachComesThrough, IsClear, IsReady, EachRoundRests, IsAtRest, SeveralLinks, at_length, fits_then, net_more, keeps_own}
use Rattle.std.proofs.Math.Nat.{div-mul-le_self, suc-mul}
use Rattle.std.specs.Prelude.{◌/◌, ◌*◌, ◌-◌, slice_get}
use Rattle.osdp_controller.specs.States.{is_closed}
use Rattle.osdp_link_laws.specs.Ahead.{ahead, count_ahead}
use Rattle.osdp_link_laws.specs.Link as link
use Rattle.osdp_link_laws.specs.Link.{Move}
use Rattle.osdp_link_laws.specs.Progress as progress
use Rattle.osdp_link_laws.specs.Reports.{reports, told_in}
use Rattle.osdp_link_laws.specs.Sessions.{all_submitted}
use Rattle.osdp_shared_line.specs.Line as line
use Rattle.osdp_shared_line.proofs.Linking.{viewed}
use Rattle.osdp_sim_bus.specs.Runs as simulation
use Rattle.osdp_sim_laws.proofs.Ledger.{ahead_among}
use Rattle.osdp_sim_laws.proofs.Left.{Brings, brings, open_is}
use Rattle.osdp_sim_bus_laws.proofs.Begun.{sessions_counted}
use Rattle.osdp_sim_bus_laws.proofs.Scheduling.{moves_more}
use Rattle.osdp_sim_bus_laws.proofs.Rows.{ItsLink, its_first, its_link, own_moves, run_first, tells_at}
use Rattle.osdp_link_laws.proofs.Controllers.{stays_between}
use Rattle.osdp_bus_progress.proofs.Along.{first_at, run_at_all}
use Rattle.osdp_bus_progress.proofs.Bursts.{at_each}
use Rattle.osdp_bus_progress.proofs.Ends.{HasBegun, NoEnd, idle_run, lasts_there, none_before_rounds, rounds_idle}
use Rattle.osdp_bus_progress.proofs.Round.{AtRest, sited}
use Rattle.osdp_bus_progress.proofs.Rounds.{HasRounds, all_rounds, all_turns}
use Rattle.osdp_bus_progress.proofs.Turns.{IsAway, IsTurn, once_around, some_turn}

-- ---- lists

none_on : (ps : List (ℕ × Packet)) → map spelling (packets_on ps) ≡ [] → ps ≡ []
none_on [] none = refl
none_on (p ∷ ps) none = absurd cc

pub get_each : {A : Type 0} (P : A → Type 0) (k : ℕ) (x : A) (xs : List A) → Each P xs → slice_get xs k ≡ Some x → P x
get_each P k x [] all is = absurd cc
get_each P zero x (y ∷ xs) all is = subst P (some_same y x is) all.0
get_each P (suc k) x (y ∷ xs) all is = get_each P k x xs all.1 is

pub there_is : {A : Type 0} (k : ℕ) (xs : List A) → k < length xs → (x : A) × (slice_get xs k ≡ Some x)
there_is k [] few = absurd (omega (arith, few))
there_is zero (x ∷ xs) few = (x, refl)
there_is (suc k) (x ∷ xs) few = there_is k xs (omega (arith, few))

-- so many rounds, and the others
pub split_rounds : (r m wait : ℕ) → r ≤ m → rounds m wait ≡ rounds r wait ++ rounds (m - r) wait
split_rounds zero m wait few = let all : m - 0 ≡ m = omega arith in sym (ap (λ k. rounds k wait) all)
split_rounds (suc r) zero wait few = absurd (omega (arith, few))
split_rounds (suc r) (suc m) wait few =
    let less : suc m - suc r ≡ m - r = omega arith in
    ap (λ l. round wait ++ l) (split_rounds r m wait (omega (arith, few))) ∙ ap (λ k. round wait ++ (rounds r wait ++ rounds k wait)) (sym less)

-- so many turns as go into m
all_is : (turns count : ℕ) → all_turns turns count ≡ turns * count
all_is zero count = let none : 0 * count ≡ 0 = omega arith in sym none
all_is (suc turns) count =
    let swap : count + turns * count ≡ turns * count + count = omega arith in
    ap (λ more. count + more) (all_is turns count) ∙ swap ∙ sym (suc-mul turns count)

share : (m count : ℕ) → all_turns (m / count) count ≤ m
share m count = subst (λ all. all ≤ m) (sym (all_is (m / count) count)) (div-mul-le_self m count)

module _ {H : Type 0} (answer_of : H → Command → Answer) (after : H → Command → H) where
  module _ (on : SeveralLinks answer_of after) where
    open on use {schedules, counts, links, laws, ledger, ranges, comes, laws.{in_time, forgets, stays}}

    module _ (config : BusConfig) (readers : List (Given H)) (steps : List SimStep) (m wait : ℕ)
        (is : IsRun answer_of after config readers (steps ++ rounds m wait)) (within : All IsInSession steps) where
      abbrev pub start : LineState H
      start = set_up config readers

      abbrev pub s : LineState H
      s = simulation.run answer_of after steps start

      abbrev pub later : LineState H
      later = simulation.run answer_of after (rounds m wait) s

      abbrev pub first : Net H
      first = first_net config readers

      pub up : IsSetUp first
      up = is_set_up config readers is.settings

      -- the steps, and the first so many of the rounds after them
      pub fewer : (r : ℕ) → r ≤ m → IsRun answer_of after config readers (steps ++ rounds r wait)
      fewer r few =
          let all = subst (λ l. IsRun answer_of after config readers (steps ++ l)) (split_rounds r m wait few) is in
          run_first answer_of after config readers (steps ++ rounds r wait) (rounds (m - r) wait)
          (subst (IsRun answer_of after config readers) (sym (append_assoc steps (rounds r wait) (rounds (m - r) wait))) all)

      so_far : IsRun answer_of after config readers steps
      so_far = run_first answer_of after config readers steps (rounds m wait) is

      -- steps are moves of all sites
      done_by : (list : List SimStep) → IsRun answer_of after config readers list → AreItsMoves answer_of after list start first
      done_by list run = schedules list start first up (nothing_is_kept config readers) (follows_first config readers) run.well run.fits

      abbrev pub n : Net H
      n = run answer_of after (moves_of answer_of after steps start) first

      abbrev pub round_moves : ℕ → List (NetMove H)
      round_moves r = moves_of answer_of after (rounds r wait) s

      -- what comes of the steps and so many rounds, in two
      pub both_are : (r : ℕ) → run answer_of after (moves_of answer_of after (steps ++ rounds r wait) start) first ≡ run answer_of after (round_moves r) n
      both_are r =
          ap (λ ms. run answer_of after ms first) (moves_more answer_of after steps (rounds r wait) start)
          ∙ net_more answer_of after (moves_of answer_of after steps start) (round_moves r) first

      pub goes : (r : ℕ) → r ≤ m → FollowsSites (simulation.run answer_of after (rounds r wait) s) (run answer_of after (round_moves r) n)
      goes r few =
          subst (λ t. FollowsSites t (run answer_of after (round_moves r) n)) (runs_on (after_step answer_of after) steps (rounds r wait) start)
          (subst (FollowsSites (simulation.run answer_of after (steps ++ rounds r wait) start)) (both_are r) (done_by (steps ++ rounds r wait) (fewer r few)).follows)

      all_fit : NetMovesFit answer_of after (moves_of answer_of after steps start ++ round_moves m) first
      all_fit = subst (λ ms. NetMovesFit answer_of after ms first) (moves_more answer_of after steps (rounds m wait) start) (done_by (steps ++ rounds m wait) is).fits

      fits : NetMovesFit answer_of after (moves_of answer_of after steps start) first
      fits = (done_by steps so_far).fits

      pub rounds_fit : NetMovesFit answer_of after (round_moves m) n
      rounds_fit = fits_then answer_of after (moves_of answer_of after steps start) (round_moves m) first all_fit

      follows : FollowsSites s n
      follows = (done_by steps so_far).follows

      -- each reader has its site from the beginning on
      pub counted : length s.sites ≡ length readers
      counted = sym (length-map s.sites (λ (site : ReaderSite H). site.account)) ∙ counts config readers steps

      pub sites_count : length n.sites ≡ length readers
      sites_count = sym (same_count s.sites n.sites follows.sites) ∙ counted

      -- the moves of a reader's link in these steps, from the link on which its first session begins
      abbrev pub moves_in : List SimStep → ℕ → List (Move H)
      moves_in list k = own_moves answer_of after config readers list k

      abbrev pub link_of : ℕ → Given H → Link H
      link_of k given = its_first config readers k given

      -- its link so far
      pub record HasLink (k : ℕ) (t : line.Site H) : Type 0 where
        pub given : Given H
        pub there : slice_get readers k ≡ Some given
        pub begins : site_at k first.sites ≡ Some (first_site config given)
        pub link_is : ItsLink answer_of after config readers steps k given
        pub moved : view k t n ≡ link.run answer_of after (moves_in steps k) (link_of k given)

      pub link_at : (k : ℕ) (t : line.Site H) → site_at k n.sites ≡ Some t → HasLink k t
      link_at k t at =
          let few = at_length k t n.sites at in
          let same = sites_count in
          let given = there_is k readers (omega (arith, few, same)) in
          let its = its_link answer_of after schedules links config readers steps so_far k given.0 given.1 in
          record {
            given = given.0;
            there = given.1;
            begins = has_site config k given.0 readers given.1;
            link_is = its;
            moved = subst (λ u. view k u n ≡ link.run answer_of after (moves_in steps k) (link_of k given.0)) (some_same its.its.moved.site t (sym its.its.moved.there ∙ at)) its.its.moved.moved;
          }

      -- one session each
      one_in : (list : List SimStep) (k : ℕ) (u : ReaderSite H) → Each IsInSession list → k < length readers
          → slice_get (simulation.run answer_of after list start).sites k ≡ Some u → length u.account.sessions ≡ 1
      one_in list k u inside few at =
          let given = there_is k readers few in
          omega (arith, sessions_counted answer_of after k config readers given.0 given.1 list u at, none_reopen (suc k) list inside)

      one_at : (k : ℕ) (u : ReaderSite H) → slice_get s.sites k ≡ Some u → length u.account.sessions ≡ 1
      one_at k u at =
          let few = get_within k u s.sites at in
          let same = counted in
          one_in steps k u (each_of IsInSession steps within) (omega (arith, few, same)) at

      one_later : (k : ℕ) (u : ReaderSite H) → k < length readers → slice_get later.sites k ≡ Some u → length u.account.sessions ≡ 1
      one_later k u few at =
          one_in (steps ++ rounds m wait) k u (each_append IsInSession steps (rounds m wait) (each_of IsInSession steps within) (rounds_within m wait)) few
          (ap (λ (w : LineState H). slice_get w.sites k) (runs_on (after_step answer_of after) steps (rounds m wait) start) ∙ at)

      -- what the rounds bring to a reader whose session lasts, where these are its own
      pub rounds_bring : (k : ℕ) (t last : line.Site H) (at : site_at k n.sites ≡ Some t) (moments : List ℕ) → let last_net = run answer_of after (round_moves m) n in
          site_at k last_net.sites ≡ Some last
          → view k last last_net ≡ link.run answer_of after (progress.rounds moments) (view k t n) → MovesFit answer_of after (progress.rounds moments) (view k t n)
          → (u v : ReaderSite H) → slice_get s.sites k ≡ Some u → slice_get later.sites k ≡ Some v → v.account.ends ≡ []
          → let mid = link.run answer_of after (moves_in steps k) (link_of k (link_at k t at).given) in
          Brings u.account v.account (told_in (reports answer_of after (progress.rounds moments) mid)) (count_ahead mid)
      rounds_bring k t last at moments there seen fits u v was is_later none =
          let l = link_at k t at in
          let all = steps ++ rounds m wait in
          let whole = its_link answer_of after schedules links config readers all is k l.given l.there in
          let last_net = run answer_of after (round_moves m) n in
          let mid = link.run answer_of after (moves_in steps k) (link_of k l.given) in
          let few = get_within k l.given readers l.there in
          let ended = runs_on (after_step answer_of after) steps (rounds m wait) start in
          let v_there = ap (λ (w : LineState H). slice_get w.sites k) ended ∙ is_later in
          let one = one_at k u was in
          let both = one_later k v few is_later in
          let through : view k last last_net ≡ link.run answer_of after (progress.rounds moments) mid = seen ∙ ap (link.run answer_of after (progress.rounds moments)) l.moved in
          let joined : link.run answer_of after (moves_in all k) (link_of k l.given) ≡ link.run answer_of after (progress.rounds moments) mid =
          sym (subst (λ (w : Net H). view k last w ≡ link.run answer_of after (moves_in all k) (link_of k l.given)) (both_are m)
          (viewed answer_of after first (moves_of answer_of after all start) k (first_site config l.given) last whole.its
          (ap (λ (w : Net H). site_at k w.sites) (both_are m) ∙ there))) ∙ through in
          let begun : HasBegun k later = λ w here. omega (arith, one_later k w few here) in
          let no_end : NoEnd k later = λ w here. subst (λ (x : ReaderSite H). x.account.ends ≡ []) (some_same v w (sym is_later ∙ here)) none in
          let lasts = subst (λ (x : Link H). is_closed x.controller.session.state ≡ false) through
          (open_is last.controller.session.state (lasts_there k later last_net (goes m (omega arith)) begun no_end last there)) in
          let orders = idle_run answer_of after (SameOrders answer_of after) (orders_idle answer_of after) k (rounds m wait) s (rounds_idle answer_of after m wait) u was in
          let same = subst (SameOrders answer_of after u) (some_same orders.0 v (sym orders.1 ∙ is_later)) orders.2 in
          brings answer_of after ranges forgets (moves_in steps k) (moves_in all k) moments (link_of k l.given) u.account v.account l.link_is.run_of whole.run_of
          (tells_at answer_of after config readers steps k l.given l.link_is u was) (tells_at answer_of after config readers all k l.given whole v v_there) one both joined (subst (MovesFit answer_of after (progress.rounds moments)) l.moved fits) lasts
          (ap length same.0) (ap length same.1)

      module _ (long : longest_wait (controller_config 0 config) ≤ wait)
          (clear : IsClear (simulation.run answer_of after steps (set_up config readers))) where
        ready_at : (k : ℕ) (u : ReaderSite H) → slice_get s.sites k ≡ Some u → IsReady u
        ready_at k u at = get_each IsReady k u s.sites (each_of IsReady s.sites clear.readers) at

        empty : IsEmpty n
        empty = record {
          coming = λ k t at. at_each (λ (u : line.Site H). u.coming ≡ follows.said) k t n.sites follows.coming at ∙ none_on follows.said (sym follows.to_readers ∙ clear.to_readers);
          to_panel = none_on n.to_panel (sym follows.to_bus ∙ clear.to_bus);
        }

        clear_at : (k : ℕ) (t : line.Site H) → site_at k n.sites ≡ Some t → progress.IsClear (view k t n)
        clear_at k t at =
            let l = link_at k t at in
            let u = get_site k t s.sites n.sites follows.sites at in
            let ready = ready_at k u.0 u.1 in
            let ms = moves_in steps k in
            let old = link_of k l.given in
            let its = l.link_is.run_of in
            let tells = tells_at answer_of after config readers steps k l.given l.link_is u.0 u.1 in
            let issued = each_of SetsNoAddress u.0.account.issued ready.issued in
            let stay = stays old ms its.begins its.fits (each_all SetsNoAddress (all_submitted answer_of after ms old) (subst (Each SetsNoAddress) tells.issued issued))
            (set_no_other old.reader.config.address old.controller.session.config.address ms its.steady) in
            let moved = l.moved in
            record {
              to_reader = ap (own k) (empty.coming k t at);
              to_controller = ap (own k) empty.to_panel;
              address = ap (λ (v : Link H). v.reader.config.address) moved ∙ stay.0 ∙ up.together k (first_site config l.given) l.begins ∙ sym stay.1
                  ∙ sym (ap (λ (v : Link H). v.controller.session.config.address) moved);
              ready = sym (ap (λ r. r.busy) u.2.reader) ∙ ready.ready;
              stays = subst (λ (v : Link H). All SetsNoAddress (ahead v.controller)) (sym moved) (each_all SetsNoAddress (ahead (link.run answer_of after ms old).controller)
                  (ahead_among answer_of after ledger SetsNoAddress ms old u.0.account its tells issued));
            }

        entries_count : length s.bus.devices.entries ≡ length readers
        entries_count = ap length follows.bus.entries ∙ length-map n.sites device_of ∙ sites_count

        at_rest : (k : ℕ) (t : line.Site H) → site_at k n.sites ≡ Some t → NoEnd k later → (entry : ℕ) → entry < length readers → IsTurn entry s.bus
            → AtRest answer_of after laws (length readers) wait k entry s n
        at_rest k t at none entry below turn = record {
          follows = follows;
          apart = apart_all answer_of after laws.known (moves_of answer_of after steps start) first fits (apart_first first up);
          in_time = run_at_all answer_of after ranges wait steps start (each_of IsInSession steps within) (first_at answer_of after ranges wait config readers long);
          empty = empty;
          led = λ i u there. let l = link_at i u there in record {
            first = view i (first_site config l.given) first;
            moves = moves_in steps i;
            begins = l.link_is.run_of.begins;
            fits = l.link_is.run_of.fits;
            leads = l.moved;
          };
          clear = λ i u there unended. clear_at i u there;
          stored = λ i u there.
              let l = link_at i u there in
              keeps_own answer_of after laws.known (moves_of answer_of after steps start) first fits (apart_first first up) i (first_site config l.given) u l.begins there tt;
          begun = λ u there. omega (arith, one_at k u there);
          lasts = none_before_rounds answer_of after k m wait s none;
          there = (t, at);
          count_is = sites_count;
          below = below;
          turn = turn;
        }

        -- whose turn it is, and how many of others come before that of the reader at place k
        pub record HasTurn (k : ℕ) : Type 0 where
          pub entry : ℕ
          pub rest : AtRest answer_of after laws (length readers) wait k entry s n
          pub away : IsAway (length readers) entry k (length readers - 1)

        pub its_turn : (k : ℕ) (t : line.Site H) → site_at k n.sites ≡ Some t → NoEnd k later → HasTurn k
        its_turn k t at none =
            let few = at_length k t n.sites at in
            let same = sites_count in
            let entries = entries_count in
            let turn = some_turn s.bus (omega (arith, few, same, entries)) in
            let below : turn.0 < length readers = let under = turn.1 in omega (arith, under, entries) in
            record {
              entry = turn.0;
              rest = at_rest k t at none turn.0 below turn.2;
              away = once_around (length readers) turn.0 k below (omega (arith, few, same));
            }

        -- the rounds of one reader
        its_rounds : (k : ℕ) (t : line.Site H) → site_at k n.sites ≡ Some t → NoEnd k later
            → HasRounds answer_of after laws ranges comes (length readers) wait k t m (length readers - 1) s n
        its_rounds k t at none =
            let turn = its_turn k t at none in
            all_rounds answer_of after laws ranges comes (length readers) wait k m turn.entry (length readers - 1) s n turn.rest goes rounds_fit none t at turn.away

        comes_on : config.poll_between_orders ≡ false → (k : ℕ) (u v : ReaderSite H) → slice_get s.sites k ≡ Some u → slice_get later.sites k ≡ Some v → v.account.ends ≡ []
            → ComesOn m (length readers) u.account v.account
        comes_on plain k u v at there none =
            let no_end : NoEnd k later = λ w here. subst (λ (x : ReaderSite H). x.account.ends ≡ []) (some_same v w (sym there ∙ here)) none in
            let few = get_within k u s.sites at in
            let same = counted in
            let total = sites_count in
            let t = sited k n.sites (omega (arith, few, same, total)) in
            let l = link_at k t.0 t.1 in
            let has = its_rounds k t.0 t.1 no_end in
            let old = link_of k l.given in
            let its = l.link_is.run_of in
            let last_net = run answer_of after (round_moves m) n in
            let machine = controller_config l.given.0.address config in
            let range : IsInRange old.controller.session = ranges.later (new_machine machine config.room.messages config.room.bytes) (Begin 0 ∷ []) (ranges.new machine config.room.messages config.room.bytes) in
            let through = in_time old (moves_in steps k) has.moments its.begins range its.fits
            (subst progress.IsClear l.moved (clear_at k t.0 t.1)) (stays_between answer_of after false (moves_in steps k) old its.steady plain)
            (subst (progress.AreLate answer_of after has.moments) l.moved has.late)
            (subst (MovesFit answer_of after (progress.rounds has.moments)) l.moved has.fits) in
            let last = has.seen_then.site in
            let then_ : view k last last_net ≡ link.run answer_of after (progress.rounds has.moments) (link.run answer_of after (moves_in steps k) old) =
            has.seen_then.seen ∙ ap (link.run answer_of after (progress.rounds has.moments)) l.moved in
            let turns = m / length readers in
            let part = share m (length readers) in
            let enough : turns ≤ length has.moments = has.enough turns (omega (arith, part)) in
            elim through [
              | inl closed ↦ absurd (lasts_there k later last_net (goes m (omega arith)) (λ w here. omega (arith, one_later k w (omega (arith, few, same)) here)) no_end last
                  has.seen_then.there (ap (λ (x : Link H). x.controller.session.state) then_ ∙ closed))
              | inr on ↦
                  let brought = rounds_bring k t.0 last t.1 has.moments has.seen_then.there has.seen_then.seen has.fits u v at there none in
                  omega (arith, on, enough, brought.more, brought.all)
            ]

        -- the last round ends at rest, where this reader's session lasts
        rests : (k : ℕ) (v : ReaderSite H) → slice_get later.sites k ≡ Some v → v.account.ends ≡ [] → k < length readers → 1 ≤ m → IsAtRest later
        rests k v there none few some =
            let no_end : NoEnd k later = λ w here. subst (λ (x : ReaderSite H). x.account.ends ≡ []) (some_same v w (sym there ∙ here)) none in
            let total = sites_count in
            let t = sited k n.sites (omega (arith, few, total)) in
            let has = its_rounds k t.0 t.1 no_end in
            let last = has.seen_then.site in
            let last_net = run answer_of after (round_moves m) n in
            let last_follows = goes m (omega arith) in
            let said : last_follows.said ≡ [] =
            sym (at_each (λ (u : line.Site H). u.coming ≡ last_follows.said) k last last_net.sites last_follows.coming has.seen_then.there)
            ∙ has.empty.coming k last has.seen_then.there in
            record {
              to_readers = last_follows.to_readers ∙ ap (λ l. map spelling (packets_on l)) said;
              to_bus = last_follows.to_bus ∙ ap (λ l. map spelling (packets_on l)) has.empty.to_panel;
              free = has.free some;
            }

    pub each_round_rests : EachRoundRests answer_of after
    each_round_rests config readers steps m wait is within long clear k a there none =
        let start = set_up config readers in
        let all = steps ++ rounds (suc m) wait in
        let many : length (accounts (simulation.run answer_of after all start)) ≡ length readers = counts config readers all in
        let few = get_within k a (accounts (simulation.run answer_of after all start)) there in
        let ended = runs_on (after_step answer_of after) steps (rounds (suc m) wait) start in
        let later = simulation.run answer_of after (rounds (suc m) wait) (simulation.run answer_of after steps start) in
        let v = unmapped (λ (site : ReaderSite H). site.account) k a later.sites (subst (λ (w : LineState H). slice_get (accounts w) k ≡ Some a) ended there) in
        subst IsAtRest (sym ended)
        (rests config readers steps (suc m) wait is within long clear k v.0 v.1 (ap (λ (b : Account). b.ends) v.2 ∙ none) (omega (arith, few, many)) (omega arith))

    pub each_comes_through : EachComesThrough answer_of after
    each_comes_through config readers steps m wait is within long plain clear k old new at there none =
        let s = simulation.run answer_of after steps (set_up config readers) in
        let later = simulation.run answer_of after (rounds m wait) s in
        let u = unmapped (λ (site : ReaderSite H). site.account) k old s.sites at in
        let v = unmapped (λ (site : ReaderSite H). site.account) k new later.sites
        (subst (λ (w : LineState H). slice_get (accounts w) k ≡ Some new) (runs_on (after_step answer_of after) steps (rounds m wait) (set_up config readers)) there) in
        subst (λ a. ComesOn m (length readers) a new) u.2
        (subst (λ b. ComesOn m (length readers) u.0.account b) v.2
        (comes_on config readers steps m wait is within long clear plain k u.0 v.0 u.1 v.1 (ap (λ (a : Account). a.ends) v.2 ∙ none)))
