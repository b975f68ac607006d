-- Between rounds of a bus: each reader has its round, its controller is idle after it, and each round of it but the first brings one more.
use Rattle.osdp_bus_progress.proofs.Common.{◌≡◌, ◌≤◌, ◌<◌, ◌+◌, ◌-◌, ◌++◌, ℕ, suc, false, true, cond, All, List, [], ◌∷◌, length, Some, inl, inr, refl, sym, subst, ap, ◌∙◌, arith, append_assoc, slice_get, Command, is_due, Idle, Answer, BusConfig, Entry, MovesFit, Link, keep_reader, each_all, each_append, each_of, is_true, NetMovesFit, Net, net_more, net_round, run, site_at, view, some_same, device_of, Account, rounds, SimStep, runs_on, Given, LineState, ReaderSite, accounts, set_up, after_step, IsInSession, rounds_within, FollowsSites, moves_of, first_net, unmapped, get_within, IsRun, AreRounds, EachHasItsRound, EachIsIdle, EachRoundBringsOneMore, HasNotEnded, IsItsRound, after_rounds, SeveralLinks}
use Rattle.osdp_link_laws.specs.Link as link
use Rattle.osdp_link_laws.specs.Progress as progress
use Rattle.osdp_link_laws.specs.Refusals.{KeepsReader}
use Rattle.osdp_link_laws.proofs.Controllers.{stays_between}
use Rattle.osdp_link_laws.proofs.Counting.{none_in_session}
use Rattle.osdp_sim_bus.specs.Runs as simulation
use Rattle.osdp_sim_laws.specs.Resting.{BringsOneMore}
use Rattle.osdp_bus_progress.proofs.Coming as coming
use Rattle.osdp_bus_progress.proofs.Coming.{split_rounds}
use Rattle.osdp_bus_progress.proofs.Ends.{NoEnd, lasts_there, none_before_rounds}
use Rattle.osdp_bus_progress.proofs.Round.{AtRest, after_round, entry_there, next_round, round_net, sited}
use Rattle.osdp_bus_progress.proofs.Rounds.{Idles, idles_later, its_round, stands}
use Rattle.osdp_bus_progress.proofs.Turns.{once_around}

-- so many rounds, and then more
two_parts : (m more wait : ℕ) → rounds (m + more) wait ≡ rounds m wait ++ rounds more wait
two_parts m more wait =
    let left : m + more - m ≡ more = omega arith in
    split_rounds m (m + more) wait (omega arith) ∙ ap (λ c. rounds m wait ++ rounds c wait) left

module _ {H : Type 0} (answer_of : H → Command → Answer) (after : H → Command → H) where
  -- the reader at place k has this account, and no end in it
  no_end : (k : ℕ) (a : Account) (w : LineState H) → HasNotEnded k a w → NoEnd k w
  no_end k a w is u here =
      let it = unmapped (λ (site : ReaderSite H). site.account) k a w.sites is.there in
      subst (λ (x : ReaderSite H). x.account.ends ≡ []) (some_same it.0 u (sym it.1 ∙ here)) (ap (λ (b : Account). b.ends) it.2 ∙ is.lasts)

  module _ (on : SeveralLinks answer_of after) where
    open on use {counts, laws, ranges, comes, laws.{from_rest}}

    module _ (config : BusConfig) (readers : List (Given H)) (steps : List SimStep) (wait k : ℕ) where
      abbrev start : LineState H
      start = set_up config readers

      abbrev first : Net H
      first = first_net config readers

      -- the line after the steps and so many rounds, and the sites then
      abbrev line_at : ℕ → LineState H
      line_at m = after_rounds answer_of after config readers steps m wait

      abbrev sites_at : ℕ → Net H
      sites_at m = run answer_of after (moves_of answer_of after (steps ++ rounds m wait) start) first

      below : (m : ℕ) (a : Account) → HasNotEnded k a (line_at m) → k < length readers
      below m a is =
          let few = get_within k a (accounts (line_at m)) is.there in
          let many : length (accounts (line_at m)) ≡ length readers = counts config readers (steps ++ rounds m wait) in
          omega (arith, few, many)

      both : (m more : ℕ) → steps ++ rounds (m + more) wait ≡ (steps ++ rounds m wait) ++ rounds more wait
      both m more = ap (λ l. steps ++ l) (two_parts m more wait) ∙ sym (append_assoc steps (rounds m wait) (rounds more wait))

      later_is : (m more : ℕ) → line_at (m + more) ≡ simulation.run answer_of after (rounds more wait) (line_at m)
      later_is m more =
          ap (λ l. simulation.run answer_of after l start) (both m more) ∙ runs_on (after_step answer_of after) (steps ++ rounds m wait) (rounds more wait) start

      -- between some rounds and more of them, where the session of the reader at place k lasts
      record IsBetween (m : ℕ) : Type 0 where
        pub entry : ℕ
        pub rest : AtRest answer_of after laws (length readers) wait k entry (line_at m) (sites_at m)
        pub idles : (r : ℕ) → r < m → IsItsRound k wait (line_at r) → Idles answer_of after laws ranges comes (length readers) wait k (sites_at m)

      between : (m : ℕ) → AreRounds answer_of after config readers steps m wait → NoEnd k (line_at m) → k < length readers → IsBetween m
      between m are none few =
          let same = coming.sites_count answer_of after on config readers steps m wait are.run_is are.within in
          let earlier = run answer_of after (moves_of answer_of after steps start) first in
          let s = simulation.run answer_of after steps start in
          let t = sited k earlier.sites (omega (arith, few, same)) in
          let goes = coming.goes answer_of after on config readers steps m wait are.run_is are.within in
          let fit = coming.rounds_fit answer_of after on config readers steps m wait are.run_is are.within in
          let both_are = coming.both_are answer_of after on config readers steps m wait are.run_is are.within m in
          let ran = runs_on (after_step answer_of after) steps (rounds m wait) start in
          let last = subst (NoEnd k) ran none in
          let turn = coming.its_turn answer_of after on config readers steps m wait are.run_is are.within are.long are.clear k t.0 t.1 last in
          let there = stands answer_of after laws ranges comes (length readers) wait k m turn.entry s earlier turn.rest goes fit last in
          record {
            entry = there.entry;
            rest = subst (AtRest answer_of after laws (length readers) wait k there.entry (line_at m)) (sym both_are)
                (subst (λ (x : LineState H). AtRest answer_of after laws (length readers) wait k there.entry x
                (run answer_of after (moves_of answer_of after (rounds m wait) s) earlier)) (sym ran) there.rest);
            idles = λ r few_then own.
                let own_then = subst (IsItsRound k wait) (runs_on (after_step answer_of after) steps (rounds r wait) start) own in
                subst (Idles answer_of after laws ranges comes (length readers) wait k) (sym both_are)
                (idles_later answer_of after laws ranges comes (length readers) wait k m turn.entry s earlier turn.rest goes fit last
                (inr (r, few_then, own_then)));
          }

      -- the steps with some rounds, and then more rounds
      module _ (m more : ℕ) (are : AreRounds answer_of after config readers steps (m + more) wait) where
        are_first : AreRounds answer_of after config readers steps m wait
        are_first = record {
          run_is = coming.fewer answer_of after on config readers steps (m + more) wait are.run_is are.within m (omega arith);
          within = are.within;
          long = are.long;
          clear = are.clear;
        }

        is_later : IsRun answer_of after config readers ((steps ++ rounds m wait) ++ rounds more wait)
        is_later = subst (IsRun answer_of after config readers) (both m more) are.run_is

        within : All IsInSession (steps ++ rounds m wait)
        within =
            each_all IsInSession (steps ++ rounds m wait)
            (each_append IsInSession steps (rounds m wait) (each_of IsInSession steps are.within) (rounds_within m wait))

        goes_later : (r : ℕ) → r ≤ more
            → FollowsSites (simulation.run answer_of after (rounds r wait) (line_at m)) (run answer_of after (moves_of answer_of after (rounds r wait) (line_at m)) (sites_at m))
        goes_later r few = coming.goes answer_of after on config readers (steps ++ rounds m wait) more wait is_later within r few

        fits_later : NetMovesFit answer_of after (moves_of answer_of after (rounds more wait) (line_at m)) (sites_at m)
        fits_later = coming.rounds_fit answer_of after on config readers (steps ++ rounds m wait) more wait is_later within

        -- of as many rounds as there are readers one is its own
        has_round : NoEnd k (simulation.run answer_of after (rounds more wait) (line_at m)) → k < length readers → more ≡ length readers
            → (j : ℕ) × (j < more) × IsItsRound k wait (simulation.run answer_of after (rounds j wait) (line_at m))
        has_round none few all =
            let is = between m are_first (none_before_rounds answer_of after k more wait (line_at m) none) few in
            let one : more ≡ suc (length readers - 1) = omega (arith, few, all) in
            let found = its_round answer_of after laws ranges comes (length readers) wait k (length readers - 1) is.entry (line_at m) (sites_at m) is.rest
            (λ r le. goes_later r (omega (arith, le, one)))
            (subst (λ c. NetMovesFit answer_of after (moves_of answer_of after (rounds c wait) (line_at m)) (sites_at m)) one fits_later)
            (subst (λ c. NoEnd k (simulation.run answer_of after (rounds c wait) (line_at m))) one none) few
            (once_around (length readers) is.entry k is.rest.below few) in
            (found.0, omega (arith, found.1, one), found.2)

      -- one round more, which is its own and not the first
      module _ (m : ℕ) (are : AreRounds answer_of after config readers steps (m + 1) wait) where
        abbrev next_line : LineState H
        next_line = after_round answer_of after laws wait (line_at m)

        one_more : config.poll_between_orders ≡ false → (r : ℕ) → r < m → IsItsRound k wait (line_at r) → IsItsRound k wait (line_at m) → k < length readers → NoEnd k next_line
            → (u v : ReaderSite H) → slice_get (line_at m).sites k ≡ Some u → slice_get next_line.sites k ≡ Some v → BringsOneMore u.account v.account
        one_more plain r earlier had own few none u v at there =
            let s = line_at m in
            let n = sites_at m in
            let more = steps ++ rounds m wait in
            let is = is_later m 1 are in
            let inside = within m 1 are in
            let stands_here = between m (are_first m 1 are) (none_before_rounds answer_of after k 1 wait s none) few in
            let rest = stands_here.rest in
            let it = next_round answer_of after laws ranges comes (length readers) wait k 0 stands_here.entry s n rest (goes_later m 1 are 1 (omega arith))
            (fits_later m 1 are) none in
            let same : it.at ≡ k = some_same it.at k (sym it.who ∙ own) in
            let now = it.now in
            let t = rest.there in
            let l = coming.link_at answer_of after on config readers more 1 wait is inside k t.0 t.1 in
            let its = l.link_is.run_of in
            let ms = coming.moves_in answer_of after on config readers more 1 wait is inside more k in
            let old = coming.link_of answer_of after on config readers more 1 wait is inside k l.given in
            let calm = rest.clear k t.0 t.1 (lasts_there k s n rest.follows rest.begun rest.lasts t.0 t.1) in
            let idle = stands_here.idles r earlier had t.0 t.1 in
            let fits = subst (λ b. MovesFit answer_of after (cond b (progress.round now) []) (view k t.0 n)) (is_true it.at k same) (it.each k t.0 t.1).fits in
            let brought = from_rest old ms (now ∷ []) its.begins its.fits (subst progress.IsClear l.moved calm) (stays_between answer_of after false ms old its.steady plain)
            (subst progress.IsAtRest l.moved idle)
            (inl (none_in_session answer_of after ms old (each_of KeepsReader ms (keep_reader ms its.steady))))
            (subst (λ (x : Link H). is_due now x.controller ≡ true) l.moved (it.own t.0 t.1 same).0, tt)
            (subst (MovesFit answer_of after (progress.round now)) l.moved fits) in
            let seen = (it.each k t.0 t.1).seen in
            let net_is : run answer_of after (moves_of answer_of after (rounds 1 wait) s) n ≡ round_net answer_of after laws (length readers) it.at now n =
            ap (λ ms. run answer_of after ms n) (it.moves 0) ∙ net_more answer_of after (net_round (length readers) (it.at, now)) [] n in
            let last = seen.site in
            let bring = coming.rounds_bring answer_of after on config readers more 1 wait is inside k t.0 last t.1 (now ∷ [])
            (ap (λ (w : Net H). site_at k w.sites) net_is ∙ seen.there)
            (subst (λ (w : Net H). view k last w ≡ link.run answer_of after (progress.round now) (view k t.0 n)) (sym net_is)
            (seen.seen ∙ ap (λ b. link.run answer_of after (cond b (progress.round now) []) (view k t.0 n)) (is_true it.at k same)))
            fits u v at there (none v there) in
            omega (arith, brought, bring.more, bring.all)

    pub each_has_its_round : EachHasItsRound answer_of after
    each_has_its_round config readers steps m wait k a are lasts =
        let is = later_is config readers steps wait k m (length readers) in
        let none = subst (NoEnd k) is (no_end k a (after_rounds answer_of after config readers steps (m + length readers) wait) lasts) in
        let few = below config readers steps wait k (m + length readers) a lasts in
        let found = has_round config readers steps wait k m (length readers) are none few refl in
        (m + found.0, omega arith, omega (arith, found.1), subst (IsItsRound k wait) (sym (later_is config readers steps wait k m found.0)) found.2)

    pub each_is_idle : EachIsIdle answer_of after
    each_is_idle config readers steps r m wait k a are few own lasts d there =
        let s = after_rounds answer_of after config readers steps m wait in
        let is = between config readers steps wait k m are (no_end k a s lasts) (below config readers steps wait k m a lasts) in
        let t = is.rest.there in
        let same : device_of t.0 ≡ d =
        some_same (device_of t.0) d (sym (entry_there answer_of after laws s (sites_at config readers steps wait k m) is.rest.follows k t.0 t.1) ∙ there) in
        subst (λ (e : Entry). (due : ℕ) × (e.controller.session.state ≡ Idle due)) same (is.idles r few own t.0 t.1)

    pub each_round_brings_one_more : EachRoundBringsOneMore answer_of after
    each_round_brings_one_more config readers steps r m wait k old new are plain few had own at lasts =
        let one : suc m ≡ m + 1 = omega arith in
        let last = ap (λ c. after_rounds answer_of after config readers steps c wait) one ∙ later_is config readers steps wait k m 1 in
        let next = after_round answer_of after laws wait (after_rounds answer_of after config readers steps m wait) in
        let there = subst (λ (w : LineState H). slice_get (accounts w) k ≡ Some new) last lasts.there in
        let u = unmapped (λ (site : ReaderSite H). site.account) k old (after_rounds answer_of after config readers steps m wait).sites at in
        let v = unmapped (λ (site : ReaderSite H). site.account) k new next.sites there in
        subst (λ a. BringsOneMore a new) u.2
        (subst (λ b. BringsOneMore u.0.account b) v.2
        (one_more config readers steps wait k m (subst (λ c. AreRounds answer_of after config readers steps c wait) one are) plain r few had own
        (below config readers steps wait k (suc m) new lasts) (no_end k new next (record { there = there; lasts = lasts.lasts })) u.0 v.0 u.1 v.1))
