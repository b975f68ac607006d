-- Each schedule is a list of moves of the sites, and each reader's account tells of those that are moves of its link.
use Rattle.osdp_sim_bus_laws.proofs.Common.{◌≡◌, ◌++◌, ℕ, true, List, [], ◌∷◌, Some, sym, subst, ap, ◌∙◌, append_assoc, append-nil, slice_get, Command, Answer, each_all, Each, IsSetUp, NobodyElseHears, Net, NetMove, Site, run, site_at, view, EachMoveIsItsOwn, AllOthersFit, IsScheduled, NothingIsKept, Account, SimStep, FitAlong, is_well, LineState, ReaderSite, StepFits, after_step, fault_of, first_well, holds_on, FollowsSites, IsSiteOf, OneBus, SchedulesAreMoves, StepsAreMoves, moves_for, moves_of}
use Rattle.osdp_link_laws.specs.Link as link
use Rattle.osdp_link_laws.specs.Refusals.{SaysAllPlainly}
use Rattle.osdp_shared_line.specs.Runs as links
use Rattle.osdp_shared_line.specs.Runs.{EachIsALink}
use Rattle.osdp_shared_line.proofs.Sites.{some_same}
use Rattle.osdp_shared_line.proofs.Telling.{own_more}
use Rattle.osdp_bus_links.proofs.Linked.{AreLinked, OfALink}
use Rattle.osdp_bus_links.proofs.Sufficing.{all_linked}
use Rattle.osdp_sim.proofs.Schedules.{runs_on, well_on}
use Rattle.osdp_sim_bus.specs.Runs as simulation
use Rattle.osdp_sim_laws.proofs.Accounts.{Adds, added_both, adds_nothing, adds_then, all_added, tells_of}
use Rattle.osdp_sim_bus_laws.proofs.Adding.{step_adds}
use Rattle.osdp_sim_bus_laws.proofs.Scheduling.{Goes, goes, known, moves_more}
use Rattle.osdp_sim_bus_laws.proofs.Sites.{get_site}

module _ {H : Type 0} (answer_of : H → Command → Answer) (after : H → Command → H) where
  -- those of one step more
  own_one_more : (k : ℕ) (steps : List SimStep) (x : SimStep) (s : LineState H) (first : Net H) → let ms = moves_of answer_of after steps s in
      links.moves_of answer_of after k (moves_of answer_of after (steps ++ x ∷ []) s) first
      ≡ links.moves_of answer_of after k ms first
      ++ links.moves_of answer_of after k (moves_for x (simulation.run answer_of after steps s)) (run answer_of after ms first)
  own_one_more k steps x s first =
      let more = moves_for x (simulation.run answer_of after steps s) in
      let ms = moves_of answer_of after steps s in
      ap (λ l. links.moves_of answer_of after k l first) (moves_more answer_of after steps (x ∷ []) s ∙ ap (λ l. ms ++ l) (append-nil more))
      ∙ own_more answer_of after k ms more first

  -- the reader at this place is that of the site, whatever it is called
  its_site : (k : ℕ) (u v : ReaderSite H) (us : List (ReaderSite H)) (t : Site H) → slice_get us k ≡ Some u → slice_get us k ≡ Some v → IsSiteOf u t → IsSiteOf v t
  its_site k u v us t there other is = subst (λ w. IsSiteOf w t) (some_same u v (sym there ∙ other)) is

  -- what these moves of a link add, and others after them
  then_added : (mine next : List (link.Move H)) (l later : link.Link H) (all : List (link.Move H)) (a b c : Account) → all ≡ mine ++ next
      → later ≡ link.run answer_of after mine l → Adds a (all_added answer_of after mine l) b → Adds b (all_added answer_of after next later) c
      → Adds a (all_added answer_of after all l) c
  then_added mine next l later all a b c same moved first more =
      let end = link.run answer_of after mine l in
      subst (λ y. Adds a y c) (sym (ap (λ ms. all_added answer_of after ms l) same ∙ added_both answer_of after mine next l))
      (adds_then a b c (all_added answer_of after mine l) (all_added answer_of after next end) first (subst (λ m. Adds b (all_added answer_of after next m) c) moved more))

  module _ (given : OneBus answer_of after) (nobody : NobodyElseHears answer_of after) (each : EachIsALink answer_of after)
      (goes_on : (steps : List SimStep) (s : LineState H) (first : Net H) → IsSetUp first → NothingIsKept first → FollowsSites s first
      → is_well answer_of after steps s ≡ true → FitAlong answer_of after steps s → Goes answer_of after steps s first)
      (s : LineState H) (first : Net H) (up : IsSetUp first) (none : NothingIsKept first) (follows : FollowsSites s first) (k : ℕ) (old : ReaderSite H) (t : Site H)
      (here : slice_get s.sites k ≡ Some old) (at : site_at k first.sites ≡ Some t) where
    -- what these steps have added to the reader's account
    pub record HasAdded (steps : List SimStep) : Type 0 where
      pub site : ReaderSite H
      pub there : slice_get (simulation.run answer_of after steps s).sites k ≡ Some site
      pub adds : Adds old.account (all_added answer_of after (links.moves_of answer_of after k (moves_of answer_of after steps s) first) (view k t first)) site.account

    one_more : (steps : List SimStep) (x : SimStep) → is_well answer_of after (steps ++ x ∷ []) s ≡ true → FitAlong answer_of after (steps ++ x ∷ []) s → HasAdded steps
        → HasAdded (steps ++ x ∷ [])
    one_more steps x well fits has =
        let now = simulation.run answer_of after steps s in
        let ms = moves_of answer_of after steps s in
        let n = run answer_of after ms first in
        let parts = well_on (after_step answer_of after) fault_of steps (x ∷ []) s well in
        let fit = holds_on (after_step answer_of after) (StepFits answer_of after) steps (x ∷ []) s fits in
        let done = goes_on steps s first up none follows parts.0 fit.0 in
        let premises = given.suffices first ms up none (each_all IsScheduled ms done.scheduled) done.others in
        let its = each first ms up premises k t at in
        let mine = links.moves_of answer_of after k ms first in
        let next = links.moves_of answer_of after k (moves_for x now) n in
        let found = get_site k its.moved.site now.sites n.sites done.follows.sites its.moved.there in
        let is = its_site k found.0 has.site now.sites its.moved.site found.1 has.there found.2 in
        let step = step_adds answer_of after k has.site its.moved.site now n has.there its.moved.there is given (nobody first ms up premises).heard done.follows x
        (first_well (fault_of x now) (is_well answer_of after [] (after_step answer_of after x now)) parts.1).0 fit.1.0 in
        record {
          site = step.site;
          there = subst (λ (v : LineState H). slice_get v.sites k ≡ Some step.site) (sym (runs_on (after_step answer_of after) steps (x ∷ []) s)) step.there;
          adds = then_added mine next (view k t first) (view k its.moved.site n) (links.moves_of answer_of after k (moves_of answer_of after (steps ++ x ∷ []) s) first)
              old.account has.site.account step.site.account (own_one_more k steps x s first) its.moved.moved has.adds step.adds;
        }

    goes_along : (steps more : List SimStep) → is_well answer_of after (steps ++ more) s ≡ true → FitAlong answer_of after (steps ++ more) s → HasAdded steps
        → HasAdded (steps ++ more)
    goes_along steps [] well fits has = subst HasAdded (sym (append-nil steps)) has
    goes_along steps (x ∷ more) well fits has =
        let parts = append_assoc steps (x ∷ []) more in
        let well_so = subst (λ list. is_well answer_of after list s ≡ true) (sym parts) well in
        let fits_so = subst (λ list. FitAlong answer_of after list s) (sym parts) fits in
        let before = (well_on (after_step answer_of after) fault_of (steps ++ x ∷ []) more s well_so).0 in
        let fit = (holds_on (after_step answer_of after) (StepFits answer_of after) (steps ++ x ∷ []) more s fits_so).0 in
        subst HasAdded parts (goes_along (steps ++ x ∷ []) more well_so fits_so (one_more steps x before fit has))

    pub all_added_along : (steps : List SimStep) → is_well answer_of after steps s ≡ true → FitAlong answer_of after steps s → HasAdded steps
    all_added_along steps well fits = goes_along [] steps well fits (record { site = old; there = here; adds = adds_nothing old.account })

  pub schedules_are_moves : OneBus answer_of after → StepsAreMoves answer_of after → OfALink answer_of after → EachMoveIsItsOwn answer_of after
      → NobodyElseHears answer_of after → EachIsALink answer_of after → SaysAllPlainly answer_of after → SchedulesAreMoves answer_of after
  schedules_are_moves given steps_move link its_own nobody each plainly steps s first up none h well along =
      let done = all_go steps s first up none h well along in
      let scheduled = each_all IsScheduled (moves_of answer_of after steps s) done.scheduled in
      record {
        scheduled = scheduled;
        fits = given.suffices first (moves_of answer_of after steps s) up none scheduled done.others;
        follows = done.follows;
        tells = λ k old t here new at.
            let has = all_added_along given nobody each all_go s first up none h k old t here at steps well along in (
              has.site,
              has.there,
              tells_of answer_of after has.site.account (links.moves_of answer_of after k (moves_of answer_of after steps s) first) (view k t first)
                  (subst (λ a. Adds a (all_added answer_of after (links.moves_of answer_of after k (moves_of answer_of after steps s) first) (view k t first)) has.site.account)
                  new has.adds),
            );
      }
    where
      linked : (first : Net H) (moves : List (NetMove H)) → IsSetUp first → NothingIsKept first → Each IsScheduled moves
          → AllOthersFit answer_of after moves first → AreLinked answer_of after (run answer_of after moves first)
      linked first moves up none scheduled others =
          all_linked answer_of after link its_own nobody first moves up none scheduled
          (given.suffices first moves up none (each_all IsScheduled moves scheduled) others)

      all_go : (steps : List SimStep) (s : LineState H) (first : Net H) → IsSetUp first → NothingIsKept first → FollowsSites s first
          → is_well answer_of after steps s ≡ true → FitAlong answer_of after steps s → Goes answer_of after steps s first
      all_go steps s first up none h well along =
          goes answer_of after steps_move given.suffices (known answer_of after plainly) linked steps s first [] up none tt tt h well along
