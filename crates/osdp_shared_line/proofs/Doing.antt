-- What each move of a program or of a power failure does to the site that it speaks of.
use Rattle.osdp_shared_line.proofs.Common.{◌≡◌, ◌≢◌, ◌⊎◌, ℕ, Bool, true, false, cond, [], Option, Some, None, refl, sym, subst, ap, ◌∙◌, inl, inr, arith, ◌||◌, is_some, not, Command, comset_of, ControllerFault, Answer, Link, Move, after_move, LoseToReader, Net, NetMove, Queue, Reopen, RestartPanel, RestartReader, Retarget, SetBusy, SetHandler, Site, Submit, Withdraw, LapseEvent, WithdrawEvent, after_net, calls, is_comset_refused, is_retarget_refused, site_at, OpensQuietly, move_of, one_if, view}
use Rattle.osdp_controller.specs.Machine as controllers
use Rattle.osdp_link_laws.specs.Effects as effects
use Rattle.osdp_link_laws.specs.Effects.{AnswersBy, HasAddress, HasHandler, HasLapsed, HasNewController, HasNewReader, HasTakenBack, HasWithdrawn}
use Rattle.osdp_link_laws.specs.Link as link
use Rattle.osdp_shared_line.specs.Effects.{ChangesNoOther, EachDoesAsOnALink, EachLapses, EachRetargets, EachWithdraws, EachWithdrawsEvents, IsChanged}
use Rattle.osdp_shared_line.specs.Line as line
use Rattle.osdp_shared_line.proofs.Changing.{may_retarget}
use Rattle.osdp_shared_line.proofs.Moving.{each_is_its_own, one_is}
use Rattle.osdp_shared_line.proofs.Running.{restart_from}
use Rattle.osdp_shared_line.proofs.Sites.{at_other, some_same}

-- a call is accepted where neither refuses it
pub both_accept : (refused : Bool) (fault : Option ControllerFault) → not (refused || is_some fault) ≡ true → (refused ≡ false) × (fault ≡ None)
both_accept true fault is = absurd cc
both_accept false None is = (refl, refl)
both_accept false (Some fault) is = absurd cc

one_refuses : (refused : Bool) (fault : Option ControllerFault) → not (refused || is_some fault) ≡ false
    → (refused ≡ true) ⊎ ((refused ≡ false) × ((why : ControllerFault) × (fault ≡ Some why)))
one_refuses true fault is = inl refl
one_refuses false None is = absurd cc
one_refuses false (Some fault) is = inr (refl, (fault, refl))

module _ {H : Type 0} (answer_of : H → Command → Answer) (after : H → Command → H) where
  -- the view of a site after a move is its link after what that comes to
  viewed_after : (n : Net H) (move : NetMove H) (k : ℕ) (s t : Site H) → IsChanged answer_of after n move k s t → OpensQuietly move n
      → view k t (after_net answer_of after move n) ≡ link.run answer_of after (move_of k s move n) (view k s n)
  viewed_after n move k s t h quiet =
      let m = each_is_its_own answer_of after n move h.heard quiet k s h.is in
      subst (λ u. view k u (after_net answer_of after move n) ≡ link.run answer_of after (move_of k s move n) (view k s n))
      (some_same m.site t (sym m.there ∙ h.comes)) m.moved

  -- .. which is one move of it
  one_after : (n : Net H) (move : NetMove H) (k : ℕ) (s t : Site H) (alone : Move H) → IsChanged answer_of after n move k s t → OpensQuietly move n
      → move_of k s move n ≡ one_if k k alone → view k t (after_net answer_of after move n) ≡ after_move answer_of after alone (view k s n)
  one_after n move k s t alone h quiet is =
      viewed_after n move k s t h quiet ∙ ap (λ ms. link.run answer_of after ms (view k s n)) (is ∙ one_is k k alone refl)

  each_withdraws : effects.Withdraws answer_of after → EachWithdraws answer_of after
  each_withdraws withdraws = record {
    first = λ n k c ws s t h still is.
        subst (HasTakenBack ws (view k s n)) (sym (one_after n (Withdraw k) k s t link.Withdraw h tt refl)) (withdraws.first (view k s n) c ws still is);
    none = λ n k s t h why. one_after n (Withdraw k) k s t link.Withdraw h tt refl ∙ withdraws.none (view k s n) why;
  }

  each_withdraws_events : effects.WithdrawsEvents answer_of after → EachWithdrawsEvents answer_of after
  each_withdraws_events withdraws = record {
    first = λ n k front event rest s t h is few.
        subst (HasWithdrawn front rest (view k s n)) (sym (one_after n (WithdrawEvent k) k s t link.WithdrawEvent h tt refl))
        (withdraws.first (view k s n) front event rest is few);
    none = λ n k s t h few. one_after n (WithdrawEvent k) k s t link.WithdrawEvent h tt refl ∙ withdraws.none (view k s n) few;
  }

  each_lapses : effects.LapsesEvents answer_of after → EachLapses answer_of after
  each_lapses lapses = record {
    front = λ n k event rest s t h is offered.
        subst (HasLapsed event rest (view k s n)) (sym (one_after n (LapseEvent k) k s t link.LapseEvent h tt refl))
        (lapses.front (view k s n) event rest is offered);
    none = λ n k s t h not_offered. one_after n (LapseEvent k) k s t link.LapseEvent h tt refl ∙ lapses.none (view k s n) not_offered;
  }

  each_retargets : effects.Retargets answer_of after → EachRetargets answer_of after
  each_retargets retargets = record {
    set = λ n k address s t h accepted.
        let both = both_accept (is_retarget_refused k address s n.sites) (controllers.retarget_refusal address s.controller) accepted in
        let may = may_retarget address s.controller.session.state both.1 in
        subst (HasAddress address (view k s n)) (sym (given n k address s t h both.0)) (retargets.set (view k s n) address may.0 may.1);
    refused = λ n k address s t h refused.
        elim (one_refuses (is_retarget_refused k address s n.sites) (controllers.retarget_refusal address s.controller) refused) [
          | inl bus ↦ viewed_after n (Retarget k address) k s t h tt
              ∙ ap (λ b. link.run answer_of after (cond b [] (one_if k k (link.Retarget address))) (view k s n)) bus
          | inr its ↦ given n k address s t h its.0 ∙ ap (λ f. link.retargets f address (view k s n)) its.1.1
        ];
  }
    where
      given : (n : Net H) (k address : ℕ) (s t : Site H) → IsChanged answer_of after n (Retarget k address) k s t
          → is_retarget_refused k address s n.sites ≡ false
          → view k t (after_net answer_of after (Retarget k address) n) ≡ after_move answer_of after (link.Retarget address) (view k s n)
      given n k address s t h is =
          one_after n (Retarget k address) k s t (link.Retarget address) h tt (ap (λ b. cond b [] (one_if k k (link.Retarget address))) is)

  pub each_does_as_on_a_link : effects.EachMoveDoes answer_of after → EachDoesAsOnALink answer_of after
  each_does_as_on_a_link does = record {
    handler = λ n k handler s t h.
        subst (λ (v : Link H). HasHandler handler (view k s n) v × AnswersBy answer_of after handler s.reader v.reader)
        (sym (one_after n (SetHandler k handler) k s t (link.SetHandler handler) h tt refl)) (does.handler (view k s n) handler);
    withdraws = each_withdraws does.withdraw;
    events = each_withdraws_events does.event;
    lapses = each_lapses does.lapse;
    retargets = each_retargets does.retarget;
    reader = λ n k config handler room s t h.
        subst (HasNewReader answer_of after config handler room (view k s n))
        (sym (one_after n (RestartReader k config handler room) k s t (link.RestartReader config handler room) h tt refl))
        (does.reader (view k s n) config handler room);
    panel = λ n settings k s t h.
        let from = restart_from answer_of after 0 k k settings t n.sites (omega arith) h.comes in (
          subst (HasNewController (settings k).0 (settings k).1 (view k s n)) (sym (viewed_after n (RestartPanel settings) k s t h tt))
              (does.controller (view k s n) (settings k).0 (settings k).1),
          ap (λ (u : Site H). u.reserved) from.2,
        );
  }

  -- ---- no other site changes

  others_stay : (refused : Site H → Bool) (change : Site H → Site H) (i k : ℕ) (o : Option (Site H)) (n : Net H) → k ≢ i
      → site_at k (line.change_unless refused i o change n).sites ≡ site_at k n.sites
  others_stay refused change i k None n other = refl
  others_stay refused change i k (Some s) n other = by_test (refused s)
    where
      by_test : (b : Bool) → site_at k (cond b n (record n { sites = line.changed i (change s) n.sites })).sites ≡ site_at k n.sites
      by_test true = refl
      by_test false = at_other k i (change s) n.sites other

  pub changes_no_other : ChangesNoOther answer_of after
  changes_no_other n (Submit i c) j k speaks other =
      others_stay (λ s. is_comset_refused i (comset_of c) s n.sites) (line.submits answer_of after c) i k (site_at i n.sites) n (λ e. other (e ∙ speaks))
  changes_no_other n (Queue i e) j k speaks other =
      others_stay (λ s. false) (calls answer_of after (link.Queue e)) i k (site_at i n.sites) n (λ e. other (e ∙ speaks))
  changes_no_other n (SetBusy i busy) j k speaks other =
      others_stay (λ s. false) (calls answer_of after (link.SetBusy busy)) i k (site_at i n.sites) n (λ e. other (e ∙ speaks))
  changes_no_other n (WithdrawEvent i) j k speaks other =
      others_stay (λ s. false) (calls answer_of after link.WithdrawEvent) i k (site_at i n.sites) n (λ e. other (e ∙ speaks))
  changes_no_other n (LapseEvent i) j k speaks other =
      others_stay (λ s. false) (calls answer_of after link.LapseEvent) i k (site_at i n.sites) n (λ e. other (e ∙ speaks))
  changes_no_other n (SetHandler i h) j k speaks other =
      others_stay (λ s. false) (calls answer_of after (link.SetHandler h)) i k (site_at i n.sites) n (λ e. other (e ∙ speaks))
  changes_no_other n (Withdraw i) j k speaks other =
      others_stay (λ s. false) (line.withdraws answer_of after) i k (site_at i n.sites) n (λ e. other (e ∙ speaks))
  changes_no_other n (Retarget i address) j k speaks other =
      others_stay (λ s. is_retarget_refused i address s n.sites) (line.retargets answer_of after address) i k (site_at i n.sites) n (λ e. other (e ∙ speaks))
  changes_no_other n (LoseToReader i place) j k speaks other =
      others_stay (λ s. false) (λ s. record s { coming = link.lost_at place s.coming }) i k (site_at i n.sites) n (λ e. other (e ∙ speaks))
  changes_no_other n (Reopen i now) j k speaks other =
      others_stay (λ s. false) (calls answer_of after (link.Reopen now)) i k (site_at i n.sites) n (λ e. other (e ∙ speaks))
  changes_no_other n (RestartReader i config h room) j k speaks other =
      others_stay (λ s. false) (calls answer_of after (link.RestartReader config h room)) i k (site_at i n.sites) n (λ e. other (e ∙ speaks))
  changes_no_other n _ j k speaks other = absurd speaks
