-- Each site is its link after every list of moves, so each law of a link is one of each site.
use Rattle.osdp_shared_line.proofs.Common.{◌≡◌, ℕ, cond, eqb, List, [], ◌∷◌, ◌++◌, Option, Some, None, IfSome, refl, sym, subst, ap, ◌∙◌, inl, inr, eqb_tells, option_map, option_to_list, Packet, Command, comset_of, Answer, MoveFits, MovesFit, SaysWhatFitsIf, Delivered, Delivery, Link, Lost, Move, Repeated, after_move, ReadsWhatIsAsked, IsNoRefusal, RefusesNoNumber, told_by, both, NetMoveFits, NetMovesFit, in_front, LoseToPanel, LoseToReader, Net, NetMove, Queue, Reopen, RestartPanel, RestartReader, Retarget, SetBusy, SetHandler, Site, Submit, Tick, ToPanel, ToReader, Withdraw, LapseEvent, WithdrawEvent, address_of, after_net, is_comset_refused, is_retarget_refused, run, site_at, EachIsALink, EachRefusesNoNumber, IsItsLink, moves_at, moves_of, IsMoved, OpensQuietly, front_to_panel, move_of, one_if, own, own_front, own_place, view}
use Rattle.osdp_link_laws.specs.Link as link
use Rattle.osdp_shared_line.specs.Views as views
use Rattle.osdp_shared_line.proofs.Apart.{Apart}
use Rattle.osdp_shared_line.proofs.Moving.{each_is_its_own}
use Rattle.osdp_shared_line.proofs.Running.{apart_after, apart_first, by_own}
use Rattle.osdp_shared_line.proofs.Sites.{own_first, some_same}

module _ {H : Type 0} (answer_of : H → Command → Answer) (after : H → Command → H) where
  -- ---- what a move of all is to a site is a move of its link

  abbrev Fit : ℕ → Site H → Net H → List (Move H) → Type 0
  Fit k s n ms = MovesFit answer_of after ms (view k s n)

  one_fits : (i k : ℕ) (s : Site H) (n : Net H) (m : Move H) → (i ≡ k → MoveFits answer_of after m (view k s n)) → Fit k s n (one_if i k m)
  one_fits i k s n m fits =
      elim (eqb_tells i k) [
        | inl equal ↦ subst (λ b. Fit k s n (cond b (m ∷ []) [])) (sym equal.0) (fits equal.1, tt)
        | inr differs ↦ subst (λ b. Fit k s n (cond b (m ∷ []) [])) (sym differs.0) tt
      ]

  reading_fits : (how : Delivery) (ps : List (ℕ × Packet)) (k : ℕ) (s : Site H) (n : Net H) → s.coming ≡ ps
      → SaysWhatFitsIf answer_of after how (in_front ps) s.reader → Fit k s n (own_front k ps how)
  reading_fits how [] k s n is fits = tt
  reading_fits how (p ∷ ps) k s n is fits =
      one_fits p.0 k s n (link.ToReader how) (λ mine.
      subst (λ qs. SaysWhatFitsIf answer_of after how qs s.reader) (sym (ap (own k) is ∙ own_first k p ps mine)) (by_delivery how fits))
    where
      by_delivery : (how : Delivery) → SaysWhatFitsIf answer_of after how (p.1 ∷ []) s.reader
          → SaysWhatFitsIf answer_of after how (p.1 ∷ own k ps) s.reader
      by_delivery Delivered fits = fits
      by_delivery Lost fits = fits
      by_delivery Repeated fits = fits

  panel_fits : (how : Delivery) (now : ℕ) (qs : List (ℕ × Packet)) (k : ℕ) (s : Site H) (n : Net H) → Fit k s n (front_to_panel k (address_of s) qs how now)
  panel_fits how now [] k s n = tt
  panel_fits how now (q ∷ qs) k s n =
      both (Fit k s n) (eqb q.0 k) (views.own_reply (address_of s) q.1 how now) (views.other_reply (address_of s) q.1 how now)
      (both (Fit k s n) (eqb (address_of s) q.1.address) (link.ToController how now ∷ []) (views.lost how now) (tt, tt) (lost_fits how))
      (both (Fit k s n) (eqb (address_of s) q.1.address) (views.sees how now) [] (sees_fits how) tt)
    where
      lost_fits : (how : Delivery) → Fit k s n (views.lost how now)
      lost_fits Delivered = (tt, tt)
      lost_fits Lost = (tt, tt)
      lost_fits Repeated = tt

      sees_fits : (how : Delivery) → Fit k s n (views.sees how now)
      sees_fits Delivered = (tt, tt)
      sees_fits Lost = tt
      sees_fits Repeated = (tt, tt)

  loss_to_reader : (o : Option ℕ) (k : ℕ) (s : Site H) (n : Net H) → Fit k s n (option_to_list (option_map link.LoseToReader o))
  loss_to_reader None k s n = tt
  loss_to_reader (Some place) k s n = (tt, tt)

  loss_to_panel : (o : Option ℕ) (k : ℕ) (s : Site H) (n : Net H) → Fit k s n (option_to_list (option_map link.LoseToController o))
  loss_to_panel None k s n = tt
  loss_to_panel (Some place) k s n = (tt, tt)

  pub move_fits : (move : NetMove H) (k : ℕ) (s : Site H) (n : Net H) → site_at k n.sites ≡ Some s → NetMoveFits answer_of after move n
      → Fit k s n (move_of k s move n)
  move_fits (Submit i c) k s n is fits =
      both (Fit k s n) (is_comset_refused i (comset_of c) s n.sites) [] (one_if i k (link.Submit c)) tt (one_fits i k s n (link.Submit c) (λ e. fits.0))
  move_fits (Queue i e) k s n is fits = one_fits i k s n (link.Queue e) (λ e. tt)
  move_fits (SetBusy i busy) k s n is fits = one_fits i k s n (link.SetBusy busy) (λ e. tt)
  move_fits (WithdrawEvent i) k s n is fits = one_fits i k s n link.WithdrawEvent (λ e. tt)
  move_fits (LapseEvent i) k s n is fits = one_fits i k s n link.LapseEvent (λ e. tt)
  move_fits (SetHandler i h) k s n is fits = one_fits i k s n (link.SetHandler h) (λ e. tt)
  move_fits (Withdraw i) k s n is fits = one_fits i k s n link.Withdraw (λ e. tt)
  move_fits (Retarget i address) k s n is fits =
      both (Fit k s n) (is_retarget_refused i address s n.sites) [] (one_if i k (link.Retarget address)) tt (one_fits i k s n (link.Retarget address) (λ e. tt))
  move_fits (Tick i now) k s n is fits = one_fits i k s n (link.Tick now) (λ e. tt)
  move_fits (ToReader i how) k s n is fits =
      elim (eqb_tells i k) [
        | inl equal ↦ subst (λ b. Fit k s n (cond b (own_front k s.coming how) [])) (sym equal.0)
            (reading_fits how s.coming k s n refl (fits s (subst (λ j. site_at j n.sites ≡ Some s) (sym equal.1) is)))
        | inr differs ↦ subst (λ b. Fit k s n (cond b (own_front k s.coming how) [])) (sym differs.0) tt
      ]
  move_fits (ToPanel how now) k s n is fits = panel_fits how now n.to_panel k s n
  move_fits (LoseToReader i place) k s n is fits =
      both (Fit k s n) (eqb i k) (option_to_list (option_map link.LoseToReader (own_place k place s.coming))) []
      (loss_to_reader (own_place k place s.coming) k s n) tt
  move_fits (LoseToPanel place) k s n is fits = loss_to_panel (own_place k place n.to_panel) k s n
  move_fits (Reopen i now) k s n is fits = one_fits i k s n (link.Reopen now) (λ e. tt)
  move_fits (RestartReader i config h room) k s n is fits =
      one_fits i k s n (link.RestartReader config h room) (λ e. (fits s (subst (λ j. site_at j n.sites ≡ Some s) (sym e) is)).0)
  move_fits (RestartPanel settings) k s n is fits = ((fits k s is).0, tt)

  pub quietly : (move : NetMove H) (n : Net H) → NetMoveFits answer_of after move n → OpensQuietly move n
  quietly (Reopen i now) n fits = fits
  quietly _ n fits = tt

  -- ---- one list of moves after another

  pub run_more : (ms more : List (Move H)) (l : Link H)
      → link.run answer_of after (ms ++ more) l ≡ link.run answer_of after more (link.run answer_of after ms l)
  run_more [] more l = refl
  run_more (m ∷ ms) more l = run_more ms more (after_move answer_of after m l)

  pub moves_more : (ms more : List (Move H)) (l : Link H) → MovesFit answer_of after ms l → MovesFit answer_of after more (link.run answer_of after ms l)
      → MovesFit answer_of after (ms ++ more) l
  moves_more [] more l first last = last
  moves_more (m ∷ ms) more l first last = (first.0, moves_more ms more (after_move answer_of after m l) first.1 last)

  module _ (reads : ReadsWhatIsAsked) where
    pub is_its_link : (moves : List (NetMove H)) (n : Net H) → NetMovesFit answer_of after moves n → Apart n
        → (k : ℕ) (s : Site H) → site_at k n.sites ≡ Some s → IsItsLink answer_of after k s moves n
    is_its_link [] n fits a k s is = record { moved = record { site = s; there = is; moved = refl }; fits = tt }
    is_its_link (move ∷ moves) n fits a k s is =
        let next = after_net answer_of after move n in
        let m = each_is_its_own answer_of after n move (by_own n a) (quietly move n fits.0) k s is in
        let rest = is_its_link moves next fits.1 (apart_after answer_of after reads move n fits.0 a) k m.site m.there in
        let more = moves_of answer_of after k moves next in
        let ms = move_of k s move n in
        let same : moves_at answer_of after k (site_at k n.sites) move n ++ more ≡ ms ++ more =
        ap (λ o. moves_at answer_of after k o move n ++ more) is in
        record {
          moved = subst (λ l. IsMoved answer_of after k s l n (run answer_of after moves next)) (sym same) (record {
            site = rest.moved.site;
            there = rest.moved.there;
            moved = rest.moved.moved ∙ ap (link.run answer_of after more) m.moved ∙ sym (run_more ms more (view k s n));
          });
          fits = subst (λ l. MovesFit answer_of after l (view k s n)) (sym same)
              (moves_more ms more (view k s n) (move_fits move k s n is fits.0) (subst (MovesFit answer_of after more) m.moved rest.fits));
        }

    pub each_is_a_link : EachIsALink answer_of after
    each_is_a_link n moves up fits k s is = is_its_link moves n fits (apart_first n up) k s is

  -- the view of the last site is the link after its moves
  pub viewed : (n : Net H) (moves : List (NetMove H)) (k : ℕ) (s last : Site H) → IsItsLink answer_of after k s moves n
      → site_at k (run answer_of after moves n).sites ≡ Some last
      → view k last (run answer_of after moves n) ≡ link.run answer_of after (moves_of answer_of after k moves n) (view k s n)
  viewed n moves k s last h is =
      subst (λ u. view k u (run answer_of after moves n) ≡ link.run answer_of after (moves_of answer_of after k moves n) (view k s n))
      (some_same h.moved.site last (sym h.moved.there ∙ is)) h.moved.moved

  pub each_refuses_no_number : EachIsALink answer_of after → RefusesNoNumber answer_of after → EachRefusesNoNumber answer_of after
  each_refuses_no_number links none n moves up fits k s last is there never move =
      let h = links n moves up fits k s is in
      subst (λ (v : Link H). IfSome (told_by move v) IsNoRefusal) (sym (viewed n moves k s last h there))
      (none (view k s n) (moves_of answer_of after k moves n) move (up.begins k s is) h.fits never)
