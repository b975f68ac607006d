-- What holds of each move of all holds of each move of a link that these come to; and a site whose reader never restarts refuses no number.
use Rattle.osdp_shared_line.proofs.Common.{◌≡◌, ℕ, cond, eqb, List, [], ◌∷◌, Option, Some, None, sym, subst, inl, inr, eqb_tells, option_map, option_to_list, Packet, Command, comset_of, Answer, Delivered, Delivery, Lost, Move, Repeated, KeepsReader, RefusesNoNumberWithoutRestart, both, each_all, each_append, each_map, each_of, Each, LoseToPanel, LoseToReader, Net, NetMove, Queue, Reopen, RestartPanel, RestartReader, Retarget, SetBusy, SetHandler, Site, Submit, Tick, ToPanel, ToReader, Withdraw, LapseEvent, WithdrawEvent, address_of, after_net, is_comset_refused, is_retarget_refused, site_at, EachRefusesNoneWithoutRestart, KeepsReaderOf, EachIsALink, moves_at, moves_of, front_to_panel, move_of, one_if, own_front, own_place, view}
use Rattle.osdp_link_laws.specs.Link as link
use Rattle.osdp_shared_line.specs.Views as views

-- ---- which moves of a link the moves of all come to

module _ {H : Type 0} (P : Move H → Type 0) (k : ℕ) where
  -- this holds of each move of its link that a move of all may come to
  abbrev pub HoldsOf : NetMove H → Type 0
  HoldsOf (Submit i command) = i ≡ k → P (link.Submit command)
  HoldsOf (Queue i event) = i ≡ k → P (link.Queue event)
  HoldsOf (SetBusy i busy) = i ≡ k → P (link.SetBusy busy)
  HoldsOf (WithdrawEvent i) = i ≡ k → P link.WithdrawEvent
  HoldsOf (LapseEvent i) = i ≡ k → P link.LapseEvent
  HoldsOf (SetHandler i handler) = i ≡ k → P (link.SetHandler handler)
  HoldsOf (Withdraw i) = i ≡ k → P link.Withdraw
  HoldsOf (Retarget i address) = i ≡ k → P (link.Retarget address)
  HoldsOf (Tick i now) = i ≡ k → P (link.Tick now)
  HoldsOf (ToReader i how) = i ≡ k → P (link.ToReader how)
  HoldsOf (ToPanel how now) = ((by : Delivery) → P (link.ToController by now)) × P (link.Tick now)
  HoldsOf (LoseToReader i place) = (q : ℕ) → P (link.LoseToReader q)
  HoldsOf (LoseToPanel place) = (q : ℕ) → P (link.LoseToController q)
  HoldsOf (Reopen i now) = i ≡ k → P (link.Reopen now)
  HoldsOf (RestartReader i config handler room) = i ≡ k → P (link.RestartReader config handler room)
  HoldsOf (RestartPanel settings) = P (link.RestartController (settings k).0 (settings k).1)

  one_holds : (i : ℕ) (m : Move H) → (i ≡ k → P m) → Each P (one_if i k m)
  one_holds i m holds =
      elim (eqb_tells i k) [
        | inl equal ↦ subst (λ b. Each P (cond b (m ∷ []) [])) (sym equal.0) (holds equal.1, tt)
        | inr differs ↦ subst (λ b. Each P (cond b (m ∷ []) [])) (sym differs.0) tt
      ]

  reading_holds : (how : Delivery) → P (link.ToReader how) → (ps : List (ℕ × Packet)) → Each P (own_front k ps how)
  reading_holds how holds [] = tt
  reading_holds how holds (p ∷ ps) = one_holds p.0 (link.ToReader how) (λ e. holds)

  reads_holds : (i : ℕ) (how : Delivery) (ps : List (ℕ × Packet)) → (i ≡ k → P (link.ToReader how)) → Each P (cond (eqb i k) (own_front k ps how) [])
  reads_holds i how ps holds =
      elim (eqb_tells i k) [
        | inl equal ↦ subst (λ b. Each P (cond b (own_front k ps how) [])) (sym equal.0) (reading_holds how (holds equal.1) ps)
        | inr differs ↦ subst (λ b. Each P (cond b (own_front k ps how) [])) (sym differs.0) tt
      ]

  panel_holds : (how : Delivery) (now here : ℕ) → ((by : Delivery) → P (link.ToController by now)) × P (link.Tick now) → (qs : List (ℕ × Packet))
      → Each P (front_to_panel k here qs how now)
  panel_holds how now here holds [] = tt
  panel_holds how now here holds (q ∷ qs) =
      both (Each P) (eqb q.0 k) (views.own_reply here q.1 how now) (views.other_reply here q.1 how now)
      (both (Each P) (eqb here q.1.address) (link.ToController how now ∷ []) (views.lost how now) (holds.0 how, tt) (lost_holds how))
      (both (Each P) (eqb here q.1.address) (views.sees how now) [] (sees_holds how) tt)
    where
      lost_holds : (how : Delivery) → Each P (views.lost how now)
      lost_holds Delivered = (holds.0 Lost, tt)
      lost_holds Lost = (holds.0 Lost, tt)
      lost_holds Repeated = tt

      sees_holds : (how : Delivery) → Each P (views.sees how now)
      sees_holds Delivered = (holds.1, tt)
      sees_holds Lost = tt
      sees_holds Repeated = (holds.1, tt)

  loss_to_reader : ((q : ℕ) → P (link.LoseToReader q)) → (o : Option ℕ) → Each P (option_to_list (option_map link.LoseToReader o))
  loss_to_reader holds None = tt
  loss_to_reader holds (Some place) = (holds place, tt)

  loss_to_panel : ((q : ℕ) → P (link.LoseToController q)) → (o : Option ℕ) → Each P (option_to_list (option_map link.LoseToController o))
  loss_to_panel holds None = tt
  loss_to_panel holds (Some place) = (holds place, tt)

  pub move_holds : (move : NetMove H) (s : Site H) (n : Net H) → HoldsOf move → Each P (move_of k s move n)
  move_holds (Submit i c) s n holds =
      both (Each P) (is_comset_refused i (comset_of c) s n.sites) [] (one_if i k (link.Submit c)) tt (one_holds i (link.Submit c) holds)
  move_holds (Queue i e) s n holds = one_holds i (link.Queue e) holds
  move_holds (SetBusy i busy) s n holds = one_holds i (link.SetBusy busy) holds
  move_holds (WithdrawEvent i) s n holds = one_holds i link.WithdrawEvent holds
  move_holds (LapseEvent i) s n holds = one_holds i link.LapseEvent holds
  move_holds (SetHandler i h) s n holds = one_holds i (link.SetHandler h) holds
  move_holds (Withdraw i) s n holds = one_holds i link.Withdraw holds
  move_holds (Retarget i address) s n holds =
      both (Each P) (is_retarget_refused i address s n.sites) [] (one_if i k (link.Retarget address)) tt (one_holds i (link.Retarget address) holds)
  move_holds (Tick i now) s n holds = one_holds i (link.Tick now) holds
  move_holds (ToReader i how) s n holds = reads_holds i how s.coming holds
  move_holds (ToPanel how now) s n holds = panel_holds how now (address_of s) holds n.to_panel
  move_holds (LoseToReader i place) s n holds =
      both (Each P) (eqb i k) (option_to_list (option_map link.LoseToReader (own_place k place s.coming))) []
      (loss_to_reader holds (own_place k place s.coming)) tt
  move_holds (LoseToPanel place) s n holds = loss_to_panel holds (own_place k place n.to_panel)
  move_holds (Reopen i now) s n holds = one_holds i (link.Reopen now) holds
  move_holds (RestartReader i config h room) s n holds = one_holds i (link.RestartReader config h room) holds
  move_holds (RestartPanel settings) s n holds = (holds, tt)

  module _ (answer_of : H → Command → Answer) (after : H → Command → H) where
    pub moves_hold : (moves : List (NetMove H)) (n : Net H) → Each HoldsOf moves → Each P (moves_of answer_of after k moves n)
    moves_hold [] n holds = tt
    moves_hold (move ∷ moves) n holds =
        let next = after_net answer_of after move n in
        each_append P (moves_at answer_of after k (site_at k n.sites) move n) (moves_of answer_of after k moves next)
        (at (site_at k n.sites)) (moves_hold moves next holds.1)
      where
        at : (o : Option (Site H)) → Each P (moves_at answer_of after k o move n)
        at None = tt
        at (Some s) = move_holds move s n holds.0

module _ {H : Type 0} (k : ℕ) where
  reader_kept : (move : NetMove H) → KeepsReaderOf k move → HoldsOf KeepsReader k move
  reader_kept (ToPanel how now) keeps = (λ by. tt, tt)
  reader_kept (LoseToReader i place) keeps = λ q. tt
  reader_kept (LoseToPanel place) keeps = λ q. tt
  reader_kept (RestartPanel settings) keeps = tt
  reader_kept (RestartReader i config handler room) keeps = λ e. absurd (keeps e)
  reader_kept _ keeps = λ e. tt

module _ {H : Type 0} (answer_of : H → Command → Answer) (after : H → Command → H) where
  pub each_refuses_none : EachIsALink answer_of after → RefusesNoNumberWithoutRestart answer_of after → EachRefusesNoneWithoutRestart answer_of after
  each_refuses_none links none n moves up fits k s is keep =
      let own = links n moves up fits k s is in
      let ms = moves_of answer_of after k moves n in
      none (view k s n) ms (up.begins k s is) own.fits (each_all KeepsReader ms (moves_hold KeepsReader k answer_of after moves n
      (each_map (KeepsReaderOf k) (HoldsOf KeepsReader k) (reader_kept k) moves (each_of (KeepsReaderOf k) moves keep))))
