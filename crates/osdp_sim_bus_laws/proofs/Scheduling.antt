-- Each schedule is a list of moves of the sites: what each step asks of them is known of sites after any moves.
use Rattle.osdp_sim_bus_laws.proofs.Common.{◌≡◌, ℕ, true, List, [], ◌∷◌, ◌++◌, All, Some, refl, sym, subst, ap, ◌∙◌, append_assoc, Packet, Command, Answer, IsPlainlySaid, each_all, each_append, each_of, Each, IsSetUp, Net, NetMove, Site, run, site_at, own, AllOthersFit, BusSuffices, IsScheduled, NothingIsKept, are_steady, SimStep, FitAlong, LineState, after_step, fault_of, first_well, FollowsSites, IsKnown, StepsAreMoves, moves_for, moves_of}
use Rattle.osdp_link_laws.specs.Link as link
use Rattle.osdp_link_laws.specs.Refusals.{KeepsReader, SaysAllPlainly}
use Rattle.osdp_link_laws.proofs.Counting.{none_in_session}
use Rattle.osdp_link_laws.proofs.OrdinaryRuns.{keep_reader}
use Rattle.osdp_bus_links.proofs.Linked.{AreLinked}
use Rattle.osdp_bus_links.proofs.Sited.{IsSited, all_sited, each_own}
use Rattle.osdp_bus_links.proofs.Sufficing.{others_more}
use Rattle.osdp_sim_bus.specs.Runs as simulation
use Rattle.osdp_shared_line.proofs.Rounds.{net_more}

module _ {H : Type 0} (answer_of : H → Command → Answer) (after : H → Command → H) where
  -- ---- what is known after any moves

  pub known : SaysAllPlainly answer_of after → (n : Net H) → AreLinked answer_of after n → Each (λ (q : ℕ × Packet). IsSited n.sites q.0) n.to_panel → IsKnown n
  known plainly n linked sited = each_all (λ (q : ℕ × Packet). IsPlainlySaid q.1) n.to_panel (each_own IsPlainlySaid n.sites n.to_panel sited own_are)
    where
      own_are : (k : ℕ) (t : Site H) → site_at k n.sites ≡ Some t → Each IsPlainlySaid (own k n.to_panel)
      own_are k t is =
          let h = linked k t is in
          let led = h.led in
          let keep = keep_reader h.moves (are_steady h.moves led.usual) in
          each_of IsPlainlySaid (own k n.to_panel) (subst (λ (l : link.Link H). All IsPlainlySaid l.to_controller) (sym led.leads)
          (plainly h.first h.moves led.begins led.fits (none_in_session answer_of after h.moves h.first (each_of KeepsReader h.moves keep))))

  -- ---- the moves of one list of steps after another

  pub moves_more : (steps more : List SimStep) (s : LineState H) → moves_of answer_of after (steps ++ more) s
      ≡ moves_of answer_of after steps s ++ moves_of answer_of after more (simulation.run answer_of after steps s)
  moves_more [] more s = refl
  moves_more (step ∷ steps) more s =
      let next = after_step answer_of after step s in
      ap (λ ms. moves_for step s ++ ms) (moves_more steps more next)
      ∙ sym (append_assoc (moves_for step s) (moves_of answer_of after steps next) (moves_of answer_of after more (simulation.run answer_of after steps next)))

  -- what a schedule comes to from a state on
  pub record Goes (steps : List SimStep) (s : LineState H) (n : Net H) : Type 0 where
    pub scheduled : Each IsScheduled (moves_of answer_of after steps s)
    pub others : AllOthersFit answer_of after (moves_of answer_of after steps s) n
    pub follows : FollowsSites (simulation.run answer_of after steps s) (run answer_of after (moves_of answer_of after steps s) n)

  module _ (steps_move : StepsAreMoves answer_of after) (suffices : BusSuffices answer_of after)
      (always : (n : Net H) → AreLinked answer_of after n → Each (λ (q : ℕ × Packet). IsSited n.sites q.0) n.to_panel → IsKnown n)
      (links : (first : Net H) (moves : List (NetMove H)) → IsSetUp first → NothingIsKept first → Each IsScheduled moves
      → AllOthersFit answer_of after moves first → AreLinked answer_of after (run answer_of after moves first)) where
    pub goes : (steps : List SimStep) (s : LineState H) (first : Net H) (ms : List (NetMove H)) → IsSetUp first → NothingIsKept first → Each IsScheduled ms
        → AllOthersFit answer_of after ms first → FollowsSites s (run answer_of after ms first) → simulation.is_well answer_of after steps s ≡ true
        → FitAlong answer_of after steps s → Goes steps s (run answer_of after ms first)
    goes [] s first ms up none scheduled others h well along = record { scheduled = tt; others = tt; follows = h }
    goes (step ∷ steps) s first ms up none scheduled others h well along =
        let n = run answer_of after ms first in
        let next = after_step answer_of after step s in
        let moves = moves_for step s in
        let rest = moves_of answer_of after steps next in
        let both = first_well (fault_of step s) (simulation.is_well answer_of after steps next) well in
        let sited = all_sited answer_of after ms first scheduled (subst (Each (λ (q : ℕ × Packet). IsSited first.sites q.0)) (sym up.to_panel) tt) in
        let one = steps_move step s n both.0 along.0 (always n (links first ms up none scheduled others) sited) h in
        let more = each_of IsScheduled moves one.scheduled in
        let same : run answer_of after (ms ++ moves) first ≡ run answer_of after moves n = net_more answer_of after ms moves first in
        let later = goes steps next first (ms ++ moves) up none (each_append IsScheduled ms moves scheduled more)
        (others_more answer_of after ms moves first others one.fits) (subst (FollowsSites next) (sym same) one.follows) both.1 along.1 in
        record {
          scheduled = each_append IsScheduled moves rest more later.scheduled;
          others = others_more answer_of after moves rest n one.fits (subst (AllOthersFit answer_of after rest) same later.others);
          follows = subst (FollowsSites (simulation.run answer_of after steps next)) (sym (net_more answer_of after moves rest n))
              (subst (λ m. FollowsSites (simulation.run answer_of after steps next) (run answer_of after rest m)) same later.follows);
        }
