-- From the beginning over each list of moves: nobody else hears what a site says, and each site is its link.
use Rattle.osdp_shared_line.proofs.Common.{◌≡◌, ◌≢◌, ◌⊎◌, ◌+◌, ℕ, zero, suc, true, List, [], ◌∷◌, ◌++◌, Option, Some, None, IfSome, refl, sym, subst, ap, ◌∙◌, inl, inr, arith, Room, Packet, CommandFits, Command, ControllerConfig, Answer, lacks_room, MaySubmit, ReadsWhatIsAsked, NoComset, each_all, each_map, each_of, Each, IsAsked, IsInOrder, IsNameOf, IsSaid, IsSetUp, IsThere, MayComeTo, NetMoveFits, NetMovesFit, NobodyElseHears, NoTwoAreTogether, Sets, Somewhere, option_to_list, outstanding_command, LoseToPanel, LoseToReader, Net, NetMove, Queue, Reopen, RestartPanel, RestartReader, Retarget, SetBusy, SetHandler, Site, Submit, Tick, ToPanel, ToReader, Withdraw, LapseEvent, WithdrawEvent, address_of, after_net, restarts, run, site_at, HeardByOwn}
use Rattle.osdp_link_laws.specs.Link as link
use Rattle.osdp_shared_line.specs.Line as line
use Rattle.osdp_shared_line.proofs.Readers.{IsForAll, IsFrom}
use Rattle.osdp_shared_line.proofs.Apart.{Apart, IsAfter, IsAway, IsClosed, IsKept, IsOwnComset, IsToClosed, IsToDevice, Ordered, each_any, reader_address, with_panel}
use Rattle.osdp_shared_line.proofs.Changing.{busying, handling, losing, queueing, quiet_change, reopening, restarting, retargeting, set_is, submitting, withdrawing, lapsing_event, withdrawing_event}
use Rattle.osdp_shared_line.proofs.Delivering.{ticking, to_panel, to_reader}
use Rattle.osdp_shared_line.proofs.Lists.{each_kept}
use Rattle.osdp_shared_line.proofs.Sites.{some_same}

module _ {H : Type 0} (answer_of : H → Command → Answer) (after : H → Command → H) where
  -- ---- the panel restarts

  pub restart_from : (m i k : ℕ) (settings : ℕ → ControllerConfig × Room) (t : Site H) (ss : List (Site H)) → i ≡ m + k
      → site_at k (line.all_restart answer_of after m settings ss) ≡ Some t
      → (s : Site H) × (site_at k ss ≡ Some s) × (t ≡ restarts answer_of after (settings i) s)
  restart_from m i k settings t [] at is = absurd cc
  restart_from m i zero settings t (s ∷ ss) at is =
      let here : m ≡ i = omega (arith, at) in
      (s, refl, sym (some_same (restarts answer_of after (settings m) s) t is) ∙ ap (λ j. restarts answer_of after (settings j) s) here)
  restart_from m i (suc k) settings t (s ∷ ss) at is = restart_from (suc m) i k settings t ss (omega (arith, at)) is

  restarting_all : (settings : ℕ → ControllerConfig × Room) (n : Net H) → NetMoveFits answer_of after (RestartPanel settings) n → Apart n
      → Apart (after_net answer_of after (RestartPanel settings) n)
  restarting_all settings n fits a = record {
    names = λ j k u v other here there b mine its.
        let s = from j u here in
        let t = from k v there in
        apart j k s.0 t.0 other s.1 t.1 b (subst (IsNameOf b j) s.2 mine) (subst (IsNameOf b k) t.2 its);
    kept = λ k u is.
        let s = from k u is in
        let h = a.kept k s.0 s.1 in
        subst (IsKept k) (sym s.2) (record {
          device = (fits k s.0 s.1).0.config_in_range.address;
          fits = tt;
          devices = h.devices;
          away = h.away;
          order = h.order;
          stored = h.stored;
        });
    panel = each_any (IsToClosed (line.all_restart answer_of after 0 settings n.sites)) (λ q k u other is here. let s = from k u is in subst IsClosed (sym s.2) refl) n.to_panel;
  }
    where
      from : (k : ℕ) (u : Site H) → site_at k (line.all_restart answer_of after 0 settings n.sites) ≡ Some u
          → (s : Site H) × (site_at k n.sites ≡ Some s) × (u ≡ restarts answer_of after (settings k) s)
      from k u is = restart_from 0 k k settings u n.sites (omega arith) is

      -- where a reader is, or may be taken to
      stays : (k : ℕ) (s : Site H) (b : ℕ) → MayComeTo b k (restarts answer_of after (settings k) s) → MayComeTo b k s
      stays k s b (IsThere is) = IsThere is
      stays k s b (IsSaid is) = IsSaid is
      stays k s b (IsAsked none) = absurd none

      apart : (j k : ℕ) (s t : Site H) → j ≢ k → site_at j n.sites ≡ Some s → site_at k n.sites ≡ Some t → (b : ℕ)
          → IsNameOf b j (restarts answer_of after (settings j) s) → IsNameOf b k (restarts answer_of after (settings k) t) → ⊥
      apart j k s t other at there b (inl is) its =
          (fits j s at).1 k t (λ e. other (sym e)) there (subst (λ c. IsNameOf c k (restarts answer_of after (settings k) t)) (sym is) its)
      apart j k s t other at there b (inr may) (inl is) =
          (fits k t there).1 j s other at (subst (λ c. IsNameOf c j (restarts answer_of after (settings j) s)) (sym is) (inr may))
      apart j k s t other at there b (inr may) (inr its) =
          a.names j k s t other at there b (inr (stays j s b may)) (inr (stays k t b its))

  -- ---- a move

  module _ (reads : ReadsWhatIsAsked) where
    pub apart_after : (move : NetMove H) (n : Net H) → NetMoveFits answer_of after move n → Apart n → Apart (after_net answer_of after move n)
    apart_after (Submit i c) n fits a = submitting answer_of after i c n fits.0 fits.1 a
    apart_after (Queue i e) n fits a =
        quiet_change i (line.calls answer_of after (link.Queue e)) n
        (λ s. queueing answer_of after (lacks_room e s.reader.queue) e s) a
    apart_after (SetBusy i busy) n fits a = quiet_change i (line.calls answer_of after (link.SetBusy busy)) n (busying answer_of after busy) a
    apart_after (WithdrawEvent i) n fits a = quiet_change i (line.calls answer_of after link.WithdrawEvent) n (withdrawing_event answer_of after) a
    apart_after (LapseEvent i) n fits a = quiet_change i (line.calls answer_of after link.LapseEvent) n (lapsing_event answer_of after) a
    apart_after (SetHandler i h) n fits a = quiet_change i (line.calls answer_of after (link.SetHandler h)) n (handling answer_of after h) a
    apart_after (Withdraw i) n fits a = quiet_change i (line.withdraws answer_of after) n (withdrawing answer_of after) a
    apart_after (Retarget i address) n fits a = retargeting answer_of after i address n fits a
    apart_after (Tick i now) n fits a = ticking answer_of after reads i now (site_at i n.sites) n refl a
    apart_after (ToReader i how) n fits a = to_reader answer_of after i how (site_at i n.sites) n refl a
    apart_after (ToPanel how now) n fits a = to_panel n.to_panel how now n refl a
    apart_after (LoseToReader i place) n fits a = quiet_change i (λ s. record s { coming = link.lost_at place s.coming }) n (losing place) a
    apart_after (LoseToPanel place) n fits a =
        with_panel n (link.lost_at place n.to_panel) (each_kept (IsToClosed n.sites) place n.to_panel a.panel) a
    apart_after (Reopen i now) n fits a = reopening answer_of after i now n fits a
    apart_after (RestartReader i config h room) n fits a = restarting answer_of after i config h room n (λ s at. (fits s at).1) a
    apart_after (RestartPanel settings) n fits a = restarting_all settings n fits a

    pub apart_all : (moves : List (NetMove H)) (n : Net H) → NetMovesFit answer_of after moves n → Apart n → Apart (run answer_of after moves n)
    apart_all [] n fits a = a
    apart_all (move ∷ moves) n fits a = apart_all moves (after_net answer_of after move n) fits.1 (apart_after move n fits.0 a)

-- ---- from the beginning

none_sets : (b : ℕ) (cs : List Command) → Each NoComset cs → Somewhere (Sets b) cs → ⊥
none_sets b [] none found = found
none_sets b (c ∷ cs) none (inl sets) = let set = set_is c b sets in absurd (let is = set.1 in let no = none.0 in cc)
none_sets b (c ∷ cs) none (inr found) = none_sets b cs none.1 found

in_order : (k : ℕ) (ps : List (ℕ × Packet)) → Ordered k ps → IsInOrder k ps
in_order k [] order = tt
in_order k (p ∷ ps) order = (each_all (IsAfter k p) ps order.0, in_order k ps order.1)

from_own : (o : Option Packet) (here : ℕ) → IfSome o (λ q. (q.reply ≡ true) × ((q.address ≡ here) ⊎ (q.address ≡ 127))) → IfSome o (IsFrom IsForAll here)
from_own None here is = tt
from_own (Some q) here is = is.1

module _ {H : Type 0} where
  pub apart_first : (n : Net H) → IsSetUp n → Apart n
  apart_first n up = record {
    names = λ j k s t other at there b mine its. up.apart j k s t other at there (one_name j s at b mine ∙ sym (one_name k t there b its));
    kept = λ k s is.
        let b = up.begins k s is in
        record {
          device = b.address;
          fits = subst (λ q. Each CommandFits (option_to_list (outstanding_command q) ++ s.controller.waiting)) (sym b.quiet.1)
              (each_map MaySubmit CommandFits (λ c may. may.fits) s.controller.waiting (each_of MaySubmit s.controller.waiting b.waiting));
          devices = subst (Each IsToDevice) (sym (up.coming k s is)) tt;
          away = subst (Each (IsAway k (reader_address s))) (sym (up.coming k s is)) tt;
          order = subst (Ordered k) (sym (up.coming k s is)) tt;
          stored = from_own s.reader.stored (reader_address s) (up.stored k s is);
        };
    panel = subst (Each (IsToClosed n.sites)) (sym up.to_panel) tt;
  }
    where
      one_name : (k : ℕ) (s : Site H) → site_at k n.sites ≡ Some s → (b : ℕ) → IsNameOf b k s → address_of s ≡ b
      one_name k s at b (inl is) = is
      one_name k s at b (inr (IsThere is)) = sym (up.together k s at) ∙ is
      one_name k s at b (inr (IsSaid found)) = absurd (subst (Somewhere (IsOwnComset k b)) (up.coming k s at) found)
      one_name k s at b (inr (IsAsked found)) =
          absurd (none_sets b s.controller.waiting (each_of NoComset s.controller.waiting (up.waiting k s at))
          (subst (λ q. Somewhere (Sets b) (option_to_list (outstanding_command q) ++ s.controller.waiting)) (up.begins k s at).quiet.1 found))

  -- ---- nobody else hears

  pub by_own : (n : Net H) → Apart n → HeardByOwn n
  by_own n a = record {
    devices = λ k s is. each_all IsToDevice s.coming (a.kept k s is).devices;
    readers = λ k s is. each_all (IsAway k (reader_address s)) s.coming (a.kept k s is).away;
    controllers = each_all (IsToClosed n.sites) n.to_panel a.panel;
    addresses = λ j k s t other at there e. a.names j k s t other at there (address_of t) (inl e) (inl refl);
  }

  module _ (answer_of : H → Command → Answer) (after : H → Command → H) (reads : ReadsWhatIsAsked) where
    pub nobody_else : NobodyElseHears answer_of after
    nobody_else n moves up fits =
        let last = run answer_of after moves n in
        let a = apart_all answer_of after reads moves n fits (apart_first n up) in
        record {
          addresses = a.names;
          heard = by_own last a;
          order = λ k s is. in_order k s.coming (a.kept k s is).order;
        }

    pub no_two : NoTwoAreTogether answer_of after
    no_two n moves up fits j k s t other at there e =
        (apart_all answer_of after reads moves n fits (apart_first n up)).names j k s t other at there (reader_address t) (inr (IsThere e)) (inr (IsThere refl))
