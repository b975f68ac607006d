-- From the beginning of a first session to each list of moves after it.
use Rattle.osdp_link_laws.proofs.Common.{◌≡◌, ◌<◌, ℕ, false, List, [], ◌∷◌, Option, Some, None, refl, sym, subst, Packet, Command, ControllerConfig, Polling, ControllerFault, Closed, Answer, MovesFit, Begins, MoveFits, MaySubmit, Link, Move, Reopen, after_move, run, ReadEachOther, restarts_after, restarts_in_session}
use Rattle.osdp_controller.specs.Machine as controllers
use Rattle.osdp_link_laws.specs.Link as link
use Rattle.osdp_link_laws.specs.Sessions as sessions
use Rattle.osdp_link_laws.proofs.Coming.{MovesTo, ReopensTo}
use Rattle.osdp_link_laws.proofs.Counting.{CountsOn, counts_on}
use Rattle.osdp_link_laws.proofs.Devices.{IsDevice, move_there}
use Rattle.osdp_link_laws.proofs.Lines.{each_of}
use Rattle.osdp_link_laws.proofs.Moves.{Premises}
use Rattle.osdp_link_laws.proofs.Once.{Goes, GoesOn, IsFirst, fresh_so, moving_so}
use Rattle.osdp_link_laws.proofs.Stages.{Fresh, HasRestarted, Restarted, Stage, Waits, frame}

module _ {H : Type 0} (answer_of : H → Command → Answer) (after : H → Command → H) where
  -- a session that holds
  pub record Stands (l : Link H) : Type 0 where
    pub fixed : ControllerConfig
    pub device : fixed.address < 127
    pub current : IsDevice answer_of after l
    pub goes : Goes fixed answer_of after l

  -- what the ends read of each other's packets, at each device's address
  abbrev pub Assumed : Type 0
  Assumed = (fixed : ControllerConfig) → fixed.address < 127 → Premises fixed answer_of after

  pub assumed : ReadEachOther answer_of after → Assumed
  assumed peers fixed device = record {
    device = device;
    reads = λ x n fit. peers.asked x (record { config = fixed; state = Closed; number = n; asked = false; greatest = 0 }) fit;
    hears = λ n r fit. peers.answered (frame fixed Polling 0) n r fit;
    plain = peers.plain;
    tells = peers.tells;
    plainly = peers.plainly;
  }

  -- .. at a stage that comes so from the one before
  abbrev pub StandsThen : (Restarted → Stage → Type 0) → Link H → Type 0
  StandsThen Comes l = (n : Stands l) × Comes n.goes.holds.0 n.goes.holds.1

  -- .. and what is known of the restarts goes with their count
  abbrev ComesSo : (ℕ → ℕ) → Restarted → (Restarted → Stage → Type 0) → Link H → Type 0
  ComesSo counted since Comes next = (m : StandsThen Comes next) × ((count : ℕ) → CountsOn count (counted count) since m.0.goes.holds.0)

  -- a move within the session
  keeps_on : Assumed → (move : Move H) (l : Link H) → GoesOn move → MoveFits answer_of after move l → (h : Stands l)
      → ComesSo (restarts_after answer_of after move l) h.goes.holds.0 (MovesTo answer_of after move l h.goes.holds.0 h.goes.holds.1) (after_move answer_of after move l)
  keeps_on given move l on fits h =
      let m = moving_so h.fixed answer_of after (given h.fixed h.device) move l on fits h.goes in (
        (
          record {
            fixed = h.fixed;
            device = h.device;
            current = move_there answer_of after move l fits h.current;
            goes = m.0;
          },
          m.1,
        ),
        λ count. counts_on answer_of after move l h.goes.holds.0 h.goes.holds.1 m.0.holds.0 m.0.holds.1 count on m.1,
      )

  -- a session begins again
  reopening : (refusal : Option ControllerFault) (ps qs : List Packet) (now : ℕ) (l : Link H) → l.to_reader ≡ ps → l.to_controller ≡ qs → (h : Stands l)
      → ComesSo (sessions.kept_count (sessions.begun_again refusal ps qs)) h.goes.holds.0 (ReopensTo answer_of after refusal ps qs h.goes.holds.0 h.goes.holds.1)
      (link.reopens refusal ps qs now l)
  reopening (Some fault) ps qs now l here there h = ((h, (refl, refl)), λ count is. is)
  reopening None (p ∷ ps) qs now l here there h = ((h, (refl, refl)), λ count is. is)
  reopening None [] (q ∷ qs) now l here there h = ((h, (refl, refl)), λ count is. is)
  reopening None [] [] now l here there h =
      let b = fresh_so l.controller.session.config answer_of after (link.reopens None [] [] now l) (record {
        controller = refl;
        waiting = h.goes.holds.2.waiting;
        to_reader = here;
        to_controller = there;
      }) in (
        (record { fixed = l.controller.session.config; device = h.current; current = h.current; goes = b.0 }, b.1.1),
        λ count is. subst (λ s. HasRestarted s 0) (sym b.1.0) refl,
      )

  going : Assumed → (move : Move H) (l : Link H) → MoveFits answer_of after move l → (h : Stands l)
      → ComesSo (restarts_after answer_of after move l) h.goes.holds.0 (MovesTo answer_of after move l h.goes.holds.0 h.goes.holds.1) (after_move answer_of after move l)
  going given (Reopen now) l fits h = reopening (controllers.begin_refusal l.controller) l.to_reader l.to_controller now l refl refl h
  going given move l fits h = keeps_on given move l tt fits h

  pub standing_so : Assumed → (move : Move H) (l : Link H) → MoveFits answer_of after move l → (h : Stands l)
      → StandsThen (MovesTo answer_of after move l h.goes.holds.0 h.goes.holds.1) (after_move answer_of after move l)
  standing_so given move l fits h = (going given move l fits h).0

  pub standing : Assumed → (move : Move H) (l : Link H) → MoveFits answer_of after move l → Stands l → Stands (after_move answer_of after move l)
  standing given move l fits h = (standing_so given move l fits h).0

  -- a session in which the reader has restarted so often
  abbrev pub StandsSince : Link H → ℕ → Type 0
  StandsSince l count = (s : Stands l) × HasRestarted s.goes.holds.0 count

  pub standing_since : Assumed → (move : Move H) (l : Link H) (count : ℕ) → MoveFits answer_of after move l → StandsSince l count
      → StandsSince (after_move answer_of after move l) (restarts_after answer_of after move l count)
  standing_since given move l count fits (h, is) = let m = going given move l fits h in (m.0.0, m.1 count is)

  running : Assumed → (moves : List (Move H)) (l : Link H) (count : ℕ) → MovesFit answer_of after moves l → StandsSince l count
      → StandsSince (run answer_of after moves l) (restarts_in_session answer_of after moves l count)
  running given [] l count fits h = h
  running given (move ∷ moves) l count fits h =
      running given moves (after_move answer_of after move l) (restarts_after answer_of after move l count) fits.1 (standing_since given move l count fits.0 h)

-- all of it, from a first session that has begun
module _ {H : Type 0} (answer_of : H → Command → Answer) (after : H → Command → H) where
  first : (l : Link H) → Begins l → StandsThen answer_of after IsFirst l
  first l b =
      let fixed = l.controller.session.config in
      let new = fresh_so fixed answer_of after l (record {
        controller = subst (λ state. Waits fixed state l.controller.session) (sym b.quiet.1) refl;
        waiting = each_of MaySubmit l.controller.waiting b.waiting;
        to_reader = b.to_reader;
        to_controller = b.to_controller;
      }) in (
        record {
          fixed = fixed;
          device = b.address;
          current = b.address;
          goes = new.0;
        },
        new.1,
      )

  pub begins_so : (l : Link H) → Begins l → (s : Stands answer_of after l) × (s.goes.holds.1 ≡ Fresh)
  begins_so l b = let s = first l b in (s.0, s.1.1)

  pub begins : (l : Link H) → Begins l → Stands answer_of after l
  begins l b = (first l b).0

  pub begins_since : (l : Link H) → Begins l → StandsSince answer_of after l 0
  begins_since l b = let s = first l b in (s.0, subst (λ since. HasRestarted since 0) (sym s.1.0) refl)

  -- after each list of moves, with the count of the restarts in the session at the end
  pub stands_since : ReadEachOther answer_of after → (l : Link H) (moves : List (Move H)) → Begins l → MovesFit answer_of after moves l
      → StandsSince answer_of after (run answer_of after moves l) (restarts_in_session answer_of after moves l 0)
  stands_since peers l moves b fits = running answer_of after (assumed answer_of after peers) moves l 0 fits (begins_since l b)

  pub stands : ReadEachOther answer_of after → (l : Link H) (moves : List (Move H)) → Begins l → MovesFit answer_of after moves l
      → Stands answer_of after (run answer_of after moves l)
  stands peers l moves b fits = (stands_since peers l moves b fits).0
