-- A run of several sites from their first sessions on, and what it comes to for each of them.
use Rattle.std.specs.Prelude.{◌≡◌, ℕ, List, [], ◌∷◌, ◌++◌, IfSome, Option, Some, None}
use Rattle.osdp_msg.specs.declared.command.Command.{Command}
use Rattle.osdp_controller.specs.declared.report.Report.{Report}
use Rattle.osdp_reader.specs.declared.handler.Answer.{Answer}
use Rattle.osdp_link_laws.specs.Beginning.{MovesFit}
use Rattle.osdp_link_laws.specs.Link.{Move}
use Rattle.osdp_link_laws.specs.Refusals.{IsNoRefusal}
use Rattle.osdp_link_laws.specs.Reports.{reports, told_by}
use Rattle.osdp_link_laws.specs.Sessions.{restarts_in_session}
use Rattle.osdp_shared_line.specs.Addresses.{IsSetUp, NetMovesFit}
use Rattle.osdp_shared_line.specs.Line.{Net, NetMove, Site, after_net, run, site_at}
use Rattle.osdp_shared_line.specs.Views.{IsMoved, move_of, view}

module _ {H : Type 0} (answer_of : H → Command → Answer) (after : H → Command → H) where
  -- ---- the moves that a run comes to for the site at this place

  abbrev pub moves_at : ℕ → Option (Site H) → NetMove H → Net H → List (Move H)
  moves_at k None move n = []
  moves_at k (Some s) move n = move_of k s move n

  abbrev pub moves_of : ℕ → List (NetMove H) → Net H → List (Move H)
  moves_of k [] n = []
  moves_of k (move ∷ moves) n = moves_at k (site_at k n.sites) move n ++ moves_of k moves (after_net answer_of after move n)

  -- what this site's controller tells the panel's program over these moves
  abbrev pub reports_at : ℕ → List (NetMove H) → Site H → Net H → List Report
  reports_at k moves s n = reports answer_of after (moves_of k moves n) (view k s n)

  -- its view is its link after these moves, which are moves as a link has them
  pub record IsItsLink (k : ℕ) (s : Site H) (moves : List (NetMove H)) (n : Net H) : Type 0 where
    pub moved : IsMoved answer_of after k s (moves_of k moves n) n (run answer_of after moves n)
    pub fits : MovesFit answer_of after (moves_of k moves n) (view k s n)

  abbrev pub EachIsALink : Type 0
  EachIsALink = (n : Net H) (moves : List (NetMove H)) → IsSetUp n → NetMovesFit answer_of after moves n
      → (k : ℕ) (s : Site H) → site_at k n.sites ≡ Some s → IsItsLink k s moves n

  -- ---- so what holds of a link holds of each site

  -- no session of a site in which its reader hasn't restarted ends because the reader refused a number, whatever comes next
  abbrev pub EachRefusesNoNumber : Type 0
  EachRefusesNoNumber = (n : Net H) (moves : List (NetMove H)) → IsSetUp n → NetMovesFit answer_of after moves n
      → (k : ℕ) (first last : Site H) → site_at k n.sites ≡ Some first → site_at k (run answer_of after moves n).sites ≡ Some last
      → restarts_in_session answer_of after (moves_of k moves n) (view k first n) 0 ≡ 0 → (move : Move H) → IfSome (told_by move (view k last (run answer_of after moves n))) IsNoRefusal
