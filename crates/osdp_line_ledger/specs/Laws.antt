-- Each device of a line keeps its ledger.
use Rattle.std.specs.Prelude.{◌≡◌, ℕ, List, ◌++◌, Some}
use Rattle.osdp_msg.specs.declared.command.Command.{Command}
use Rattle.osdp_reader.specs.declared.handler.Answer.{Answer}
use Rattle.osdp_ledger.specs.History.{AreAllowed, new_history, runs}
use Rattle.osdp_ledger.specs.Laws.{EventsHold, OrdersHold}
use Rattle.osdp_ledger.specs.Ledger.{Step}
use Rattle.osdp_link_laws.specs.Reports.{nothing_told, reports, with_reports}
use Rattle.osdp_link_laws.specs.Sessions.{all_queued, all_submitted}
use Rattle.osdp_link_ledger.specs.Acted.{all_acted}
use Rattle.osdp_link_ledger.specs.Laws.{IsLedgerOf}
use Rattle.osdp_link_ledger.specs.Steps.{steps_from}
use Rattle.osdp_link_ledger.specs.Telling.{TellsAll}
use Rattle.osdp_shared_line.specs.Addresses.{IsSetUp, NetMovesFit}
use Rattle.osdp_shared_line.specs.Line.{Net, NetMove, Site, run, site_at}
use Rattle.osdp_shared_line.specs.Runs.{moves_of}
use Rattle.osdp_shared_line.specs.Views.{view}

module _ {H : Type 0} (answer_of : H → Command → Answer) (after : H → Command → H) where
  -- the steps of the device at this place: those of the moves that the list comes to for its link
  abbrev pub steps_at : ℕ → Site H → List (NetMove H) → Net H → List Step
  steps_at k first moves n = steps_from answer_of after (moves_of answer_of after k moves n) (view k first n)

  -- each may happen; the ledger at the end is that of its link; they come to what was accepted, acted on and told; and what the
  -- ledger promises holds
  pub record SiteKeepsLedger (k : ℕ) (first last : Site H) (moves : List (NetMove H)) (n : Net H) : Type 0 where
    pub allowed : AreAllowed (steps_at k first moves n) new_history
    pub ledger : IsLedgerOf (view k last (run answer_of after moves n)) (runs (steps_at k first moves n) new_history).ledger
    pub tells : let own = moves_of answer_of after k moves n in
        TellsAll (first.controller.waiting ++ all_submitted answer_of after own (view k first n)) (all_acted answer_of after own (view k first n))
        (first.reader.queue.events ++ all_queued answer_of after own (view k first n))
        (with_reports (reports answer_of after own (view k first n)) nothing_told) (runs (steps_at k first moves n) new_history)
    pub orders : OrdersHold (runs (steps_at k first moves n) new_history)
    pub events : EventsHold (runs (steps_at k first moves n) new_history)

  abbrev pub EachSiteKeepsLedger : Type 0
  EachSiteKeepsLedger = (n : Net H) (moves : List (NetMove H)) → IsSetUp n → NetMovesFit answer_of after moves n
      → (k : ℕ) (first last : Site H) → site_at k n.sites ≡ Some first → site_at k (run answer_of after moves n).sites ≡ Some last
      → SiteKeepsLedger k first last moves n
