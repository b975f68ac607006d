-- Each entry of any calls keeps its ledger, and what its programs are promised is what the ledger promises.
use Rattle.std.specs.Prelude.{◌≡◌, ℕ, List, ◌++◌, Some}
use Rattle.osdp_msg.specs.declared.command.Command.{Command}
use Rattle.osdp_bus.specs.Buses.{device_of}
use Rattle.osdp_bus.specs.declared.entry.Entry.{Entry}
use Rattle.osdp_reader.specs.declared.handler.Answer.{Answer}
use Rattle.osdp_ledger.specs.History.{AreAllowed, new_history, runs}
use Rattle.osdp_ledger.specs.Laws.{EventsHold, OrdersHold}
use Rattle.osdp_link_laws.specs.Reports.{nothing_told, with_reports}
use Rattle.osdp_link_ledger.specs.Laws.{IsLedgerOf}
use Rattle.osdp_link_ledger.specs.Telling.{TellsAll}
use Rattle.osdp_shared_line.specs.Line.{site_at}
use Rattle.osdp_calls.specs.Accepted.{all_accepted, all_queued}
use Rattle.osdp_calls.specs.Calls.{Step, after_calls}
use Rattle.osdp_calls.specs.Lines.{InUse, Station}
use Rattle.osdp_calls.specs.Premises.{AllKeep, IsSetUp}
use Rattle.osdp_calls.specs.Promises.{link_of_entry}
use Rattle.osdp_calls.specs.Told.{all_told, reports_of}
use Rattle.osdp_calls_ledger.specs.Acted.{all_acted}
use Rattle.osdp_calls_ledger.specs.Steps.{steps_from}

module _ {H : Type 0} (answer_of : H → Command → Answer) (after : H → Command → H) where
  -- each step of this entry may happen where it does; the ledger at the end is that of the bus's controller and the device
  pub record KeepsLedger (k : ℕ) (first last : Station H) (d : Entry) (steps : List (Step H)) (l : InUse H) : Type 0 where
    pub allowed : AreAllowed (steps_from answer_of after k first steps l) new_history
    pub ledger : IsLedgerOf (link_of_entry d last) (runs (steps_from answer_of after k first steps l) new_history).ledger
    -- none is forgotten and none is made up: the commands and events that the calls have accepted, the commands that the device has acted on, each with its
    -- answer, and what the panel was told
    pub tells : TellsAll (all_accepted answer_of after k steps l) (all_acted answer_of after k steps l)
        (first.reader.queue.events ++ all_queued answer_of after k steps l) (with_reports (reports_of k (all_told answer_of after steps l)) nothing_told)
        (runs (steps_from answer_of after k first steps l) new_history)
    -- so what the ledger promises holds
    pub orders : OrdersHold (runs (steps_from answer_of after k first steps l) new_history)
    pub events : EventsHold (runs (steps_from answer_of after k first steps l) new_history)

  -- So it is of each entry, from a set-up on, over calls that keep the premises.
  abbrev pub EachKeepsLedger : Type 0
  EachKeepsLedger = (l : InUse H) (steps : List (Step H)) → IsSetUp l → AllKeep answer_of after steps l
      → (k : ℕ) (first last : Station H) (d : Entry) → site_at k l.stations ≡ Some first → site_at k (after_calls answer_of after steps l).stations ≡ Some last
      → device_of k (after_calls answer_of after steps l).bus ≡ Some d → KeepsLedger k first last d steps l
