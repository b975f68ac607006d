-- What the ledger of a link says, the account of a run over it says too.
use Rattle.osdp_sim_ledger.proofs.Common.{List, Command, TellsInTurn, Answer, Link, Move, IsOrdinary, each_all, steady_ordinary, OrdinaryMovesEndTold, Account, KeepsLedger, TellsOfMoves, IsRunOf, tells_all, TellsByLedger}
use Rattle.osdp_link_ledger.specs.Steps.{steps_from}

module _ {H : Type 0} (answer_of : H → Command → Answer) (after : H → Command → H) where
  pub tells_by_ledger : KeepsLedger answer_of after → OrdinaryMovesEndTold answer_of after → TellsInTurn → (ms : List (Move H)) (l : Link H) (a : Account)
      → IsRunOf answer_of after ms l → TellsOfMoves answer_of after a ms l
      → TellsByLedger answer_of after l.reader.config l.reader.handler a (steps_from answer_of after ms l)
  tells_by_ledger given told in_turn ms l a is tells =
      let allowed = (given.keeps l ms is.begins is.fits).0 in
      let holds = given.holds l ms is.begins is.fits in
      record {
        allowed = allowed;
        tells = record {
          all = tells_all answer_of after given ms l a is tells;
          orders = holds.0;
          cards = holds.1;
          ends = told l ms (each_all IsOrdinary ms (steady_ordinary ms is.steady));
          untold = in_turn (steps_from answer_of after ms l) allowed;
        };
      }
