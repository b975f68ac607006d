-- What is promised is what the ledger of each entry's steps says.
use Rattle.osdp_calls_ledger.proofs.Common.{sym, Command, Answer, new_history, runs, TellsInTurn, EachKeepsLedger, LedgerHoldsOnce, RuledLedgerHoldsOnce, steps_from}
use Rattle.osdp_calls.specs.Programs.{CallsRuleSuffices}
use Rattle.osdp_calls_ledger.specs.GivenUp.{all_given_up}
use Rattle.osdp_calls_ledger.proofs.GivenUp.{all_gone, exits_so}

module _ {H : Type 0} (answer_of : H → Command → Answer) (after : H → Command → H) where
  pub holds_once : EachKeepsLedger answer_of after → TellsInTurn → LedgerHoldsOnce answer_of after
  holds_once keeps in_turn l steps up keep k first last d is there entry =
      let kept = keeps l steps up keep k first last d is there entry in
      let gone = all_gone answer_of after k first steps l in
      let left = (runs (steps_from answer_of after k first steps l) new_history).left in (
        kept.allowed,
        record {
          accepted = sym kept.tells.orders;
          queued = sym kept.tells.cards;
          ahead = kept.ledger.ahead;
          waiting = kept.ledger.cards;
          orders = kept.orders;
          cards = kept.events;
          gone = gone;
          exits = exits_so (all_given_up answer_of after k steps l) left gone;
          untold = in_turn (steps_from answer_of after k first steps l) kept.allowed;
        },
      )

  pub ruled_holds_once : LedgerHoldsOnce answer_of after → CallsRuleSuffices answer_of after → RuledLedgerHoldsOnce answer_of after
  ruled_holds_once holds suffices l steps up keep = holds l steps up (suffices l steps up keep)
