use Rattle.osdp_calls_ledger.proofs.Promising.{holds_once, ruled_holds_once}
use Rattle.osdp_calls_ledger.proofs.ledger_holds_once.Goals as goal

pub returns : goal.returns
returns g c =
    let holds = holds_once g.H.Handler.answer_of g.H.Handler.after c.each_keeps_ledger.ensures c.tells_in_turn.ensures in
    record { calls = holds; ruled = ruled_holds_once g.H.Handler.answer_of g.H.Handler.after holds c.calls_rule_suffices.ensures.suffices }
