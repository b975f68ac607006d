use Rattle.osdp_calls_time_laws.proofs.Holding.{hold_once}
use Rattle.osdp_calls_time_laws.proofs.Ruled.{ruled_hold_once}
use Rattle.osdp_calls_time_laws.proofs.timely_ledger_holds_once.Goals as goal

pub returns : goal.returns
returns g c = record {
  calls = hold_once g.H.Handler.answer_of g.H.Handler.after c.timely_calls_open_quietly.ensures c.ledger_holds_once.ensures.calls;
  ruled = ruled_hold_once g.H.Handler.answer_of g.H.Handler.after c.reads_what_is_asked.ensures c.calls_rule_suffices.ensures.suffices
      c.ledger_holds_once.ensures.ruled;
}
