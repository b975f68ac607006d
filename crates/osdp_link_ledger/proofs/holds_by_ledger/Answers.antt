use Rattle.osdp_link_ledger.proofs.Running.{holds_by_ledger}
use Rattle.osdp_link_ledger.proofs.holds_by_ledger.Goals as goal

pub returns : goal.returns
returns g c = holds_by_ledger g.H.Handler.answer_of g.H.Handler.after c.link_keeps_ledger.ensures c.keeps_orders.ensures c.keeps_events.ensures
