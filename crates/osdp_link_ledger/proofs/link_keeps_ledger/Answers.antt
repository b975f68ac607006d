use Rattle.osdp_link_ledger.proofs.Running.{keeps_ledger}
use Rattle.osdp_link_ledger.proofs.link_keeps_ledger.Goals as goal

pub returns : goal.returns
returns g c = keeps_ledger g.H.Handler.answer_of g.H.Handler.after c.read_each_other.ensures
