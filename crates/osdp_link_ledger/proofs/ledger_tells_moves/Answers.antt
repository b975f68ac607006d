use Rattle.osdp_link_ledger.proofs.Taking.{tells_moves}
use Rattle.osdp_link_ledger.proofs.ledger_tells_moves.Goals as goal

pub returns : goal.returns
returns g c = tells_moves g.H.Handler.answer_of g.H.Handler.after c.read_each_other.ensures
