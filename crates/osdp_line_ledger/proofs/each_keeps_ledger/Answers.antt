use Rattle.osdp_line_ledger.proofs.Each.{each_keeps}
use Rattle.osdp_line_ledger.proofs.each_keeps_ledger.Goals as goal

pub returns : goal.returns
returns g c =
    each_keeps g.H.Handler.answer_of g.H.Handler.after c.each_is_a_link.ensures c.link_keeps_ledger.ensures c.ledger_tells_moves.ensures c.holds_by_ledger.ensures
