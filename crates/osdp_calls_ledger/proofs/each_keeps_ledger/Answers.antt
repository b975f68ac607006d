use Rattle.osdp_calls_ledger.proofs.Keeping.{keeps_ledger}
use Rattle.osdp_calls_ledger.proofs.each_keeps_ledger.Goals as goal

pub returns : goal.returns
returns g c =
    keeps_ledger g.H.Handler.answer_of g.H.Handler.after c.each_move_is_its_own.ensures c.nobody_else_hears.ensures.hears c.each_keeps_ledger.ensures
