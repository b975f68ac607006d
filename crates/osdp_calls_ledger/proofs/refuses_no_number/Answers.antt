use Rattle.osdp_calls_ledger.proofs.Unbroken.{refuse_no_number}
use Rattle.osdp_calls_ledger.proofs.refuses_no_number.Goals as goal

pub returns : goal.returns
returns g c =
    refuse_no_number g.H.Handler.answer_of g.H.Handler.after c.read_each_other.ensures c.each_move_is_its_own.ensures c.nobody_else_hears.ensures.hears
