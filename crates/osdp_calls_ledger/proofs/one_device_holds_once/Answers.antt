use Rattle.osdp_calls_ledger.proofs.OneDevice.{one_device}
use Rattle.osdp_calls_ledger.proofs.one_device_holds_once.Goals as goal

pub returns : goal.returns
returns g c =
    one_device g.H.Handler.answer_of g.H.Handler.after c.each_move_is_its_own.ensures c.nobody_else_hears.ensures.hears c.each_acts_by_one_handler.ensures
    c.throws_none_away.ensures
