use Rattle.osdp_calls.proofs.Holding.{calls_apart}
use Rattle.osdp_calls.proofs.calls_keep_apart.Goals as goal

pub returns : goal.returns
returns g c = calls_apart g.H.Handler.answer_of g.H.Handler.after c.nobody_else_hears.ensures.together
