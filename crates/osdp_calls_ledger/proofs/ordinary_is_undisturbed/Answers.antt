use Rattle.osdp_calls_ledger.proofs.Exits.{ordinary_calls_end_told}
use Rattle.osdp_calls_ledger.proofs.ordinary_is_undisturbed.Goals as goal

pub returns : goal.returns
returns g c = ordinary_calls_end_told g.H.Handler.answer_of g.H.Handler.after c.plain_steps_end_told.ensures
