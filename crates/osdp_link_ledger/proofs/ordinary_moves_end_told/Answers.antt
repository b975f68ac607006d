use Rattle.osdp_link_ledger.proofs.Plain.{ordinary_moves_end_told}
use Rattle.osdp_link_ledger.proofs.ordinary_moves_end_told.Goals as goal

pub returns : goal.returns
returns g c = ordinary_moves_end_told g.H.Handler.answer_of g.H.Handler.after c.plain_steps_end_told.ensures
