use Rattle.osdp_line_ledger.proofs.Devices.{each_acts}
use Rattle.osdp_line_ledger.proofs.each_acts_by_one_handler.Goals as goal

pub returns : goal.returns
returns g c = each_acts g.H.Handler.answer_of g.H.Handler.after c.acts_have_answers_of_one_handler.ensures
