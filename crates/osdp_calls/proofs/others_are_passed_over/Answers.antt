use Rattle.osdp_calls.proofs.Strangers.{passed_over}
use Rattle.osdp_calls.proofs.others_are_passed_over.Goals as goal

pub returns : goal.returns
returns g c = passed_over g.H.Handler.answer_of g.H.Handler.after
