use Rattle.osdp_calls_instance.proofs.Keeping.{two_keep}
use Rattle.osdp_calls_instance.proofs.premises_are_met_by_two.Goals as goal

pub returns : goal.returns
returns g c = two_keep g.H.Handler.answer_of g.H.Handler.after
