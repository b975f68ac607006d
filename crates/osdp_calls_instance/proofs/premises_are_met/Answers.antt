use Rattle.osdp_calls_instance.proofs.Keeping.{keep}
use Rattle.osdp_calls_instance.proofs.premises_are_met.Goals as goal

pub returns : goal.returns
returns g c = keep g.H.Handler.answer_of g.H.Handler.after
