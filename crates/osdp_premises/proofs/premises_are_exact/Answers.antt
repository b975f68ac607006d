use Rattle.osdp_premises.proofs.Exactly.{exact, fair_keep}
use Rattle.osdp_premises.proofs.premises_are_exact.Goals as goal

pub returns : goal.returns
returns g c = record { exact = exact; suffice = fair_keep g.H.Handler.answer_of g.H.Handler.after }
