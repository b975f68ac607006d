use Rattle.osdp_premises.proofs.Ruling.{rule_exact, ruled_keep}
use Rattle.osdp_premises.proofs.rule_is_exact.Goals as goal

pub returns : goal.returns
returns g c = record { exact = rule_exact; suffice = ruled_keep g.H.Handler.answer_of g.H.Handler.after }
