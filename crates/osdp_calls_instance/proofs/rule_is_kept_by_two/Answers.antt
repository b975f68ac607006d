use Rattle.osdp_calls_instance.proofs.Keeping.{two_keep_rule}
use Rattle.osdp_calls_instance.proofs.rule_is_kept_by_two.Goals as goal

pub returns : goal.returns
returns g c = two_keep_rule g.H.Handler.answer_of g.H.Handler.after
