use Rattle.osdp_calls_time_laws.proofs.Instance.{too_short}
use Rattle.osdp_calls_time_laws.proofs.twice_is_too_short.Goals as goal

pub returns : goal.returns
returns g c = too_short g.H.Handler.answer_of g.H.Handler.after
