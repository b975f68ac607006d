use Rattle.osdp_calls.proofs.Sayings.{says_what_goes_out}
use Rattle.osdp_calls.proofs.says_what_goes_out.Goals as goal

pub returns : goal.returns
returns g c = says_what_goes_out g.H.Handler.answer_of g.H.Handler.after
