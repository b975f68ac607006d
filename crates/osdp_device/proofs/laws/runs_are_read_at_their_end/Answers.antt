use Rattle.osdp_device.proofs.Moments.{runs_are_read}
use Rattle.osdp_device.proofs.laws.runs_are_read_at_their_end.Goals as goal

pub returns : goal.returns
returns g c = λ r l is. runs_are_read g.H.Handler.answer_of g.H.Handler.after r l is
