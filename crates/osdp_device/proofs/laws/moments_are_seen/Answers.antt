use Rattle.osdp_device.proofs.Moments.{moments_are_seen}
use Rattle.osdp_device.proofs.laws.moments_are_seen.Goals as goal

pub returns : goal.returns
returns g c = λ r l. moments_are_seen g.H.Handler.answer_of g.H.Handler.after r l
