use Rattle.osdp_device.proofs.Pieces.{none_between}
use Rattle.osdp_device.proofs.laws.hears_nothing_in_no_bytes.Goals as goal

pub returns : goal.returns
returns g c = λ bytes before now r l le all. none_between g.H.Handler.answer_of g.H.Handler.after bytes before now r l le all
