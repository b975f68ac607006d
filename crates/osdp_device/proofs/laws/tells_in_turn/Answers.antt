use Rattle.osdp_device.proofs.Turning.{tells_in_turn}
use Rattle.osdp_device.proofs.laws.tells_in_turn.Goals as goal

pub returns : goal.returns
returns g c = λ r held. tells_in_turn g.H.Handler.answer_of g.H.Handler.after r held
