use Rattle.osdp_sim_bus.proofs.Telling.{tells_at_once}
use Rattle.osdp_sim_bus.proofs.laws.tells_at_once.Goals as goal

pub returns : goal.returns
returns g c = tells_at_once g.H.Handler.answer_of g.H.Handler.after
