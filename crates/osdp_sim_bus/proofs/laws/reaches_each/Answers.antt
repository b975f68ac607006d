use Rattle.osdp_sim_bus.proofs.Reaching.{reaches_each}
use Rattle.osdp_sim_bus.proofs.laws.reaches_each.Goals as goal

pub returns : goal.returns
returns g c = reaches_each g.H.Handler.answer_of g.H.Handler.after
