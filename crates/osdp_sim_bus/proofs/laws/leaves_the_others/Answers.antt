use Rattle.osdp_sim_bus.proofs.Reaching.{leaves_the_others}
use Rattle.osdp_sim_bus.proofs.laws.leaves_the_others.Goals as goal

pub returns : goal.returns
returns g c = leaves_the_others g.H.Handler.answer_of g.H.Handler.after
