use Rattle.osdp_sim_bus.proofs.Reaching.{has_an_account_each}
use Rattle.osdp_sim_bus.proofs.laws.has_an_account_each.Goals as goal

pub returns : goal.returns
returns g c = has_an_account_each g.H.Handler.answer_of g.H.Handler.after
