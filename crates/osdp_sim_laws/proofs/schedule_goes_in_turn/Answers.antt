use Rattle.osdp_sim_laws.proofs.Clean.{goes_in_turn}
use Rattle.osdp_sim_laws.proofs.schedule_goes_in_turn.Goals as goal

pub returns : goal.returns
returns g c = goes_in_turn g.H.Handler.answer_of g.H.Handler.after c.stands_on_one_link.ensures c.goes_in_turn.ensures
