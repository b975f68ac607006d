use Rattle.osdp_sim_laws.proofs.Holding.{schedule_is_moves}
use Rattle.osdp_sim_laws.proofs.schedule_is_moves.Goals as goal

pub returns : goal.returns
returns g c = schedule_is_moves g.H.Handler.answer_of g.H.Handler.after c.stands_on_one_link.ensures
