use Rattle.osdp_sim_laws.proofs.Begun.{begins_by_reopens}
use Rattle.osdp_sim_laws.proofs.sessions_begin_by_reopens.Goals as goal

pub returns : goal.returns
returns g c = begins_by_reopens g.H.Handler.answer_of g.H.Handler.after c.stands_on_one_link.ensures
