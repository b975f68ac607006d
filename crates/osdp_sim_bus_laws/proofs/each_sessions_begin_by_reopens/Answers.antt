use Rattle.osdp_sim_bus_laws.proofs.Begun.{each_begins}
use Rattle.osdp_sim_bus_laws.proofs.each_sessions_begin_by_reopens.Goals as goal

pub returns : goal.returns
returns g c = each_begins g.H.Handler.answer_of g.H.Handler.after c.schedules_are_moves.ensures.schedules c.each_is_a_link.ensures
