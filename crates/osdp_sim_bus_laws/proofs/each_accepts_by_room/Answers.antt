use Rattle.osdp_sim_bus_laws.proofs.Accepting.{each_accepts}
use Rattle.osdp_sim_bus_laws.proofs.each_accepts_by_room.Goals as goal

pub returns : goal.returns
returns g c = each_accepts g.H.Handler.answer_of g.H.Handler.after c.schedules_are_moves.ensures.schedules c.each_is_a_link.ensures
