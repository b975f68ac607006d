use Rattle.osdp_sim_laws.proofs.Accepting.{accepts_by_room}
use Rattle.osdp_sim_laws.proofs.accepts_by_room.Goals as goal

pub returns : goal.returns
returns g c = accepts_by_room g.H.Handler.answer_of g.H.Handler.after c.stands_on_one_link.ensures
