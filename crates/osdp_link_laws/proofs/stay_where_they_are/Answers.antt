use Rattle.osdp_link_laws.proofs.Addresses.{stay_there}
use Rattle.osdp_link_laws.proofs.stay_where_they_are.Goals as goal

pub returns : goal.returns
returns g c = stay_there g.H.Handler.answer_of g.H.Handler.after c.reads_what_is_asked.ensures
