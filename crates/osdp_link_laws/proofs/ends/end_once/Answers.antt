use Rattle.osdp_link_laws.proofs.Endings.{end_once}
use Rattle.osdp_link_laws.proofs.ends.end_once.Goals as goal

pub returns : goal.returns
returns g c = end_once g.H.Handler.answer_of g.H.Handler.after c.endings_are_told.ensures
