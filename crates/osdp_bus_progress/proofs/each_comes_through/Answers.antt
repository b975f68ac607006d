use Rattle.osdp_bus_progress.proofs.Coming.{each_comes_through}
use Rattle.osdp_bus_progress.proofs.each_comes_through.Goals as goal

pub returns : goal.returns
returns g c = each_comes_through g.H.Handler.answer_of g.H.Handler.after c.stands_on_several_links.ensures
