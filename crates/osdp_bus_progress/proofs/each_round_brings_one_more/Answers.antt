use Rattle.osdp_bus_progress.proofs.OneMore.{each_has_its_round, each_is_idle, each_round_brings_one_more}
use Rattle.osdp_bus_progress.proofs.each_round_brings_one_more.Goals as goal

pub returns : goal.returns
returns g c = record {
  turn = each_has_its_round g.H.Handler.answer_of g.H.Handler.after c.stands_on_several_links.ensures;
  idle = each_is_idle g.H.Handler.answer_of g.H.Handler.after c.stands_on_several_links.ensures;
  more = each_round_brings_one_more g.H.Handler.answer_of g.H.Handler.after c.stands_on_several_links.ensures;
}
