use Rattle.osdp_bus_progress.proofs.Clearing.{clears_the_line}
use Rattle.osdp_bus_progress.proofs.Coming.{each_round_rests}
use Rattle.osdp_bus_progress.proofs.rests_between_rounds.Goals as goal

pub returns : goal.returns
returns g c = record {
  cleared = clears_the_line g.H.Handler.answer_of g.H.Handler.after c.stands_on_several_links.ensures c.tells_at_once.ensures;
  rest = each_round_rests g.H.Handler.answer_of g.H.Handler.after c.stands_on_several_links.ensures;
}
