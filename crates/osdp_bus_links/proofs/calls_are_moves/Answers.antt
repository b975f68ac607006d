use Rattle.osdp_bus_links.proofs.Bursts.{hears_as_a_move}
use Rattle.osdp_bus_links.proofs.Calls.{begins_as_a_move, submits_as_a_move}
use Rattle.osdp_bus_links.proofs.Ticks.{ticks_as_a_move}
use Rattle.osdp_bus_links.proofs.calls_are_moves.Goals as goal

pub returns : goal.returns
returns g c = record {
  submits = submits_as_a_move g.H.Handler.answer_of g.H.Handler.after;
  begins = begins_as_a_move g.H.Handler.answer_of g.H.Handler.after;
  ticks = ticks_as_a_move c.endings_are_told.ensures g.H.Handler.answer_of g.H.Handler.after;
  hears = hears_as_a_move c.endings_are_told.ensures c.items_in_pieces.ensures.items;
}
