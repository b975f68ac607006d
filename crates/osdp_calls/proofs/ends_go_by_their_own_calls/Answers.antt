use Rattle.osdp_calls.proofs.Ends.{bus_is_reached, go_by_their_own, one_exchange}
use Rattle.osdp_calls.proofs.ends_go_by_their_own_calls.Goals as goal

pub returns : goal.returns
returns g c = record {
  own = go_by_their_own g.H.Handler.answer_of g.H.Handler.after;
  bus = bus_is_reached g.H.Handler.answer_of g.H.Handler.after;
  exchange = one_exchange g.H.Handler.answer_of g.H.Handler.after c.one_exchange_is_outstanding.ensures;
}
