use Rattle.osdp_link_laws.proofs.Forgetting.{forgets_none}
use Rattle.osdp_link_laws.proofs.InTime.{in_time}
use Rattle.osdp_link_laws.proofs.Resting.{comes_through_from_rest, comes_to_rest}
use Rattle.osdp_link_laws.proofs.Through.{comes_through}
use Rattle.osdp_link_laws.proofs.comes_through.Goals as goal

pub returns : goal.returns
returns g c = record {
  due = comes_through g.H.Handler.answer_of g.H.Handler.after c.read_each_other.ensures;
  in_time = in_time g.H.Handler.answer_of g.H.Handler.after c.stays_in_range.ensures c.read_each_other.ensures c.ticks_come_due.ensures;
  from_rest = comes_through_from_rest g.H.Handler.answer_of g.H.Handler.after c.read_each_other.ensures;
  rest = comes_to_rest g.H.Handler.answer_of g.H.Handler.after c.read_each_other.ensures;
  none_forgotten = forgets_none g.H.Handler.answer_of g.H.Handler.after c.read_each_other.ensures;
}
