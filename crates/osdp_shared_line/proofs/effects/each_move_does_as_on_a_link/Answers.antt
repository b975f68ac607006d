use Rattle.osdp_shared_line.proofs.Doing.{changes_no_other, each_does_as_on_a_link}
use Rattle.osdp_shared_line.proofs.effects.each_move_does_as_on_a_link.Goals as goal

pub returns : goal.returns
returns g c = record {
  does = each_does_as_on_a_link g.H.Handler.answer_of g.H.Handler.after c.each_move_does.ensures;
  others = changes_no_other g.H.Handler.answer_of g.H.Handler.after;
}
