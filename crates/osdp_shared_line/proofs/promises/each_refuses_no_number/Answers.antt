use Rattle.osdp_shared_line.proofs.Linking.{each_refuses_no_number}
use Rattle.osdp_shared_line.proofs.Restarting.{each_refuses_none}
use Rattle.osdp_shared_line.proofs.promises.each_refuses_no_number.Goals as goal

pub returns : goal.returns
returns g c = record {
  endings = each_refuses_no_number g.H.Handler.answer_of g.H.Handler.after c.each_is_a_link.ensures c.refuses_no_number.ensures.endings;
  never = each_refuses_none g.H.Handler.answer_of g.H.Handler.after c.each_is_a_link.ensures c.refuses_no_number.ensures.never;
}
