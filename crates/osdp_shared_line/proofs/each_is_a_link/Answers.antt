use Rattle.osdp_shared_line.proofs.Linking.{each_is_a_link}
use Rattle.osdp_shared_line.proofs.each_is_a_link.Goals as goal

pub returns : goal.returns
returns g c = each_is_a_link g.H.Handler.answer_of g.H.Handler.after c.reads_what_is_asked.ensures
